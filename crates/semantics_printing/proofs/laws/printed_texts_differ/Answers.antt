use Rattle.std.proofs.Common.{sym, subst}
use Rattle.semantics_printing.specs.Texts.{IsTextOfTree}
use Rattle.semantics_printing.proofs.laws.printed_texts_differ.Goals as goal

pub returns : goal.returns
returns c e f p q h k is are same =
    c.texts_stand_for_one_tree.ensures p.0 e f (c.printed_texts_stand.ensures e p h is)
    (subst (λ t. IsTextOfTree t f) (sym same) (c.printed_texts_stand.ensures f q k are))
