use Rattle.std.proofs.Common.{sym, ◌∙◌, ap, subst}
use Rattle.cedar_builders.specs.BareExpr.{Text}
use Rattle.cedar_builders.specs.Trees.{sure}
use Rattle.cedar_terms.specs.declared.precedence.Precedence.{Precedence}
use Rattle.semantics_printing.specs.PolicyTexts.{policy_text_ops}
use Rattle.semantics_printing.specs.Texts.{IsTextOfTree}
use Rattle.semantics_printing.proofs.Folds.{fold_is}
use Rattle.semantics_printing.proofs.Printed.{stands}
use Rattle.semantics_printing.proofs.laws.printed_texts_stand.Goals as goal

pub returns : goal.returns
returns c e p h is =
    subst (λ (q : Text × Precedence). IsTextOfTree q.0 e) (ap sure (sym (fold_is policy_text_ops e) ∙ is))
    (stands c.texts_read_back.ensures.texts c.texts_read_back.ensures.patterns e h)
