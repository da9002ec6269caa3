use Rattle.std.proofs.Common.{sym, subst}
use Rattle.semantics_grammar.specs.Grammar.{Stands}
use Rattle.semantics_grammar.specs.Lexemes.{lexemes_of}
use Rattle.semantics_printing.proofs.Printed.{same_lexemes}
use Rattle.semantics_printing.proofs.laws.texts_stand_for_one_tree.Goals as goal

pub returns : goal.returns
returns c text e f h k =
    let alike = same_lexemes h.0 k.0 (c.tokens_are_unique.ensures.same text h.0 k.0 h.1 k.1) in
    c.tree_is_unique.ensures (lexemes_of h.0) e f h.2 (subst (λ ls. Stands ls f) (sym alike) k.2)
