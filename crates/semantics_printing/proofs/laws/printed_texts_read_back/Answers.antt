use Rattle.std.proofs.Common.{subst}
use Rattle.semantics_grammar.specs.Grammar.{Stands}
use Rattle.semantics_grammar.specs.Lexemes.{lexemes_of}
use Rattle.semantics_printing.proofs.Printed.{same_lexemes}
use Rattle.semantics_printing.proofs.laws.printed_texts_read_back.Goals as goal

pub returns-clause-stands : goal.returns-clause-stands
returns-clause-stands c e p ts h is tokens =
    let t = c.printed_texts_stand.ensures e p h is in
    subst (λ ls. Stands ls e) (same_lexemes t.0 ts (c.tokens_are_unique.ensures.same p.0 t.0 ts t.1 tokens)) t.2

pub returns-clause-only : goal.returns-clause-only
returns-clause-only c e f p ts h is tokens other =
    c.tree_is_unique.ensures (lexemes_of ts) f e other (returns-clause-stands c e p ts h is tokens)
