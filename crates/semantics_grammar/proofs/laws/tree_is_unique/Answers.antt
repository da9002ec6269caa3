use Rattle.std.proofs.Common.{sym, ◌∙◌}
use Rattle.semantics_grammar.proofs.laws.tree_is_unique.Goals as goal
use Rattle.semantics_grammar.proofs.Once.{stands_once}
use Rattle.semantics_grammar.proofs.Texts.{OneReading, one_pattern, one_text}

pub returns : goal.returns
returns c =
    let laws : OneReading = record { texts = c.texts_are_unique.ensures.texts; patterns = c.texts_are_unique.ensures.patterns } in
    stands_once (one_text laws) (one_pattern laws) (λ t m n h k. c.name_texts_differ.ensures m n h.0 k.0 (h.1 ∙ sym k.1))
