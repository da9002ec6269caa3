-- The line feeds of a text, and of its first bytes.
use Rattle.std.specs.Prelude.{◌≤◌, ◌==◌, ℕ, List, length}
use Rattle.std.proofs.lemmas.List.Sums.{count_by-le-length}
use Rattle.recorded_corpus.specs.Lines.{line_feeds}

pub feeds_at_most : (text : List ℕ) → line_feeds text ≤ length text
feeds_at_most text = count_by-le-length (λ b. b == 10) text
