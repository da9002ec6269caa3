-- What a line is: bytes up to a line feed, and the line feed.
use Rattle.std.specs.Prelude.{◌≡◌, ◌⊎◌, ◌==◌, ◌-◌, ℕ, List, length, slice_index}
use Rattle.std.specs.List.{count_by}

-- how many line feeds a text has
abbrev pub line_feeds : List ℕ → ℕ
line_feeds text = count_by (λ b. b == 10) text

-- a text is so many lines: it has so many line feeds, and nothing stands after the last one
pub record AreLines (count : ℕ) (text : List ℕ) : Type 0 where
  pub feeds : line_feeds text ≡ count
  pub ended : (length text ≡ 0) ⊎ (slice_index text (length text - 1) ≡ 10)
