-- Places in texts.
use Rattle.std.specs.Prelude.{Bool, ℕ, ◌+◌, ◌==◌, List, count_by, length, take}
use Rattle.std.specs.List.{after_last, before_first}
use Rattle.std.specs.Str.{chars}

-- a line feed
abbrev pub is_feed : ℕ → Bool
is_feed b = b == 10

-- the line of the text in which the byte at this place stands, from 1 on
abbrev pub line_at : List ℕ → ℕ → ℕ
line_at text start = count_by is_feed (take start text) + 1

-- what stands before the first line feed of the text: all of it, if it has none
abbrev pub first_line_of : List ℕ → List ℕ
first_line_of text = before_first is_feed text

-- what stands behind the last line feed of the text: all of it, if it has none
abbrev pub last_line_of : List ℕ → List ℕ
last_line_of text = after_last is_feed text

-- which character of its line begins at this place of the text, from 1 on
abbrev pub column_at : List ℕ → ℕ → ℕ
column_at text start = length (chars (last_line_of (take start text))) + 1
