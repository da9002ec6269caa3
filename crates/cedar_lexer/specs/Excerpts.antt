-- How a piece of a text is shown to its author.
use Rattle.std.specs.Prelude.{Bool, ◌&&◌, ◌||◌, ℕ, ◌==◌, nat_lt, List, [], ◌++◌, codes, drop, if◌then◌else◌, length, map, max, replicate, slice_index, take}
use Rattle.std.specs.Fmt.{is_char_start}
use Rattle.std.specs.Str.{chars}
use Rattle.cedar_lexer.specs.Places.{first_line_of, last_line_of}
use Rattle.cedar_lexer.specs.declared.error.Excerpt.{Excerpt}

-- whether a character of the text begins at this place, or the text ends there
abbrev pub can_cut : List ℕ → ℕ → Bool
can_cut text at = at == length text || (nat_lt at (length text) && is_char_start (slice_index text at))

-- the text up to this place, or nothing if it can't be cut there
abbrev pub up_to : List ℕ → ℕ → List ℕ
up_to text at = if can_cut text at then take at text else []

-- the text from this place on, or nothing if it can't be cut there
abbrev pub from_on : List ℕ → ℕ → List ℕ
from_on text at = if can_cut text at then drop at text else []

-- what stands before the piece: the whole text, if it can't be cut there
abbrev pub text_before_of : Excerpt → List ℕ
text_before_of e = if can_cut e.text.now e.start then take e.start e.text.now else e.text.now

-- what stands in the piece's line before the piece
abbrev pub line_before_of : Excerpt → List ℕ
line_before_of e = last_line_of (text_before_of e)

-- what stands in the piece's line from the piece on
abbrev pub line_after_of : Excerpt → List ℕ
line_after_of e = first_line_of (from_on e.text.now e.start)

-- the piece, or nothing if the text can't be cut at both its ends
abbrev pub piece_of : Excerpt → List ℕ
piece_of e = from_on (up_to e.text.now e.stop) e.start

-- how many characters the piece has in its first line, or one
abbrev pub width_of : Excerpt → ℕ
width_of e = max (length (chars (first_line_of (piece_of e)))) 1

-- the blank below a character: a tab below a tab
abbrev pub blank_of : ℕ → ℕ
blank_of c = if c == 9 then 9 else 32

-- a blank below each character of the text
abbrev pub blanks_of : List ℕ → List ℕ
blanks_of text = map blank_of (chars text)

-- so many carets
abbrev pub carets_of : ℕ → List ℕ
carets_of n = replicate n 94

-- the line in which the piece begins, and carets below the piece, both behind four blanks
abbrev pub excerpt_text : Excerpt → List ℕ
excerpt_text e =
    codes "    " ++ (line_before_of e ++ (line_after_of e
    ++ (codes "\n    " ++ (blanks_of (line_before_of e) ++ carets_of (width_of e)))))
