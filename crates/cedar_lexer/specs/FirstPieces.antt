-- The piece that a text between quotes begins with, and what follows it.
use Rattle.std.specs.Prelude.{ℕ, ◌+◌, ◌-◌, ◌*◌, ◌==◌, ◌&&◌, ◌<◌, nat_lt, List, [], ◌∷◌, Option, Some, None, if◌then◌else◌, length, option_and_then}
use Rattle.std.specs.Borrow.{Bor}
use Rattle.std.specs.Char.{digit_value, is_digit}
use Rattle.std.specs.Option.{option_map}
use Rattle.std.specs.Str.{chars}
use lib.Utf8.{scalar}
use Rattle.cedar_lexer.specs.Escapes.{letter_escape}
use Rattle.cedar_lexer.specs.declared.escapes.Piece.{Piece}
use Rattle.cedar_lexer.specs.declared.escapes.Piece.TheVariants.{Char, Star}

-- the first text has fewer characters
abbrev pub IsShorter : List ℕ → List ℕ → Type 0
IsShorter rest text = length (chars rest) < length (chars text)

-- what was read, and the characters behind it
abbrev pub read_of : {A : Type 0} → Option (A × Bor (List ℕ)) → Option (A × List ℕ)
read_of o = option_map (λ x. (x.0, chars x.1.now)) o

-- a hexadecimal digit
unfoldable pub digit_at : List ℕ → Option (ℕ × List ℕ)
digit_at [] = None
digit_at (c ∷ cs) = if is_digit c 16 then Some (digit_value c, cs) else None

-- two of them, below 80
unfoldable pub two_digits_at : List ℕ → Option (ℕ × List ℕ)
two_digits_at cs =
    option_and_then (λ h.
    option_and_then (λ l. if nat_lt h.0 8 then Some (h.0 * 16 + l.0, l.1) else None)
    (digit_at h.1)) (digit_at cs)

-- digits behind those that gave a value, at most so many, and the bracket behind them
unfoldable pub digits_at : List ℕ → ℕ → ℕ → Option (ℕ × List ℕ)
digits_at [] v left = None
digits_at (c ∷ cs) v left =
    if c == 125 then (if scalar v then Some (v, cs) else None) else
    (if nat_lt 0 left && is_digit c 16 then digits_at cs (v * 16 + digit_value c) (left - 1) else None)

-- a code in brackets
unfoldable pub code_at : List ℕ → Option (ℕ × List ℕ)
code_at [] = None
code_at (c ∷ cs) = if c == 123 then option_and_then (λ d. digits_at d.1 d.0 5) (digit_at cs) else None

-- what stands behind a backslash
unfoldable pub escape_at : List ℕ → Option (Piece × List ℕ)
escape_at [] = None
escape_at (l ∷ cs) =
    if l == 42 then Some (Star, cs) else
    (if l == 120 then option_map (λ x. (Char x.0, x.1)) (two_digits_at cs) else
    (if l == 117 then option_map (λ x. (Char x.0, x.1)) (code_at cs) else
    option_map (λ c. (Char c, cs)) (letter_escape l)))

-- a piece
unfoldable pub piece_at : List ℕ → Option (Piece × List ℕ)
piece_at [] = None
piece_at (c ∷ cs) = if c == 92 then escape_at cs else (if c == 13 then None else Some (Char c, cs))
