-- The token that a text begins with, by its length.
use Rattle.std.specs.Prelude.{Bool, false, not, ◌&&◌, ℕ, ◌+◌, ◌==◌, nat_le, List, [], ◌∷◌, Option, Some, None, if◌then◌else◌, length, take}
use Rattle.std.specs.Char.{is_ascii_digit}
use Rattle.std.specs.List.{prefix_len}
use Rattle.std.specs.Option.{option_map}
use Rattle.cedar_lexer.specs.Grammar.{begins_word, goes_on}
use Rattle.cedar_lexer.specs.TokenKinds.{sign_kind_of, word_kind_of}
use Rattle.cedar_lexer.specs.declared.token.TokenKind.{TokenKind}
use Rattle.cedar_lexer.specs.declared.token.TokenKind.TheVariants as kinds

-- how many bytes there are up to and with the closing quote; a backslash may stand before them
unfoldable pub quoted_len : Bool → List ℕ → Option ℕ
quoted_len behind [] = None
quoted_len behind (b ∷ bs) =
    if not behind && b == 34 then Some 1 else option_map (λ n. n + 1) (quoted_len (not behind && b == 92) bs)

-- the sign of this length
abbrev pub sign_of : ℕ → List ℕ → Option (TokenKind × ℕ)
sign_of n text = if nat_le n (length text) then option_map (λ k. (k, n)) (sign_kind_of (take n text)) else None

-- the first of two, if it is there
abbrev pub or_else : {A : Type 0} → Option A → Option A → Option A
or_else (Some x) o = Some x
or_else None o = o

-- the longest sign
abbrev pub longest_sign : List ℕ → Option (TokenKind × ℕ)
longest_sign text = or_else (sign_of 2 text) (sign_of 1 text)

-- the kind and the length of the token that the text begins with; a word of the grammar counts as an identifier here
unfoldable pub lexeme_at : List ℕ → Option (TokenKind × ℕ)
lexeme_at [] = None
lexeme_at (b ∷ bs) =
    if b == 34 then option_map (λ n. (kinds.Quoted, n + 1)) (quoted_len false bs) else
    (if b == 63 then Some (kinds.Slot, prefix_len goes_on bs + 1) else
    (if is_ascii_digit b then Some (kinds.Digits, prefix_len is_ascii_digit bs + 1) else
    (if begins_word b then Some (kinds.Word, prefix_len goes_on bs + 1) else
    longest_sign (b ∷ bs))))

-- the kind of a token, with what the grammar has a use for
abbrev pub full_kind : TokenKind → List ℕ → TokenKind
full_kind kinds.Word w = word_kind_of w
full_kind kind w = kind
