-- What is a token (Cedar's `grammar.lalrpop`).
use Rattle.std.specs.Prelude.{Bool, true, ◌||◌, ◌≡◌, ◌≢◌, ℕ, ◌≤◌, ◌==◌, List, [], ◌∷◌, ◌++◌, Some, length}
use Rattle.std.specs.Char.{is_ascii_alphabetic, is_ascii_alphanumeric, is_ascii_digit}
use Rattle.std.specs.List.{list_all}
use Rattle.cedar_lexer.specs.TokenKinds.{sign_kind_of, word_kind_of}
use Rattle.cedar_lexer.specs.declared.token.TokenKind.{TokenKind}
use Rattle.cedar_lexer.specs.declared.token.TokenKind.TheVariants as kinds

-- what a word begins with: a letter of ASCII or an underscore
abbrev pub begins_word : ℕ → Bool
begins_word b = is_ascii_alphabetic b || b == 95

-- what a word goes on with: a letter or a digit of ASCII, or an underscore
abbrev pub goes_on : ℕ → Bool
goes_on b = is_ascii_alphanumeric b || b == 95

-- what stands between two quotes: a quote or a backslash only behind a backslash
pub data IsBetweenQuotes : List ℕ → Type 0 where
  nothing : IsBetweenQuotes []
  plain : (b : ℕ) (bs : List ℕ) → b ≢ 34 → b ≢ 92 → IsBetweenQuotes bs → IsBetweenQuotes (b ∷ bs)
  escaped : (b : ℕ) (bs : List ℕ) → IsBetweenQuotes bs → IsBetweenQuotes (92 ∷ b ∷ bs)

-- the text is a token of this kind
pub data IsTokenText : List ℕ → TokenKind → Type 0 where
  word : (b : ℕ) (bs : List ℕ) → begins_word b ≡ true → list_all goes_on bs ≡ true → IsTokenText (b ∷ bs) (word_kind_of (b ∷ bs))
  digits : (b : ℕ) (bs : List ℕ) → is_ascii_digit b ≡ true → list_all is_ascii_digit bs ≡ true → IsTokenText (b ∷ bs) kinds.Digits
  slot : (bs : List ℕ) → list_all goes_on bs ≡ true → IsTokenText (63 ∷ bs) kinds.Slot
  quoted : (inside : List ℕ) → IsBetweenQuotes inside → IsTokenText (34 ∷ (inside ++ (34 ∷ []))) kinds.Quoted
  sign : (s : List ℕ) (kind : TokenKind) → sign_kind_of s ≡ Some kind → IsTokenText s kind

-- no token with which the text begins is longer
abbrev pub IsLongestIn : List ℕ → List ℕ → Type 0
IsLongestIn text w = (v rest : List ℕ) (kind : TokenKind) → IsTokenText v kind → text ≡ v ++ rest → length v ≤ length w

-- the text begins with no token
abbrev pub HasNoToken : List ℕ → Type 0
HasNoToken text = (v rest : List ℕ) (kind : TokenKind) → IsTokenText v kind → text ≡ v ++ rest → ⊥
