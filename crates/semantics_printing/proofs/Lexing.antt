-- Texts that are cut into tokens, put together from pieces.
use Rattle.std.proofs.Common.{◌≡◌, ℕ, ◌+◌, ◌-◌, ◌<◌, ◌≤◌, true, List, [], ◌∷◌, ◌++◌, Some, None, length, length-append, refl, sym, ap, subst, arith, append_assoc}
use Rattle.std.specs.Char.{encode_utf8, is_ascii_digit}
use Rattle.std.specs.List.{list_all}
use Rattle.std.proofs.lemmas.Bool.{false≢true}
use Rattle.std.proofs.lemmas.Str.{encode_ascii}
use Rattle.cedar_names.specs.Grammar.{is_any_id, is_part}
use Rattle.cedar_builders.specs.BareExpr.{Text}
use Rattle.cedar_lexer.specs.Blanks.{HasBlanks, nothing, space, comment, last_comment}
use Rattle.cedar_lexer.specs.Grammar.{IsBetweenQuotes, IsLongestIn, IsTokenText, begins_word, goes_on, word, digits, slot, quoted, sign}
use Rattle.cedar_lexer.specs.TokenKinds.{sign_kind_of, word_kind_of}
use Rattle.cedar_lexer.specs.TokenPlaces.{AreTokensBefore, IsTokenAt}
use Rattle.cedar_lexer.specs.declared.token.Token.{Token}
use Rattle.cedar_lexer.specs.declared.token.TokenKind.{TokenKind}
use Rattle.cedar_lexer.specs.declared.token.TokenKind.TheVariants as kinds
use Rattle.semantics_grammar.specs.Lexemes.{Lexeme, lexeme, lexemes_of}
use Rattle.semantics_printing.proofs.PolicyLexemes.{Lexemes, in_brackets}
use Rattle.semantics_printing.proofs.Longest.{NoPair, StopsAt, both, longest_digits, longest_one, longest_quoted, longest_slot, longest_two, longest_word}

-- the text is these tokens, each as long as can be, with spaces before them
pub data Lexes : Text → List Lexeme → Type 0 where
  ends : Lexes [] []
  blank : {t : Text} {ls : List Lexeme} → Lexes t ls → Lexes (32 ∷ t) ls
  token : {w t : Text} {k : TokenKind} {ls : List Lexeme} → 0 < length w → IsTokenText w k → IsLongestIn (w ++ t) w → Lexes t ls
      → Lexes (w ++ t) (lexeme k w ∷ ls)

-- ---- such a text has tokens, with their places

rest_fits : {text rest : List ℕ} → HasBlanks text rest → length rest ≤ length text
rest_fits (nothing text) = omega arith
rest_fits (space c text rest w h) = let l = rest_fits h in omega (arith, length-append (encode_utf8 c) text)
rest_fits (comment line c text rest b i e h) = let l = rest_fits h in omega (arith, length-append line (c ∷ text))
rest_fits (last_comment line b i) = omega arith

blank_before : (text rest : List ℕ) → HasBlanks text rest → HasBlanks (32 ∷ text) rest
blank_before text rest h = subst (λ x. HasBlanks (x ++ text) rest) (encode_ascii 32 (omega arith)) (space 32 text rest refl h)

tokens_behind : (at : ℕ) (text : Text) (ts : List Token) → AreTokensBefore (at + 1) text ts [] → AreTokensBefore at (32 ∷ text) ts []
tokens_behind at text [] h = blank_before text [] h
tokens_behind at text (t ∷ ts) h =
    let fits = rest_fits h.2 in
    let e : (at + 1) + (length text - length h.0) ≡ at + (length (32 ∷ text) - length h.0) = omega arith in
    (h.0, h.1, blank_before text h.0 h.2, subst (λ a. IsTokenAt a h.0 t h.1) e h.3, h.4)

-- a token at this place
token_at : ℕ → TokenKind → Text → Token
token_at at k w = record { kind = k; text = record { ref_ptr = (0, 0); now = w }; span = record { start = at; stop = at + length w } }

-- the tokens of a text, whose first byte stands at this place
abbrev pub HasTokensAt : ℕ → Text → List Lexeme → Type 0
HasTokensAt at text ls = (ts : List Token) × AreTokensBefore at text ts [] × (lexemes_of ts ≡ ls)

first_token : (at : ℕ) (w t : Text) (k : TokenKind) (ls : List Lexeme) → 0 < length w → IsTokenText w k → IsLongestIn (w ++ t) w
    → HasTokensAt (at + length w) t ls → HasTokensAt at (w ++ t) (lexeme k w ∷ ls)
unfolding token_at
first_token at w t k ls some is longest h =
    let here : IsTokenAt (at + (length (w ++ t) - length (w ++ t))) (w ++ t) (token_at at k w) t =
    (omega arith, omega arith, some, refl, is, longest) in
    (token_at at k w ∷ h.0, (w ++ t, t, nothing (w ++ t), here, h.1), ap (λ xs. lexeme k w ∷ xs) h.2)

pub tokens_of : {text : Text} {ls : List Lexeme} → Lexes text ls → (at : ℕ) → HasTokensAt at text ls
tokens_of ends at = ([], nothing [], refl)
tokens_of (blank {t = t} h) at = let r = tokens_of h (at + 1) in (r.0, tokens_behind at t r.0 r.1, r.2)
tokens_of (token {w = w} {t = t} {k = k} {ls = ls} some is longest h) at = first_token at w t k ls some is longest (tokens_of h (at + length w))

-- ---- pieces

-- what follows does not go on with a word
abbrev pub Ends : Text → Type 0
Ends = StopsAt goes_on

-- the piece is these tokens, in front of what does not go on with a word
pub record IsLexedAs (t : Text) (f : Lexemes) : Type 0 where
  pub lexed : (u : Text) (ls : List Lexeme) → Ends u → Lexes u ls → Lexes (t ++ u) (f ls)

-- behind the piece a word ends
abbrev pub Closes : Text → Type 0
Closes t = (u : Text) → Ends u → Ends (t ++ u)

pub no_piece : IsLexedAs [] (λ rest. rest)
no_piece = record { lexed = λ u ls e h. h }

-- one piece and then another
pub then_piece : {t s : Text} {f g : Lexemes} → Closes s → IsLexedAs t f → IsLexedAs s g → IsLexedAs (t ++ s) (λ rest. f (g rest))
then_piece {t = t} {s = s} {f = f} {g = g} c h k = record {
  lexed = λ u ls e x.
      subst (λ w. Lexes w (f (g ls))) (sym (append_assoc t s u)) (h.lexed (s ++ u) (g ls) (c u e) (k.lexed u ls e x));
}

-- a space and then a piece
pub space_piece : {t : Text} {f : Lexemes} → IsLexedAs t f → IsLexedAs (32 ∷ t) f
space_piece h = record { lexed = λ u ls e x. blank (h.lexed u ls e x) }

pub word_piece : (w : Text) (k : TokenKind) → is_any_id w ≡ true → word_kind_of w ≡ k → IsLexedAs w (λ rest. lexeme k w ∷ rest)
word_piece [] k h is = absurd (false≢true h)
word_piece (b ∷ bs) k h is =
    let hs = both (begins_word b) (list_all is_part bs) h in
    record { lexed = λ u ls e x. token (omega arith) (subst (λ k. IsTokenText (b ∷ bs) k) is (word b bs hs.0 hs.1)) (longest_word b bs u hs.0 e) x }

pub digits_piece : (w : Text) → 0 < length w → list_all is_ascii_digit w ≡ true → IsLexedAs w (λ rest. lexeme kinds.Digits w ∷ rest)
digits_piece [] some h = absurd (omega (arith, some))
digits_piece (b ∷ bs) some h =
    let hs = both (is_ascii_digit b) (list_all is_ascii_digit bs) h in
    record { lexed = λ u ls e x. token (omega arith) (digits b bs hs.0 hs.1) (longest_digits b bs u hs.0 e) x }

pub slot_piece : (bs : Text) → list_all goes_on bs ≡ true → IsLexedAs (63 ∷ bs) (λ rest. lexeme kinds.Slot (63 ∷ bs) ∷ rest)
slot_piece bs h = record { lexed = λ u ls e x. token (omega arith) (slot bs h) (longest_slot bs u e) x }

pub quoted_piece : (inside : Text) → IsBetweenQuotes inside
    → IsLexedAs (34 ∷ (inside ++ (34 ∷ []))) (λ rest. lexeme kinds.Quoted (34 ∷ (inside ++ (34 ∷ []))) ∷ rest)
quoted_piece inside h = record { lexed = λ u ls e x. token (omega arith) (quoted inside h) (longest_quoted inside u h) x }

-- a sign of one byte that makes none with what follows
pub sign_piece : {t : Text} {f : Lexemes} (b : ℕ) (k : TokenKind) → sign_kind_of (b ∷ []) ≡ Some k → ((u : Text) → NoPair b (t ++ u)) → IsLexedAs t f
    → IsLexedAs (b ∷ t) (λ rest. lexeme k (b ∷ []) ∷ f rest)
sign_piece {t = t} {f = f} b k is n h = record {
  lexed = λ u ls e x.
      token {w = b ∷ []} {t = t ++ u} (omega arith) (sign (b ∷ []) k is) (longest_one b (t ++ u) k is (n u)) (h.lexed u ls e x);
}

-- one that makes a sign with no byte
pub single_piece : {t : Text} {f : Lexemes} (b : ℕ) (k : TokenKind) → sign_kind_of (b ∷ []) ≡ Some k → ((c : ℕ) → sign_kind_of (b ∷ c ∷ []) ≡ None)
    → IsLexedAs t f → IsLexedAs (b ∷ t) (λ rest. lexeme k (b ∷ []) ∷ f rest)
single_piece {t = t} b k is none h = sign_piece b k is (λ u. alone (t ++ u)) h
  where
    alone : (u : Text) → NoPair b u
    alone [] = tt
    alone (c ∷ u) = none c

-- a sign of two bytes
pub pair_piece : {t : Text} {f : Lexemes} (b c : ℕ) (k : TokenKind) → sign_kind_of (b ∷ c ∷ []) ≡ Some k → IsLexedAs t f
    → IsLexedAs (b ∷ c ∷ t) (λ rest. lexeme k (b ∷ c ∷ []) ∷ f rest)
pair_piece {t = t} b c k is h = record {
  lexed = λ u ls e x.
      token {w = b ∷ c ∷ []} {t = t ++ u} (omega arith) (sign (b ∷ c ∷ []) k is) (longest_two b c (t ++ u) k is) (h.lexed u ls e x);
}

-- a piece in round brackets
pub brackets_piece : {t : Text} {f : Lexemes} → IsLexedAs t f → IsLexedAs (40 ∷ (t ++ (41 ∷ []))) (in_brackets f)
brackets_piece h =
    single_piece 40 kinds.OpenRound refl (λ c. refl) (then_piece (λ u e. refl) h (single_piece 41 kinds.CloseRound refl (λ c. refl) no_piece))
