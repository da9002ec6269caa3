-- What the table of signs says of each sign.
use Rattle.std.proofs.Common.{◌≡◌, ℕ, Bool, true, false, not, Some, List, [], ◌∷◌, refl, sym, subst, nat_lt}
use Rattle.std.specs.Bool.{◌==◌}
use Rattle.std.specs.Prelude.{◌&&◌, if◌then◌else◌}
use Rattle.std.specs.Char.{is_ascii_digit}
use Rattle.std.specs.List.{list_all}
use Rattle.std.specs.Str.{bytes_eq}
use Rattle.std.proofs.lemmas.Bool.{false≢true}
use Rattle.std.proofs.lemmas.Option.{same_Some}
use Rattle.std.proofs.lemmas.Slice.Eq.{bytes_eq-Decides}
use Rattle.cedar_lexer.proofs.FirstPieceLemmas.{both}
use Rattle.cedar_lexer.specs.FirstTokens.{full_kind}
use Rattle.cedar_lexer.specs.Grammar.{begins_word}
use Rattle.cedar_lexer.specs.TokenKinds.{looked_up, sign_kind_of, signs}
use Rattle.cedar_lexer.specs.declared.token.TokenKind.{TokenKind}
use Rattle.cedar_lexer.specs.declared.token.TokenKind.TheVariants as kinds

-- nothing but a sign begins with this byte
abbrev pub begins_sign : ℕ → Bool
begins_sign b = not (b == 34) && (not (b == 63) && (not (is_ascii_digit b) && (not (begins_word b) && nat_lt b 128)))

abbrev pub is_no_word : TokenKind → Bool
is_no_word kinds.Word = false
is_no_word kind = true

-- one or two bytes of ASCII, of which the first begins nothing else
abbrev pub is_sign : List ℕ → Bool
is_sign [] = false
is_sign (a ∷ []) = begins_sign a
is_sign (a ∷ b ∷ []) = begins_sign a && nat_lt b 128
is_sign (a ∷ b ∷ c ∷ s) = false

-- what passes in each row of a table does for what is looked up
pub found_passes : (p : List ℕ × TokenKind → Bool) (s : List ℕ) (kind : TokenKind) (es : List (List ℕ × TokenKind)) → list_all p es ≡ true
    → looked_up s es ≡ Some kind → p (s, kind) ≡ true
found_passes p s kind [] h e = cc
found_passes p s kind (x ∷ es) h e =
    let hs = both (p x) (list_all p es) h in
    elim (bytes_eq s x.0) as (λ v. bytes_eq s x.0 ≡ v → (if v then Some x.1 else looked_up s es) ≡ Some kind → p (s, kind) ≡ true) [
      | true ↦ λ q f.
          let same : s ≡ x.0 = (bytes_eq-Decides s x.0).0 q in
          let k : x.1 ≡ kind = same_Some x.1 kind f in
          subst (λ t. p (t, kind) ≡ true) (sym same) (subst (λ k. p (x.0, k) ≡ true) k hs.0)
      | false ↦ λ q f. found_passes p s kind es hs.1 f
    ] refl e

pub sign_fits : (s : List ℕ) (kind : TokenKind) → sign_kind_of s ≡ Some kind → (is_sign s ≡ true) × (is_no_word kind ≡ true)
sign_fits s kind e = both (is_sign s) (is_no_word kind) (found_passes (λ x. is_sign x.0 && is_no_word x.1) s kind signs refl e)

pub sign_kept : (kind : TokenKind) (s : List ℕ) → is_no_word kind ≡ true → full_kind kind s ≡ kind
sign_kept kinds.Word s h = absurd (false≢true h)
sign_kept kind s h = refl
