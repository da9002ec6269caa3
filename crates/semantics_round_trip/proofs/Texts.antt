-- Texts between quotes are of scalar values.
use Rattle.std.proofs.Common.{◌≡◌, ℕ, ◌+◌, ◌*◌, Bool, true, false, List, [], ◌∷◌, ◌++◌, Some, None, length, refl, sym, subst, arith, IsUtf8}
use Rattle.std.specs.Prelude.{◌&&◌, ◌==◌, ◌||◌, if◌then◌else◌}
use Rattle.std.specs.Char.{digit_value}
use Rattle.std.specs.Str.{chars}
use Rattle.std.proofs.Math.Seq.{get_or-append_seam, take-append_seam}
use Rattle.std.proofs.lemmas.Bool.{false≢true}
use Rattle.std.proofs.lemmas.Option.{none-some, same_Some}
use Rattle.std.proofs.lemmas.List.{length-append}
use Rattle.std.proofs.lemmas.Str.{IsCharBoundary-after_ascii, IsCharBoundary-before_ascii, IsUtf8-drop, IsUtf8-take, scalars-chars}
use lib.Utf8.{low_scalar, scalar, scalars}
use Rattle.cedar_builders.specs.BareExpr.{Text}
use Rattle.cedar_lexer.specs.Escapes.{IsInsideOfText, Writes, itself, by_letter, by_two_digits, by_code, letter_escape}
use Rattle.semantics_grammar.specs.Written.{IsTextOf}

pub both_of : (a b : Bool) → (a && b) ≡ true → (a ≡ true) × (b ≡ true)
both_of true b h = (refl, h)
both_of false b h = absurd (false≢true h)

pub both_hold : (a b : Bool) → a ≡ true → b ≡ true → (a && b) ≡ true
both_hold true b h k = k
both_hold false b h k = h

-- what stands between two quotes is in UTF-8, if the whole is
between : (inside : List ℕ) → IsUtf8 (34 ∷ (inside ++ (34 ∷ []))) → IsUtf8 inside
between inside h =
    let whole : List ℕ = 34 ∷ (inside ++ (34 ∷ [])) in
    let behind : List ℕ = inside ++ (34 ∷ []) in
    let rest : IsUtf8 behind = IsUtf8-drop whole 1 h (IsCharBoundary-after_ascii whole 0 h (omega arith) (omega arith)) in
    let long : length behind ≡ length inside + 1 = length-append inside (34 ∷ []) in
    subst IsUtf8 (take-append_seam inside (34 ∷ []))
    (IsUtf8-take behind (length inside) rest
    (IsCharBoundary-before_ascii behind (length inside) (omega (arith, long)) (omega (arith, get_or-append_seam inside 34 [] 0))))

parts : (cs ds : List ℕ) → scalars (cs ++ ds) ≡ true → (scalars cs ≡ true) × (scalars ds ≡ true)
parts [] ds h = (refl, h)
parts (c ∷ cs) ds h =
    let x = both_of (scalar c) (scalars (cs ++ ds)) h in
    let y = parts cs ds x.1 in (both_hold (scalar c) (scalars cs) x.0 y.0, y.1)

-- what a letter behind a backslash stands for
letter_scalar : (l c : ℕ) → scalar l ≡ true → letter_escape l ≡ Some c → scalar c ≡ true
letter_scalar l c h e = first (l == 48) (l == 116) (l == 110) (l == 114) (l == 34 || l == 39 || l == 92) e
  where
    known : (n : ℕ) → scalar n ≡ true → Some n ≡ Some c → scalar c ≡ true
    known n k e = subst (λ x. scalar x ≡ true) (same_Some n c e) k

    first : (b1 b2 b3 b4 b5 : Bool)
        → (if b1 then Some 0 else (if b2 then Some 9 else (if b3 then Some 10 else (if b4 then Some 13 else (if b5 then Some l else None))))) ≡ Some c
        → scalar c ≡ true
    first true b2 b3 b4 b5 e = known 0 refl e
    first false true b3 b4 b5 e = known 9 refl e
    first false false true b4 b5 e = known 10 refl e
    first false false false true b5 e = known 13 refl e
    first false false false false true e = known l h e
    first false false false false false e = absurd (none-some c e)

-- a character that scalar values write is one
writes_scalar : {w : List ℕ} {c : ℕ} → Writes w c → scalars w ≡ true → scalar c ≡ true
writes_scalar (itself {c = c} a b) h = (both_of (scalar c) true h).0
writes_scalar (by_letter {l = l} {c = c} e) h = letter_scalar l c (both_of (scalar l) true h).0 e
writes_scalar (by_two_digits {h = x} {l = y} a b) h = low_scalar (digit_value x * 16 + digit_value y) (omega (arith, a, b))
writes_scalar (by_code ds a b d s) h = s

-- the characters that a text of scalar values stands for are such
text_scalars : (t cs : List ℕ) → IsInsideOfText t cs → scalars t ≡ true → scalars cs ≡ true
text_scalars t [] is h = refl
text_scalars t (c ∷ cs) is h =
    let x = parts is.0 is.1 (subst (λ s. scalars s ≡ true) is.2 h) in
    both_hold (scalar c) (scalars cs) (writes_scalar is.3 x.0) (text_scalars is.1 cs is.4 x.1)

-- a text between quotes is in UTF-8
pub text_said : {w : List ℕ} {t : Text} → IsTextOf w t → IsUtf8 w → IsUtf8 t
text_said i h =
    let inside = between i.inside (subst IsUtf8 i.quotes h) in
    (i.characters, (text_scalars (chars i.inside) i.characters i.reads (scalars-chars i.inside inside), sym i.bytes))
