-- Calls in the other style, token by token.
use Rattle.std.proofs.Common.{◌≡◌, ◌<◌, ◌≤◌, ◌+◌, ◌||◌, ◌&&◌, ⊎_elim, ℕ, Bool, true, false, Option, Some, None, List, [], ◌∷◌, drop, get_or, length, slice_get, refl, sym, ap, ◌∙◌}
use Rattle.std.proofs.lemmas.List.{drop_all, drop_more}
use Rattle.std.proofs.lemmas.Option.{get_or_from_slice_get, slice_get_cases, slice_get_within}
use Rattle.cedar_lexer.specs.declared.token.Token.{Token}
use Rattle.cedar_conditions.specs.Conditions.{has_other_style, is_dot, is_open_round, is_other_style, is_word, opens}

-- the first token is the name of a call in the other style
abbrev pub first_is : Bool → Token → List Token → Bool
first_is d t ts = is_word t.kind && (opens ts && is_other_style d t.text.now)

-- the tokens from a place on
from_place : (ts : List Token) (i : ℕ) (t : Token) → i < length ts → t ≡ get_or ts i t
    → drop i ts ≡ t ∷ drop (i + 1) ts
from_place ts i t lt is = drop_more ts i t lt ∙ ap (λ x. x ∷ drop (i + 1) ts) (sym is)

pub passed : (d e : Bool) (ts : List Token) (i : ℕ) (t : Token) → i < length ts
    → t ≡ get_or ts i t → false ≡ first_is d t (drop (i + 1) ts) → e ≡ is_dot t.kind
    → has_other_style false ts ≡ has_other_style d (drop i ts)
    → has_other_style false ts ≡ has_other_style e (drop (i + 1) ts)
passed d e ts i t lt is none dot h =
    h ∙ ap (has_other_style d) (from_place ts i t lt is)
    ∙ ap (λ b. b || has_other_style (is_dot t.kind) (drop (i + 1) ts)) (sym none)
    ∙ ap (λ x. has_other_style x (drop (i + 1) ts)) (sym dot)

pub found : (d : Bool) (ts : List Token) (i : ℕ) (t : Token) → i < length ts
    → t ≡ get_or ts i t → true ≡ first_is d t (drop (i + 1) ts)
    → has_other_style false ts ≡ has_other_style d (drop i ts) → true ≡ has_other_style false ts
found d ts i t lt is hit h =
    ap (λ b. b || has_other_style (is_dot t.kind) (drop (i + 1) ts)) hit
    ∙ sym (h ∙ ap (has_other_style d) (from_place ts i t lt is))

pub none_left : (d : Bool) (ts : List Token) (i : ℕ) → length ts ≤ i
    → has_other_style false ts ≡ has_other_style d (drop i ts) → false ≡ has_other_style false ts
none_left d ts i le h = sym (h ∙ ap (has_other_style d) (drop_all i ts le))

pub opens_at : (ts : List Token) (i : ℕ) (t : Token) → slice_get ts i ≡ Some t
    → opens (drop i ts) ≡ is_open_round t.kind
opens_at ts i t some =
    ap opens (drop_more ts i t (slice_get_within ts i t some))
    ∙ ap (λ x. is_open_round x.kind) (get_or_from_slice_get ts i t t some)

past : {A : Type 0} (xs : List A) (i : ℕ) → slice_get xs i ≡ None → length xs ≤ i
past xs i none =
    ⊎_elim (λ h. absurd (cc)) (λ h. h.0) (slice_get_cases xs i).1

pub opens_past : (ts : List Token) (i : ℕ) → slice_get ts i ≡ None → opens (drop i ts) ≡ false
opens_past ts i none = ap opens (drop_all i ts (past ts i none))
