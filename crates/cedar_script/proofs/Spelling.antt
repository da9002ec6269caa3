-- No text spells two patterns: an element is told from what its spelling begins with.
use Rattle.std.proofs.Common.{◌≡◌, ℕ, List, [], ◌∷◌, ◌++◌, Option, Some, None, true, false, refl, sym, ◌∙◌, ap, append_assoc}
use Rattle.std.specs.Bool.{◌==◌}
use Rattle.std.specs.Option.{is_some, unwrap_or}
use Rattle.std.specs.Prelude.{◌||◌, if◌then◌else◌}
use Rattle.std.proofs.lemmas.Bool.{false≢true}
use Rattle.cedar_terms.specs.declared.pattern.PatternElem.{PatternElem}
use Rattle.cedar_terms.specs.declared.pattern.PatternElem.TheVariants.{Char, Wildcard}
use Rattle.cedar_script.specs.Patterns.{elem_spelling, spelling, BeginsWithNone, SpellsNone}

-- ---- a reader of one element, which gives the element and what follows its spelling

-- behind a backslash
read_escaped : List ℕ → Option (PatternElem × List ℕ)
read_escaped [] = None
read_escaped (c ∷ cs) = if c == 42 || c == 92 then Some (Char c, cs) else None

read : List ℕ → Option (PatternElem × List ℕ)
read [] = None
read (c ∷ cs) = if c == 42 then Some (Wildcard, cs) else (if c == 92 then read_escaped cs else Some (Char c, cs))

read_char : (c : ℕ) (s : List ℕ) → read (elem_spelling (Char c) ++ s) ≡ Some (Char c, s)
unfolding read read_escaped
read_char c s = elim (c == 42) as (λ v. (c == 42) ≡ v → read ((if v || c == 92 then 92 ∷ c ∷ [] else c ∷ []) ++ s) ≡ Some (Char c, s)) [
  | true ↦ λ h. rw h refl
  | false ↦ λ h. elim (c == 92) as (λ w. (c == 92) ≡ w → read ((if w then 92 ∷ c ∷ [] else c ∷ []) ++ s) ≡ Some (Char c, s)) [
    | true ↦ λ k. rw (h, k) refl
    | false ↦ λ k. rw (h, k) refl
  ] refl
] refl

read_elem : (x : PatternElem) (s : List ℕ) → read (elem_spelling x ++ s) ≡ Some (x, s)
unfolding read
read_elem (Char c) s = read_char c s
read_elem Wildcard s = refl

-- ---- so what it can't read begins with no element

unread : (cs : List ℕ) → read cs ≡ None → BeginsWithNone cs
unread cs h x s e =
    let bad : None ≡ Some (x, s) = sym h ∙ (ap read e ∙ read_elem x s) in
    absurd (false≢true (ap is_some bad))

nothing_begins : (cs : List ℕ) → cs ≡ [] → BeginsWithNone cs
unfolding read
nothing_begins cs h = unread cs (ap read h)

-- ---- and elements are told apart

elem_same : (x y : PatternElem) (s t : List ℕ) → elem_spelling x ++ s ≡ elem_spelling y ++ t → s ≡ t
elem_same x y s t h =
    let e : Some (x, s) ≡ Some (y, t) = sym (read_elem x s) ∙ (ap read h ∙ read_elem y t) in
    ap (λ o. (unwrap_or {T = PatternElem × List ℕ} o (x, s)).1) e

-- what follows the spelling of a pattern begins with an element, if the whole spells a pattern too
not_spelled : (es p : List PatternElem) (rest later : List ℕ) (c : ℕ) → rest ≡ c ∷ later → BeginsWithNone rest → spelling es ++ rest ≡ spelling p → ⊥
not_spelled [] [] rest later c is none h = let bad : [] ≡ c ∷ later = sym h ∙ is in cc
not_spelled [] (x ∷ p) rest later c is none h = none x (spelling p) h
not_spelled (e ∷ es) [] rest later c is none h = nothing_begins [] refl e (spelling es ++ rest) (sym (sym (append_assoc (elem_spelling e) (spelling es) rest) ∙ h))
not_spelled (e ∷ es) (x ∷ p) rest later c is none h =
    not_spelled es p rest later c is none (elem_same e x (spelling es ++ rest) (spelling p) (sym (append_assoc (elem_spelling e) (spelling es) rest) ∙ h))

pub spells_none : (es : List PatternElem) (cs rest later : List ℕ) (c : ℕ) → cs ≡ spelling es ++ rest → rest ≡ c ∷ later → BeginsWithNone rest → SpellsNone cs
spells_none es cs rest later c split is none p h = not_spelled es p rest later c is none (sym split ∙ h)
