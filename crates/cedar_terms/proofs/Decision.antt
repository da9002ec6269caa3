-- The test `matches` decides the relation `Matches`.
use Rattle.std.proofs.Common.{◌≡◌, ℕ, List, [], ◌∷◌, length, take, drop, Bool, true, ◌↔◌, IsTrue, refl, sym, ◌∙◌, ap, arith}
use Rattle.std.specs.Bool.{◌==◌}
use Rattle.std.proofs.lemmas.Bool.{eqb-true, false≢true}
use Rattle.std.proofs.lemmas.Bool.Decides.{nat_tests}
use Rattle.std.proofs.lemmas.List.{drop_at, take-append-drop}
use Rattle.cedar_terms.specs.declared.pattern.PatternElem.{PatternElem}
use Rattle.cedar_terms.specs.declared.pattern.PatternElem.TheVariants.{Char, Wildcard}
use Rattle.cedar_terms.specs.Patterns.{Matches, matches}
use Rattle.cedar_terms.proofs.Ends.{some_end-at, some_end-here, some_end-where}
use Rattle.cedar_terms.proofs.EscapeLemmas.{and-left, and-right}

pub same_code : (c : ℕ) → (c == c) ≡ true
same_code c = grind (arith, nat_tests)

Matches-from_matches : (p : List PatternElem) (t : List ℕ) → matches p t ≡ true → Matches p t
Matches-from_matches [] [] h = refl
Matches-from_matches [] (d ∷ t) h = absurd (false≢true h)
Matches-from_matches (Char c ∷ q) [] h = absurd (false≢true h)
Matches-from_matches (Char c ∷ q) (d ∷ t) h =
    (t, ap (λ x. x ∷ t) (sym (eqb-true c d (and-left (c == d) (matches q t) h))), Matches-from_matches q t (and-right (c == d) (matches q t) h))
Matches-from_matches (Wildcard ∷ q) t h =
    let r = some_end-where (matches q) t h in
    (take r.0 t, drop r.0 t, sym (take-append-drop r.0 t), Matches-from_matches q (drop r.0 t) r.1)

matches-from_Matches : (p : List PatternElem) (t : List ℕ) → Matches p t → matches p t ≡ true
matches-from_Matches [] t h = rw h refl
matches-from_Matches (Char c ∷ q) t h = rw (h.1, same_code c) (matches-from_Matches q h.0 h.2)
matches-from_Matches (Wildcard ∷ q) t h =
    let e : drop (length h.0) t ≡ h.1 = ap (drop (length h.0)) h.2 ∙ drop_at h.0 h.1 (length h.0) refl in
    some_end-at (matches q) (length h.0) t (ap (matches q) e ∙ matches-from_Matches q h.1 h.3)

pub matches-decides : (p : List PatternElem) (t : List ℕ) (r : Bool) → r ≡ matches p t → IsTrue r ↔ Matches p t
matches-decides p t r e = (λ h. Matches-from_matches p t (sym e ∙ h), λ m. e ∙ matches-from_Matches p t m)

-- a first element that is a wildcard, whose rest matches the whole text
pub matches-here : (p q : List PatternElem) (x : PatternElem) (t : List ℕ) → p ≡ x ∷ q → x ≡ Wildcard → true ≡ matches q t → true ≡ matches p t
matches-here p q x t e w h = rw (e, w) (sym (some_end-here (matches q) t (sym h)))
