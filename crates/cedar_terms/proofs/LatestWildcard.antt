-- The latest wildcard suffices: why a matching that goes back to it alone misses nothing.
use Rattle.std.proofs.Common.{◌≡◌, ℕ, ◌+◌, List, [], ◌∷◌, ◌++◌, length, drop, Bool, true, false, refl, sym, ◌∙◌, ap, arith}
use Rattle.std.specs.Bool.{◌==◌}
use Rattle.std.proofs.lemmas.Bool.{false≢true}
use Rattle.std.proofs.lemmas.List.{drop-drop, drop_at}
use Rattle.cedar_terms.specs.declared.pattern.PatternElem.{PatternElem}
use Rattle.cedar_terms.specs.declared.pattern.PatternElem.TheVariants.{Char, Wildcard}
use Rattle.cedar_terms.specs.Patterns.{matches, some_end}
use Rattle.cedar_terms.proofs.Decision.{same_code}
use Rattle.cedar_terms.proofs.Ends.{some_end-at, some_end-here, some_end-where}
use Rattle.cedar_terms.proofs.EscapeLemmas.{and-right}

-- the pattern of these characters alone
abbrev pub literal : List ℕ → List PatternElem
literal [] = []
literal (c ∷ s) = Char c ∷ literal s

-- what a literal front matched may be left out
pub matches-literal : (s : List ℕ) (q : List PatternElem) (t : List ℕ) → matches (literal s ++ q) (s ++ t) ≡ matches q t
matches-literal [] q t = refl
matches-literal (c ∷ s) q t = rw (same_code c) (matches-literal s q t)

-- a text that begins as the literal does, or not: what follows is matched by what follows
pub matches-drop : (s : List ℕ) (q : List PatternElem) (t : List ℕ) → matches (literal s ++ q) t ≡ true → matches q (drop (length s) t) ≡ true
matches-drop [] q t h = h
matches-drop (c ∷ s) q [] h = absurd (false≢true h)
matches-drop (c ∷ s) q (d ∷ t) h = matches-drop s q t (and-right (c == d) (matches (literal s ++ q) t) h)

-- an end of an end is an end
pub some_end-twice : (f : List ℕ → Bool) (t : List ℕ) → some_end (some_end f) t ≡ true → some_end f t ≡ true
some_end-twice f t h =
    let r = some_end-where (some_end f) t h in
    let v = some_end-where f (drop r.0 t) r.1 in
    let e : drop v.0 (drop r.0 t) ≡ drop (r.0 + v.0) t = drop-drop v.0 r.0 t in
    some_end-at f (r.0 + v.0) t (rw e at v.1)

-- what an end of s ++ t matches after the literal s, an end of t matches
pub some_end-literal : (s : List ℕ) (q : List PatternElem) (t : List ℕ) → some_end (matches (literal s ++ q)) (s ++ t) ≡ true → some_end (matches q) t ≡ true
some_end-literal s q t h =
    let r = some_end-where (matches (literal s ++ q)) (s ++ t) h in
    let m = matches-drop s q (drop r.0 (s ++ t)) r.1 in
    let e : drop (length s) (drop r.0 (s ++ t)) ≡ drop (r.0 + length s) (s ++ t) = drop-drop (length s) r.0 (s ++ t) in
    let d : drop r.0 (drop (length s) (s ++ t)) ≡ drop (length s + r.0) (s ++ t) = drop-drop r.0 (length s) (s ++ t) in
    let a : drop (length s) (s ++ t) ≡ t = drop_at s t (length s) refl in
    let n : r.0 + length s ≡ length s + r.0 = omega arith in
    let x : drop (length s) (drop r.0 (s ++ t)) ≡ drop r.0 t = e ∙ (ap (λ i. drop i (s ++ t)) n ∙ (sym d ∙ ap (drop r.0) a)) in
    some_end-at (matches q) r.0 t (rw x at m)

both-ways : (a b : Bool) → (a ≡ true → b ≡ true) → (b ≡ true → a ≡ true) → a ≡ b
both-ways true b f g = sym (f refl)
both-ways false true f g = g refl
both-ways false false f g = refl

-- a second wildcard takes the place of the first
pub next_wildcard : (s : List ℕ) (q : List PatternElem) (t : List ℕ) → some_end (matches (literal s ++ (Wildcard ∷ q))) (s ++ t) ≡ some_end (matches q) t
next_wildcard s q t = both-ways _ _
    (λ h. some_end-twice (matches q) t (some_end-literal s (Wildcard ∷ q) t h))
    (λ h. some_end-here (matches (literal s ++ (Wildcard ∷ q))) (s ++ t) (matches-literal s (Wildcard ∷ q) t ∙ h))

-- where the text ends, no other beginning of the latest wildcard's rest can help
pub at_end : (s : List ℕ) (q : List PatternElem) → some_end (matches (literal s ++ q)) (s ++ []) ≡ matches q []
at_end s q = both-ways _ _
    (λ h. some_end-literal s q [] h)
    (λ h. some_end-here (matches (literal s ++ q)) (s ++ []) (matches-literal s q [] ∙ h))

pub some_end-nil : (t : List ℕ) → some_end (matches []) t ≡ true
some_end-nil [] = refl
some_end-nil (c ∷ t) = some_end-nil t
