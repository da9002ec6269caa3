-- Where a test passes at some end of a text.
use Rattle.std.proofs.Common.{◌≡◌, ℕ, zero, suc, List, [], ◌∷◌, drop, Bool, true, false, ◌||◌, refl}
use Rattle.cedar_terms.specs.Patterns.{some_end}

-- a test that passes here, passes at some end
pub some_end-here : (f : List ℕ → Bool) (t : List ℕ) → f t ≡ true → some_end f t ≡ true
some_end-here f [] h = h
some_end-here f (c ∷ s) h = rw h

-- where it passes
pub some_end-where : (f : List ℕ → Bool) (t : List ℕ) → some_end f t ≡ true → (k : ℕ) × (f (drop k t) ≡ true)
some_end-where f [] h = (0, h)
some_end-where f (c ∷ t) h =
    elim (f (c ∷ t)) as (λ v. f (c ∷ t) ≡ v → (v || some_end f t) ≡ true → (k : ℕ) × (f (drop k (c ∷ t)) ≡ true)) [
      | true ↦ λ e _. (0, e)
      | false ↦ λ e g. let r = some_end-where f t g in (suc r.0, r.1)
    ] refl h

or-right : (a b : Bool) → b ≡ true → (a || b) ≡ true
or-right true b h = refl
or-right false b h = h

-- a test that passes at an end, passes at some end
pub some_end-at : (f : List ℕ → Bool) (k : ℕ) (t : List ℕ) → f (drop k t) ≡ true → some_end f t ≡ true
some_end-at f zero t h = some_end-here f t h
some_end-at f (suc k) [] h = h
some_end-at f (suc k) (c ∷ t) h = or-right (f (c ∷ t)) (some_end f t) (some_end-at f k t h)
