-- What the first cut of a text finds, and what follows a word.
use Rattle.std.proofs.Common.{◌≡◌, ℕ, ◌==◌, Bool, true, false, cond, List, [], ◌∷◌, ◌++◌, Option, Some, None, option_map, refl, ap, ◌∙◌, eqb-true, eq-eqb}
use Rattle.std.proofs.lemmas.Option.{none-some, same_Some}
use Rattle.std.specs.Option.{option_or}
use Rattle.semantics_extensions.specs.Searches.{first_cut, behind}

-- there is an answer
abbrev pub Found : {A : Type 0} → Option A → Type 0
Found {A} o = (x : A) × (o ≡ Some x)

pub if_some : {A : Type 0} (b : Bool) (o : Option A) (y : A) → cond b o None ≡ Some y → (b ≡ true) × (o ≡ Some y)
if_some true o y e = (refl, e)
if_some false o y e = absurd (none-some y e)

pub map_found : {A B : Type 0} (f : A → B) (o : Option A) → Found o → Found (option_map f o)
map_found f None h = absurd (none-some _ h.1)
map_found f (Some x) h = (f x, refl)

-- one of two answers
pub or_sound : {A P : Type 0} (o p : Option A) (x : A) → option_or o p ≡ Some x → (o ≡ Some x → P) → (p ≡ Some x → P) → P
or_sound None p x e f g = g e
or_sound (Some y) p x e f g = f e

pub or_first : {A : Type 0} (o p : Option A) → Found o → Found (option_or o p)
or_first None p h = absurd (none-some _ h.1)
or_first (Some x) p h = (x, refl)

pub or_second : {A : Type 0} (o p : Option A) → Found p → Found (option_or o p)
or_second None p h = h
or_second (Some x) p h = (x, refl)

-- what the first cut gives is what the question gives at a cut
pub cut_sound : {A P : Type 0} (f : List ℕ → List ℕ → Option A) (t : List ℕ) (x : A) → first_cut f t ≡ Some x → ((front back : List ℕ) → t ≡ front ++ back → f front back ≡ Some x → P) → P
unfolding first_cut
cut_sound f [] x e k = k [] [] refl e
cut_sound f (c ∷ cs) x e k =
    or_sound (f [] (c ∷ cs)) (first_cut (λ front back. f (c ∷ front) back) cs) x e
    (λ h. k [] (c ∷ cs) refl h)
    (λ h. cut_sound (λ front back. f (c ∷ front) back) cs x h (λ front back s g. k (c ∷ front) back (ap (◌∷◌ c) s) g))

-- and it gives something if the question gives something at any cut
pub cut_found : {A : Type 0} (f : List ℕ → List ℕ → Option A) (front back : List ℕ) → Found (f front back) → Found (first_cut f (front ++ back))
unfolding first_cut
cut_found f [] [] h = h
cut_found f [] (c ∷ cs) h = or_first (f [] (c ∷ cs)) (first_cut (λ a b. f (c ∷ a) b) cs) h
cut_found f (c ∷ front) back h = or_second (f [] (c ∷ (front ++ back))) (first_cut (λ a b. f (c ∷ a) b) (front ++ back)) (cut_found (λ a b. f (c ∷ a) b) front back h)

pub behind_sound : (word text rest : List ℕ) → behind word text ≡ Some rest → text ≡ word ++ rest
behind_sound [] text rest e = same_Some text rest e
behind_sound (c ∷ word) [] rest e = absurd (none-some rest e)
behind_sound (c ∷ word) (d ∷ text) rest e =
    let both = if_some (d == c) (behind word text) rest e in
    let first : d ≡ c = eqb-true d c both.0 in
    let others : text ≡ word ++ rest = behind_sound word text rest both.1 in
    cc

pub behind_is : (word rest : List ℕ) → behind word (word ++ rest) ≡ Some rest
behind_is [] rest = refl
behind_is (c ∷ word) rest = rw (eq-eqb c c refl) (behind_is word rest)

-- where what is found is one thing, and is found wherever there is something, it is found exactly
pub exact : {A : Type 0} (P : A → Type 0) (o : Option A) → ((a : A) → o ≡ Some a → P a) → ((a : A) → P a → Found o) → ((a b : A) → P a → P b → a ≡ b) → (a : A) → P a → o ≡ Some a
exact P o sound found unique a h =
    let some = found a h in
    some.1 ∙ ap Some (unique some.0 a (sound some.0 some.1) h)
