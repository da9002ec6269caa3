-- What a text is read as, by whether it is read.
use Rattle.std.proofs.Common.{◌≡◌, ◌↔◌, Option, Some, None, option_map, refl, sym, ap}

-- what is read stands for something
pub read : {A B : Type 0} (make : A → B) (o : Option A) (P : A → Type 0) (a : A) → ((x : A) → (o ≡ Some x) ↔ P x) → P a → Some (make a) ≡ option_map make o
read make o P a exact h = ap (option_map make) (sym ((exact a).1 h))

-- what is refused stands for nothing
pub refused : {A B Q : Type 0} (make : A → B) (o : Option A) (P : A → Type 0) → ((x : A) → (o ≡ Some x) ↔ P x) → Q × ((x : A) → ¬ (P x)) → None ≡ option_map make o
refused make None P exact none = refl
refused make (Some x) P exact none = absurd (none.1 x ((exact x).0 refl))
