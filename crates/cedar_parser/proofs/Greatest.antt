-- The greatest number of items, as one more comes.
use Rattle.std.proofs.Common.{◌≡◌, ℕ, max, List, [], ◌∷◌, ◌++◌, arith}
use Rattle.cedar_parser.specs.Refused.{greatest}

pub greatest_push : {A : Type 0} → (f : A → ℕ) (xs : List A) (x : A) → greatest f (xs ++ (x ∷ [])) ≡ max (greatest f xs) (f x)
greatest_push f [] x = omega arith
greatest_push f (y ∷ ys) x = let h = greatest_push f ys x in omega arith
