-- Lists of two items or more.
use Rattle.std.proofs.Common.{◌≡◌, ◌-◌, ◌≤◌, List, [], ◌∷◌, length, get_or, take, drop, ap, arith, sym}
use Rattle.std.proofs.lemmas.List.{take_all}

-- the first two, and the others
pub two_first : {A : Type 0} (xs : List A) (d : A) → 2 ≤ length xs → xs ≡ get_or xs 0 d ∷ get_or xs 1 d ∷ take (length xs - 2) (drop 2 xs)
two_first [] d h = absurd (omega arith)
two_first (x ∷ []) d h = absurd (omega arith)
two_first (x ∷ y ∷ xs) d h = let e : length (x ∷ y ∷ xs) - 2 ≡ length xs = omega arith in ap (λ t. x ∷ y ∷ t) (sym (take_all (length (x ∷ y ∷ xs) - 2) xs (omega arith)))
