-- How the nodes of a row change with its items.
use Rattle.std.proofs.Common.{◌≡◌, ℕ, ◌+◌, ◌*◌, ◌≤◌, ◌<◌, suc, ap, ◌∙◌, arith, Global, List, [], ◌∷◌, ◌++◌, Option, Some, None, IfSome}
use Rattle.std.proofs.Math.Nat.{mul-le-mul_right, suc-mul}
use Rattle.std.specs.declared.rc.RcStr.{RcStr}
use Rattle.cedar_iterative_drop.specs.Rows.{row_nodes, pair_nodes, waiting_nodes}

-- n nodes in all and k of them next, of at most c: fewer nodes, or no more and a smaller part, are less
pub fewer : (n k m j c : ℕ) → m < n → j ≤ m → m ≤ c → m * (c + 1) + j < n * (c + 1) + k
fewer n k m j c less in_all fits =
    let up : suc m * (c + 1) ≤ n * (c + 1) = mul-le-mul_right (c + 1) less in
    let one : suc m * (c + 1) ≡ m * (c + 1) + (c + 1) = suc-mul m (c + 1) in
    omega (arith, up, one, in_all, fits)

pub no_more : (n k m j c : ℕ) → m ≤ n → j < k → m * (c + 1) + j < n * (c + 1) + k
no_more n k m j c all less = let up : m * (c + 1) ≤ n * (c + 1) = mul-le-mul_right (c + 1) all in omega (arith, up, less)

module _ {I : Type 0} (f : I → ℕ) where
  row-snoc : (xs : List I) (x : I) → row_nodes f (xs ++ x ∷ []) ≡ row_nodes f xs + f x
  row-snoc [] x = omega arith
  row-snoc (y ∷ xs) x = omega (arith, row-snoc xs x)

  -- a row without its last item
  pub one_off : (all xs : List I) (x : I) → all ≡ xs ++ x ∷ [] → row_nodes f all ≡ row_nodes f xs + f x
  one_off all xs x is = ap (row_nodes f) is ∙ row-snoc xs x

  pairs-snoc : (ps : List (RcStr Global × I)) (k : RcStr Global) (x : I) → pair_nodes f (ps ++ (k, x) ∷ []) ≡ pair_nodes f ps + f x
  pairs-snoc [] k x = omega arith
  pairs-snoc (p ∷ ps) k x = omega (arith, pairs-snoc ps k x)

  -- a map without its last value
  pub last_pair_off : (all ps : List (RcStr Global × I)) (k : RcStr Global) (x : I) → all ≡ ps ++ (k, x) ∷ [] → pair_nodes f all ≡ pair_nodes f ps + f x
  last_pair_off all ps k x is = ap (pair_nodes f) is ∙ pairs-snoc ps k x

-- what was taken off, if anything, and what is left
pub with_last : {B : Type 0} (g : B → ℕ) (last : Option B) (n m : ℕ) → IfSome last (λ b. g b + n ≤ m) → n ≤ m → waiting_nodes g last + n ≤ m
with_last g None n m taken rest = omega (arith, rest)
with_last g (Some b) n m taken rest = taken
