-- Rows that are taken apart, by the nodes that their items have.
use Rattle.std.specs.Prelude.{◌≡◌, ℕ, ◌+◌, ◌<◌, ◌≤◌, Bool, true, false, List, [], ◌∷◌, ◌++◌, Option, Some, None, Result, Ok, Err}
use Rattle.std.specs.List.{filter_map}
use Rattle.std.specs.Global.{Global}
use Rattle.std.specs.declared.rc.RcStr.{RcStr}
use Rattle.cedar_iterative_drop.specs.declared.Taken.{Taken}

-- the nodes of a row; f gives those of an item
abbrev pub row_nodes : {I : Type 0} → (I → ℕ) → List I → ℕ
row_nodes f [] = 0
row_nodes f (x ∷ xs) = f x + row_nodes f xs

-- the nodes of the values of a map
abbrev pub pair_nodes : {I : Type 0} → (I → ℕ) → List (RcStr Global × I) → ℕ
pair_nodes f [] = 0
pair_nodes f (p ∷ ps) = f p.1 + pair_nodes f ps

-- the nodes of what may wait; g gives those of what stands below an item
abbrev pub waiting_nodes : {B : Type 0} → (B → ℕ) → Option B → ℕ
waiting_nodes g None = 0
waiting_nodes g (Some b) = g b

-- from a row of m nodes, beside w that wait, to one of n: as many nodes and a part of the row, or fewer nodes
abbrev pub IsTaken : {B : Type 0} → (B → ℕ) → ℕ → ℕ → ℕ → Taken B → Type 0
IsTaken g m w n (Taken.Subtrees b) = (g b ≤ m) × (g b + n ≤ m + w)
IsTaken g m w n (Taken.AfterLeaf b) = g b + n < m + w
IsTaken g m w n (Taken.Nothing waiting) = waiting_nodes g waiting + n ≤ m + w

-- what is taken after a first item that was a leaf: the last, which waits if it was the only one
abbrev pub taken_after : {B : Type 0} → Option B → Bool → Taken B
taken_after (Some last) true = Taken.Nothing (Some last)
taken_after (Some last) false = Taken.AfterLeaf last
taken_after None is_only = Taken.Nothing None

-- from a row of m nodes to one of n, into which w were put: what stood in their place, a leaf, or they themselves
abbrev pub IsPut : {B : Type 0} → (B → ℕ) → ℕ → ℕ → ℕ → Result (Option B) B → Type 0
IsPut g m w n (Ok (Some old)) = (g old ≤ m) × (g old + n ≡ m + w)
IsPut g m w n (Ok None) = n < m + w
IsPut g m w n (Err next) = (g next ≡ w) × (n ≡ m)

-- branches, and one more behind them
abbrev pub with_taken : {B : Type 0} → List B → Option B → List B
with_taken bs None = bs
with_taken bs (Some b) = bs ++ b ∷ []

-- what a row hands out from its end: its last branch, behind which only leaves go; h gives what stands below an item, if it is no leaf
abbrev pub HandsOut : {I B : Type 0} → (I → Option B) → List I → List I → Option B → Type 0
HandsOut h old new taken = filter_map h old ≡ with_taken (filter_map h new) taken
