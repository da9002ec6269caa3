-- Hierarchies of keys, told apart by an order: two keys that compare as equal are one.
use Rattle.std.specs.Prelude.{◌≡◌, ◌↔◌, ℕ, ◌<◌, Bool, true, false, List, length, slice_index_or, IsTrue, Option, None, Some}
use Rattle.std.specs.Global.{Global}
use Rattle.std.specs.List.{Contains, HoldsAt}
use Rattle.std.specs.Map.{lookup}
use Rattle.std.specs.Ordering.{eq_by_cmp}
use Rattle.std.specs.declared.cmp.Ordering.{Ordering}
use Rattle.std.specs.declared.cmp.Ordering.TheVariants.{Equal}
use Rattle.std.specs.declared.vec.Vec.{Vec}
use Rattle.cedar_sorted_slices.specs.Classes.{has_class}
use Rattle.cedar_ancestors.specs.Reaching.{Reaches}
use Rattle.cedar_ancestors.specs.Tables.{row_at}
use Rattle.cedar_ancestors.specs.Reach.{leads}
use Rattle.cedar_ancestors.specs.declared.reach.Reach.{Reach}

-- the key is the one at an index
abbrev pub IsAt : {K : Type 0} → (K → K → Ordering) → List K → K → ℕ → Type 0
IsAt R keys k i = (i < length keys) × HoldsAt (λ y. R y k ≡ Equal) keys i

-- the entry of a key: the first one that has it
abbrev pub entry_at : {K V : Type 0} → (K → K → Ordering) → List (K × V) → K → Option V
entry_at R m k = lookup (eq_by_cmp R k) m

-- whether an entry, where there is one, lists a parent; P gives the parents that an entry lists
abbrev pub is_listed :
    {K V : Type 0} → (K → K → Ordering) → (V → List K) → Option V → K → Bool
is_listed R P None parent = false
is_listed R P (Some v) parent = has_class R (P v) parent

-- whether the entry of a key lists a parent; a key without an entry has no parents
abbrev pub lists :
    {K V : Type 0} → (K → K → Ordering) → (V → List K) → List (K × V) → K → K → Bool
lists R P m child parent = is_listed R P (entry_at R m child) parent

abbrev pub IsParentOf :
    {K V : Type 0} → (K → K → Ordering) → (V → List K) → List (K × V) → K → K → Type 0
IsParentOf R P m child parent = IsTrue (lists R P m child parent)

-- reached by one or more steps from child to parent
abbrev pub IsAncestorOf :
    {K V : Type 0} → (K → K → Ordering) → (V → List K) → List (K × V) → K → K → Type 0
IsAncestorOf R P m child ancestor = Reaches (IsParentOf R P m) child ancestor

-- each key that is a child or a parent is among the keys
abbrev pub AreKnown :
    {K V : Type 0} → (K → K → Ordering) → (V → List K) → List K → List (K × V) → Type 0
AreKnown {K} R P keys m =
    (child parent : K) → IsParentOf R P m child parent
    → IsTrue (has_class R keys child) × IsTrue (has_class R keys parent)

-- the row has the indexes of the keys that pass a test
pub record IsRowBy {K : Type 0} (test : K → Bool) (keys : List K) (row : List ℕ) : Type 0 where
  pub same :
      (j : ℕ) → Contains row j ↔ ((j < length keys) × HoldsAt (λ k. test k ≡ true) keys j)

-- the rows of the table have the indexes of the parents
pub record IsTableOf {K V : Type 0} (R : K → K → Ordering) (P : V → List K) (keys : List K)
    (m : List (K × V)) (table : List (Vec ℕ Global)) : Type 0 where
  pub long : length table ≡ length keys
  pub rows :
      (i : ℕ) → i < length keys → (d : K)
      → IsRowBy (lists R P m (slice_index_or keys i d)) keys (row_at table i)

-- what is known over indexes says of keys
pub record IsBelowIn {K : Type 0} (R : K → K → Ordering) (h : List K × Reach) (child ancestor : K)
    : Type 0 where
  pub from : ℕ
  pub to : ℕ
  pub child_at : IsAt R h.0 child from
  pub ancestor_at : IsAt R h.0 ancestor to
  pub has : leads h.1 from to

-- a clone compares as equal to what it is a clone of
abbrev pub ClonesAreAlike : {K : Type 0} → (K → K → Ordering) → (K → K → Type 0) → Type 0
ClonesAreAlike {K} R C = (a b : K) → C a b → R a b ≡ Equal
