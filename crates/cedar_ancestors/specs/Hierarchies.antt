-- Hierarchies of keys that have no cycle, and why one is refused.
use Rattle.std.specs.Prelude.{◌↔◌, ℕ, ◌<◌, List, length}
use Rattle.std.specs.declared.cmp.Ordering.{Ordering}
use Rattle.cedar_ancestors.specs.declared.keyed.Cyclic.{Cyclic}
use Rattle.cedar_ancestors.specs.declared.keyed.Cyclic.TheVariants.{At, Memory}
use Rattle.cedar_ancestors.specs.declared.reach.Reach.{Reach}
use Rattle.cedar_ancestors.specs.Keyed.{IsAncestorOf, IsAt, IsBelowIn}

-- a key is below another in the hierarchy just where that is its ancestor by the entries
abbrev pub IsHierarchyOf :
    {K V : Type 0} → (K → K → Ordering) → (V → List K) → List (K × V) → List K × Reach → Type 0
IsHierarchyOf {K} R P m h =
    (child ancestor : K) → IsBelowIn R h child ancestor ↔ IsAncestorOf R P m child ancestor

-- no key is its own ancestor
abbrev pub HasNoCycle :
    {K V : Type 0} → (K → K → Ordering) → (V → List K) → List (K × V) → Type 0
HasNoCycle {K} R P m = (k : K) → IsAncestorOf R P m k k → ⊥

-- the refusal names a key that is its own ancestor
abbrev pub IsCyclicBy :
    {K V : Type 0} → (K → K → Ordering) → (V → List K) → List (K × V) → Cyclic K → Type 0
IsCyclicBy R P m (At k) = IsAncestorOf R P m k k
IsCyclicBy R P m Memory = Unit {0}

-- the refusal names the index of a key that is its own ancestor
abbrev pub IsCyclicAmong :
    {K V : Type 0} → (K → K → Ordering) → (V → List K) → List (K × V) → List K → Cyclic ℕ → Type 0
IsCyclicAmong {K} R P m keys (At i) =
    (i < length keys) × ((k : K) → IsAt R keys k i → IsAncestorOf R P m k k)
IsCyclicAmong R P m keys Memory = Unit {0}
