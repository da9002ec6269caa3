-- Stores of entries by key, each of which lists its parents.
use Rattle.std.specs.Prelude.{◌≡◌, ◌↔◌, ◌⊎◌, Bool, false, IsTrue, List, None, Some}
use Rattle.std.specs.List.{Contains}
use Rattle.std.specs.declared.cmp.Ordering.{Ordering}
use Rattle.std.specs.declared.cmp.Ordering.TheVariants.{Equal}
use Rattle.cedar_sorted_slices.specs.Classes.{has_class}
use Rattle.cedar_ancestors.specs.Keyed.{entry_at, IsParentOf, IsAncestorOf}
use Rattle.cedar_ancestors.specs.declared.store.StoreError.{StoreError}
use Rattle.cedar_ancestors.specs.declared.store.StoreError.TheVariants.{Duplicate, Cycle, MissingParent, Memory}

-- a key has an entry
abbrev pub HasEntry : {K V : Type 0} → (K → K → Ordering) → List (K × V) → K → Type 0
HasEntry {V = V} R m k = (w : V) × (entry_at R m k ≡ Some w)

-- each of these keys has an entry
abbrev pub HaveEntries : {K V : Type 0} → (K → K → Ordering) → List (K × V) → List K → Type 0
HaveEntries {K} R m keys = (k : K) → IsTrue (has_class R keys k) → HasEntry R m k

-- each parent has an entry; P gives the parents that an entry lists
abbrev pub KnowsAllParents :
    {K V : Type 0} → (K → K → Ordering) → (V → List K) → List (K × V) → Type 0
KnowsAllParents {K} R P m =
    (child parent : K) → IsParentOf R P m child parent → HasEntry R m parent

-- what has an entry keeps it
abbrev pub EntriesStay :
    {K V : Type 0} → (K → K → Ordering) → List (K × V) → List (K × V) → Type 0
EntriesStay {K} {V} R m n =
    (k : K) (w : V) → entry_at R m k ≡ Some w → entry_at R n k ≡ Some w

-- if each parent has an entry, what has one keeps its ancestors where entries are added
abbrev pub AncestorsStay : {K V : Type 0} → (K → K → Ordering) → (V → List K) → Type 0
AncestorsStay {K} {V} R P =
    (m n : List (K × V)) → KnowsAllParents R P m → EntriesStay R m n
    → (k a : K) → HasEntry R m k → IsAncestorOf R P m k a ↔ IsAncestorOf R P n k a

-- F is the equality of entries, and `key` says the key of one
module _ {K V : Type 0} (R : K → K → Ordering) (F : V → V → Bool) (key : V → K) where
  -- at its key there is an entry that is equal
  pub record IsThere (m : List (K × V)) (v : V) : Type 0 where
    pub kept : V
    pub at : entry_at R m (key v) ≡ Some kept
    pub equal : IsTrue (F kept v)

  -- an entry was added
  pub record HasAdded (m n : List (K × V)) (v : V) : Type 0 where
    pub there : IsThere n v
    pub stays : EntriesStay R m n
    pub only :
        (k : K) (w : V) → entry_at R n k ≡ Some w
        → (entry_at R m k ≡ Some w) ⊎ ((w ≡ v) × (R (key v) k ≡ Equal))

  -- the entries of a list were added: each is there, what was there stays, and there is nothing else
  pub record HasMore (m n : List (K × V)) (vs : List V) : Type 0 where
    pub there : (v : V) → Contains vs v → IsThere n v
    pub stays : EntriesStay R m n
    pub only :
        (k : K) (w : V) → entry_at R n k ≡ Some w
        → (entry_at R m k ≡ Some w) ⊎ (Contains vs w × (R (key w) k ≡ Equal))

  -- one of the list has this key, at which another one stands that is not equal
  pub record IsDuplicate (m : List (K × V)) (vs : List V) (k : K) : Type 0 where
    pub given : V
    pub other : V
    pub is_given : Contains vs given
    pub at : R (key given) k ≡ Equal
    pub stands :
        (entry_at R m k ≡ Some other) ⊎ (Contains vs other × (R (key other) k ≡ Equal))
    pub differs : F other given ≡ false

  -- why an entry was not added
  abbrev pub IsRefusalAt : List (K × V) → V → StoreError K → Type 0
  IsRefusalAt m v (Duplicate k) =
      (w : V) × (entry_at R m k ≡ Some w) × (F w v ≡ false) × (R (key v) k ≡ Equal)
  IsRefusalAt m v Memory = Unit {0}
  IsRefusalAt m v e = ⊥

  -- why those of a list were not
  abbrev pub IsRefusalOfAll : List (K × V) → List V → StoreError K → Type 0
  IsRefusalOfAll m vs (Duplicate k) = IsDuplicate m vs k
  IsRefusalOfAll m vs Memory = Unit {0}
  IsRefusalOfAll m vs e = ⊥

-- why entries are no store: a key is its own ancestor, or has no entry
abbrev pub IsRefusedFor :
    {K V : Type 0} → (K → K → Ordering) → (V → List K) → List (K × V) → StoreError K → Type 0
IsRefusedFor R P m (Duplicate k) = ⊥
IsRefusedFor R P m (Cycle k) = IsAncestorOf R P m k k
IsRefusedFor R P m (MissingParent k) = entry_at R m k ≡ None
IsRefusedFor R P m Memory = Unit {0}

-- why those of a list are no store, with what was there: two differ, or they are none when added
abbrev pub IsRefusedStore :
    {K V : Type 0} → (K → K → Ordering) → (V → V → Bool) → (V → K) → (V → List K)
    → List (K × V) → List V → StoreError K → Type 0
IsRefusedStore R F key P m vs (Duplicate k) = IsDuplicate R F key m vs k
IsRefusedStore R F key P m vs Memory = Unit {0}
IsRefusedStore {K} {V} R F key P m vs e =
    (n : List (K × V)) × HasMore R F key m n vs × IsRefusedFor R P n e
