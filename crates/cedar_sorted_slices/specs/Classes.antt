-- Lists as finite sets of classes: two items are of one class where the order R answers `Equal`.
use Rattle.std.specs.Prelude.{◌≡◌, ◌↔◌, Bool, true, false, ◌&&◌, List, [], ◌∷◌, length, IsTrue}
use Rattle.std.specs.List.{list_all, list_any, Contains}
use Rattle.std.specs.List.Sorted.{IsStrictlySortedBy}
use Rattle.std.specs.Cmp.Lexicographic.{slice_cmp}
use Rattle.std.specs.Ordering.{eq_by_cmp, is_lt}
use Rattle.std.specs.declared.cmp.Ordering.{Ordering}
use Rattle.std.specs.declared.cmp.Ordering.TheVariants.{Equal}

-- whether the list has an item of the class of q
abbrev pub has_class : {K : Type 0} → (K → K → Ordering) → List K → K → Bool
has_class R xs q = list_any (eq_by_cmp R q) xs

-- whether each item is before the next
abbrev pub ascends : {K : Type 0} → (K → K → Ordering) → List K → Bool
ascends R [] = true
ascends R (x ∷ []) = true
ascends R (x ∷ y ∷ ys) = is_lt (R x y) && ascends R (y ∷ ys)

-- the two lists have the same classes
abbrev pub HaveSameClasses : {K : Type 0} → (K → K → Ordering) → List K → List K → Type 0
HaveSameClasses {K} R xs ys = (q : K) → has_class R xs q ≡ has_class R ys q

-- each class of the first list is in the second
abbrev pub IsPartOf : {K : Type 0} → (K → K → Ordering) → List K → List K → Type 0
IsPartOf {K} R xs ys = (q : K) → IsTrue (has_class R xs q) → IsTrue (has_class R ys q)

-- no class is in both lists
abbrev pub HaveNoneInCommon : {K : Type 0} → (K → K → Ordering) → List K → List K → Type 0
HaveNoneInCommon {K} R xs ys = (q : K) → IsTrue (has_class R xs q) → IsTrue (has_class R ys q) → ⊥

-- the first list ascends strictly and has the classes of the second, each as one of its items
pub record IsClassesOf {K : Type 0} (R : K → K → Ordering) (xs ys : List K) : Type 0 where
  pub ascending : IsStrictlySortedBy R xs
  pub same : HaveSameClasses R xs ys
  pub kept : (x : K) → Contains xs x → Contains ys x

-- strictly ascending lists have the same classes just where they tie item by item
abbrev pub TieWhereSame : {K : Type 0} → (K → K → Ordering) → Type 0
TieWhereSame {K} R =
    (xs ys : List K) → IsStrictlySortedBy R xs → IsStrictlySortedBy R ys
    → HaveSameClasses R xs ys ↔ (slice_cmp R xs ys ≡ Equal)

-- strictly ascending lists of the same classes are equally long
abbrev pub AreAsLong : {K : Type 0} → (K → K → Ordering) → Type 0
AreAsLong {K} R =
    (xs ys : List K) → IsStrictlySortedBy R xs → IsStrictlySortedBy R ys → HaveSameClasses R xs ys
    → length xs ≡ length ys

-- each class of a list is in another just where each item's class is
abbrev pub PartIsAll : {K : Type 0} → (K → K → Ordering) → Type 0
PartIsAll {K} R =
    (xs ys : List K) → IsPartOf R xs ys ↔ IsTrue (list_all (has_class R ys) xs)

-- no class is in both of two lists just where no item's class is in the other
abbrev pub NoneIsAny : {K : Type 0} → (K → K → Ordering) → Type 0
NoneIsAny {K} R =
    (xs ys : List K) → HaveNoneInCommon R xs ys ↔ (list_any (has_class R ys) xs ≡ false)
