-- The pairs that a record is made of.
use Rattle.std.specs.Prelude.{◌≡◌, Bool, true, not, ◌&&◌, IsTrue, List, [], ◌∷◌, ◌++◌, map, fold, nat_eq, IsPermutation}
use Rattle.std.specs.BTreeMap.{insert_entry}
use Rattle.std.specs.Global.{Global}
use Rattle.std.specs.Ordering.{nat_cmp}
use Rattle.std.specs.List.{list_any}
use Rattle.std.specs.List.Sorted.{IsStrictlySortedBy}
use Rattle.std.specs.Rc.{rc_str_bytes}
use Rattle.std.specs.Cmp.Lexicographic.{slice_cmp, pointwise}
use Rattle.std.specs.declared.rc.RcStr.{RcStr}
use Rattle.cedar_builders.specs.BareExpr.{Text}

-- the keys of some pairs, as texts
abbrev pub keys_of : {A : Type 0} → List (RcStr Global × A) → List Text
keys_of = map (λ p. rc_str_bytes p.0)

-- the keys as texts, each with what its value means
abbrev pub meant_pairs : {A M : Type 0} → (A → M) → List (RcStr Global × A) → List (Text × M)
meant_pairs f = map (λ p. (rc_str_bytes p.0, f p.1))

-- each key is below those behind it, by bytes
abbrev pub IsAscending : List Text → Type 0
IsAscending = IsStrictlySortedBy (slice_cmp nat_cmp)

-- whether a key is one of these
abbrev pub is_among : Text → List Text → Bool
is_among k ks = list_any (λ l. pointwise nat_eq k l) ks

-- whether no key stands twice
abbrev pub are_distinct : List Text → Bool
are_distinct [] = true
are_distinct (k ∷ ks) = not (is_among k ks) && are_distinct ks

-- some key stands twice
abbrev pub HasRepeat : List Text → Type 0
HasRepeat ks = IsTrue (not (are_distinct ks))

-- pairs with each key as its text
abbrev pub keyed : {A : Type 0} → List (RcStr Global × A) → List (Text × A)
keyed = map (λ p. (rc_str_bytes p.0, p.1))

-- the pairs in the order of their keys: each is put to its place in turn
abbrev pub in_key_order : {A : Type 0} → List (Text × A) → List (Text × A)
in_key_order ps = fold (λ es p. insert_entry (slice_cmp nat_cmp) es p.0 p.1) [] ps

-- they are the same pairs, and their keys ascend
pub record IsInKeyOrder {A : Type 0} (ps es : List (Text × A)) : Type 0 where
  pub same : IsPermutation ps es
  pub ascends : IsAscending (map (λ e. e.0) es)

-- the first key that stands behind an equal one
pub record IsFirstRepeat (ks : List Text) (k : Text) : Type 0 where
  pub before : List Text
  pub after : List Text
  pub split : ks ≡ before ++ (k ∷ after)
  pub distinct : IsTrue (are_distinct before)
  pub stood : IsTrue (is_among k before)
