-- Maps that are made in the order of their keys.
use Rattle.std.proofs.Common.{◌≡◌, List, [], ◌∷◌, ◌++◌, map, refl, ap, ◌∙◌, Global, Less, nat_cmp}
use Rattle.std.specs.List.{AllByRecursion}
use Rattle.std.specs.List.Sorted.{IsStrictlySortedBy}
use Rattle.std.specs.Map.{keys_of}
use Rattle.std.specs.Ordering.{ordering_reverse, match_ordering}
use Rattle.std.specs.Rc.{rc_str_bytes}
use Rattle.std.specs.BTreeMap.{insert_entry}
use Rattle.std.specs.Cmp.Lexicographic.{slice_cmp, nat_list_cmp_total}
use Rattle.std.specs.declared.rc.RcStr.{RcStr}
use Rattle.cedar_values.specs.Keyed.{IsAbove}
use Rattle.cedar_values.specs.Records.{key_cmp}

pub inserted_last : {V : Type 0} (es : List (RcStr Global × V)) (k : RcStr Global) (v : V) → IsAbove k es → insert_entry key_cmp es k v ≡ es ++ (k, v) ∷ []
inserted_last [] k v h = refl
inserted_last (e ∷ es) k v h =
    ap (λ o. match_ordering o ((k, v) ∷ e ∷ es) ((e.0, v) ∷ es) (e ∷ insert_entry key_cmp es k v)) h.0 ∙ ap (λ xs. e ∷ xs) (inserted_last es k v h.1)

below_later : {A : Type 0} (first : RcStr Global × A) (es : List (RcStr Global × A)) (e : RcStr Global × A) (more : List (RcStr Global × A)) → AllByRecursion (λ y. key_cmp first.0 y ≡ Less) (keys_of (es ++ e ∷ more)) → key_cmp first.0 e.0 ≡ Less
below_later first [] e more h = h.0
below_later first (x ∷ es) e more h = below_later first es e more h.1

module _ {A B : Type 0} where
  -- the key of the next entry is above the keys that were copied from the entries before it
  pub above : (seen : List (RcStr Global × A)) (made : List (RcStr Global × B)) (e : RcStr Global × A) (more : List (RcStr Global × A)) (k : RcStr Global)
      → map (λ (p : RcStr Global × B). rc_str_bytes p.0) made ≡ map (λ (p : RcStr Global × A). rc_str_bytes p.0) seen → IsStrictlySortedBy key_cmp (keys_of (seen ++ e ∷ more)) → rc_str_bytes k ≡ rc_str_bytes e.0
      → IsAbove k made
  unfolding IsStrictlySortedBy
  above [] [] e more k same sorted key = tt
  above [] (m ∷ made) e more k same sorted key = cc
  above (s ∷ seen) [] e more k same sorted key = tt
  above (s ∷ seen) (m ∷ made) e more k same sorted key =
      let head : rc_str_bytes m.0 ≡ rc_str_bytes s.0 = cc in (
        (λ i. slice_cmp nat_cmp (key i) (head i)) ∙ nat_list_cmp_total.antisymm (rc_str_bytes e.0) (rc_str_bytes s.0) ∙ ap ordering_reverse (below_later s seen e more sorted.0),
        above seen made e more k (cc) sorted.1 key,
      )
