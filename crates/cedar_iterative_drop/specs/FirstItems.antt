-- Rows whose first item was replaced.
use Rattle.std.proofs.Common.{◌≡◌, ℕ, ◌+◌, ◌≤◌, ◌<◌, sym, ap, subst, arith, Global, List, [], ◌∷◌, length, slice_index_or, slice_set, Equal, Option, Some, None, IfSome, Ok, Ordering, nat_cmp, ◌∙◌}
use Rattle.std.proofs.lemmas.Bool.{false≢true}
use Rattle.std.proofs.lemmas.Cmp.{nat_list_cmp_total, tied_itself}
use Rattle.std.specs.BTreeMap.{insert_entry}
use Rattle.std.specs.Cmp.Lexicographic.{slice_cmp}
use Rattle.std.specs.List.{slice_get}
use Rattle.std.specs.Map.{keys_of, values_of}
use Rattle.std.specs.Option.{is_some, unwrap_or}
use Rattle.std.specs.Ordering.{match_ordering}
use Rattle.std.specs.Rc.{rc_str_bytes}
use Rattle.std.specs.declared.rc.RcStr.{RcStr}
use Rattle.cedar_iterative_drop.specs.Rows.{row_nodes, pair_nodes, IsPut}

abbrev key_cmp : RcStr Global → RcStr Global → Ordering
key_cmp a b = slice_cmp nat_cmp (rc_str_bytes a) (rc_str_bytes b)

-- what stood in the place, of v nodes, and what is left
pub put : {B : Type 0} (g : B → ℕ) (m w n v : ℕ) (old : Option B) → IfSome old (λ b. g b ≡ v) → 0 < v → v ≤ m → v + n ≡ m + w → IsPut g m w n (Ok old)
put g m w n v None taken some fits all = omega (arith, some, all)
put g m w n v (Some b) taken some fits all = (omega (arith, taken, fits), omega (arith, taken, all))

module _ {I : Type 0} (f : I → ℕ) where
  -- the first item is a part of the row; another stands in its place
  pub first_fits : (xs : List I) (v : I) → 0 < length xs → v ≡ slice_index_or xs 0 v → f v ≤ row_nodes f xs
  first_fits [] v some at = omega (arith, some)
  first_fits (x ∷ xs) v some at = let same : f v ≡ f x = ap f at in omega (arith, same)

  pub first_replaced : (xs : List I) (v w : I) → 0 < length xs → v ≡ slice_index_or xs 0 v → f v + row_nodes f (slice_set xs 0 w) ≡ row_nodes f xs + f w
  first_replaced [] v w some at = omega (arith, some)
  first_replaced (x ∷ xs) v w some at = let same : f v ≡ f x = ap f at in omega (arith, same)

  -- the first value is a part of the map; another stands in its place
  pub value_fits : (es : List (RcStr Global × I)) (v : I) → slice_get (values_of es) 0 ≡ Some v → f v ≤ pair_nodes f es
  value_fits [] v first = absurd (false≢true (ap is_some first))
  value_fits (e ∷ es) v first = let same : f e.1 ≡ f v = ap (λ o. f (unwrap_or o v)) first in omega (arith, same)

  pub value_replaced : (es fs : List (RcStr Global × I)) (k : RcStr Global) (v w : I) → slice_get (keys_of es) 0 ≡ Some k → slice_get (values_of es) 0 ≡ Some v → fs ≡ insert_entry key_cmp es k w → f v + pair_nodes f fs ≡ pair_nodes f es + f w
  value_replaced [] fs k v w key first is = absurd (false≢true (ap is_some key))
  value_replaced (e ∷ es) fs k v w key first is =
      let tied : key_cmp k e.0 ≡ Equal = subst (λ x. key_cmp k x ≡ Equal) (sym (ap (λ o. unwrap_or o k) key)) (tied_itself nat_list_cmp_total (rc_str_bytes k)) in
      let inserted : insert_entry key_cmp (e ∷ es) k w ≡ (e.0, w) ∷ es = ap (λ o. match_ordering o ((k, w) ∷ e ∷ es) ((e.0, w) ∷ es) (e ∷ insert_entry key_cmp es k w)) tied in
      let same : f e.1 ≡ f v = ap (λ o. f (unwrap_or o v)) first in
      let now = ap (pair_nodes f) (is ∙ inserted) in
      omega (arith, now, same)
