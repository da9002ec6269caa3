-- The keys of the records inside a value ascend where they ascend in each value inside.
use Rattle.std.proofs.Common.{◌≡◌, List, [], ◌∷◌, map, sym, subst, Global, Less, nat_cmp}
use Rattle.std.specs.Cmp.Lexicographic.{slice_cmp}
use Rattle.std.specs.List.{AllByRecursion}
use Rattle.std.specs.List.Sorted.{IsStrictlySortedBy}
use Rattle.std.specs.Map.{keys_of}
use Rattle.std.specs.Rc.{rc_str_bytes}
use Rattle.std.specs.declared.rc.RcStr.{RcStr}
use Rattle.cedar_builders.specs.Keys.{IsAscending}
use Rattle.semantics_values.specs.BareValue.{SetValue, RecordValue, values_of}
use Rattle.semantics_values.specs.AscendingKeys.{KeysAscend, MemberKeysAscend, PairKeysAscend, pair_keys}
use Rattle.cedar_values.specs.BareValues.{bare_set, bare_value}
use Rattle.cedar_values.specs.Conversions.{bare_pairs}
use Rattle.cedar_values.specs.Records.{key_cmp}
use Rattle.cedar_values.specs.Sets.{members}
use Rattle.cedar_values.specs.declared.set.Set.{Set}
use Rattle.cedar_values.specs.declared.value.Value.{Value}
use Rattle.cedar_values.proofs.WellFormedSets.{set_values}

module _ {X : Type 0} where
  -- in each of some values, in the value of each of some pairs
  abbrev pub AscendIn : List (Value X) → Type 0
  AscendIn vs = AllByRecursion (λ v. KeysAscend (bare_value v)) vs

  abbrev pub AscendInPairs : List (RcStr Global × Value X) → Type 0
  AscendInPairs es = AllByRecursion (λ e. KeysAscend (bare_value e.1)) es

  in_members : (vs : List (Value X)) → AscendIn vs → MemberKeysAscend (values_of (map bare_value vs))
  in_members [] h = tt
  in_members (v ∷ vs) h = (h.0, in_members vs h.1)

  pub set_ascends : (s : Set X) → AscendIn (members s) → KeysAscend (SetValue (bare_set s))
  set_ascends s h = subst MemberKeysAscend (sym (set_values s)) (in_members (members s) h)

  in_pairs : (es : List (RcStr Global × Value X)) → AscendInPairs es → PairKeysAscend (bare_pairs es)
  in_pairs [] h = tt
  in_pairs (e ∷ es) h = (h.0, in_pairs es h.1)

  below : (k : RcStr Global) (es : List (RcStr Global × Value X))
      → AllByRecursion (λ y. key_cmp k y ≡ Less) (keys_of es)
      → AllByRecursion (λ y. slice_cmp nat_cmp (rc_str_bytes k) y ≡ Less) (pair_keys (bare_pairs es))
  below k [] h = tt
  below k (e ∷ es) h = (h.0, below k es h.1)

  own_keys : (es : List (RcStr Global × Value X)) → IsStrictlySortedBy key_cmp (keys_of es)
      → IsAscending (pair_keys (bare_pairs es))
  unfolding IsStrictlySortedBy
  own_keys [] h = tt
  own_keys (e ∷ es) h = (below e.0 es h.0, own_keys es h.1)

  pub record_ascends : (es : List (RcStr Global × Value X)) → IsStrictlySortedBy key_cmp (keys_of es)
      → AscendInPairs es → KeysAscend (RecordValue (bare_pairs es))
  record_ascends es ordered h = (own_keys es ordered, in_pairs es h)
