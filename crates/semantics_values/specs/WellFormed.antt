-- Well formed values: the list of each set inside ascends strictly (`Set` of Cedar's `value.rs`).
use Rattle.std.specs.Prelude.{Bool, true, ◌&&◌}
use Rattle.std.specs.declared.cmp.Ordering.{Ordering}
use Rattle.cedar_sorted_slices.specs.Classes.{ascends}
use Rattle.semantics_values.specs.BareValue.{BareValue, LitValue, SetValue, RecordValue, ExtensionValue, BareValues, no_values, value, list_of, BarePairs, no_pairs, pair}
use Rattle.semantics_values.specs.ValueOrder.{value_cmp}

abbrev mutual
  -- whether a value is well formed
  pub is_well_formed : {X : Type 0} → (X → X → Ordering) → BareValue X → Bool
  is_well_formed R (LitValue l) = true
  is_well_formed R (SetValue ts) = ascends (value_cmp R) (list_of ts) && are_well_formed R ts
  is_well_formed R (RecordValue ps) = pairs_are_well_formed R ps
  is_well_formed R (ExtensionValue x g) = true

  -- whether each member is well formed
  pub are_well_formed : {X : Type 0} → (X → X → Ordering) → BareValues X → Bool
  are_well_formed R no_values = true
  are_well_formed R (value t ts) = is_well_formed R t && are_well_formed R ts

  -- whether each value of a record is well formed
  pub pairs_are_well_formed : {X : Type 0} → (X → X → Ordering) → BarePairs X → Bool
  pairs_are_well_formed R no_pairs = true
  pairs_are_well_formed R (pair k t ps) = is_well_formed R t && pairs_are_well_formed R ps
