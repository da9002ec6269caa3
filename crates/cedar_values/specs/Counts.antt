-- How many values there are inside values.
use Rattle.std.specs.Prelude.{ℕ, suc, ◌+◌, ◌<◌, List, map}
use Rattle.std.proofs.Common.{arith}
use Rattle.semantics_values.specs.BareValue.{BareValue, LitValue, SetValue, RecordValue, ExtensionValue, BareValues, no_values, value, BarePairs, no_pairs, pair, values_of}
use Rattle.cedar_values.specs.BareValues.{bare_value, bare_value_kind}
use Rattle.cedar_values.specs.declared.value.Value.{Value}
use Rattle.cedar_values.specs.declared.value.ValueKind.{ValueKind}

abbrev mutual
  -- how many values a value has, itself and those inside
  pub nodes : {X : Type 0} → BareValue X → ℕ
  nodes (LitValue l) = 1
  nodes (SetValue ts) = suc (member_nodes ts)
  nodes (RecordValue ps) = suc (pair_nodes ps)
  nodes (ExtensionValue x g) = 1

  -- how many the members of a set have
  pub member_nodes : {X : Type 0} → BareValues X → ℕ
  member_nodes no_values = 0
  member_nodes (value t ts) = nodes t + member_nodes ts

  -- how many those of a record have
  pub pair_nodes : {X : Type 0} → BarePairs X → ℕ
  pair_nodes no_pairs = 0
  pair_nodes (pair k t ps) = nodes t + pair_nodes ps

-- how many a value of a kind has, and a list of values
abbrev pub kind_nodes : {X : Type 0} → ValueKind X → ℕ
kind_nodes k = nodes (bare_value_kind k)

abbrev pub nodes_of : {X : Type 0} → List (Value X) → ℕ
nodes_of vs = member_nodes (values_of (map bare_value vs))

-- a value is one itself
pub has_nodes : {X : Type 0} (t : BareValue X) → 0 < nodes t
has_nodes (LitValue l) = omega arith
has_nodes (SetValue ts) = omega arith
has_nodes (RecordValue ps) = omega arith
has_nodes (ExtensionValue x g) = omega arith

pub kind_has_nodes : {X : Type 0} (k : ValueKind X) → 0 < kind_nodes k
kind_has_nodes k = has_nodes (bare_value_kind k)
