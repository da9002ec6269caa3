-- Values in which the keys of each record strictly ascend.
use Rattle.std.specs.Prelude.{⊤, List, [], ◌∷◌}
use Rattle.cedar_builders.specs.BareExpr.{Text}
use Rattle.cedar_builders.specs.Keys.{IsAscending}
use Rattle.semantics_values.specs.BareValue.{BareValue, LitValue, SetValue, RecordValue, ExtensionValue, BareValues, no_values, value, BarePairs, no_pairs, pair}

-- the keys of a record
abbrev pub pair_keys : {X : Type 0} → BarePairs X → List Text
pair_keys no_pairs = []
pair_keys (pair k t ps) = k ∷ pair_keys ps

abbrev mutual
  -- the keys of each record inside a value ascend, and its own
  pub KeysAscend : {X : Type 0} → BareValue X → Type 0
  KeysAscend (LitValue l) = ⊤
  KeysAscend (SetValue ts) = MemberKeysAscend ts
  KeysAscend (RecordValue ps) = IsAscending (pair_keys ps) × PairKeysAscend ps
  KeysAscend (ExtensionValue x g) = ⊤

  -- those inside each member of a set
  pub MemberKeysAscend : {X : Type 0} → BareValues X → Type 0
  MemberKeysAscend no_values = ⊤
  MemberKeysAscend (value t ts) = KeysAscend t × MemberKeysAscend ts

  -- those inside each value of a record
  pub PairKeysAscend : {X : Type 0} → BarePairs X → Type 0
  PairKeysAscend no_pairs = ⊤
  PairKeysAscend (pair k t ps) = KeysAscend t × PairKeysAscend ps
