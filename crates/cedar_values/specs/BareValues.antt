-- The value tree of a value.
use Rattle.std.specs.Prelude.{Option, option_map}
use Rattle.cedar_names.specs.Place.{Place}
use Rattle.cedar_terms.specs.Literals.{bare_literal}
use Rattle.cedar_builders.specs.Keys.{keyed}
use Rattle.semantics_values.specs.BareValue.{BareValue, BareValues, LitValue, SetValue, RecordValue, ExtensionValue, values_of, pairs_of}
use Rattle.cedar_values.specs.BareCalls.{bare_call}
use Rattle.cedar_values.specs.declared.extension_value.RepresentableExtensionValue.{RepresentableExtensionValue}
use Rattle.cedar_values.specs.declared.value.ValueKind.{ValueKind, fold-ValueKind}
use Rattle.cedar_values.specs.declared.value.ValueKind.TheOpen.{ValueKind-F, Value-F, Set-F}
use Rattle.cedar_values.specs.declared.value.Value.{Value, fold-Value}
use Rattle.cedar_values.specs.declared.set.Set.{Set, fold-Set}

-- what an extension value is, whatever its representation
abbrev pub extension_of : {X : Type 0} → RepresentableExtensionValue X → X
extension_of e = e.value

-- an extension value with the representation that was given
abbrev pub bare_representable : {X : Type 0} → RepresentableExtensionValue X → BareValue X
bare_representable e = ExtensionValue e.value (option_map bare_call e.given)

-- one level, where each value inside is already its tree
abbrev pub kind_step : {X : Type 0} → ValueKind-F X (BareValue X) (BareValues X) (BareValue X) → BareValue X
kind_step (ValueKind-F.Lit l) = LitValue (bare_literal l)
kind_step (ValueKind-F.Set s) = SetValue s
kind_step (ValueKind-F.Record m) = RecordValue (pairs_of (keyed m.value.entries))
kind_step (ValueKind-F.ExtensionValue e) = bare_representable e.value

abbrev pub set_step : {X : Type 0} → Set-F X (BareValue X) (BareValues X) (BareValue X) → BareValues X
set_step s = values_of s.authoritative.value.items

abbrev pub value_step : {X : Type 0} → Value-F X (BareValue X) (BareValues X) (BareValue X) → BareValue X
value_step v = v.value

-- the tree of a kind
abbrev pub bare_value_kind : {X : Type 0} → ValueKind X → BareValue X
bare_value_kind {X} = fold-ValueKind X (BareValue X) (BareValues X) (BareValue X) kind_step set_step value_step

-- the trees of a set's members
abbrev pub bare_set : {X : Type 0} → Set X → BareValues X
bare_set {X} = fold-Set X (BareValue X) (BareValues X) (BareValue X) kind_step set_step value_step

-- the tree of a value
abbrev pub bare_value : {X : Type 0} → Value X → BareValue X
bare_value {X} = fold-Value X (BareValue X) (BareValues X) (BareValue X) kind_step set_step value_step

-- the kind of a value
abbrev pub kind_of : {X : Type 0} → Value X → ValueKind X
kind_of v = v.value

-- the place of a value, if known
abbrev pub value_place : {X : Type 0} → Value X → Option Place
value_place v = v.loc
