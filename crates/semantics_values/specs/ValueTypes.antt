-- The types of values (`Value::type_of` of Cedar's `value.rs`).
use Rattle.cedar_names.specs.Names.{BareName}
use Rattle.cedar_terms.specs.Types.{BareType, literal_type, SetType, RecordType, ExtensionType}
use Rattle.semantics_values.specs.BareValue.{BareValue, LitValue, SetValue, RecordValue, ExtensionValue}

-- the type of a value, where N says the name of an extension value's type
abbrev pub value_type : {X : Type 0} → (X → BareName) → BareValue X → BareType
value_type N (LitValue l) = literal_type l
value_type N (SetValue ts) = SetType
value_type N (RecordValue ps) = RecordType
value_type N (ExtensionValue x g) = ExtensionType (N x)
