-- Maps of values, as what they bind names to (`Expr::substitute` of Cedar's `expr.rs`).
use Rattle.std.specs.Prelude.{◌≡◌, false, Some}
use Rattle.std.specs.Global.{Global}
use Rattle.std.specs.HashMap.{HashMap, get_by}
use Rattle.std.specs.Rc.{rc_str_bytes}
use Rattle.std.specs.Str.{bytes_eq}
use Rattle.std.specs.declared.hash.BuildHasherDefault.{BuildHasherDefault}
use Rattle.std.specs.declared.hash.FoldHasher.{FoldHasher}
use Rattle.std.specs.declared.rc.RcStr.{RcStr}
use Rattle.cedar_names.specs.Names.{BareName}
use Rattle.cedar_builders.specs.BareExpr.{Text}
use Rattle.cedar_builders.specs.Environment.{Env}
use Rattle.cedar_builders.specs.Laws.{both, then}
use Rattle.cedar_exprs.specs.RestrictedExprs.{env_of}
use Rattle.semantics_values.specs.BareValue.{BareCall}
use Rattle.semantics_values.specs.ValueExpr.{has_extension, value_expr}
use Rattle.semantics_values.specs.ValueTypes.{value_type}
use Rattle.cedar_values.specs.BareValues.{bare_value}
use Rattle.cedar_values.specs.declared.value.Value.{Value}

-- values by name
abbrev pub ValueMap : Type 0 → Type 0
ValueMap X = HashMap (RcStr Global) (Value X) (BuildHasherDefault FoldHasher)

-- each name with the type and the expression of its value, where N says the name of an extension
-- value's type and C its canonical representation
abbrev pub values_env : {X : Type 0} → (X → BareName) → (X → BareCall) → ValueMap X → Env
values_env N C = env_of (λ v. value_type N (bare_value v)) (λ v. value_expr C (bare_value v))

-- no extension value is inside of a value of the map
abbrev pub HasPlainValues : {X : Type 0} → ValueMap X → Type 0
HasPlainValues {X} m =
    (name : Text) (v : Value X) → get_by (λ k. bytes_eq name (rc_str_bytes k)) m ≡ Some v
    → has_extension (bare_value v) ≡ false

-- one map after another binds what both bind, where the first one has such values
abbrev pub ThenIsBothOfMaps : {X : Type 0} → (X → BareName) → (X → BareCall) → Type 0
ThenIsBothOfMaps {X} N C =
    (first second : ValueMap X) → HasPlainValues first
    → then (values_env N C first) (values_env N C second)
    ≡ both (values_env N C first) (values_env N C second)
