-- A map of values without extension values binds such values.
use Rattle.std.proofs.Common.{◌≡◌, false, Option, Some, None, option_map, refl, sym, ap}
use Rattle.std.specs.HashMap.{get_by}
use Rattle.std.specs.Rc.{rc_str_bytes}
use Rattle.std.specs.Str.{bytes_eq}
use Rattle.cedar_names.specs.Names.{BareName}
use Rattle.cedar_terms.specs.Types.{BareType}
use Rattle.cedar_builders.specs.BareExpr.{BareExpr}
use Rattle.semantics_values.specs.BareValue.{BareCall, BareValue}
use Rattle.semantics_values.specs.Laws.{BindsPlainValues}
use Rattle.semantics_values.specs.ValueExpr.{has_extension, value_expr}
use Rattle.semantics_values.specs.ValueTypes.{value_type}
use Rattle.cedar_values.specs.BareValues.{bare_value}
use Rattle.cedar_values.specs.ValueMaps.{ValueMap, values_env, HasPlainValues}
use Rattle.cedar_values.specs.declared.value.Value.{Value}

module _ {X : Type 0} (N : X → BareName) (C : X → BareCall) where
  abbrev entry : Value X → BareType × BareExpr
  entry v = (value_type N (bare_value v), value_expr C (bare_value v))

  entry_of : (o : Option (Value X)) → ((v : Value X) → o ≡ Some v → has_extension (bare_value v) ≡ false) → (r : BareType × BareExpr) → option_map entry o ≡ Some r
      → (t : BareValue X) × (has_extension t ≡ false) × (r.1 ≡ value_expr C t)
  entry_of None plain r h = cc
  entry_of (Some v) plain r h = (bare_value v, plain v refl, expr_of h)
    where
      second : Option (BareType × BareExpr) → BareExpr
      second None = value_expr C (bare_value v)
      second (Some p) = p.1

      expr_of : Some (entry v) ≡ Some r → r.1 ≡ value_expr C (bare_value v)
      expr_of h = sym (ap second h)

  pub binds_plain : (m : ValueMap X) → HasPlainValues m → BindsPlainValues C (values_env N C m)
  binds_plain m plain n r h = entry_of (get_by (λ k. bytes_eq n (rc_str_bytes k)) m) (plain n) r h
