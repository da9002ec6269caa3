-- A map of well formed values binds values without extension values.
use Rattle.std.proofs.Common.{◌≡◌, Bool, false, Option, Some, None, option_map, sym, ap}
use Rattle.std.specs.HashMap.{get_by}
use Rattle.std.specs.Rc.{rc_str_bytes}
use Rattle.std.specs.Str.{bytes_eq}
use Rattle.std.specs.declared.cmp.Ordering.{Ordering}
use Rattle.cedar_terms.specs.Types.{BareType}
use Rattle.cedar_builders.specs.BareExpr.{BareExpr}
use Rattle.semantics_values.specs.BareValue.{BareValue}
use Rattle.semantics_values.specs.Laws.{BindsPlainValues}
use Rattle.semantics_values.specs.ValueExpr.{has_extension, value_expr}
use Rattle.cedar_values.specs.BareValues.{bare_value}
use Rattle.cedar_values.specs.Holders.{NoExtension, held_call, held_name}
use Rattle.cedar_values.specs.WellFormedValues.{WellFormedMap, tree_of, type_of, value_of, well_formed_env}
use Rattle.cedar_values.specs.declared.well_formed.WellFormedValue.{WellFormedValue}

module _ {R : NoExtension → NoExtension → Ordering} {E : NoExtension → NoExtension → Bool}
    {P : NoExtension → NoExtension → Option Ordering}
    (plain : (t : BareValue NoExtension) → has_extension t ≡ false)
  where
    entry_of : (o : Option (WellFormedValue NoExtension (record { cmp = R }) (record { eq = E })
        (record { partial_cmp = P }))) (r : BareType × BareExpr)
        → option_map (λ w. (type_of held_name w, tree_of held_call w)) o ≡ Some r
        → (t : BareValue NoExtension) × (has_extension t ≡ false) × (r.1 ≡ value_expr held_call t)
    entry_of None r h = cc
    entry_of (Some w) r h = (bare_value (value_of w), plain (bare_value (value_of w)), sym (ap second h))
      where
        second : Option (BareType × BareExpr) → BareExpr
        second None = tree_of held_call w
        second (Some p) = p.1

    pub binds_plain : (m : WellFormedMap NoExtension R E P)
        → BindsPlainValues {X = NoExtension} held_call (well_formed_env m)
    binds_plain m n r h = entry_of (get_by (λ k. bytes_eq n (rc_str_bytes k)) m) r h
