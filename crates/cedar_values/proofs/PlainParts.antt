-- Whether an extension value is inside of a set or a record, by what they hold.
use Rattle.std.proofs.Common.{◌≡◌, ◌||◌, List, [], ◌∷◌, map, refl, ap, Global}
use Rattle.std.specs.List.{list_any}
use Rattle.std.specs.declared.rc.RcStr.{RcStr}
use Rattle.semantics_values.specs.BareValue.{values_of}
use Rattle.semantics_values.specs.ValueExpr.{has_extension, any_has_extension, any_pair_has_extension}
use Rattle.cedar_values.specs.BareValues.{bare_value}
use Rattle.cedar_values.specs.Conversions.{bare_pairs}
use Rattle.cedar_values.specs.declared.value.Value.{Value}

module _ {X : Type 0} where
  pub any_member : (vs : List (Value X)) → any_has_extension (values_of (map bare_value vs))
      ≡ list_any (λ v. has_extension (bare_value v)) vs
  any_member [] = refl
  any_member (v ∷ vs) = ap (λ b. has_extension (bare_value v) || b) (any_member vs)

  pub any_pair : (es : List (RcStr Global × Value X)) → any_pair_has_extension (bare_pairs es)
      ≡ list_any (λ e. has_extension (bare_value e.1)) es
  any_pair [] = refl
  any_pair (e ∷ es) = ap (λ b. has_extension (bare_value e.1) || b) (any_pair es)
