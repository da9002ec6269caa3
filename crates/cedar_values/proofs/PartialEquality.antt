-- Equality of partial values, case by case.
use Rattle.std.proofs.Common.{◌≡◌, Bool, false}
use Rattle.cedar_exprs.specs.declared.expr.Expr.{Expr}
use Rattle.semantics_values.specs.ValueOrder.{value_eq}
use Rattle.cedar_values.specs.BareValues.{bare_value}
use Rattle.cedar_values.specs.PartialValues.{partial_eq}
use Rattle.cedar_values.specs.declared.partial_value.PartialValue.{PartialValue}
use Rattle.cedar_values.specs.declared.partial_value.PartialValue.TheVariants.{Residual, Value}
use Rattle.cedar_values.specs.declared.value.Value as value

pub by_cases : {X : Type 0} (E : X → X → Bool) (F : Expr Unit → Expr Unit → Bool) (D : PartialValue X → PartialValue X → Bool)
    → ((v w : value.Value X) → D (Value v) (Value w) ≡ value_eq E (bare_value v) (bare_value w))
    → ((e f : Expr Unit) → D (Residual e) (Residual f) ≡ F e f)
    → ((v : value.Value X) (f : Expr Unit) → D (Value v) (Residual f) ≡ false)
    → ((e : Expr Unit) (w : value.Value X) → D (Residual e) (Value w) ≡ false)
    → (a b : PartialValue X) → D a b ≡ partial_eq E F a b
by_cases E F D values exprs left right (Value v) (Value w) = values v w
by_cases E F D values exprs left right (Value v) (Residual f) = left v f
by_cases E F D values exprs left right (Residual e) (Value w) = right e w
by_cases E F D values exprs left right (Residual e) (Residual f) = exprs e f
