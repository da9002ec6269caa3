-- What partial evaluation hands on (`PartialValue` of Cedar's `partial_value.rs`).
use Rattle.std.specs.Prelude.{◌≡◌, Bool, true, false, List, map, Option, Some, None, Result, Ok, Err, IsTrue}
use Rattle.std.specs.List.{AllZip, list_any}
use Rattle.std.specs.Global.{Global}
use Rattle.std.specs.Vec.Iter.{into_iter_items}
use Rattle.std.specs.declared.vec.IntoIter.{IntoIter}
use Rattle.cedar_names.specs.Place.{Place}
use Rattle.cedar_builders.specs.BareExpr.{BareExpr}
use Rattle.cedar_exprs.specs.BareExpr.{bare_expr, expr_place}
use Rattle.cedar_exprs.specs.BareExpr as exprs
use Rattle.cedar_exprs.specs.Walks.{children}
use Rattle.cedar_exprs.specs.declared.expr.Expr.{Expr}
use Rattle.either.specs.declared.Either.{Either}
use Rattle.either.specs.declared.Either.TheVariants.{Left, Right}
use Rattle.semantics_values.specs.BareValue.{BareCall}
use Rattle.semantics_values.specs.ValueExpr.{value_expr}
use Rattle.semantics_values.specs.ValueOrder.{value_eq}
use Rattle.cedar_values.specs.BareValues.{bare_value, kind_of, value_place}
use Rattle.cedar_values.specs.Kinds.{IsCopy}
use Rattle.cedar_values.specs.declared.partial_value.ContainsUnknown.{ContainsUnknown}
use Rattle.cedar_values.specs.declared.partial_value.PartialValue.{PartialValue}
use Rattle.cedar_values.specs.declared.partial_value.PartialValue.TheVariants.{Value, Residual}
use Rattle.cedar_values.specs.declared.partial_value.PartialValueToValueError.{PartialValueToValueError}
use Rattle.cedar_values.specs.declared.partial_value.PartialValueToValueError.TheVariants as error
use Rattle.cedar_values.specs.declared.value.Value as value

-- the bare tree of its expression, where C says the canonical representation of an extension value
abbrev pub partial_expr : {X : Type 0} → (X → BareCall) → PartialValue X → BareExpr
partial_expr C (Value v) = value_expr C (bare_value v)
partial_expr C (Residual e) = bare_expr e

-- the outermost place
abbrev pub partial_place : {X : Type 0} → PartialValue X → Option Place
partial_place (Value v) = value_place v
partial_place (Residual e) = expr_place e

-- whether it is an expression that waits for its unknowns
abbrev pub is_residual : {X : Type 0} → PartialValue X → Bool
is_residual (Value v) = false
is_residual (Residual e) = true

-- it is a residual, of which P holds
abbrev pub IsResidualWith : {X : Type 0} → (Expr Unit → Type 0) → PartialValue X → Type 0
IsResidualWith P (Value v) = ⊥
IsResidualWith P (Residual e) = P e

-- the same at another place, with all that is inside
abbrev pub IsMoved : {X : Type 0} → Option Place → PartialValue X → PartialValue X → Type 0
IsMoved loc (Value v) (Value w) = (kind_of w ≡ kind_of v) × (value_place w ≡ loc)
IsMoved loc (Residual e) (Residual f) = (exprs.kind_of f ≡ exprs.kind_of e) × (expr_place f ≡ loc)
IsMoved loc p q = ⊥

-- the same, with all places
abbrev pub IsPartialCopy : {X : Type 0} → PartialValue X → PartialValue X → Type 0
IsPartialCopy (Value v) (Value w) =
    (bare_value w ≡ bare_value v) × (value_place w ≡ value_place v)
    × IsCopy (kind_of v) (kind_of w)
IsPartialCopy (Residual e) (Residual f) =
    (bare_expr f ≡ bare_expr e) × (expr_place f ≡ expr_place e) × (children f ≡ children e)
IsPartialCopy p q = ⊥

-- whether two are the same: values are where E says so of extension values, and expressions where F
-- says so
abbrev pub partial_eq : {X : Type 0} → (X → X → Bool) → (Expr Unit → Expr Unit → Bool)
    → PartialValue X → PartialValue X → Bool
partial_eq E F (Value v) (Value w) = value_eq E (bare_value v) (bare_value w)
partial_eq E F (Residual e) (Residual f) = F e f
partial_eq E F p q = false

-- the residual that an error holds
abbrev pub residual_of : ContainsUnknown → Expr Unit
residual_of e = e.residual

-- the value itself, or a refusal that holds the residual itself
abbrev pub GivesValue : {X : Type 0} → PartialValue X → Result (value.Value X) PartialValueToValueError → Type 0
GivesValue (Value v) (Ok w) = w ≡ v
GivesValue (Residual e) (Err (error.ContainsUnknown x)) = residual_of x ≡ e
GivesValue p r = ⊥

-- the value, if it is one
abbrev pub value_in : {X : Type 0} → PartialValue X → Option (value.Value X)
value_in (Value v) = Some v
value_in (Residual e) = None

-- it is the expression of the item, at its place: the residual itself, or that of the value
abbrev pub IsExprOf : {X : Type 0} → (X → BareCall) → PartialValue X → Expr Unit → Type 0
IsExprOf C (Value v) e = (bare_expr e ≡ value_expr C (bare_value v)) × (expr_place e ≡ value_place v)
IsExprOf C (Residual r) e = e ≡ r

-- an iterator over values, or over expressions
abbrev pub Sides : Type 0 → Type 0
Sides X = Either (IntoIter (value.Value X) Global) (IntoIter (Expr Unit) Global)

-- on the left the items are these values, one by one; on the right some item is a residual, and
-- these are the expressions of all items, one by one
abbrev pub IsSplit : {X : Type 0} → (X → BareCall) → List (PartialValue X) → Sides X → Type 0
IsSplit C items (Left values) = items ≡ map (λ v. Value v) (into_iter_items values)
IsSplit C items (Right exprs) =
    IsTrue (list_any is_residual items) × AllZip (IsExprOf C) items (into_iter_items exprs)
