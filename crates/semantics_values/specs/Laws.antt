-- The laws of values, over the definitions alone.
use Rattle.std.specs.Prelude.{◌≡◌, Bool, false, IsTrue, Some}
use Rattle.std.specs.declared.cmp.Ordering.{Ordering}
use Rattle.cedar_terms.specs.Types.{BareType}
use Rattle.cedar_builders.specs.BareExpr.{Text, BareExpr}
use Rattle.cedar_builders.specs.Environment.{Env}
use Rattle.cedar_builders.specs.Laws.{both, then}
use Rattle.semantics_values.specs.BareValue.{BareCall, BareValue}
use Rattle.semantics_values.specs.ValueOrder.{value_eq}
use Rattle.semantics_values.specs.WellFormed.{is_well_formed}
use Rattle.semantics_values.specs.ValueExpr.{value_expr, has_extension}
use Rattle.semantics_values.specs.Reading.{is_readable, IsValueOf, ReadsBack}

-- the expression of a well formed value is read back
abbrev pub ExpressionsReadBack : {X : Type 0} → (X → X → Ordering) → (X → X → Bool) → Type 0
ExpressionsReadBack {X} R E =
    (C : X → BareCall) (t : BareValue X) → IsTrue (is_well_formed R t)
    → ReadsBack R E (value_expr C t) t

-- what is read is well formed, of a readable tree alone, and one value up to sameness
pub record IsReading {X : Type 0} (R : X → X → Ordering) (E : X → X → Bool) : Type 0 where
  pub well_formed : (e : BareExpr) (t : BareValue X) → IsValueOf R e t → IsTrue (is_well_formed R t)
  pub readable : (e : BareExpr) (t : BareValue X) → IsValueOf R e t → IsTrue (is_readable e)
  pub one :
      (e : BareExpr) (t u : BareValue X) → IsValueOf R e t → IsValueOf R e u
      → IsTrue (value_eq E t u)

-- the environment binds names to values without extension values
abbrev pub BindsPlainValues : {X : Type 0} → (X → BareCall) → Env → Type 0
BindsPlainValues {X} C env =
    (n : Text) (r : BareType × BareExpr) → env n ≡ Some r
    → (t : BareValue X) × (has_extension t ≡ false) × (r.1 ≡ value_expr C t)

-- one environment after another binds what both bind, where the first one binds such values
abbrev pub ThenIsBothOfValues : Type 0 → Type 0
ThenIsBothOfValues X =
    (C : X → BareCall) (env1 env2 : Env) → BindsPlainValues C env1 → then env1 env2 ≡ both env1 env2

-- where there are no extension values, none is inside of a value
abbrev pub PlainWhereNone : Type 0 → Type 0
PlainWhereNone X = (X → ⊥) → (t : BareValue X) → has_extension t ≡ false
