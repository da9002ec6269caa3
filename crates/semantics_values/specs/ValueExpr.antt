-- The expression of a value (`Value::to_expr` of Cedar's `value.rs`).
use Rattle.std.specs.Prelude.{Bool, true, false, ◌||◌, Option, Some, None}
use Rattle.cedar_builders.specs.BareExpr.{BareExpr, Lit, ExtensionFunctionApp, Set, Record, BareExprs, no_trees, tree, BareFields, no_fields, field}
use Rattle.semantics_values.specs.BareValue.{BareCall, BareValue, LitValue, SetValue, RecordValue, ExtensionValue, BareValues, no_values, value, BarePairs, no_pairs, pair}

-- a call as an expression
abbrev pub call_expr : BareCall → BareExpr
call_expr c = ExtensionFunctionApp c.func c.args

-- the given representation, else the canonical one
abbrev pub given_or : BareCall → Option BareCall → BareCall
given_or c None = c
given_or c (Some g) = g

abbrev mutual
  -- the expression of a value, where C says the canonical representation of an extension value
  pub value_expr : {X : Type 0} → (X → BareCall) → BareValue X → BareExpr
  value_expr C (LitValue l) = Lit l
  value_expr C (SetValue ts) = Set (member_exprs C ts)
  value_expr C (RecordValue ps) = Record (pair_exprs C ps)
  value_expr C (ExtensionValue x g) = call_expr (given_or (C x) g)

  -- the expressions of the members of a set
  pub member_exprs : {X : Type 0} → (X → BareCall) → BareValues X → BareExprs
  member_exprs C no_values = no_trees
  member_exprs C (value t ts) = tree (value_expr C t) (member_exprs C ts)

  -- the keys of a record with the expressions of their values
  pub pair_exprs : {X : Type 0} → (X → BareCall) → BarePairs X → BareFields
  pair_exprs C no_pairs = no_fields
  pair_exprs C (pair k t ps) = field k (value_expr C t) (pair_exprs C ps)

abbrev mutual
  -- whether an extension value is inside, at any depth
  pub has_extension : {X : Type 0} → BareValue X → Bool
  has_extension (LitValue l) = false
  has_extension (SetValue ts) = any_has_extension ts
  has_extension (RecordValue ps) = any_pair_has_extension ps
  has_extension (ExtensionValue x g) = true

  -- whether one is inside of some member
  pub any_has_extension : {X : Type 0} → BareValues X → Bool
  any_has_extension no_values = false
  any_has_extension (value t ts) = has_extension t || any_has_extension ts

  -- whether one is inside of some value of a record
  pub any_pair_has_extension : {X : Type 0} → BarePairs X → Bool
  any_pair_has_extension no_pairs = false
  any_pair_has_extension (pair k t ps) = has_extension t || any_pair_has_extension ps
