-- What the simplifier makes of a tree: a known value, or a residual.
use Rattle.std.specs.Prelude.{Bool, true, List, map, Option, None, is_some, Ok, Err}
use Rattle.cedar_builders.specs.BareExpr.{Text, BareExpr, BareExprs, trees_of, BareFields, fields_of}
use Rattle.semantics_values.specs.BareValue.{BareCall, BareValue}
use Rattle.semantics_values.specs.ValueExpr.{value_expr}
use Rattle.semantics_eval.specs.Outcomes.{Open, Outcome, truth_of}
use Rattle.semantics_simplify.specs.Asks.{holds_no_call}
use Rattle.semantics_simplify.specs.Kinds.{is_boolean_kind}

-- a known value, or a residual tree
pub data Simplified (X : Type 0) : Type 0 where
  Known : BareValue X → Simplified X
  Residual : BareExpr → Simplified X

-- the residual, or the tree of the known value, where C says the canonical call of an extension value
abbrev pub tree_of : {X : Type 0} → (X → BareCall) → Simplified X → BareExpr
tree_of C (Known t) = value_expr C t
tree_of C (Residual e) = e

-- the trees of the members of a set, or of the arguments of a call
abbrev pub child_trees : {X : Type 0} → (X → BareCall) → List (Simplified X) → BareExprs
child_trees C ps = trees_of (map (tree_of C) ps)

-- the fields of a record, with the trees of its values
abbrev pub child_fields : {X : Type 0} → (X → BareCall) → List (Text × Simplified X) → BareFields
child_fields C ps = fields_of (map (λ p. (p.0, tree_of C p.1)) ps)

-- what is known of the outcome: the value, else it is open
abbrev pub outcome_of : {X : Type 0} → Simplified X → Outcome X
outcome_of (Known t) = Ok t
outcome_of (Residual e) = Err Open

-- the same of a record's values
abbrev pub pair_outcomes : {X : Type 0} → List (Text × Simplified X) → List (Text × Outcome X)
pair_outcomes ps = map (λ p. (p.0, outcome_of p.1)) ps

-- the value where there is one, else the tree as a residual
abbrev pub known_or : {X : Type 0} → BareExpr → Outcome X → Simplified X
known_or e (Ok t) = Known t
known_or e (Err m) = Residual e

-- the Boolean that is known, if any
abbrev pub known_truth : {X : Type 0} → Simplified X → Option Bool
known_truth (Known t) = truth_of t
known_truth (Residual e) = None

-- whether it is a known value, or a residual that holds no call
abbrev pub calls_nothing : {X : Type 0} → Simplified X → Bool
calls_nothing (Known t) = true
calls_nothing (Residual e) = holds_no_call e

-- whether it can only be a Boolean or a fault
abbrev pub is_boolean : {X : Type 0} → Simplified X → Bool
is_boolean (Known t) = is_some (truth_of t)
is_boolean (Residual e) = is_boolean_kind e
