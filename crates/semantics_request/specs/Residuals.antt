-- The residual of a condition, where something is known of the request, of the entities and of the
-- unknowns.
use Rattle.std.specs.Prelude.{Bool, not, ◌&&◌, Option, Ok, Err, if◌then◌else◌}
use Rattle.std.specs.declared.cmp.Ordering.{Ordering}
use Rattle.cedar_builders.specs.BareExpr.{Text, BareExpr, Var, BinaryApp, GetAttr, HasAttr}
use Rattle.cedar_builders.specs.Environment.{fold}
use Rattle.cedar_builders.specs.Fold.{and_then}
use Rattle.cedar_builders.specs.Ops.{Ops}
use Rattle.cedar_builders.specs.Trees.{sure}
use Rattle.cedar_terms.specs.declared.ops.BinaryOp.{BinaryOp}
use Rattle.semantics_values.specs.BareValue.{BareCall, BareValue}
use Rattle.semantics_values.specs.ValueExpr.{has_extension}
use Rattle.semantics_values.specs.WellFormed.{is_well_formed}
use Rattle.semantics_eval.specs.Outcomes.{Open, Outcome}
use Rattle.semantics_simplify.specs.Simplified.{Simplified, tree_of, outcome_of, known_or}
use Rattle.semantics_simplify.specs.Simplifier.{simplifier_ops}
use Rattle.semantics_request.specs.Entities.{attribute, has_attribute}
use Rattle.semantics_request.specs.Requests.{value_of, Knowledge}
use Rattle.semantics_request.specs.Evaluator.{known_or_open, then_two, path_by, apply_over}

-- a value that may be written into a tree, well formed and without extension values; else it is
-- open
abbrev pub plain_or_open : {X : Type 0} → (X → X → Ordering) → Outcome X → Outcome X
plain_or_open R (Ok t) = if is_well_formed R t && not (has_extension t) then Ok t else Err Open
plain_or_open R (Err f) = Err f

-- R and E are the order and the equality of extension values, and C says the canonical call of one
module _ {X : Type 0} (R : X → X → Ordering) (E : X → X → Bool) (C : X → BareCall) where
  module _ (k : Knowledge X) where
    -- what is known of a variable, of an operator on two values, of an attribute
    abbrev pub known_variable : Option (BareValue X) → Outcome X
    known_variable t = plain_or_open R (known_or_open t)

    abbrev pub known_two : BinaryOp → BareValue X → BareValue X → Outcome X
    known_two o t u = plain_or_open R (apply_over R E k.entities o t u)

    abbrev pub known_attribute : Text → BareValue X → Outcome X
    known_attribute j t = plain_or_open R (attribute k.entities j t)

    -- the simplifier, but that what is known answers a variable, an attribute or an operator
    abbrev pub residual_ops : Ops (Simplified X) ⊥
    residual_ops = record (simplifier_ops R E C) {
      var_of = λ v. known_or (Var v) (known_variable (value_of k.request v));
      binary_of = λ o p q.
          known_or (BinaryApp o (tree_of C p) (tree_of C q))
          (then_two (known_two o) (outcome_of p) (outcome_of q));
      get_of = λ p j.
          known_or (GetAttr (tree_of C p) j) (and_then (known_attribute j) (outcome_of p));
      has_of = λ p j js.
          known_or (HasAttr (tree_of C p) j js)
          (path_by (has_attribute k.entities) known_attribute (outcome_of p) j js);
    }

    -- what a condition is made: a known value, or its residual
    abbrev pub residual : BareExpr → Simplified X
    residual e = sure (fold residual_ops k.bindings e)
