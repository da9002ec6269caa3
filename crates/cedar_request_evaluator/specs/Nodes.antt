-- The nodes of a condition in which no unknown is bound, as the walk makes them.
use Rattle.std.specs.Prelude.{Bool, List, Result}
use Rattle.std.specs.declared.cmp.Ordering.{Ordering}
use Rattle.cedar_names.specs.Names.{BareName}
use Rattle.cedar_builders.specs.BareExpr.{BareExpr}
use Rattle.cedar_builders.specs.Environment.{own}
use Rattle.cedar_builders.specs.NodeByNode.{IsBuiltOf}
use Rattle.semantics_eval.specs.Outcomes.{Outcome}
use Rattle.semantics_request.specs.Requests.{Functions, Knowledge}
use Rattle.semantics_request.specs.Evaluator.{request_ops}

module _ {X : Type 0} (R : X → X → Ordering) (E : X → X → Bool) (T : Functions X)
    (k : Knowledge X) where
  -- what is made of a node and the outcomes of its children
  abbrev pub IsEvaluatedOf :
      BareExpr → List (Outcome X) → Result (Outcome X) BareName → Type 0
  IsEvaluatedOf =
      IsBuiltOf (request_ops R E T k.request k.entities)
      (own (request_ops R E T k.request k.entities))
