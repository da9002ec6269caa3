-- To put what is bound first is to evaluate with it.
use Rattle.std.specs.Prelude.{Bool}
use Rattle.std.specs.declared.cmp.Ordering.{Ordering}
use Rattle.cedar_builders.specs.Laws.{SubstitutedByFold}
use Rattle.semantics_request.specs.Evaluator.{request_ops, request_lawful}
use Rattle.semantics_request.specs.Laws.{PutFirst}
use Rattle.semantics_simplify.specs.Substituted.{built_after}

pub put_first : {X : Type 0} (R : X → X → Ordering) (E : X → X → Bool) → SubstitutedByFold
    → PutFirst R E
put_first R E by_fold T k =
    built_after (request_ops R E T k.request k.entities)
    (request_lawful R E T k.request k.entities) by_fold k.bindings
