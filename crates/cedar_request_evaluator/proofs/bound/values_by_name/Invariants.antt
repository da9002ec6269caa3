use Rattle.cedar_values.specs.WellFormedValues.{well_formed_env}
use Rattle.cedar_request_evaluator.specs.Bound.{AreKept, kept_in}
use Rattle.cedar_request_evaluator.proofs.bound.values_by_name.Given as goal

-- what is kept so far is what its names are bound to
abbrev pub invariant-loop-unknown : goal.invariant-loop-unknown
invariant-loop-unknown g l =
    AreKept (g.W.ValueWalk.ops l.walk) g.W.ValueWalk.value_meaning (well_formed_env l.values)
    (kept_in l.kept)
