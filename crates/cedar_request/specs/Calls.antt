-- What a function answers.
use Rattle.std.specs.Prelude.{Result}
use Rattle.std.specs.declared.cmp.Ord as Ord
use Rattle.std.specs.declared.cmp.PartialEq as PartialEq
use Rattle.std.specs.declared.cmp.PartialOrd as PartialOrd
use Rattle.cedar_builders.specs.Fold.{on_one}
use Rattle.semantics_eval.specs.Outcomes.{Outcome}
use Rattle.cedar_values.specs.declared.well_formed.WellFormedValue.{WellFormedValue}
use Rattle.cedar_evaluator.specs.Outcomes.{faulted}
use Rattle.cedar_evaluator.specs.declared.fault.EvalFault.{EvalFault}
use Rattle.cedar_request.specs.Values.{tree_of}

-- the outcome of a call
abbrev pub answered :
    {X : Type 0} {o : Ord.Ghosts X} {e : PartialEq.Ghosts X} {p : PartialOrd.Ghosts X}
    → Result (WellFormedValue X o e p) EvalFault → Outcome X
answered r = on_one tree_of (faulted r)
