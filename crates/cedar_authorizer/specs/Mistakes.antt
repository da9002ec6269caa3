-- Faults that no further knowledge takes away.
use Rattle.std.specs.Prelude.{Bool, true, false}
use Rattle.semantics_eval.specs.Outcomes as meant
use Rattle.cedar_evaluator.specs.declared.fault.EvalFault.{EvalFault}
use Rattle.cedar_evaluator.specs.declared.fault.EvalFault.TheVariants.{Open, WrongType, Overflow, Missing, Store}

-- whether a fault is one
abbrev pub is_mistake : EvalFault → Bool
is_mistake Open = false
is_mistake f = true

-- the mistake that such a fault is; `Open` is none, and stands for no other
abbrev pub mistake_of : EvalFault → meant.Mistake
mistake_of Open = meant.WrongType
mistake_of WrongType = meant.WrongType
mistake_of Overflow = meant.Overflow
mistake_of Missing = meant.Missing
mistake_of Store = meant.Store
