use Rattle.std.proofs.Common.{◌≡◌, ◌++◌, map}
use Rattle.cedar_exprs.specs.Walks.{referents}
use Rattle.cedar_values.specs.BareValues.{kind_of}
use Rattle.cedar_values.proofs.waiting.push_values.Given as goal

-- with the values that are left, all are put
abbrev pub invariant-loop-value : goal.invariant-loop-value
invariant-loop-value g l =
    referents l.waiting.items ++ map (λ e. kind_of e.1) l.value-iterator ≡ referents l.fn.waiting.items ++ map (λ e. kind_of e.1) l.pairs.entries
