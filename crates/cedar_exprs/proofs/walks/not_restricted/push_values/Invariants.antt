use Rattle.std.proofs.Common.{◌≡◌, ◌++◌, map, length}
use Rattle.cedar_exprs.specs.Waiting.{next_first}
use Rattle.cedar_exprs.proofs.walks.not_restricted.push_values.Given as goal

-- what is left, and what waits, make the whole
abbrev pub invariant-values : goal.invariant-values
invariant-values g l = l.values ++ next_first l.waiting.items ≡ map (λ e. e.1) l.pairs.entries ++ next_first l.initial.waiting.items

abbrev pub decreases-values : goal.decreases-values
decreases-values g l = length l.values
