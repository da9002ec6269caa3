use Rattle.std.proofs.Common.{◌≤◌}
use Rattle.cedar_exprs.specs.Steps.{nodes}
use Rattle.cedar_exprs.proofs.drop.dropping.go_through.Given as goal

abbrev pub invariant-only : goal.invariant-only
invariant-only g l = nodes l.child.value ≤ nodes l.initial.child.value

abbrev pub decreases-only : goal.decreases-only
decreases-only g l = nodes l.child.value
