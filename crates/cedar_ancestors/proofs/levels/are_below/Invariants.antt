use Rattle.std.proofs.Common.{◌<◌, get_or, take}
use Rattle.std.specs.List.{All}
use Rattle.cedar_ancestors.proofs.levels.are_below.Given as goal

abbrev pub invariant-loop-index : goal.invariant-loop-index
invariant-loop-index l = All (λ y. get_or l.ranks y 0 < l.rank) (take l.index-index l.row)
