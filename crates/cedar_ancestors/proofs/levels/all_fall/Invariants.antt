use Rattle.cedar_ancestors.proofs.Falling.{AllFall}
use Rattle.cedar_ancestors.proofs.levels.all_fall.Given as goal

abbrev pub invariant-loop-index : goal.invariant-loop-index
invariant-loop-index l = AllFall l.table l.ranks l.index
