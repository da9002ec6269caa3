use Rattle.cedar_json.proofs.Near.{IsSoFar}
use Rattle.cedar_json.proofs.near_names.nearest.Given as goal

-- the nearest of the names so far
abbrev pub invariant-loop-name : goal.invariant-loop-name
invariant-loop-name l = IsSoFar l.wanted l.known l.name-index l.fewest l.found
