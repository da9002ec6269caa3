use Rattle.std.proofs.Common.{◌≡◌, ℕ, true, false, get_or, drop}
use Rattle.std.specs.List.{Contains}
use Rattle.cedar_ancestors.proofs.walking.clear.Given as goal

abbrev pub invariant-loop-item : goal.invariant-loop-item
invariant-loop-item l = (k : ℕ) → get_or l.seen k false ≡ true → Contains (drop l.item-index l.found) k
