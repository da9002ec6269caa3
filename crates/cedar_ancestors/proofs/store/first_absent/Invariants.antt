use Rattle.std.proofs.Common.{take}
use Rattle.cedar_ancestors.specs.Stores.{HaveEntries}
use Rattle.cedar_ancestors.proofs.store.first_absent.Given as goal

abbrev pub invariant-loop-key : goal.invariant-loop-key
invariant-loop-key g l = HaveEntries g.K.Ord.cmp l.map.entries (take l.key-index l.keys)
