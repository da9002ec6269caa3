use Rattle.std.proofs.Common.{arith}
use Rattle.std.proofs.lemmas.List.Elements.{Contains-get_or}
use Rattle.cedar_ancestors.proofs.Marking.{found_within, IsMarked-none}
use Rattle.cedar_ancestors.proofs.walking.clear.Goals as goal

pub bounds-seen-item : goal.bounds-seen-item
bounds-seen-item c = omega (arith, found_within c.args.seen.now c.args.found.now c.requires _ (Contains-get_or c.args.found.now c.loop-item.item-index 0 (omega arith)))

pub returns : goal.returns
returns c = IsMarked-none c.loop-item.seen c.args.found.now c.loop-item.item-index (omega arith) c.loop-item.invariant
