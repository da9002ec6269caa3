use Rattle.std.proofs.Common.{map, take}
use Rattle.serde_json.specs.View.{items_of, view}
use Rattle.cedar_json.specs.Values.{AreEach}
use Rattle.cedar_json.specs.Entities.{IsEntityJson, parts_of}
use Rattle.cedar_json.proofs.entities.each_entity.Given as goal

-- the items so far stand for what was made
abbrev pub invariant-loop-item : goal.invariant-loop-item
invariant-loop-item l = AreEach IsEntityJson (items_of (map view (take l.item-index l.items))) (map parts_of l.entities.items)
