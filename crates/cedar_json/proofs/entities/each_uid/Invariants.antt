use Rattle.std.proofs.Common.{map, take}
use Rattle.serde_json.specs.View.{items_of, view}
use Rattle.cedar_terms.specs.Entities.{bare_entity_uid}
use Rattle.cedar_json.specs.Values.{AreEach}
use Rattle.cedar_json.specs.Entities.{IsUid}
use Rattle.cedar_json.proofs.entities.each_uid.Given as goal

-- the items so far stand for what was made
abbrev pub invariant-loop-item : goal.invariant-loop-item
invariant-loop-item l = AreEach IsUid (items_of (map view (take l.item-index l.items))) (map bare_entity_uid l.uids.items)
