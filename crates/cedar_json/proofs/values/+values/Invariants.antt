use Rattle.std.proofs.Common.{map, take}
use Rattle.serde_json.specs.View.{items_of, members_view, view}
use Rattle.cedar_exprs.specs.BareExpr.{bare_expr}
use Rattle.cedar_json.specs.Values.{AreEach, StandsFor}
use Rattle.cedar_json.proofs.Rows.{AreFieldsWith, HaveLeft}
use Rattle.cedar_json.proofs.values.+values.Given as goal

-- the items so far stand for what was made
abbrev pub invariant-set_of-loop-item : goal.invariant-set_of-loop-item
invariant-set_of-loop-item l =
    AreEach StandsFor (items_of (map view (take l.item-index l.items))) (map bare_expr l.members.items)

-- what is left, with what was made, stands for the whole, and stands for something if the whole does
abbrev pub invariant-pairs_of-loop-key : goal.invariant-pairs_of-loop-key
invariant-pairs_of-loop-key l =
    AreFieldsWith l.key-iterator (members_view l.members.entries) l.pairs.items
    × HaveLeft l.key-iterator (members_view l.members.entries)
