use Rattle.std.proofs.Common.{take}
use Rattle.cedar_conditions.specs.Nodes.{ArePushed}
use Rattle.cedar_conditions.proofs.size.push_row.Given as goal

-- those so far are behind the nodes
abbrev pub invariant-loop-member : goal.invariant-loop-member
invariant-loop-member l =
    ArePushed l.depth (take l.member-index l.row) l.initial.nodes.items l.nodes.items
