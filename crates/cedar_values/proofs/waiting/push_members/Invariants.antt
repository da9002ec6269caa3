use Rattle.std.proofs.Common.{◌≡◌, ◌++◌, map, take}
use Rattle.cedar_exprs.specs.Walks.{referents}
use Rattle.cedar_values.specs.BareValues.{kind_of}
use Rattle.cedar_values.proofs.waiting.push_members.Given as goal

-- the members so far are put
abbrev pub invariant-loop-member : goal.invariant-loop-member
invariant-loop-member g l =
    referents l.waiting.items ≡ referents l.fn.waiting.items ++ map kind_of (take l.member-index l.members)
