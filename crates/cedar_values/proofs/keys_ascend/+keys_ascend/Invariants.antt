use Rattle.std.proofs.Common.{drop}
use Rattle.semantics_values.specs.BareValue as bare
use Rattle.semantics_values.specs.AscendingKeys.{KeysAscend}
use Rattle.cedar_values.specs.BareValues.{bare_set}
use Rattle.cedar_values.specs.Conversions.{bare_pairs}
use Rattle.cedar_values.proofs.AscendingKeys.{AscendIn, AscendInPairs}
use Rattle.cedar_values.proofs.keys_ascend.+keys_ascend.Given as goal

-- where the keys ascend in the members that are left, they ascend in the set
abbrev pub invariant-walk_members-loop-member : goal.invariant-walk_members-loop-member
invariant-walk_members-loop-member g l =
    AscendIn (drop l.member-index l.members) → KeysAscend (bare.SetValue (bare_set l.set))

-- likewise in the record
abbrev pub invariant-walk_pairs-loop-value : goal.invariant-walk_pairs-loop-value
invariant-walk_pairs-loop-value g l =
    AscendInPairs l.value-iterator → KeysAscend (bare.RecordValue (bare_pairs l.pairs.entries))
