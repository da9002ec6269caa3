use Rattle.std.proofs.Common.{◌+◌}
use Rattle.cedar_json.proofs.Near.{both_are, long_name, long_wanted, passed_by, taken_up}
use Rattle.cedar_json.proofs.near_names.nearest.Goals as goal
use Rattle.cedar_json.proofs.near_names.nearest.Goals.{then-wanted-le-LONGEST+then-name-le-LONGEST+in_ok-edits+then-edits-fewest, then-wanted-le-LONGEST+then-name-le-LONGEST+in_ok-edits+else-edits-fewest, else-wanted-le-LONGEST, else-wanted-le-LONGEST-via-then-wanted-le-LONGEST+else-name-le-LONGEST, else-wanted-le-LONGEST-via-else-wanted-le-LONGEST}

pub loop-name-preserved : goal.loop-name-preserved
loop-name-preserved c =
    let l = c.loop-name in
    let s = c.args.wanted.now in
    let ts = c.args.known.now in
    let lt = c.loop-name-test.true in
    elim c.if-wanted-le-LONGEST.branch [
      | then-wanted-le-LONGEST+then-name-le-LONGEST+in_ok-edits+then-edits-fewest w ↦
          both_are s ts (l.name-index + 1) w.in_ok-edits.edits _ _ _ w.fewest-is w.found-is
          (taken_up s ts l.name-index l.fewest w.in_ok-edits.edits l.found _ lt w.in_ok-edits.ensures.value
          w.if-edits-fewest.true l.invariant)
      | then-wanted-le-LONGEST+then-name-le-LONGEST+in_ok-edits+else-edits-fewest w ↦
          both_are s ts (l.name-index + 1) l.fewest _ l.found _ w.fewest-is w.found-is
          (passed_by s ts l.name-index l.fewest w.in_ok-edits.edits l.found _ lt w.in_ok-edits.ensures.value
          w.if-edits-fewest.false l.invariant)
      | else-wanted-le-LONGEST w ↦
          both_are s ts (l.name-index + 1) l.fewest _ l.found _ w.fewest-is w.found-is
          (elim w.else-wanted-le-LONGEST.branch [
            | else-wanted-le-LONGEST-via-then-wanted-le-LONGEST+else-name-le-LONGEST v ↦
                long_name s ts l.name-index l.fewest l.found _ lt v.if-name-le-LONGEST.false l.invariant
            | else-wanted-le-LONGEST-via-else-wanted-le-LONGEST v ↦
                long_wanted s ts l.name-index l.fewest l.found lt v.if-wanted-le-LONGEST.false l.invariant
          ])
    ]
