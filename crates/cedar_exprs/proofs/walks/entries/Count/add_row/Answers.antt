use Rattle.std.proofs.Common.{◌+◌, arith, ap, length, drop}
use Rattle.std.proofs.lemmas.List.{drop_all}
use Rattle.cedar_exprs.proofs.Counts.{next_of, room_added, rest_goes_on, rest_ends}
use Rattle.cedar_exprs.proofs.walks.entries.Count.add_row.Goals as goal

pub loop-member-init : goal.loop-member-init
loop-member-init g c = (omega (arith, c.in_ok-record_height.ensures.fits), (omega (arith, c.in_ok-record_height.ensures.most), omega (arith, c.in_ok-record_height.ensures.most, c.requires), λ new h. h))

pub add-requires : goal.add-requires
add-requires g c =
    let l = c.loop-member in
    let is = next_of c.args.row.now l.member-index c.member-item.result (omega arith) c.member-item.is in
    omega (arith, ap length is, l.invariant.1.0)

pub overflow_add-under : goal.overflow_add-under
overflow_add-under g c =
    let l = c.loop-member in
    let is = next_of c.args.row.now l.member-index c.member-item.result (omega arith) c.member-item.is in
    omega (arith, ap length is, l.invariant.0)

pub loop-member-preserved : goal.loop-member-preserved
loop-member-preserved g c =
    let l = c.loop-member in
    let row = c.args.row.now in
    let is = next_of row l.member-index c.member-item.result (omega arith) c.member-item.is in (
      omega (arith, ap length is, l.invariant.0),
      rest_goes_on c.record_height.new.self l.self c.add.new.self c.args.below l.under row (drop l.member-index row) (drop (l.member-index + 1) row) c.member-item.result is c.in_ok-add.ensures.added
          c.in_ok-add.ensures.most l.invariant.1,
    )

pub returns : goal.returns
returns g c =
    let l = c.loop-member in
    let row = c.args.row.now in
    let none = drop_all l.member-index row (omega (arith, c.loop-member-test.false)) in
    room_added c.args.self.now c.record_height.new.self l.self c.args.below row c.requires c.in_ok-record_height.ensures.most c.in_ok-record_height.ensures.left
    (rest_ends c.record_height.new.self l.self c.args.below l.under row (drop l.member-index row) none l.invariant.1)
