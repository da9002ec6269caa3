use Rattle.std.proofs.Common.{subst}
use Rattle.std.specs.Slice.Iter.{iter_rest}
use Rattle.cedar_values.specs.RowsRead.{IsNext}
use Rattle.cedar_values.proofs.RowsRead.{next_above, one_more_member, one_more_pair}
use Rattle.cedar_values.proofs.from_expr.resume_row.Goals as goal

pub read_members-requires : goal.read_members-requires
read_members-requires g c =
    let R = g.X.Ord.cmp in
    let row = c.in-InSet.row in
    let v = c.args.value in
    let h = subst (λ w. IsNext R w v) c.in-InSet.is c.requires in
    one_more_member R row.expr.now h.0 row.values.items c.push.new.self.items (iter_rest row.rest) v h.1 h.2 h.3 c.in_ok-push-in-InSet.ensures.items

pub read_pairs-requires : goal.read_pairs-requires
read_pairs-requires g c =
    let R = g.X.Ord.cmp in
    let row = c.in-InRecord.row in
    let k = c.in-InRecord.key in
    let v = c.args.value in
    let vs = row.values.entries in
    let h = subst (λ w. IsNext R w v) c.in-InRecord.is c.requires in
    let put = c.in_ok-put_last-in-InRecord.ensures (next_above R row.expr.now vs (h.1.0, h.0) row.rest k h.1.2 h.1.1) in
    one_more_pair R row.expr.now (h.1.0, h.0) vs c.put_last.new.map.entries row.rest k v h.1.2 h.1.1 h.2 h.3 put
