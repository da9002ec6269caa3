use Rattle.std.proofs.Common.{[], ◌∷◌}
use Rattle.cedar_exprs.proofs.Counts.{then_added, room_added}
use Rattle.cedar_exprs.proofs.walks.entries.Count.add_three.Goals as goal

pub returns : goal.returns
returns g c =
    let a = c.args in
    room_added a.self.now c.record_height.new.self c.add_two.new.self a.below (a.first.now ∷ a.second.now ∷ a.third.now ∷ []) c.requires c.in_ok-record_height.ensures.most c.in_ok-record_height.ensures.left
    (then_added c.record_height.new.self c.add.new.self c.add_two.new.self a.below a.first.now (a.second.now ∷ a.third.now ∷ []) c.in_ok-add.ensures.added c.in_ok-add_two.ensures)
