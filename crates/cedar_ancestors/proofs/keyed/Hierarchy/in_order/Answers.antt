use Rattle.std.proofs.Common.{sym, ◌∙◌}
use Rattle.cedar_ancestors.proofs.Keys.{class_by, known_alike}
use Rattle.cedar_ancestors.proofs.keyed.Hierarchy.in_order.Goals as goal

pub reach_of-requires : goal.reach_of-requires
reach_of-requires g c =
    let R = g.K.Ord.cmp in
    let E = g.K.PartialEq.eq in
    let tie = g.met.K.Ord.matches_eq in
    let old = c.args.keys.keys in
    let new = c.sort.new.self.keys in
    known_alike g.met.K.Ord.total g.V.HasParents.parents_of new old c.args.parents.now.entries
    (λ q. sym (class_by R E tie new q) ∙ (c.sort.ensures.reordered.2 q ∙ class_by R E tie old q))
    c.requires
