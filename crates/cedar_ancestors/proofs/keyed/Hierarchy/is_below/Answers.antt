use Rattle.std.proofs.Common.{◌↔◌, false, List, IsTrue, IfOk, sym, subst}
use Rattle.cedar_ancestors.specs.Keyed.{IsBelowIn}
use Rattle.cedar_ancestors.specs.declared.reach.Reach.{Reach}
use Rattle.cedar_ancestors.proofs.Keys.{below_at, below_no_child, below_no_ancestor, distinct_by, if_ok_map}
use Rattle.cedar_ancestors.proofs.keyed.Hierarchy.is_below.Goals as goal

pub returns-in_default : goal.returns-in_default
returns-in_default g c =
    subst (λ (h : List g.row.K.Denot × Reach). IsTrue false ↔ IsBelowIn g.K.Ord.cmp h c.args.child.now c.args.ancestor.now) c.self.view_is
    (below_no_child g.met.K.Ord.total (c.self.inside.keys.keys, c.self.inside.reach) c.args.child.now c.args.ancestor.now (sym c.in_default.ensures.found))

pub returns-in_default-index_of : goal.returns-in_default-index_of
returns-in_default-index_of g c =
    subst (λ (h : List g.row.K.Denot × Reach). IsTrue false ↔ IsBelowIn g.K.Ord.cmp h c.args.child.now c.args.ancestor.now) c.self.view_is
    (below_no_ancestor g.met.K.Ord.total (c.self.inside.keys.keys, c.self.inside.reach) c.args.child.now c.args.ancestor.now (sym c.in_default-index_of.ensures.found))

pub returns : goal.returns
returns g c =
    let keys = c.self.inside.keys.keys in
    subst (λ (h : List g.row.K.Denot × Reach). IfOk c.has.result (λ b. IsTrue b ↔ IsBelowIn g.K.Ord.cmp h c.args.child.now c.args.ancestor.now)) c.self.view_is
    (if_ok_map c.has.result
    (λ b e. below_at g.met.K.Ord.total (keys, c.self.inside.reach) c.args.child.now c.args.ancestor.now
    (distinct_by g.K.Ord.cmp g.K.PartialEq.eq g.met.K.Ord.matches_eq keys c.self.invariant)
    c.in-Some.from c.in-Some-index_of.to c.in-Some.ensures.at c.in-Some-index_of.ensures.at b e)
    c.has.ensures)
