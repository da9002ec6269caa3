use Rattle.std.specs.Map.Iter.{deref_pair}
use Rattle.std.proofs.lemmas.Map.Iter.{rest_more, rest_all}
use Rattle.cedar_ancestors.proofs.Covering.{covering_more, covering_all}
use Rattle.cedar_ancestors.proofs.collecting.keys_of.Goals as goal

pub loop-child-preserved : goal.loop-child-preserved
loop-child-preserved g c =
    let first = rest_more deref_pair c.loop-child.child-iterator c.next.new.self c.next.result (c.in-Some.child, c.in-Some.entry) c.in-Some.is c.next.ensures.steps in
    covering_more g.met.K.Ord.total g.V.HasParents.parents_of c.args.parents.now.entries c.next.new.self c.in-Some.child.now c.in-Some.entry.now c.loop-child.keys.keys c.add_clones.new.keys.keys
    (λ q h. c.in_ok-add_clones.ensures.kept q (c.in_ok-add_clone.ensures.kept q h))
    (c.in_ok-add_clones.ensures.kept c.in-Some.child.now c.in_ok-add_clone.ensures.added)
    (rw c.parents.ensures at c.in_ok-add_clones.ensures.added)
    (rw first at c.loop-child.invariant)

pub returns : goal.returns
returns g c =
    let last = rest_all deref_pair c.loop-child.child-iterator c.next.new.self c.next.result c.in-None.is c.next.ensures.steps in
    covering_all g.met.K.Ord.total g.V.HasParents.parents_of c.loop-child.keys.keys c.args.parents.now.entries (rw last at c.loop-child.invariant)
