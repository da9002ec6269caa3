use Rattle.std.proofs.Common.{List, [], sym, refl, subst, arith}
use Rattle.cedar_sorted_slices.specs.Classes.{has_class}
use Rattle.cedar_ancestors.specs.Keyed.{IsRowBy}
use Rattle.cedar_ancestors.proofs.Keys.{distinct_by}
use Rattle.cedar_ancestors.proofs.Rows.{no_indexes, indexes_push, indexes_skip}
use Rattle.cedar_ancestors.proofs.keyed.indexes_of.Goals as goal
use Rattle.cedar_ancestors.proofs.keyed.indexes_of.Goals.{in-Some+in_ok-push, in_default}
use Rattle.std.proofs.lemmas.List.{take_all}

pub loop-parent-init : goal.loop-parent-init
loop-parent-init g c = rw c.new-row.ensures.items (no_indexes g.met.K.Ord.total (has_class g.K.Ord.cmp []) c.args.keys.now.keys (λ _. refl))

pub loop-parent-preserved : goal.loop-parent-preserved
loop-parent-preserved g c =
    elim c.match-index_of.branch [
      | in-Some+in_ok-push w ↦ rw (w.row-is, w.in_ok-push.ensures.items)
          (indexes_push g.met.K.Ord.total c.args.keys.now.keys (distinct_by g.K.Ord.cmp g.K.PartialEq.eq g.met.K.Ord.matches_eq c.args.keys.now.keys c.requires) c.args.parents.now c.loop-parent.parent-index c.parent-item.result c.loop-parent-test.true c.parent-item.is c.loop-parent.row.items w.in-Some.index w.in-Some.ensures.at c.loop-parent.invariant)
      | in_default w ↦ rw w.row-is
          (indexes_skip g.met.K.Ord.total c.args.keys.now.keys (distinct_by g.K.Ord.cmp g.K.PartialEq.eq g.met.K.Ord.matches_eq c.args.keys.now.keys c.requires) c.args.parents.now c.loop-parent.parent-index c.parent-item.result c.loop-parent-test.true c.parent-item.is c.loop-parent.row.items (sym w.in_default.ensures.found) c.loop-parent.invariant)
    ]

pub returns : goal.returns
returns g c = subst (λ (xs : List g.row.K.Denot). IsRowBy (has_class g.K.Ord.cmp xs) c.args.keys.now.keys c.loop-parent.row.items) (take_all c.loop-parent.parent-index c.args.parents.now (omega arith)) c.loop-parent.invariant
