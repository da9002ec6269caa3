use Rattle.std.proofs.Common.{◌≡◌, ◌++◌}
use Rattle.std.specs.Vec.Iter.{into_iter_items}
use Rattle.cedar_ancestors.specs.Stores.{HasMore}
use Rattle.cedar_ancestors.proofs.store.add_all.Given as goal

abbrev pub invariant-loop-entry : goal.invariant-loop-entry
invariant-loop-entry g l = record {
  whole : l.fn.entries.items ≡ l.yielded ++ into_iter_items l.entry-iterator;
  more : HasMore g.K.Ord.cmp g.V.PartialEq.eq g.V.HasKey.key_of l.initial.map.entries l.map.entries l.yielded;
}
