use Rattle.std.proofs.Common.{◌≡◌, ◌++◌, IsTrue}
use Rattle.std.specs.Vec.Iter.{into_iter_items}
use Rattle.cedar_builders.specs.Keys.{are_distinct}
use Rattle.cedar_builders.specs.Keys.{keyed, in_key_order}
use Rattle.cedar_builders.proofs.DistinctKeys.{texts}
use Rattle.cedar_builders.proofs.keys.collect_distinct.Given as goal

abbrev pub invariant-loop-key : goal.invariant-loop-key
invariant-loop-key g l = record {
  whole : l.fn.pairs.items ≡ l.yielded ++ into_iter_items l.key-iterator;
  made : keyed l.values.entries ≡ in_key_order (keyed l.yielded);
  distinct : IsTrue (are_distinct (texts (keyed l.yielded)));
}
