use Rattle.std.proofs.Common.{◌≡◌, ◌++◌, length}
use Rattle.std.specs.Iterator.Adapters.{zip_first, zip_second}
use Rattle.std.specs.Vec.Iter.{into_iter_items, into_iter_len}
use Rattle.cedar_builders.specs.Keys.{keyed}
use Rattle.cedar_script.specs.CommandEffects.{key_pairs}
use Rattle.cedar_script.proofs.work.pair_up.Given as goal

-- what is made, with what is left, are all pairs
abbrev pub invariant-loop-key : goal.invariant-loop-key
invariant-loop-key l =
    let keys = zip_first l.key-iterator in
    let exprs = zip_second l.key-iterator in
    (keyed l.pairs.items ++ key_pairs (into_iter_items keys) (into_iter_items exprs) ≡ key_pairs l.fn.keys.items l.fn.values.items)
    × (length (into_iter_items keys) ≡ into_iter_len keys)
    × (length (into_iter_items exprs) ≡ into_iter_len exprs)
