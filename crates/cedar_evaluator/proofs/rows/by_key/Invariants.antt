use Rattle.std.proofs.Common.{◌≡◌, ◌++◌, IsTrue}
use Rattle.std.specs.List.{list_all}
use Rattle.std.specs.Vec.Iter.{into_iter_items}
use Rattle.cedar_builders.specs.Keys.{IsAscending, keys_of}
use Rattle.cedar_values.specs.WellFormed.{well_formed}
use Rattle.cedar_evaluator.proofs.rows.by_key.Given as goal

-- where the keys ascend, the pairs that were put, and then the rest; and where all values are well
-- formed, those that were put and those of the rest are
abbrev pub invariant-loop-key : goal.invariant-loop-key
invariant-loop-key g l =
    let R = g.X.Ord.cmp in
    (IsAscending (keys_of l.fn.pairs.items)
    → l.fn.pairs.items ≡ l.values.entries ++ into_iter_items l.key-iterator)
    × (IsTrue (list_all (λ p. well_formed R p.1) l.fn.pairs.items)
    → IsTrue (list_all (λ e. well_formed R e.1) l.values.entries)
    × IsTrue (list_all (λ p. well_formed R p.1) (into_iter_items l.key-iterator)))
