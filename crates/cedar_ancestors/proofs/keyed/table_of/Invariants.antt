use Rattle.std.proofs.Common.{◌≡◌, ℕ, ◌<◌, length, get_or}
use Rattle.cedar_ancestors.specs.Keyed.{IsRowBy, lists}
use Rattle.cedar_ancestors.specs.Tables.{row_at}
use Rattle.cedar_ancestors.proofs.keyed.table_of.Given as goal

abbrev pub invariant-loop-key : goal.invariant-loop-key
invariant-loop-key g l = record {
  many : length l.table.items ≡ l.key-index;
  rows : (i : ℕ) → i < l.key-index → (d : g.row.K.Denot) → IsRowBy (lists g.K.Ord.cmp g.V.HasParents.parents_of l.parents.entries (get_or l.keys.keys i d)) l.keys.keys (row_at l.table.items i);
}
