use Rattle.std.proofs.Common.{ℕ, List, get_or, subst, arith}
use Rattle.std.proofs.lemmas.List.{get_or_read}
use Rattle.cedar_ancestors.specs.Keyed.{IsRowBy, lists}
use Rattle.cedar_ancestors.proofs.Rows.{rows_push}
use Rattle.cedar_ancestors.proofs.keyed.table_of.Goals as goal

pub loop-key-preserved : goal.loop-key-preserved
loop-key-preserved g c =
    let R = g.K.Ord.cmp in
    let P = g.V.HasParents.parents_of in
    let m = c.args.parents.now.entries in
    let keys = c.args.keys.now.keys in
    let items = c.as_slice-key-items.result.now in
    let n = c.loop-key.key-index in
    record {
      many = omega (arith, c.in_ok-push.ensures.len, c.push.new.self.ok.0, c.loop-key.table.ok.0, c.loop-key.invariant.many);
      rows = rw c.in_ok-push.ensures.items (rows_push (λ (i : ℕ) (row : List ℕ). (d : g.row.K.Denot) → IsRowBy (lists R P m (get_or keys i d)) keys row) c.loop-key.table.items n c.in_ok-row.row c.loop-key.invariant.many c.loop-key.invariant.rows
          (λ d. subst (λ (xs : List g.row.K.Denot). IsRowBy (lists R P m (get_or xs n d)) keys c.in_ok-row.row.items) c.as_slice-key-items.ensures.keys
          (subst (λ (k : g.row.K.Denot). IsRowBy (lists R P m k) keys c.in_ok-row.row.items) (get_or_read items n c.key-item.result c.loop-key-test.true c.key-item.is d) c.in_ok-row.ensures)));
    }
