use Rattle.std.proofs.Common.{◌≡◌, true, is_some, sym, ap, ◌∙◌, rules}
use Rattle.cedar_ancestors.specs.Keyed.{entry_at}
use Rattle.cedar_ancestors.proofs.Keys.{entry_by}
use Rattle.cedar_ancestors.proofs.Storing.{have_more, some_entry}
use Rattle.cedar_ancestors.proofs.store.first_absent.Goals as goal

pub loop-key-preserved : goal.loop-key-preserved
loop-key-preserved g c =
    let R = g.K.Ord.cmp in
    let m = c.args.map.now.entries in
    let key = c.key-item.result in
    let found : c.contains_key.result ≡ true = search rules in
    let same = entry_by R g.K.PartialEq.eq g.met.K.Ord.matches_eq m key in
    have_more g.met.K.Ord.total m c.args.keys.now c.loop-key.key-index key c.loop-key-test.true c.key-item.is c.loop-key.invariant
    (some_entry (entry_at R m key) (ap is_some (sym same) ∙ (sym c.contains_key.ensures ∙ found)))
