use Rattle.std.proofs.Common.{◌≡◌, ◌++◌, ◌∷◌, [], Err, IfErr, ap, sym, subst, ◌∙◌, append_assoc, rules}
use Rattle.std.specs.Vec.Iter.{into_iter_items}
use Rattle.cedar_ancestors.specs.Stores.{IsRefusalOfAll}
use Rattle.cedar_ancestors.proofs.Storing.{more_push, refused_after}
use Rattle.cedar_ancestors.proofs.store.add_all.Goals as goal

pub loop-entry-preserved : goal.loop-entry-preserved
loop-entry-preserved g c =
    let done = c.loop-entry.yielded in
    record {
      whole = c.loop-entry.invariant.whole ∙ (ap (λ qs. done ++ qs) c.in-Some.ensures.steps.0 ∙ sym (append_assoc done (c.in-Some.entry ∷ []) (into_iter_items c.next.new.self)));
      more = more_push g.K.Ord.cmp g.V.PartialEq.eq g.V.HasKey.key_of c.args.map.now.entries c.loop-entry.map.entries c.add.new.map.entries done c.in-Some.entry c.loop-entry.invariant.more c.in_ok-add.ensures.added;
    }

pub returns-in_err-add-clause-refusal : goal.returns-in_err-add-clause-refusal
returns-in_err-add-clause-refusal g c =
    let R = g.K.Ord.cmp in
    let F = g.V.PartialEq.eq in
    let key = g.V.HasKey.key_of in
    let m = c.args.map.now.entries in
    let done = c.loop-entry.yielded in
    let rest = into_iter_items c.next.new.self in
    let error = c.in_err-add.field-0.0 in
    let same : c.from_residual.result ≡ Err error = search rules in
    let whole : c.args.entries.items ≡ done ++ (c.in-Some.entry ∷ rest) =
    c.loop-entry.invariant.whole ∙ ap (λ qs. done ++ qs) c.in-Some.ensures.steps.0 in
    subst (λ r. IfErr r (IsRefusalOfAll R F key m c.args.entries.items)) (sym same)
    (subst (λ vs. IsRefusalOfAll R F key m vs error) (sym whole)
    (refused_after R F key m c.loop-entry.map.entries done rest c.in-Some.entry c.loop-entry.invariant.more error c.in_err-add.ensures.refusal))
