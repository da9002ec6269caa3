use Rattle.std.proofs.Common.{◌≡◌, ◌++◌, ◌∷◌, [], true, false, ap, sym, ◌∙◌, subst, append_assoc, append-nil}
use Rattle.std.specs.Rc.{rc_str_bytes}
use Rattle.std.specs.Vec.Iter.{into_iter_items}
use Rattle.cedar_builders.specs.Keys.{keys_of, are_distinct, is_among, IsAscending}
use Rattle.cedar_builders.specs.Errors.{key_of, OnDuplicateKey}
use Rattle.cedar_builders.specs.Keys.{keyed, in_key_order, IsFirstRepeat}
use Rattle.cedar_builders.proofs.DistinctKeys.{texts, keys-keyed, found, made-push, texts-push, distinct-push, first_repeat, none_left}
use Rattle.cedar_builders.proofs.KeyLemmas.{ascending_accepted, ascending_kept, repeat_found}
use Rattle.cedar_builders.proofs.keys.collect_distinct.Goals as goal

pub loop-key-preserved : goal.loop-key-preserved
loop-key-preserved g c =
    let ps = c.loop-key.yielded in
    let key = c.in-Some.key in
    let absent : is_among (rc_str_bytes key) (texts (keyed ps)) ≡ false =
    ap (λ k. is_among k (texts (keyed ps))) (sym c.as_str.ensures.value)
    ∙ (sym (found c.as_str.result.now c.loop-key.values.entries (keyed ps) c.loop-key.invariant.made) ∙ (sym c.contains_key.ensures ∙ c.if-contains_key.false)) in
    record {
      whole = c.loop-key.invariant.whole ∙ (ap (λ qs. ps ++ qs) c.in-Some.ensures.steps.0 ∙ sym (append_assoc ps ((key, c.in-Some.value) ∷ []) (into_iter_items c.next.new.self)));
      made = ap keyed c.in_ok-insert.ensures.entries ∙ made-push c.loop-key.values.entries ps key c.in-Some.value c.loop-key.invariant.made;
      distinct = ap are_distinct (texts-push ps [] key c.in-Some.value) ∙ distinct-push (texts (keyed ps)) (rc_str_bytes key) c.loop-key.invariant.distinct absent;
    }

pub returns-then-contains_key-clause-refused : goal.returns-then-contains_key-clause-refused
returns-then-contains_key-clause-refused g c =
    let ps = c.loop-key.yielded in
    let key = c.in-Some.key in
    let left = into_iter_items c.next.new.self in
    let stood : is_among (rc_str_bytes key) (texts (keyed ps)) ≡ true =
    ap (λ k. is_among k (texts (keyed ps))) (sym c.as_str.ensures.value)
    ∙ (sym (found c.as_str.result.now c.loop-key.values.entries (keyed ps) c.loop-key.invariant.made) ∙ (sym c.contains_key.ensures ∙ c.if-contains_key.true)) in
    let split = ap (λ qs. texts (keyed qs)) (c.loop-key.invariant.whole ∙ ap (λ qs. ps ++ qs) c.in-Some.ensures.steps.0) ∙ texts-push ps left key c.in-Some.value in
    let first = first_repeat _ (texts (keyed ps)) (rc_str_bytes key) (texts (keyed left)) split c.loop-key.invariant.distinct stood in
    subst (OnDuplicateKey (λ e. IsFirstRepeat (keys_of c.args.pairs.items) (key_of e))) (sym c.into.ensures)
    (subst (IsFirstRepeat (keys_of c.args.pairs.items)) (sym c.in_record_literal.ensures.key) (subst (λ ks. IsFirstRepeat ks (rc_str_bytes key)) (sym (keys-keyed c.args.pairs.items)) first))

pub returns-clause-made : goal.returns-clause-made
returns-clause-made g c =
    let all : c.args.pairs.items ≡ c.loop-key.yielded = c.loop-key.invariant.whole ∙ (ap (λ qs. c.loop-key.yielded ++ qs) (none_left _ (sym c.loop-key.key-iterator.rest.ok.0 ∙ c.in-None.ensures.steps.0)) ∙ append-nil c.loop-key.yielded) in
    c.loop-key.invariant.made ∙ ap (λ qs. in_key_order (keyed qs)) (sym all)

pub returns-clause-distinct : goal.returns-clause-distinct
returns-clause-distinct g c =
    let all : c.args.pairs.items ≡ c.loop-key.yielded = c.loop-key.invariant.whole ∙ (ap (λ qs. c.loop-key.yielded ++ qs) (none_left _ (sym c.loop-key.key-iterator.rest.ok.0 ∙ c.in-None.ensures.steps.0)) ∙ append-nil c.loop-key.yielded) in
    ap are_distinct (keys-keyed c.args.pairs.items) ∙ (ap (λ qs. are_distinct (texts (keyed qs))) all ∙ c.loop-key.invariant.distinct)

pub returns-then-contains_key-clause-repeats : goal.returns-then-contains_key-clause-repeats
returns-then-contains_key-clause-repeats g c =
    repeat_found (keys_of c.args.pairs.items) c.into.result (returns-then-contains_key-clause-refused g c)

pub returns-then-contains_key-clause-accepts : goal.returns-then-contains_key-clause-accepts
returns-then-contains_key-clause-accepts g c = λ ascending.
    ascending_accepted (keys_of c.args.pairs.items) c.into.result (returns-then-contains_key-clause-refused g c) ascending

pub returns-clause-kept : goal.returns-clause-kept
returns-clause-kept g c = λ ascending.
    returns-clause-made g c ∙ ascending_kept (keyed c.args.pairs.items) (subst IsAscending (keys-keyed c.args.pairs.items) ascending)
