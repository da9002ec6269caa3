use Rattle.std.proofs.Common.{◌+◌, max, sym, ◌∙◌, arith, ap, length, map}
use Rattle.std.proofs.lemmas.List.{length-map}
use Rattle.cedar_exprs.proofs.Counts.{room_added, rest_begins, rest_goes_on, rest_ends}
use Rattle.cedar_exprs.proofs.walks.entries.Count.add_values.Goals as goal

pub loop-value-init : goal.loop-value-init
loop-value-init g c =
    let es = c.args.pairs.now.entries in
    let all = c.into_iter-value-iterator.ensures.into_iter_gives ∙ c.values-value-items.ensures.rest in
    let count = c.len.ensures.len ∙ sym (length-map es (λ e. e.1)) in (
      tt,
      tt,
      omega (arith, c.in_ok-record_height.ensures.fits, ap length all, count),
      rest_begins c.record_height.new.self c.args.below (map (λ e. e.1) es) c.into_iter-value-iterator.result all (omega (arith, c.in_ok-record_height.ensures.most, count)) (omega (arith, c.in_ok-record_height.ensures.most, c.requires)),
    )

pub add-requires : goal.add-requires
add-requires g c = omega (arith, ap length c.in-Some.ensures.steps, c.loop-value.invariant.3.0)

pub overflow_add-under : goal.overflow_add-under
overflow_add-under g c = omega (arith, ap length c.in-Some.ensures.steps, c.loop-value.invariant.2)

pub loop-value-preserved : goal.loop-value-preserved
loop-value-preserved g c =
    let l = c.loop-value in
    let all = map (λ e. e.1) c.args.pairs.now.entries in
    (tt, tt, omega (arith, ap length c.in-Some.ensures.steps, l.invariant.2), rest_goes_on c.record_height.new.self l.self c.add.new.self c.args.below l.under all l.value-iterator _ c.in-Some.value.now c.in-Some.ensures.steps c.in_ok-add.ensures.added c.in_ok-add.ensures.most l.invariant.3)

pub returns : goal.returns
returns g c =
    let l = c.loop-value in
    let es = c.args.pairs.now.entries in
    let count = c.len.ensures.len ∙ sym (length-map es (λ e. e.1)) in
    let room = c.in_ok-record_height.ensures.most ∙ ap (λ n. max c.args.self.now.most (c.args.below + n)) count in
    room_added c.args.self.now c.record_height.new.self l.self c.args.below (map (λ e. e.1) es) c.requires room c.in_ok-record_height.ensures.left
    (rest_ends c.record_height.new.self l.self c.args.below l.under (map (λ e. e.1) es) l.value-iterator c.in-None.ensures.steps.0 l.invariant.3)
