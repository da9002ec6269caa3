use Rattle.std.proofs.Common.{IsTrue, Ok, ap, map, option_map, subst, sym, ◌∙◌}
use Rattle.std.specs.Option.{IfSome}
use Rattle.std.specs.Rc.{rc_str_bytes}
use Rattle.cedar_values.specs.BareValues.{bare_value}
use Rattle.cedar_values.specs.WellFormed.{well_formed}
use Rattle.cedar_request_simplifier.proofs.PathSteps.{ends_open, goes_on, path}
use Rattle.cedar_request_simplifier.proofs.paths.path_in_value.Goals as goal

pub returns-then-branch : goal.returns-then-branch
returns-then-branch g c =
    let R = g.X.Ord.cmp in
    let s = g.S.EntityStore.bare_entities c.args.entities.now in
    let v = c.in-Ok-Some.inner.now in
    let kept : IsTrue (well_formed R v) =
    subst (λ o. IfSome o (λ w. IsTrue (well_formed R w.now))) c.in-Ok-Some.field-0-is
    (c.in-Ok-Some.ensures.well_formed c.loop-next.invariant.1) in
    ends_open R s rc_str_bytes c.args.rest.now c.loop-next.next-index c.next-item.result
    c.loop-next-test.true c.next-item.is (bare_value c.loop-next.here.now) (bare_value v)
    (rc_str_bytes c.loop-next.key.now)
    (sym c.in-Ok-Some.ensures.found
    ∙ ap (λ o. Ok (option_map (λ w. bare_value w.now) o)) c.in-Ok-Some.field-0-is)
    (c.well_formed_parts.ensures.tree v kept)
    (path R s (Ok (bare_value c.args.value.now)) (rc_str_bytes c.args.first.now)
    (map rc_str_bytes c.args.rest.now)) c.loop-next.invariant.0
    (sym c.in_ok-holds_extension-in-Ok-Some.ensures ∙ c.if-branch.true)

pub loop-next-preserved : goal.loop-next-preserved
loop-next-preserved g c =
    let R = g.X.Ord.cmp in
    let s = g.S.EntityStore.bare_entities c.args.entities.now in
    let v = c.in-Ok-Some.inner.now in
    let kept : IsTrue (well_formed R v) =
    subst (λ o. IfSome o (λ w. IsTrue (well_formed R w.now))) c.in-Ok-Some.field-0-is
    (c.in-Ok-Some.ensures.well_formed c.loop-next.invariant.1) in (
      goes_on R s rc_str_bytes c.args.rest.now c.loop-next.next-index c.next-item.result
          c.loop-next-test.true c.next-item.is (bare_value c.loop-next.here.now) (bare_value v)
          (rc_str_bytes c.loop-next.key.now)
          (sym c.in-Ok-Some.ensures.found
          ∙ ap (λ o. Ok (option_map (λ w. bare_value w.now) o)) c.in-Ok-Some.field-0-is)
          (c.well_formed_parts.ensures.tree v kept)
          (path R s (Ok (bare_value c.args.value.now)) (rc_str_bytes c.args.first.now)
          (map rc_str_bytes c.args.rest.now)) c.loop-next.invariant.0
          (sym c.in_ok-holds_extension-in-Ok-Some.ensures ∙ c.if-branch.false),
      kept,
    )
