use Rattle.std.proofs.Common.{rules, ◌≡◌, subst}
use Rattle.std.specs.Rc.{rc_str_bytes}
use Rattle.cedar_request_evaluator.specs.Bound.{IsPutAt}
use Rattle.cedar_request_evaluator.proofs.Kept.{is_put}
use Rattle.cedar_request_evaluator.proofs.bound.put_at.Goals as goal

pub returns : goal.returns
returns g c =
    let same : rc_str_bytes c.in_ok-clone.field-0 ≡ rc_str_bytes c.args.name.now = search rules in
    subst (λ n. IsPutAt c.args.map.now n c.args.value c.insert.new.self) same
    (is_put (rc_str_bytes c.in_ok-clone.field-0) c.args.value c.args.map.now c.insert.new.self
    c.in_ok-insert.ensures.updates)
