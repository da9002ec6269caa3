use Rattle.std.proofs.Common.{rules, ◌≡◌, Some, subst}
use Rattle.std.specs.Rc.{rc_str_bytes}
use Rattle.cedar_bindings.specs.Bindings.{IsPutAt}
use Rattle.cedar_bindings.proofs.Binding.{is_put}
use Rattle.cedar_bindings.proofs.bindings.put.Goals as goal

pub returns : goal.returns
returns g c =
    let same : rc_str_bytes c.in_ok-clone.field-0 ≡ rc_str_bytes c.args.name.now = search rules in
    subst (λ n. IsPutAt c.args.map.now n (Some c.args.value) c.insert.new.self) same
    (is_put (rc_str_bytes c.in_ok-clone.field-0) (Some c.args.value) c.args.map.now c.insert.new.self
    c.in_ok-insert.ensures.updates)
