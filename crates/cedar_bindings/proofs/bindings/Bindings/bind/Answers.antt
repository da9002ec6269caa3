use Rattle.std.specs.Rc.{rc_str_bytes}
use Rattle.cedar_exprs.specs.BareExpr.{bare_expr}
use Rattle.cedar_bindings.proofs.Binding.{bound_to_value, if_some, on_ok}
use Rattle.cedar_bindings.proofs.bindings.Bindings.bind.Goals as goal

pub returns-in-Some : goal.returns-in-Some
returns-in-Some c =
    on_ok c.bind_to_value.result
    (bound_to_value _ c.args.self.now c.bind_to_value.new.self (rc_str_bytes c.args.name)
    (bare_expr c.args.expr) c.in-Some.value
    (if_some _ _ c.in-Some.value c.in-Some.is c.in_ok-value.ensures))
    c.bind_to_value.ensures.named c.bind_to_value.ensures.bound
