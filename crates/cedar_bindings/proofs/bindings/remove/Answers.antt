use Rattle.std.proofs.Common.{None, subst}
use Rattle.cedar_bindings.specs.Bindings.{IsPutAt}
use Rattle.cedar_bindings.proofs.Binding.{is_put}
use Rattle.cedar_bindings.proofs.bindings.remove.Goals as goal

pub returns : goal.returns
returns g c =
    subst (λ n. IsPutAt c.args.map.now n None c.remove.new.self) c.as_str.ensures.value
    (is_put c.as_str.result.now None c.args.map.now c.remove.new.self c.remove.ensures.updates)
