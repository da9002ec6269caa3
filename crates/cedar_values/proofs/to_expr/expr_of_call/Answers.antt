use Rattle.cedar_values.proofs.Restrictions.{restricted_call}
use Rattle.cedar_values.proofs.to_expr.expr_of_call.Goals as goal

pub returns-clause-restricted : goal.returns-clause-restricted
returns-clause-restricted c = restricted_call c.in_ok-call_extension_fn.field-0 c.loop-arg.args.items c.in_ok-call_extension_fn.ensures.tree c.loop-arg.invariant.1
