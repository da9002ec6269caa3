use Rattle.std.proofs.Common.{◌≡◌}
use Rattle.cedar_exprs.specs.BareExpr.{bare_expr}
use Rattle.cedar_script.specs.CommandEffects.{record_of}
use Rattle.cedar_script.specs.Stack.{stack_of}
use Rattle.cedar_script.proofs.Stacks.{replaced}
use Rattle.cedar_script.proofs.work.State.make_record.Goals as goal

pub returns-clause-made : goal.returns-clause-made
returns-clause-made c =
    replaced (λ values e. bare_expr e ≡ record_of c.args.keys.items values) _ c.len.result (stack_of c.args.self.now) (stack_of c.pop_many.new.self) (stack_of c.push.new.self) c.in_ok-values.values.items c.in_ok-make_keyed_record.field-0 c.push.result
    c.len.ensures c.in_ok-values.ensures.popped c.in_ok-values.ensures.below c.in_ok-make_keyed_record.ensures.made c.push.ensures.pushed
