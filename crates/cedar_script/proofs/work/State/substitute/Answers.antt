use Rattle.std.proofs.Common.{◌≡◌, Ok, subst}
use Rattle.cedar_builders.specs.Environment.{fold}
use Rattle.cedar_builders.specs.Trees.{tree_ops}
use Rattle.cedar_exprs.specs.BareExpr.{bare_expr}
use Rattle.cedar_script.specs.Stack.{environment, bindings_of}
use Rattle.cedar_script.proofs.Stacks.{replaced_one}
use Rattle.cedar_script.proofs.work.State.substitute.Goals as goal

pub returns-clause-made : goal.returns-clause-made
returns-clause-made c =
    let a = c.in_ok-pop.field-0 in
    let e = c.in_ok-top.top in
    let made = subst (λ b. fold tree_ops (environment b) (bare_expr a) ≡ Ok (bare_expr e)) c.in_ok-pop.ensures.exchanges.0 c.in_ok-top.ensures in
    replaced_one (λ a e. fold tree_ops (environment (bindings_of c.args.self.now)) (bare_expr a) ≡ Ok (bare_expr e)) _ _ _ a e c.push.result c.in_ok-pop.ensures.popped made c.push.ensures.pushed
