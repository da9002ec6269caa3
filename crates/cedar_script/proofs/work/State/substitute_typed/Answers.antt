use Rattle.std.proofs.Common.{◌≡◌, Ok, None, subst}
use Rattle.cedar_builders.specs.Environment.{fold}
use Rattle.cedar_builders.specs.Trees.{tree_ops}
use Rattle.cedar_builders.specs.TypeClash.{clash}
use Rattle.cedar_exprs.specs.BareExpr.{bare_expr}
use Rattle.cedar_exprs.specs.declared.expr.Expr.{Expr}
use Rattle.cedar_script.specs.Stack.{Bindings, environment, bindings_of}
use Rattle.cedar_script.proofs.Stacks.{replaced_one}
use Rattle.cedar_script.proofs.work.State.substitute_typed.Goals as goal

-- e is the substitution of a, which has no clash
abbrev Is : Bindings → Expr Unit → Expr Unit → Type 0
Is b a e = (fold tree_ops (environment b) (bare_expr a) ≡ Ok (bare_expr e)) × (clash (environment b) (bare_expr a) ≡ None)

pub returns-clause-made : goal.returns-clause-made
returns-clause-made c =
    let a = c.in_ok-pop.field-0 in
    let e = c.in_ok-top.top in
    let made = subst (λ b. Is b a e) c.in_ok-pop.ensures.exchanges.0 (c.in_ok-top.ensures.substituted, c.in_ok-top.ensures.passed) in
    replaced_one (Is (bindings_of c.args.self.now)) _ _ _ a e c.push.result c.in_ok-pop.ensures.popped made c.push.ensures.pushed
