use Rattle.std.proofs.Common.{subst, sym, rules}
use Rattle.cedar_exprs.specs.BareExpr.{bare_expr}
use Rattle.cedar_exprs.specs.declared.expr.Expr.{Expr}
use Rattle.cedar_lexer.specs.declared.token.Span.{Span}
use Rattle.semantics_grammar.specs.Grammar.{Stands}
use Rattle.cedar_policy_parser.proofs.Firsts.{no_memory}
use Rattle.cedar_policy_parser.proofs.stream.expression.Goals as goal

pub returns-in_err-expr-clause-complete : goal.returns-in_err-expr-clause-complete
returns-in_err-expr-clause-complete c x rest h =
    let b = h.0 in
    let w = c.group-operand.ensures.whole x b.expr rest b.split b.stands h.1 in
    let e = c.in_err-expr.field-0.0 in
    no_memory (λ (y : Expr Unit × Span). bare_expr y.0) x rest c.group-operand.new.tokens c.from_residual.result e (search rules)
    (c.in_err-expr.ensures.complete x (subst (λ y. Stands y x) (sym w.0) b.stands))

pub returns-clause-complete : goal.returns-clause-complete
returns-clause-complete c x rest h =
    let b = h.0 in
    let w = c.group-operand.ensures.whole x b.expr rest b.split b.stands h.1 in
    (c.in_ok-expr.ensures.complete x (subst (λ y. Stands y x) (sym w.0) b.stands), w.1)
