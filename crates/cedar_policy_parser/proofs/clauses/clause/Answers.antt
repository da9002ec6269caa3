use Rattle.std.proofs.Common.{Err, Ok, rules}
use Rattle.cedar_exprs.specs.BareExpr.{bare_expr}
use Rattle.cedar_exprs.specs.declared.expr.Expr.{Expr}
use Rattle.cedar_policies.specs.Policies.{bare_clause}
use Rattle.cedar_parser.specs.Meant.{here}
use Rattle.cedar_policy_parser.proofs.CompleteClauses.{no_other_word, unless_given, when_given}
use Rattle.cedar_policy_parser.proofs.Firsts.{no_memory}
use Rattle.cedar_policy_parser.proofs.clauses.clause.Goals as goal

pub returns-in_err-body-in-when-clause-complete : goal.returns-in_err-body-in-when-clause-complete
returns-in_err-body-in-when-clause-complete c x rest h =
    let e = c.in_err-body-in-when.field-0.0 in
    no_memory bare_clause x rest c.body.new.tokens c.from_residual.result e (search rules)
    (when_given (λ (y : Expr Unit). bare_expr y) c.args.word.text.now x rest c.args.tokens.now c.body.new.tokens (Err e) c.in-when.is c.in_err-body-in-when.ensures.complete h)

pub returns-in_ok-body-in-when-clause-complete : goal.returns-in_ok-body-in-when-clause-complete
returns-in_ok-body-in-when-clause-complete c x rest h =
    let o = c.in_ok-body-in-when in
    when_given bare_expr c.args.word.text.now x rest c.args.tokens.now c.body.new.tokens (Ok o.field-0) c.in-when.is o.ensures.complete h

pub returns-in_err-body-in-unless-clause-complete : goal.returns-in_err-body-in-unless-clause-complete
returns-in_err-body-in-unless-clause-complete c x rest h =
    let e = c.in_err-body-in-unless.field-0.0 in
    no_memory bare_clause x rest c.body-in-unless.new.tokens c.from_residual-in_err-body-in-unless.result e (search rules)
    (unless_given (λ (y : Expr Unit). bare_expr y) c.args.word.text.now x rest c.args.tokens.now c.body-in-unless.new.tokens (Err e) c.in-unless.is
    c.in_err-body-in-unless.ensures.complete h)

pub returns-in_ok-body-in-unless-clause-complete : goal.returns-in_ok-body-in-unless-clause-complete
returns-in_ok-body-in-unless-clause-complete c x rest h =
    let o = c.in_ok-body-in-unless in
    unless_given bare_expr c.args.word.text.now x rest c.args.tokens.now c.body-in-unless.new.tokens (Ok o.field-0) c.in-unless.is o.ensures.complete h

pub returns-in_default-clause-complete : goal.returns-in_default-clause-complete
returns-in_default-clause-complete c x rest h =
    absurd (no_other_word c.args.word.text.now x (here c.args.tokens.now) rest c.in_default.not-when c.in_default.not-unless h)
