use Rattle.std.specs.Prelude.{string_bytes}
use Rattle.cedar_exprs.specs.BareExpr.{bare_expr}
use Rattle.example_policy_text.proofs.printed.Goals as goal

pub returns : goal.returns
returns c = λ text utf8 stands plain.
    c.parsed_trees_read_back.ensures text (bare_expr c.args.expr.now)
    (string_bytes c.in_ok-policy_text.field-0.text, c.in_ok-policy_text.field-0.precedence)
    utf8 stands plain c.in_ok-policy_text.ensures.text
