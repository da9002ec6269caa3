use Rattle.serde_json.specs.View.{view}
use Rattle.cedar_exprs.specs.BareExpr.{bare_expr}
use Rattle.cedar_json.specs.Values.{StandsFor}
use Rattle.cedar_json.proofs.Nothing.{given}
use Rattle.cedar_json.proofs.Once.{one_value}
use Rattle.cedar_json.proofs.values.expr_of.Goals as goal

pub returns-clause-complete : goal.returns-clause-complete
returns-clause-complete c =
    given (StandsFor (view c.args.json.now)) bare_expr (one_value c.name_texts_differ.ensures (view c.args.json.now)) _
    c.meant_expr.ensures
