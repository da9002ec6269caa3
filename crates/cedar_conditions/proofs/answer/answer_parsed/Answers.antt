use Rattle.cedar_exprs.specs.BareExpr.{bare_expr}
use Rattle.cedar_bindings.specs.Names.{named, names_of}
use Rattle.cedar_request_evaluator.specs.Knowledge.{functions_of, knowledge_of}
use Rattle.cedar_conditions.proofs.Answering.{answer_of}
use Rattle.cedar_conditions.proofs.answer.answer_parsed.Goals as goal

pub returns : goal.returns
returns g c =
    answer_of g.X.Ord.cmp g.X.PartialEq.eq g.X.ExtensionValue.canonical
    (functions_of g.T.CallableFunctions.bare_functions c.args.evaluator.now)
    (knowledge_of g.S.EntityStore.bare_entities c.args.evaluator.now) (bare_expr c.in_ok-expr.expr)
    (named (names_of c.args.names.now) (bare_expr c.args.parsed.now)) c.answer_expr.result
    c.in_ok-expr.ensures c.answer_expr.ensures
