use Rattle.cedar_bindings.specs.Names.{names_of}
use Rattle.cedar_request_evaluator.specs.Knowledge.{functions_of, knowledge_of}
use Rattle.cedar_conditions.proofs.Answering.{refused_text}
use Rattle.cedar_conditions.proofs.answer.evaluate_condition.Goals as goal

pub returns-in-Err-Syntax : goal.returns-in-Err-Syntax
returns-in-Err-Syntax g c =
    let e = c.in-Err-Syntax in
    refused_text g.X.Ord.cmp g.X.PartialEq.eq g.X.ExtensionValue.canonical
    (functions_of g.T.CallableFunctions.bare_functions c.args.evaluator.now)
    (knowledge_of g.S.EntityStore.bare_entities c.args.evaluator.now) (names_of c.args.names.now)
    c.args.text.now e.field-0 e.error c.no_condition.result e.field-0-is e.ensures.complete
    c.no_condition.ensures
