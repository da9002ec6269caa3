use Rattle.std.proofs.Common.{◌≡◌}
use Rattle.cedar_lexer.specs.declared.error.ParseError.TheVariants.{Memory}
use Rattle.cedar_request.specs.Values.{tree_of}
use Rattle.cedar_request_evaluator.specs.Knowledge.{functions_of, knowledge_of}
use Rattle.cedar_entities.specs.Stores.{bare_entities}
use Rattle.cedar_functions.specs.Functions.{extension_functions}
use Rattle.cedar_authorizer.specs.Responses.{bare_response}
use Rattle.cedar.specs.Known.{all_known}
use Rattle.cedar.proofs.Answering.{responded}
use Rattle.cedar.proofs.known.Known.decide.Goals as goal

pub returns-clause-complete : goal.returns-clause-complete
returns-clause-complete c =
    responded _ _ bare_response (λ e. e ≡ Memory) c.args.policies.now (functions_of (λ _. extension_functions) c.evaluator.result)
    extension_functions (knowledge_of (bare_entities tree_of) c.evaluator.result) (all_known c.args.self.now)
    c.decide.result c.evaluator.ensures.functions c.evaluator.ensures.knowledge c.decide.ensures.complete
