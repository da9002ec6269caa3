use Rattle.cedar_request.specs.Values.{tree_of}
use Rattle.cedar_request_evaluator.specs.Knowledge.{functions_of, knowledge_of}
use Rattle.cedar_entities.specs.Stores.{bare_entities}
use Rattle.cedar_functions.specs.Extensions.{canonical_call}
use Rattle.cedar_functions.specs.Functions.{extension_functions}
use Rattle.cedar_bindings.specs.Bindings.{names_in}
use Rattle.cedar_bindings.specs.Names.{names_of}
use Rattle.cedar.specs.Known.{all_known}
use Rattle.cedar.proofs.Answering.{answered}
use Rattle.cedar.proofs.known.Known.answer.Goals as goal

pub returns : goal.returns
returns c =
    answered _ _ canonical_call (functions_of (λ _. extension_functions) c.evaluator.result) extension_functions
    (knowledge_of (bare_entities tree_of) c.evaluator.result) (all_known c.args.self.now)
    (names_of c.named.result.now) (names_in c.args.self.now.bindings) c.args.text.now c.evaluate_condition.result
    c.evaluator.ensures.functions c.evaluator.ensures.knowledge c.named.ensures c.evaluate_condition.ensures
