use Rattle.std.proofs.Common.{map}
use Rattle.cedar_names.specs.PlainNames.{bare_name}
use Rattle.cedar_evaluator.specs.Outcomes.{meaning_of}
use Rattle.cedar_request_evaluator.proofs.Calls.{called}
use Rattle.cedar_request_evaluator.proofs.nodes.put_call.Goals as goal

pub returns-in_ok-push_item-in-Some : goal.returns-in_ok-push_item-in-Some
returns-in_ok-push_item-in-Some g c =
    let T = g.T.CallableFunctions in
    let args = c.in_ok-args.args.items in
    let name = bare_name c.args.name.now in (
      _,
      _,
      c.in_ok-push_item-in-Some.ensures,
      (
        args,
        c.in_ok-args.ensures.taken,
        c.in_ok-args.ensures.count,
        called name ((T.bare_functions c.args.functions.now).call name)
            (g.T.Function.CallableFunction.gives c.in-Some.function) (map meaning_of args)
            _ c.in-Some.ensures c.in_ok-outcome-in-Some.ensures,
      ),
    )
