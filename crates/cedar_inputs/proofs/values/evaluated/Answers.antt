use Rattle.std.proofs.Common.{◌∙◌}
use Rattle.cedar_exprs.specs.BareExpr.{bare_expr}
use Rattle.cedar_values.specs.Holders.{held_call, held_name}
use Rattle.cedar_values.specs.WellFormedValues.{tree_of, type_of}
use Rattle.cedar_request.specs.Requests.{bare_request}
use Rattle.cedar_inputs.proofs.Nothing.{if_valued, no_bindings, no_parts}
use Rattle.cedar_inputs.proofs.values.evaluated.Goals as goal

pub returns-in-Ok : goal.returns-in-Ok
returns-in-Ok c =
    let parts = c.new-request.ensures in
    let knows = c.new-evaluator.ensures in
    let nothing = no_parts (bare_request c.new-request.result) parts.principal parts.action parts.resource parts.context in
    let unbound = no_bindings (type_of held_name) (tree_of held_call) c.new-values.result c.new-values.ensures.empty in
    if_valued _ _ (bare_expr c.args.expr.now) _ c.value_in.result (knows.request ∙ nothing)
    knows.entities (knows.values ∙ unbound) knows.functions c.in-Ok.ensures c.value_in.ensures
