use Rattle.std.proofs.Common.{ap, sym, ◌∙◌}
use Rattle.cedar_conditions.proofs.CallTrees.{call_is}
use Rattle.cedar_conditions.proofs.calls.wrong_call.Goals as goal

pub returns-in-ExtensionFunctionApp : goal.returns-in-ExtensionFunctionApp
returns-in-ExtensionFunctionApp c =
    let n = c.in-ExtensionFunctionApp in
    let row = c.deref-in-ExtensionFunctionApp in
    call_is c.args.node.now n.fn_name n.args row.result.now c.wrong_call_of.result
    (sym c.expr_kind.ensures ∙ n.is) (row.ensures.value ∙ ap (λ v. v.items) c.deref.ensures) c.wrong_call_of.ensures
