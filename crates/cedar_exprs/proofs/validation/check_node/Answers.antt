use Rattle.std.proofs.Common.{◌≡◌, None, IfErr, OnOk, Option, arith, ap, length, subst, sym, ◌∙◌}
use Rattle.cedar_names.specs.PlainNames.{bare_name}
use Rattle.cedar_builders.specs.Walks.{members_of}
use Rattle.cedar_validation.specs.Faults.{Fault, call_fault, fault_at}
use Rattle.cedar_validation.specs.ValidationErrors.{IsErrorOf}
use Rattle.cedar_exprs.specs.BareExpr.{bare_exprs}
use Rattle.cedar_exprs.proofs.ChildrenOf.{bare_at_call, members-length}
use Rattle.cedar_exprs.proofs.validation.check_node.Goals as goal

pub returns-in-ExtensionFunctionApp-clause-passed : goal.returns-in-ExtensionFunctionApp-clause-passed
returns-in-ExtensionFunctionApp-clause-passed g c =
    let style_at = g.F.FunctionTable.style_at c.args.table.now in
    let v = c.deref.result.now in
    let k = c.in-ExtensionFunctionApp in
    let count : c.len.result ≡ length (members_of (bare_exprs v.items)) = omega (arith, members-length v.items, c.len.ensures, v.ok.0) in
    let call = bare_at_call c.args.node.now k.fn_name k.args v (sym c.expr_kind.ensures ∙ k.is) c.deref.ensures in
    subst (λ (found : Option Fault). OnOk c.check_call.result (found ≡ None))
    (ap (call_fault (bare_name k.fn_name) (style_at (bare_name k.fn_name))) count ∙ sym (ap (fault_at style_at) call)) c.check_call.ensures.passed

pub returns-in-ExtensionFunctionApp-clause-refused : goal.returns-in-ExtensionFunctionApp-clause-refused
returns-in-ExtensionFunctionApp-clause-refused g c =
    let style_at = g.F.FunctionTable.style_at c.args.table.now in
    let v = c.deref.result.now in
    let k = c.in-ExtensionFunctionApp in
    let count : c.len.result ≡ length (members_of (bare_exprs v.items)) = omega (arith, members-length v.items, c.len.ensures, v.ok.0) in
    let call = bare_at_call c.args.node.now k.fn_name k.args v (sym c.expr_kind.ensures ∙ k.is) c.deref.ensures in
    subst (λ (found : Option Fault). IfErr c.check_call.result (IsErrorOf found))
    (ap (call_fault (bare_name k.fn_name) (style_at (bare_name k.fn_name))) count ∙ sym (ap (fault_at style_at) call)) c.check_call.ensures.refused
