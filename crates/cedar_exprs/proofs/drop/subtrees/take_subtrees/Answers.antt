use Rattle.std.proofs.Common.{sym}
use Rattle.cedar_exprs.proofs.Fewer.{call_nodes, set_nodes, record_nodes}
use Rattle.cedar_exprs.proofs.drop.subtrees.take_subtrees.Goals as goal

pub returns-in-ExtensionFunctionApp-clause-nodes : goal.returns-in-ExtensionFunctionApp-clause-nodes
returns-in-ExtensionFunctionApp-clause-nodes g c = sym (call_nodes c.args.kind c.in-ExtensionFunctionApp.fn_name c.in-ExtensionFunctionApp.args c.in-ExtensionFunctionApp.is)

pub returns-in-Set-clause-nodes : goal.returns-in-Set-clause-nodes
returns-in-Set-clause-nodes g c = sym (set_nodes c.args.kind c.in-Set.members c.in-Set.is)

pub returns-in-Record-clause-nodes : goal.returns-in-Record-clause-nodes
returns-in-Record-clause-nodes g c = sym (record_nodes c.args.kind c.in-Record.fields c.in-Record.is)
