use Rattle.std.proofs.Common.{◌∙◌, ap, map}
use Rattle.cedar_builders.specs.Walks.{first_of}
use Rattle.cedar_validation.specs.Faults.{fault_at}
use Rattle.cedar_exprs.specs.BareExpr.{bare_expr}
use Rattle.cedar_exprs.proofs.BareWalks.{positions_bare}
use Rattle.cedar_exprs.proofs.validation.check_positions.Goals as goal

pub left-init : goal.left-init
left-init g c = ap (first_of (fault_at (g.F.FunctionTable.style_at c.args.table.now))) (ap (map bare_expr) c.in_ok-left.ensures ∙ positions_bare c.args.expr.now)
