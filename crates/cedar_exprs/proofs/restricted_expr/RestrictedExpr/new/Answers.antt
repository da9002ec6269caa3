use Rattle.std.proofs.Common.{false, refl, sym}
use Rattle.std.specs.Result.{is_ok}
use Rattle.cedar_exprs.proofs.NotRestrictedLemmas.{restricted, refused, no_success}
use Rattle.cedar_exprs.proofs.restricted_expr.RestrictedExpr.new.Goals as goal

pub invariant_of-result : goal.invariant_of-result
invariant_of-result c = record { restricted = restricted c.args.expr (sym c.in-None.ensures) }

pub returns-in_ok-clone_option-in-Some-clause-succeeds : goal.returns-in_ok-clone_option-in-Some-clause-succeeds
returns-in_ok-clone_option-in-Some-clause-succeeds c = refused c.args.expr false c.in-Some.node.now c.in-Some.ensures refl

pub returns-in_err-clone_option-in-Some-clause-succeeds : goal.returns-in_err-clone_option-in-Some-clause-succeeds
returns-in_err-clone_option-in-Some-clause-succeeds c =
    refused c.args.expr (is_ok c.from_residual.result) c.in-Some.node.now c.in-Some.ensures (no_success c.from_residual.result _ c.from_residual.ensures.1)
