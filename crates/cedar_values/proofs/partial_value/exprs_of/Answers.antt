use Rattle.std.proofs.Common.{subst, sym}
use Rattle.std.specs.List.{AllZip}
use Rattle.cedar_values.specs.PartialValues.{IsExprOf}
use Rattle.cedar_values.proofs.Readings.{zip_push}
use Rattle.cedar_values.proofs.partial_value.exprs_of.Goals as goal

pub loop-item-preserved : goal.loop-item-preserved
loop-item-preserved g c =
    let C = g.X.ExtensionValue.canonical in
    subst (AllZip (IsExprOf C) _) (sym c.in_ok-push.ensures.items)
    (zip_push (IsExprOf C) c.loop-item.yielded c.loop-item.exprs.items c.in-Some.item c.in_ok-into_expr.field-0 c.loop-item.invariant c.in_ok-into_expr.ensures)
