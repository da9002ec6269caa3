use Rattle.std.proofs.Common.{Ok, ap}
use Rattle.cedar_request_evaluator.proofs.Puts.{put_three}
use Rattle.cedar_request_evaluator.proofs.plain_nodes.put_if.Goals as goal

pub returns : goal.returns
returns g c =
    put_three _ _ _ _ _ _ c.take_last-else_expr.ensures.items c.take_two-test_expr.ensures
    c.in_ok-push_item.ensures (ap Ok c.choose-outcome.ensures)
