use Rattle.std.proofs.Common.{Ok, ap}
use Rattle.cedar_request_evaluator.proofs.Puts.{put_one}
use Rattle.cedar_request_evaluator.proofs.plain_nodes.put_is.Goals as goal

pub returns : goal.returns
returns g c =
    put_one _ _ _ c.take_last-child.ensures.items c.in_ok-push_item.ensures
    (ap Ok c.is_of_type-outcome.ensures.meaning)
