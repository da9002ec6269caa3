use Rattle.std.proofs.Common.{Ok, ap}
use Rattle.cedar_request_evaluator.proofs.Puts.{put_none}
use Rattle.cedar_request_evaluator.proofs.plain_nodes.put_open.Goals as goal

pub returns : goal.returns
returns g c = put_none _ c.in_ok-push_item.ensures (ap Ok c.fail-outcome.ensures.meaning)
