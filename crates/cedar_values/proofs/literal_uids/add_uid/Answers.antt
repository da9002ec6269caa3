use Rattle.cedar_values.proofs.Uids.{one_more}
use Rattle.cedar_values.proofs.literal_uids.add_uid.Goals as goal

pub returns : goal.returns
returns c = one_more c.args.uids.now c.insert.new.self c.args.uid (λ u. c.in_ok-insert.ensures.updates.0 u)
