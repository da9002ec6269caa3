use Rattle.cedar_values.specs.Holders.{held_call, plain_env}
use Rattle.cedar_evaluator.proofs.Meanings.{not_open}
use Rattle.cedar_evaluator.proofs.laws.decided_stays.Goals as goal

pub returns : goal.returns
returns c m n e is_decided =
    c.decided_stays.ensures held_call (plain_env m) (plain_env n)
    (c.maps_bind_plain_values.ensures n (c.no_extension_values.ensures.maps n))
    e (not_open _ is_decided)
