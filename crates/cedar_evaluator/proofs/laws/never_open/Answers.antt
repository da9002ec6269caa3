use Rattle.cedar_values.specs.Holders.{held_call, plain_env}
use Rattle.cedar_evaluator.proofs.Meanings.{decided}
use Rattle.cedar_evaluator.proofs.laws.never_open.Goals as goal

pub returns : goal.returns
returns c m e closed =
    decided _
    (c.never_open.ensures held_call (plain_env m)
    (c.maps_bind_plain_values.ensures m (c.no_extension_values.ensures.maps m))
    e closed)
