use Rattle.cedar_values.specs.BareValues.{bare_value}
use Rattle.cedar_values.specs.Holders.{held_call}
use Rattle.cedar_evaluator.proofs.Meanings.{is_value}
use Rattle.cedar_evaluator.proofs.laws.value_kept.Goals as goal

pub returns : goal.returns
returns c v kept =
    is_value _ v
    (c.value_kept.ensures held_call (bare_value v) (c.well_formed_parts.ensures.tree v kept)
    (c.no_extension_values.ensures.plain (bare_value v)))
