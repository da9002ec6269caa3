use Rattle.cedar_functions.proofs.Made.{calls_make_values}
use Rattle.cedar_functions.proofs.laws.calls_make_values.Goals as goal

pub returns : goal.returns
returns c = calls_make_values _ _ c.written_texts_are_read.ensures.decimals c.written_texts_are_read.ensures.durations c.written_texts_are_read.ensures.ranges c.written_texts_are_read.ensures.epoch
