use Rattle.cedar_builders.specs.Answers.{never}
use Rattle.cedar_values.specs.BareValues.{bare_value}
use Rattle.cedar_values.specs.Holders.{NoExtension}
use Rattle.cedar_values.proofs.laws.no_extension_values.Goals as goal

none : NoExtension → ⊥
none h = never h.held

pub returns-clause-none : goal.returns-clause-none
returns-clause-none c = none

pub returns-clause-plain : goal.returns-clause-plain
returns-clause-plain c = c.plain_where_none.ensures none

pub returns-clause-maps : goal.returns-clause-maps
returns-clause-maps c m name v is = c.plain_where_none.ensures none (bare_value v)
