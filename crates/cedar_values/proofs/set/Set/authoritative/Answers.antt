use Rattle.std.proofs.Common.{◌∙◌}
use Rattle.cedar_values.specs.Sets.{members}
use Rattle.cedar_values.proofs.set.Set.authoritative.Goals as goal

pub returns : goal.returns
unfolding members
returns g c = c.as_slice.ensures.value ∙ λ i. (c.deref.ensures i).items
