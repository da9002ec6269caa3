use Rattle.semantics_values.specs.ValueOrder.{value_cmp_total, value_ties}
use Rattle.semantics_values.proofs.laws.values_are_ordered.Goals as goal

pub returns-clause-total : goal.returns-clause-total
returns-clause-total g c = value_cmp_total g.met.X.Ord.total

pub returns-clause-ties : goal.returns-clause-ties
returns-clause-ties g c = value_ties g.X.Ord.cmp g.X.PartialEq.eq g.met.X.Ord.matches_eq
