use Rattle.std.proofs.Common.{ap, ◌∙◌}
use Rattle.std.specs.Ordering.{is_eq}
use Rattle.semantics_values.specs.ValueOrder.{value_ties}
use Rattle.semantics_values.proofs.ReadBack.{tie}
use Rattle.semantics_values.proofs.Read.{read_well_formed, read_readable}
use Rattle.semantics_values.proofs.laws.reading_gives_one_value.Goals as goal

pub returns : goal.returns
returns g c = record {
  well_formed = read_well_formed g.X.Ord.cmp;
  readable = read_readable g.X.Ord.cmp;
  one = λ e t u h k. value_ties g.X.Ord.cmp g.X.PartialEq.eq g.met.X.Ord.matches_eq t u ∙ ap is_eq (tie g.met.X.Ord.total e t u h k);
}
