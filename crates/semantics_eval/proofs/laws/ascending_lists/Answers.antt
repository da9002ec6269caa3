use Rattle.semantics_values.specs.ValueOrder.{value_cmp_total}
use Rattle.semantics_eval.proofs.AscendingLists.{classes_of}
use Rattle.semantics_eval.proofs.laws.ascending_lists.Goals as goal

pub returns : goal.returns
returns g c = classes_of (value_cmp_total g.met.X.Ord.total)
