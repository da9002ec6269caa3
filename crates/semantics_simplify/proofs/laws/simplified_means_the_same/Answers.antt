use Rattle.semantics_simplify.proofs.Values.{evaluator_laws}
use Rattle.semantics_simplify.proofs.Sound as laws
use Rattle.semantics_simplify.proofs.laws.simplified_means_the_same.Goals as goal

pub returns : goal.returns
returns g c =
    laws.means_the_same
    (evaluator_laws g.X.Ord.cmp g.X.PartialEq.eq c.value_kept.ensures c.ascending_lists.ensures)
