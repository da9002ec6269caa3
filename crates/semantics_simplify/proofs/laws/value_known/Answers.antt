use Rattle.semantics_simplify.proofs.Values.{evaluator_laws}
use Rattle.semantics_simplify.proofs.Known as laws
use Rattle.semantics_simplify.proofs.laws.value_known.Goals as goal

pub returns : goal.returns
returns g c =
    laws.value_known
    (evaluator_laws g.X.Ord.cmp g.X.PartialEq.eq c.value_kept.ensures c.ascending_lists.ensures)
