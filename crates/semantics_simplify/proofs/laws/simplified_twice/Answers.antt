use Rattle.semantics_simplify.proofs.Values.{evaluator_laws}
use Rattle.semantics_simplify.proofs.Stages as laws
use Rattle.semantics_simplify.proofs.laws.simplified_twice.Goals as goal

pub returns : goal.returns
returns g c =
    laws.simplified_twice
    (evaluator_laws g.X.Ord.cmp g.X.PartialEq.eq c.value_kept.ensures c.ascending_lists.ensures)
