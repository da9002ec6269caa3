use Rattle.semantics_simplify.proofs.Values.{evaluator_laws}
use Rattle.semantics_simplify.proofs.Known as laws
use Rattle.semantics_simplify.proofs.laws.asks_no_more.Goals as goal

pub returns : goal.returns
returns g c =
    laws.asks_no_more
    (evaluator_laws g.X.Ord.cmp g.X.PartialEq.eq c.value_kept.ensures c.ascending_lists.ensures)
