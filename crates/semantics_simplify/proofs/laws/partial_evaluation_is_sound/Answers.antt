use Rattle.semantics_simplify.proofs.Values.{evaluator_laws}
use Rattle.semantics_simplify.proofs.Sound as laws
use Rattle.semantics_simplify.proofs.laws.partial_evaluation_is_sound.Goals as goal

pub returns : goal.returns
returns g c =
    laws.partial_is_sound
    (evaluator_laws g.X.Ord.cmp g.X.PartialEq.eq c.value_kept.ensures c.ascending_lists.ensures)
    c.substituted_by_fold.ensures
