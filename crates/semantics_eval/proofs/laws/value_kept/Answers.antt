use Rattle.std.proofs.Common.{ap, ◌∙◌, Ok}
use Rattle.cedar_builders.specs.Environment.{empty, bound}
use Rattle.semantics_eval.specs.Evaluator.{evaluator_ops}
use Rattle.semantics_eval.proofs.Kept.{evaluated, kept}
use Rattle.semantics_eval.proofs.laws.value_kept.Goals as goal

pub returns : goal.returns
returns g c C t w h =
    let R = g.X.Ord.cmp in let E = g.X.PartialEq.eq in
    evaluated R E C (λ n s. bound (evaluator_ops R E) (empty n) n s) t h
    ∙ ap (λ u. Ok (Ok u)) (kept R t w)
