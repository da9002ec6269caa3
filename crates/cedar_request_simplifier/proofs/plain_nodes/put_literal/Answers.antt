use Rattle.std.proofs.Common.{Ok, ap, ◌∙◌}
use Rattle.semantics_simplify.specs.Simplifier.{simplifier_ops}
use Rattle.cedar_request_evaluator.proofs.Puts.{put_none}
use Rattle.cedar_request_simplifier.proofs.plain_nodes.put_literal.Goals as goal

pub returns : goal.returns
returns g c =
    let B = simplifier_ops g.X.Ord.cmp g.X.PartialEq.eq g.X.ExtensionValue.canonical in
    put_none _ c.in_ok-push_item.ensures
    (ap Ok (c.in_ok-made.ensures tt ∙ ap B.lit_of c.in_ok-clone.ensures.bare))
