use Rattle.std.proofs.Common.{ap, map, sym, ◌∙◌}
use Rattle.semantics_simplify.specs.Simplifier.{simplifier_ops}
use Rattle.cedar_simplifier.specs.Simplified.{meaning_of}
use Rattle.cedar_request_simplifier.proofs.plain_nodes.put_call.Goals as goal

pub returns-in_ok-push_item-in-Ok : goal.returns-in_ok-push_item-in-Ok
returns-in_ok-push_item-in-Ok g c =
    let B = simplifier_ops g.X.Ord.cmp g.X.PartialEq.eq g.X.ExtensionValue.canonical in (
      c.in-Ok.made,
      _,
      c.in_ok-push_item-in-Ok.ensures,
      (
        c.in_ok-args.args.items,
        c.in_ok-args.ensures.taken,
        c.in_ok-args.ensures.count,
        sym c.in-Ok.ensures
            ∙ ap (λ n. B.call_of n (map meaning_of c.in_ok-args.args.items))
            c.in_ok-clone.ensures.name,
      ),
    )
