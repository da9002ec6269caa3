use Rattle.std.proofs.Common.{Ok, map, ap, ◌∙◌}
use Rattle.cedar_builders.specs.NodeByNode.{keyed}
use Rattle.cedar_exprs.specs.BareExpr.{bare_fields}
use Rattle.semantics_simplify.specs.Simplifier.{simplifier_ops}
use Rattle.cedar_simplifier.specs.Simplified.{meaning_of}
use Rattle.cedar_exprs.proofs.KeyedValues.{meant_keyed}
use Rattle.cedar_request_simplifier.proofs.plain_nodes.put_record.Goals as goal

pub returns-in-Ok : goal.returns-in-Ok
returns-in-Ok g c =
    let ps = c.in_ok-keyed in
    let B = simplifier_ops g.X.Ord.cmp g.X.PartialEq.eq g.X.ExtensionValue.canonical in
    let fields = bare_fields c.args.pairs.now.entries in (
      c.in-Ok.made,
      _,
      c.in_ok-push_item-in-Ok.ensures,
      (
        c.in_ok-values.values.items,
        c.in_ok-values.ensures.taken,
        c.in_ok-values.ensures.count ∙ c.len.ensures.len,
        ap Ok (c.in-Ok.ensures.means ps.ensures.ascending ∙ ap B.record_of
            (meant_keyed meaning_of ps.field-0.items c.args.pairs.now.entries ps.ensures.keys
            ∙ ap (λ xs. keyed fields (map meaning_of xs)) ps.ensures.values)),
      ),
    )
