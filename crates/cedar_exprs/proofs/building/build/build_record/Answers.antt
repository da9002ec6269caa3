use Rattle.std.proofs.Common.{Ok, map, ap, ◌∙◌}
use Rattle.cedar_builders.specs.NodeByNode.{keyed}
use Rattle.cedar_exprs.specs.BareExpr.{bare_fields}
use Rattle.cedar_exprs.proofs.KeyedValues.{meant_keyed}
use Rattle.cedar_exprs.proofs.building.build.build_record.Goals as goal

pub returns-in-Ok : goal.returns-in-Ok
returns-in-Ok g c =
    let B = g.B.ExprBuilder in
    let ps = c.in_ok-keyed in
    let fields = bare_fields c.args.pairs.now.entries in
    let means = c.in-Ok.ensures.means c.requires.new ps.ensures.ascending in (
      c.in-Ok.record,
      _,
      c.in_ok-push_item-in-Ok.ensures,
      (
        c.in_ok-values.values.items,
        c.in_ok-values.ensures.taken,
        c.in_ok-values.ensures.count ∙ c.len.ensures.len,
        ap Ok (means ∙ ap B.ops.record_of (meant_keyed B.meaning_of ps.field-0.items c.args.pairs.now.entries ps.ensures.keys ∙ ap (λ xs. keyed fields (map B.meaning_of xs)) ps.ensures.values)),
      ),
    )
