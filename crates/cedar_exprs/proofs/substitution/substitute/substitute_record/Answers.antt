use Rattle.std.proofs.Common.{Ok, map, ap, ◌∙◌, sym}
use Rattle.cedar_builders.specs.BareExpr.{Record, fields_of}
use Rattle.cedar_builders.specs.NodeByNode.{keyed}
use Rattle.cedar_builders.specs.Rebuilding.{all_new_or}
use Rattle.cedar_exprs.specs.BareExpr.{bare_expr, bare_fields}
use Rattle.cedar_exprs.specs.Substituting.{new_tree}
use Rattle.cedar_exprs.proofs.ChildrenOf.{values_of-fields, values-length}
use Rattle.cedar_exprs.proofs.KeyedValues.{meant_keyed}
use Rattle.cedar_exprs.proofs.substitution.substitute.substitute_record.Goals as goal

pub returns-in-Ok : goal.returns-in-Ok
returns-in-Ok g c =
    let es = c.args.pairs.now.entries in
    let last = c.in_ok-take_many.field-0.items in
    let ps = c.in_ok-pairs in
    let means = c.in-Ok.ensures.means ps.ensures.ascending in
    let values = ps.ensures.values ∙ ap (λ bs. all_new_or bs (map (new_tree g.V.SubstituteValue.bare_expr_of) last)) (sym (values_of-fields es)) in (
      last,
      c.in_ok-take_many.ensures.taken,
      c.in_ok-take_many.ensures.count ∙ c.len.ensures.len ∙ sym (values-length es),
      ap Ok (ap bare_expr c.in_ok-new-in-Ok.ensures.ok ∙ means ∙ ap (λ xs. Record (fields_of xs)) (meant_keyed bare_expr ps.pairs.items es ps.ensures.keys ∙ ap (keyed (bare_fields es)) values)),
    )
