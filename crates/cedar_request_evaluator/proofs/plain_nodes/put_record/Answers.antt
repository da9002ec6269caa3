use Rattle.std.proofs.Common.{Ok, map, ap, ◌∙◌}
use Rattle.cedar_builders.specs.NodeByNode.{keyed}
use Rattle.cedar_exprs.specs.BareExpr.{bare_fields}
use Rattle.semantics_eval.specs.Rows.{record_outcome}
use Rattle.cedar_evaluator.specs.Outcomes.{meaning_of}
use Rattle.cedar_exprs.proofs.KeyedValues.{meant_keyed}
use Rattle.cedar_request_evaluator.proofs.plain_nodes.put_record.Goals as goal

pub returns : goal.returns
returns g c =
    let ps = c.in_ok-keyed in
    let fields = bare_fields c.args.pairs.now.entries in
    let means = c.in_ok-outcome.ensures ps.ensures.ascending in (
      c.in_ok-outcome.outcome,
      _,
      c.in_ok-push_item.ensures,
      (
        c.in_ok-values.values.items,
        c.in_ok-values.ensures.taken,
        c.in_ok-values.ensures.count ∙ c.len.ensures.len,
        ap Ok (means ∙ ap record_outcome
            (meant_keyed meaning_of ps.keyed.items c.args.pairs.now.entries ps.ensures.keys
            ∙ ap (λ xs. keyed fields (map meaning_of xs)) ps.ensures.values)),
      ),
    )
