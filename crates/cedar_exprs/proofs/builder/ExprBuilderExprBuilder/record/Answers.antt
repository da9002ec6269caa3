use Rattle.std.proofs.Common.{◌≡◌, ap, ◌∙◌}
use Rattle.cedar_builders.specs.BareExpr.{Record}
use Rattle.cedar_builders.specs.Keys.{keys_of, HasRepeat}
use Rattle.cedar_builders.specs.Errors.{OnDuplicateKey}
use Rattle.cedar_builders.specs.declared.expression_construction_errors.ExpressionConstructionError.TheVariants.{Memory}
use Rattle.cedar_exprs.proofs.Records.{made_of_pairs, fields_in_order, on_passed}
use Rattle.cedar_exprs.proofs.builder.ExprBuilderExprBuilder.record.Goals as goal

pub returns-clause-made : goal.returns-clause-made
returns-clause-made g c = made_of_pairs c.args.self c.in_ok-values.values c.in_ok-new.field-0.value c.args.pairs.items c.record_arc.result c.in_ok-new.ensures.ok c.in_ok-values.ensures.made c.record_arc.ensures

pub returns-clause-means : goal.returns-clause-means
returns-clause-means g c = λ ascending.
    c.record_arc.ensures.tree ∙ ap Record (fields_in_order c.in_ok-values.values c.in_ok-new.field-0.value c.args.pairs.items c.in_ok-new.ensures.ok (c.in_ok-values.ensures.kept ascending))

pub returns-in_err-values-clause-accepts : goal.returns-in_err-values-clause-accepts
returns-in_err-values-clause-accepts g c = λ ascending.
    on_passed _ c.in_err-values.field-0.0 (λ e. e ≡ Memory) c.from_residual.ensures.1 (c.in_err-values.ensures.accepts ascending)

pub returns-in_err-values-clause-refuses : goal.returns-in_err-values-clause-refuses
returns-in_err-values-clause-refuses g c =
    on_passed _ c.in_err-values.field-0.0 (OnDuplicateKey (λ d. HasRepeat (keys_of c.args.pairs.items))) c.from_residual.ensures.1 c.in_err-values.ensures.repeats
