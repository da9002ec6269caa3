use Rattle.std.proofs.Common.{◌≡◌, false, sym, ap, ◌∙◌, map}
use Rattle.std.specs.List.{list_any}
use Rattle.cedar_values.specs.PartialValues.{is_residual}
use Rattle.cedar_values.specs.declared.partial_value.PartialValue.TheVariants.{Value}
use Rattle.cedar_values.proofs.Splits.{all_are_values}
use Rattle.cedar_values.proofs.partial_value.split.Goals as goal

pub returns-in_ok-values : goal.returns-in_ok-values
returns-in_ok-values g c =
    let none : list_any is_residual c.args.items.items ≡ false =
    ap (list_any is_residual) (sym c.deref.ensures.value) ∙ sym c.has_residual.ensures ∙ c.if-has_residual.false in
    all_are_values c.args.items.items none
    ∙ ap (map (λ v. Value v)) (sym (c.into_iter-else-has_residual.ensures.rest ∙ c.in_ok-values.ensures))
