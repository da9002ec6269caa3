-- Partial values that are all values.
use Rattle.std.proofs.Common.{◌≡◌, false, List, [], ◌∷◌, map, refl, ap}
use Rattle.std.specs.List.{filter_map, list_any}
use Rattle.cedar_values.specs.PartialValues.{is_residual, value_in}
use Rattle.cedar_values.specs.declared.partial_value.PartialValue.{PartialValue}
use Rattle.cedar_values.specs.declared.partial_value.PartialValue.TheVariants.{Value, Residual}

pub all_are_values : {X : Type 0} (ps : List (PartialValue X)) → list_any is_residual ps ≡ false → ps ≡ map (λ v. Value v) (filter_map value_in ps)
all_are_values [] h = refl
all_are_values (Value v ∷ ps) h = ap (λ qs. Value v ∷ qs) (all_are_values ps h)
all_are_values (Residual e ∷ ps) h = cc
