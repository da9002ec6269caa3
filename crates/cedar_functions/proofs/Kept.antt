-- Extension values are well formed.
use Rattle.std.proofs.Common.{◌≡◌, Bool, true, ◌&&◌, sym, ap, ◌∙◌}
use Rattle.std.specs.Global.{Global}
use Rattle.std.specs.declared.cmp.Ordering.{Ordering}
use Rattle.std.specs.declared.rc.Rc.{Rc}
use Rattle.semantics_values.specs.BareValue.{BareValue, BareValues}
use Rattle.semantics_values.specs.WellFormed.{is_well_formed}
use Rattle.cedar_values.specs.BareValues.{bare_representable, bare_set, bare_value, bare_value_kind, kind_step, set_step, value_step}
use Rattle.cedar_values.specs.WellFormed.{is_hashed, is_kind_hashed, is_set_hashed, kind_hashed, kind_well_formed, set_hashed, value_hashed}
use Rattle.cedar_values.specs.declared.extension_value.RepresentableExtensionValue.{RepresentableExtensionValue}
use Rattle.cedar_values.specs.declared.value.ValueKind.{fold_out-ValueKind, map-ValueKind, out-ValueKind, para-roll-ValueKind, roll-out-ValueKind}
use Rattle.cedar_values.specs.declared.value.ValueKind.TheVariants.{ExtensionValue, outs-ExtensionValue}

module _ {X : Type 0} where
  tree_is : (e : Rc (RepresentableExtensionValue X) Global) → bare_value_kind (ExtensionValue e) ≡ bare_representable e.value
  tree_is e =
      fold_out-ValueKind X (BareValue X) (BareValues X) (BareValue X) kind_step set_step value_step (ExtensionValue e)
      ∙ ap (λ x. kind_step (map-ValueKind X _ _ _ _ _ _ bare_value_kind bare_set bare_value x)) (outs-ExtensionValue e)

  hashed : (e : Rc (RepresentableExtensionValue X) Global) → is_kind_hashed (ExtensionValue e) ≡ true
  unfolding is_hashed is_set_hashed is_kind_hashed
  hashed e =
      ap is_kind_hashed (sym (roll-out-ValueKind X (ExtensionValue e)))
      ∙ para-roll-ValueKind X Bool Bool Bool kind_hashed set_hashed value_hashed (out-ValueKind X (ExtensionValue e))
      ∙ ap (λ x. kind_hashed (map-ValueKind X _ _ _ _ _ _ (λ y. (y, is_kind_hashed y)) (λ y. (y, is_set_hashed y)) (λ y. (y, is_hashed y)) x)) (outs-ExtensionValue e)

  pub extension_kept : (R : X → X → Ordering) (e : Rc (RepresentableExtensionValue X) Global) → kind_well_formed R (ExtensionValue e) ≡ true
  unfolding kind_well_formed
  extension_kept R e = λ i. is_well_formed R (tree_is e i) && hashed e i
