-- How two values compare, by whether they are extension values.
use Rattle.std.proofs.Common.{◌≡◌, Bool, Option, Some, None, refl}
use Rattle.std.specs.declared.cmp.Ordering.{Ordering}
use Rattle.semantics_values.specs.BareValue.{BareValue, ExtensionValue}
use Rattle.semantics_eval.specs.Outcomes.{Outcome}
use Rattle.semantics_request.specs.Evaluator.{compared_or, is_ordered}
use Rattle.cedar_evaluator.specs.Kinds.{extension_in}

module _ {X : Type 0} (O : X → X → Option Ordering) (f : Ordering → Bool) where
  -- two extension values
  pub both_compared : (t u : BareValue X) (m : Outcome X) (x y : X) → Some x ≡ extension_in t
      → Some y ≡ extension_in u → compared_or O f t u m ≡ is_ordered f (O x y)
  both_compared (ExtensionValue a c) (ExtensionValue b d) m x y is has =
      let same : a ≡ x = cc in
      let other : b ≡ y = cc in
      λ i. is_ordered f (O (same i) (other i))
  both_compared (ExtensionValue a c) u m x y is has = cc
  both_compared t u m x y is has = cc

  -- the first is none, or the second
  pub first_is_none : (t u : BareValue X) (m : Outcome X) → None ≡ extension_in t
      → compared_or O f t u m ≡ m
  first_is_none (ExtensionValue a c) u m is = cc
  first_is_none t u m is = refl

  pub second_is_none : (t u : BareValue X) (m : Outcome X) → None ≡ extension_in u
      → compared_or O f t u m ≡ m
  second_is_none (ExtensionValue a c) (ExtensionValue b d) m is = cc
  second_is_none (ExtensionValue a c) u m is = refl
  second_is_none t u m is = refl

pub ruleset compared_laws = (both_compared, first_is_none, second_is_none)
