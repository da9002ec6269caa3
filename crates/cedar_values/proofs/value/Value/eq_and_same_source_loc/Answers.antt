use Rattle.std.proofs.Common.{◌≡◌, true, Option, Some, None, refl, sym, ap, ◌∙◌}
use Rattle.std.proofs.lemmas.Bool.{true≢false}
use Rattle.std.specs.Option.{option_eq}
use Rattle.cedar_names.specs.Place.{Place, place_eq, place_eq_decides}
use Rattle.cedar_values.specs.BareValues.{value_place}
use Rattle.cedar_values.proofs.value.Value.eq_and_same_source_loc.Goals as goal

decided : (p q : Option Place) → (option_eq place_eq p q ≡ true → p ≡ q) × (p ≡ q → option_eq place_eq p q ≡ true)
decided None None = (λ _. refl, λ _. refl)
decided None (Some l) = (λ h. cc, λ h. cc)
decided (Some k) None = (λ h. cc, λ h. cc)
decided (Some k) (Some l) = (λ h. ap Some ((place_eq_decides k l).0 h), λ h. (place_eq_decides k l).1 (cc h))

pub returns-then-eq : goal.returns-then-eq
returns-then-eq g c =
    let a = c.args.self.now in
    let b = c.args.other.now in
    let places = decided (value_place a) (value_place b) in (
      λ t. (sym (c.order_of_values.ensures.same a b) ∙ sym c.eq.ensures ∙ c.if-eq.true, places.0 (sym c.eq-then-eq.ensures ∙ t)),
      λ h. c.eq-then-eq.ensures ∙ places.1 h.1,
    )

pub returns-else-eq : goal.returns-else-eq
returns-else-eq g c = (
  λ t. absurd (true≢false (sym t ∙ c.if-eq.false)),
  λ h. c.eq.ensures ∙ c.order_of_values.ensures.same c.args.self.now c.args.other.now ∙ h.0,
)
