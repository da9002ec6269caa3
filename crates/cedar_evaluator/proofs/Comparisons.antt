-- Comparisons of values, by their kinds.
use Rattle.std.proofs.Common.{◌≡◌, ℤ, Bool, Option, Some, None, Ok, Err, refl, ap, sym}
use Rattle.cedar_terms.specs.Literals.{LongLit}
use Rattle.semantics_values.specs.BareValue.{BareValue, LitValue, ExtensionValue}
use Rattle.semantics_eval.specs.Longs.{compared}
use Rattle.semantics_eval.specs.Outcomes.{WrongType, Store, By, Outcome, settled, truth}
use Rattle.cedar_evaluator.specs.Kinds.{extension_in, incomparable, longs_of}

module _ {X : Type 0} where
  -- two integers
  pub longs_compared : (f : ℤ → ℤ → Bool) (t u : BareValue X) (p : ℤ × ℤ)
      → Some p ≡ longs_of t u → compared f t u ≡ Ok (truth (f p.0 p.1))
  longs_compared f (LitValue (LongLit m)) (LitValue (LongLit n)) p is =
      let same : p ≡ (m, n) = cc in ap (λ (q : ℤ × ℤ). Ok (truth (f q.0 q.1))) (sym same)
  longs_compared f t u p is = cc

  -- values that are no two integers
  pub others_compared : (f : ℤ → ℤ → Bool) (t u : BareValue X) → None ≡ longs_of t u
      → settled (compared f t u) ≡ Err (incomparable t u)
  others_compared f (LitValue (LongLit m)) (LitValue (LongLit n)) is = cc
  others_compared f (ExtensionValue x c) (ExtensionValue y d) is = refl
  others_compared f (ExtensionValue x c) u is = refl
  others_compared f t u is = refl

  -- why they do not compare
  pub both_extensions : (t u : BareValue X) (x y : X) → Some x ≡ extension_in t
      → Some y ≡ extension_in u → By Store ≡ incomparable t u
  both_extensions (ExtensionValue a c) (ExtensionValue b d) x y is has = refl
  both_extensions (ExtensionValue a c) u x y is has = cc
  both_extensions t u x y is has = cc

  pub first_is_other : (t u : BareValue X) → None ≡ extension_in t
      → By WrongType ≡ incomparable t u
  first_is_other (ExtensionValue a c) u is = cc
  first_is_other t u is = refl

  pub second_is_other : (t u : BareValue X) → None ≡ extension_in u
      → By WrongType ≡ incomparable t u
  second_is_other (ExtensionValue a c) (ExtensionValue b d) is = cc
  second_is_other (ExtensionValue a c) u is = refl
  second_is_other t u is = refl

pub ruleset comparison_laws = (longs_compared, others_compared)

pub ruleset incomparable_laws = (both_extensions, first_is_other, second_is_other)
