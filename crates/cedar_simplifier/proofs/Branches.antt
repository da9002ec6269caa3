-- What a test on known operands chooses.
use Rattle.std.proofs.Common.{◌≡◌, Bool, true, false, ap, sym}
use Rattle.std.specs.Prelude.{if◌then◌else◌}

module _ {A : Type 0} (b : Bool) (p q : A) where
  pub first_of : b ≡ true → p ≡ (if b then p else q)
  first_of h = sym (ap (λ c. if c then p else q) h)

  pub second_of : b ≡ false → q ≡ (if b then p else q)
  second_of h = sym (ap (λ c. if c then p else q) h)
