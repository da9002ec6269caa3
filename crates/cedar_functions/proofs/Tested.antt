-- Two tests of one thing answer the same.
use Rattle.std.proofs.Common.{◌≡◌, ◌↔◌, ℤ, ◌<ℤ◌, ◌≤ℤ◌, Bool, true, int_lt, int_le, arith}
use Rattle.std.proofs.lemmas.Int.{ints}
use Rattle.std.proofs.lemmas.Bool.Decides.{same_from_decides}

pub same : {P : Type 0} (r t : Bool) → (r ≡ true) ↔ P → (t ≡ true) ↔ P → r ≡ t
same r t d e = same_from_decides r t d e

lt_decides : (m n : ℤ) → (int_lt m n ≡ true) ↔ (m <ℤ n)
lt_decides m n = (λ h. grind (arith, ints), λ h. grind (arith, ints))

le_decides : (m n : ℤ) → (int_le m n ≡ true) ↔ (m ≤ℤ n)
le_decides m n = (λ h. grind (arith, ints), λ h. grind (arith, ints))

pub less : (r : Bool) (m n : ℤ) → (r ≡ true) ↔ (m <ℤ n) → r ≡ int_lt m n
less r m n d = same r (int_lt m n) d (lt_decides m n)

pub less_or_equal : (r : Bool) (m n : ℤ) → (r ≡ true) ↔ (m ≤ℤ n) → r ≡ int_le m n
less_or_equal r m n d = same r (int_le m n) d (le_decides m n)
