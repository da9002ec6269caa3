use Rattle.std.proofs.Common.{◌≡◌, true, arith, ℤ}
use Rattle.std.proofs.lemmas.Int.{ints}
use Rattle.std.specs.Prelude.{FitsSigned}
use Rattle.std.proofs.Common.{w64}
use Rattle.semantics_eval.specs.Longs.{is_long}

pub long_fits : (z : ℤ) → FitsSigned w64 z → is_long z ≡ true
long_fits z h = grind (arith, ints)

pub fits_long : (z : ℤ) → is_long z ≡ true → FitsSigned w64 z
fits_long z h = grind (arith, ints)
