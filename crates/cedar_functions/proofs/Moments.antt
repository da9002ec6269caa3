-- Moments and durations that 64 bits hold.
use Rattle.std.proofs.Common.{◌≡◌, ℤ, FitsSigned, w64, Bool, true, false, Ok, Err, refl, ap, arith}
use Rattle.std.proofs.lemmas.Int.{ints}
use Rattle.semantics_eval.specs.Longs.{is_long}
use Rattle.semantics_eval.specs.Outcomes.{Outcome, By, Overflow, settled}
use Rattle.cedar_extensions.specs.declared.datetime.Datetime.{Datetime}
use Rattle.cedar_extensions.specs.declared.duration.Duration.{Duration}
use Rattle.cedar_functions.specs.Answers.{extension}
use Rattle.cedar_functions.specs.Functions.{moment_at, span_of}
use Rattle.cedar_functions.specs.declared.extension.BuiltinExtension.{BuiltinExtension}
use Rattle.cedar_functions.specs.declared.extension.BuiltinExtension.TheVariants as of

fits : (n : ℤ) → FitsSigned w64 n → is_long n ≡ true
fits n h = grind (arith, ints)

long_fits : (n : ℤ) → is_long n ≡ true → FitsSigned w64 n
long_fits n h = grind (arith, ints)

fits_not : (n : ℤ) → ¬ (FitsSigned w64 n) → is_long n ≡ false
fits_not n h = at (is_long n) refl
  where
    at : (b : Bool) → is_long n ≡ b → is_long n ≡ false
    at true e = absurd (h (long_fits n e))
    at false e = e

pub moment_some : (n : ℤ) (d : Datetime) → d.milliseconds ≡ n → FitsSigned w64 n → ◌≡◌ {A = Outcome BuiltinExtension} (Ok (extension (of.Datetime d))) (settled (moment_at n))
moment_some n d e h = rw (fits n h) (ap (λ m. Ok (extension (of.Datetime (record { milliseconds = m })))) e)

pub moment_none : (n : ℤ) → ¬ (FitsSigned w64 n) → ◌≡◌ {A = Outcome BuiltinExtension} (Err (By Overflow)) (settled (moment_at n))
moment_none n h = rw (fits_not n h) refl

pub span_some : (n : ℤ) (d : Duration) → d.milliseconds ≡ n → FitsSigned w64 n → ◌≡◌ {A = Outcome BuiltinExtension} (Ok (extension (of.Duration d))) (settled (span_of n))
span_some n d e h = rw (fits n h) (ap (λ m. Ok (extension (of.Duration (record { milliseconds = m })))) e)

pub span_none : (n : ℤ) → ¬ (FitsSigned w64 n) → ◌≡◌ {A = Outcome BuiltinExtension} (Err (By Overflow)) (settled (span_of n))
span_none n h = rw (fits_not n h) refl
