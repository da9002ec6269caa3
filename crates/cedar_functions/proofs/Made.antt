-- The call that makes a value gives the value.
use Rattle.std.proofs.Common.{◌≡◌, ℤ, pos, ◌+ℤ◌, Bool, FitsSigned, w64, [], ◌∷◌, Option, Some, Result, Ok, option_map, codes, sym, ap, subst, ◌∙◌, arith}
use Rattle.std.proofs.lemmas.Int.{ints}
use Rattle.std.specs.Net.Addr.{IsIpv4Addr, IsIpv6Addr, MatchIp}
use Rattle.std.specs.declared.cmp.Ordering.{Ordering}
use Rattle.cedar_names.specs.Names.{BareName}
use Rattle.cedar_builders.specs.Fold.{and_then}
use Rattle.cedar_extensions.specs.Decimals.{decimal_text}
use Rattle.cedar_extensions.specs.Durations.{duration_text}
use Rattle.cedar_extensions.specs.IpAddrs.{address_of, ip_addr_text}
use Rattle.cedar_extensions.specs.declared.datetime.Datetime.{Datetime}
use Rattle.cedar_extensions.specs.declared.decimal.Decimal.{Decimal}
use Rattle.cedar_extensions.specs.declared.duration.Duration.{Duration}
use Rattle.cedar_extensions.specs.declared.ip_addr.IpAddr.{IpAddr}
use Rattle.semantics_eval.specs.Outcomes.{Outcome, settled}
use Rattle.semantics_eval.specs.Rows.{all_values}
use Rattle.semantics_extensions.specs.Datetimes.{moment}
use Rattle.semantics_extensions.specs.Readings.{datetime_in, decimal_in, duration_in, ip_addr_in}
use Rattle.cedar_function_names.specs.declared.function.ExtensionFunction.TheVariants as by
use Rattle.cedar_functions.specs.Answers.{extension}
use Rattle.cedar_functions.specs.Functions.{gives, made, moment_at}
use Rattle.cedar_functions.specs.Laws.{CallsMakeValues}
use Rattle.cedar_functions.specs.declared.extension.BuiltinExtension.{BuiltinExtension}
use Rattle.cedar_functions.specs.declared.extension.BuiltinExtension.TheVariants as of
use Rattle.cedar_functions.proofs.Moments.{moment_some}

-- the outcome of a call on a text, by what the text is read as
abbrev of_read : Option BuiltinExtension → Result (Outcome BuiltinExtension) BareName
of_read o = Ok (settled (made o))

-- that of the call that makes a moment
abbrev of_both : Option Datetime → Option Duration → Result (Outcome BuiltinExtension) BareName
of_both o p =
    Ok (and_then (λ ts. settled (gives by.Offset ts))
    (all_values (settled (made (option_map of.Datetime o)) ∷ settled (made (option_map of.Duration p)) ∷ [])))

from_zero : (n : ℤ) → n ≡ pos 0 +ℤ n
from_zero n = grind (arith, ints)

offset_of_zero : (d : Datetime) → FitsSigned w64 d.milliseconds → ◌≡◌ {A = Outcome BuiltinExtension} (settled (moment_at (pos 0 +ℤ d.milliseconds))) (Ok (extension (of.Datetime d)))
offset_of_zero d h = sym (moment_some (pos 0 +ℤ d.milliseconds) d (from_zero d.milliseconds) (subst (FitsSigned w64) (from_zero d.milliseconds) h))

module _ (R : BuiltinExtension → BuiltinExtension → Ordering) (E : BuiltinExtension → BuiltinExtension → Bool)
    (decimals : (d : Decimal) → FitsSigned w64 d.ten_thousandths → decimal_in (decimal_text d.ten_thousandths) ≡ Some d)
    (durations : (d : Duration) → FitsSigned w64 d.milliseconds → duration_in (duration_text d.milliseconds) ≡ Some d)
    (ranges : (r : IpAddr) → MatchIp (address_of r) IsIpv4Addr IsIpv6Addr → ip_addr_in (ip_addr_text r) ≡ Some r)
    (epoch : datetime_in (codes "1970-01-01") ≡ Some (moment (pos 0))) where
  pub calls_make_values : CallsMakeValues R E
  calls_make_values k (of.Decimal d) h = ap (λ o. of_read (option_map of.Decimal o)) (decimals d h)
  calls_make_values k (of.IpAddr r) h = ap (λ o. of_read (option_map of.IpAddr o)) (ranges r h)
  calls_make_values k (of.Duration d) h = ap (λ o. of_read (option_map of.Duration o)) (durations d h)
  calls_make_values k (of.Datetime d) h =
      (λ i. of_both (epoch i) (durations (record { milliseconds = d.milliseconds }) h i))
      ∙ ap (λ m. Ok m) (offset_of_zero d h)
