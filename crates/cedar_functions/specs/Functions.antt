-- The table of Cedar's extension functions (the guide's "Operators and functions"; RFC 80 of Cedar
-- for moments and durations): what each gives of its arguments.
use Rattle.std.specs.Prelude.{ℕ, ℤ, pos, ◌+ℤ◌, ◌-ℤ◌, List, [], ◌∷◌, int_div, int_le, int_lt, Option, Some, None, option_map, Result, Ok, Err, if◌then◌else◌}
use Rattle.std.specs.Int.{int_rem_euclid}
use Rattle.std.specs.Ordering.{int_cmp}
use Rattle.std.specs.declared.cmp.Ordering.{Ordering}
use Rattle.std.specs.Net.Addr.{is_ipv4, is_ipv6}
use Rattle.cedar_names.specs.Names.{BareName}
use Rattle.cedar_terms.specs.Literals.{LongLit}
use Rattle.semantics_values.specs.BareValue.{BareValue, LitValue}
use Rattle.semantics_eval.specs.Longs.{is_long}
use Rattle.semantics_eval.specs.Outcomes.{Mistake, WrongType, Overflow, truth}
use Rattle.semantics_request.specs.Requests.{Functions}
use Rattle.cedar_extensions.specs.Datetimes.{day_start}
use Rattle.cedar_extensions.specs.IpAddrs.{address_of}
use Rattle.cedar_extensions.specs.declared.datetime.Datetime.{Datetime}
use Rattle.cedar_extensions.specs.declared.decimal.Decimal.{Decimal}
use Rattle.cedar_extensions.specs.declared.duration.Duration.{Duration}
use Rattle.cedar_extensions.specs.declared.ip_addr.IpAddr.{IpAddr}
use Rattle.semantics_extensions.specs.Readings.{datetime_in, decimal_in, duration_in, ip_addr_in}
use Rattle.semantics_extensions.specs.Tests.{is_in_range, is_loopback, is_multicast}
use Rattle.cedar_function_names.specs.Names.{function_named}
use Rattle.cedar_function_names.specs.declared.function.ExtensionFunction.{ExtensionFunction}
use Rattle.cedar_function_names.specs.declared.function.ExtensionFunction.TheVariants as by
use Rattle.cedar_evaluator.specs.Kinds.{extension_in, text_of}
use Rattle.cedar_functions.specs.Answers.{extension}
use Rattle.cedar_functions.specs.declared.extension.BuiltinExtension.{BuiltinExtension}
use Rattle.cedar_functions.specs.declared.extension.BuiltinExtension.TheVariants as of

-- a value, or a mistake
abbrev pub Given : Type 0
Given = Result (BareValue BuiltinExtension) Mistake

-- what a text stands for, if it stands for something
abbrev pub made : Option BuiltinExtension → Given
made None = Err WrongType
made (Some x) = Ok (extension x)

-- of a text
abbrev pub of_text : ExtensionFunction → List ℕ → Given
of_text by.Decimal text = made (option_map of.Decimal (decimal_in text))
of_text by.Ip text = made (option_map of.IpAddr (ip_addr_in text))
of_text by.Datetime text = made (option_map of.Datetime (datetime_in text))
of_text by.Duration text = made (option_map of.Duration (duration_in text))
of_text f text = Err WrongType

-- of a range of addresses
abbrev pub of_range : ExtensionFunction → IpAddr → Given
of_range by.IsIpv4 r = Ok (truth (is_ipv4 (address_of r)))
of_range by.IsIpv6 r = Ok (truth (is_ipv6 (address_of r)))
of_range by.IsLoopback r = Ok (truth (is_loopback r))
of_range by.IsMulticast r = Ok (truth (is_multicast r))
of_range f r = Err WrongType

-- of two ranges
abbrev pub of_ranges : ExtensionFunction → IpAddr → IpAddr → Given
of_ranges by.IsInRange r s = Ok (truth (is_in_range r s))
of_ranges f r s = Err WrongType

-- of two decimals
abbrev pub of_decimals : ExtensionFunction → Decimal → Decimal → Given
of_decimals by.LessThan a b = Ok (truth (int_lt a.ten_thousandths b.ten_thousandths))
of_decimals by.LessThanOrEqual a b = Ok (truth (int_le a.ten_thousandths b.ten_thousandths))
of_decimals by.GreaterThan a b = Ok (truth (int_lt b.ten_thousandths a.ten_thousandths))
of_decimals by.GreaterThanOrEqual a b = Ok (truth (int_le b.ten_thousandths a.ten_thousandths))
of_decimals f a b = Err WrongType

-- the duration of so many milliseconds
abbrev pub span : ℤ → Given
span n = Ok (extension (of.Duration (record { milliseconds = n })))

-- the same, where 64 bits hold them
abbrev pub span_of : ℤ → Given
span_of n = if is_long n then span n else Err Overflow

-- the moment of so many milliseconds, where 64 bits hold them
abbrev pub moment_at : ℤ → Given
moment_at n =
    if is_long n then Ok (extension (of.Datetime (record { milliseconds = n })))
    else Err Overflow

-- of a moment
abbrev pub of_datetime : ExtensionFunction → Datetime → Given
of_datetime by.ToDate d = moment_at (day_start d.milliseconds)
of_datetime by.ToTime d = span (int_rem_euclid d.milliseconds (pos 86400000))
of_datetime f d = Err WrongType

-- of a moment and a duration
abbrev pub of_datetime_and_duration : ExtensionFunction → Datetime → Duration → Given
of_datetime_and_duration by.Offset d e = moment_at (d.milliseconds +ℤ e.milliseconds)
of_datetime_and_duration f d e = Err WrongType

-- of two moments
abbrev pub of_datetimes : ExtensionFunction → Datetime → Datetime → Given
of_datetimes by.DurationSince d e = span_of (d.milliseconds -ℤ e.milliseconds)
of_datetimes f d e = Err WrongType

-- the integer of a duration's milliseconds divided by so many, rounded toward zero
abbrev pub units : Duration → ℕ → Given
units d n = Ok (LitValue (LongLit (int_div d.milliseconds (pos n))))

-- of a duration
abbrev pub of_duration : ExtensionFunction → Duration → Given
of_duration by.ToMilliseconds d = Ok (LitValue (LongLit d.milliseconds))
of_duration by.ToSeconds d = units d 1000
of_duration by.ToMinutes d = units d 60000
of_duration by.ToHours d = units d 3600000
of_duration by.ToDays d = units d 86400000
of_duration f d = Err WrongType

-- of an extension value
abbrev pub of_extension : ExtensionFunction → BuiltinExtension → Given
of_extension f (of.IpAddr r) = of_range f r
of_extension f (of.Datetime d) = of_datetime f d
of_extension f (of.Duration d) = of_duration f d
of_extension f (of.Decimal d) = Err WrongType

-- of two extension values
abbrev pub of_extensions : ExtensionFunction → BuiltinExtension → BuiltinExtension → Given
of_extensions f (of.Decimal a) (of.Decimal b) = of_decimals f a b
of_extensions f (of.IpAddr r) (of.IpAddr s) = of_ranges f r s
of_extensions f (of.Datetime d) (of.Duration e) = of_datetime_and_duration f d e
of_extensions f (of.Datetime d) (of.Datetime e) = of_datetimes f d e
of_extensions f x y = Err WrongType

-- of a value that is a text, or an extension value
abbrev pub of_one : ExtensionFunction → Option (List ℕ) → Option BuiltinExtension → Given
of_one f (Some text) x = of_text f text
of_one f None (Some x) = of_extension f x
of_one f None None = Err WrongType

-- of two values that are extension values
abbrev pub of_two : ExtensionFunction → Option BuiltinExtension → Option BuiltinExtension → Given
of_two f (Some x) (Some y) = of_extensions f x y
of_two f x y = Err WrongType

-- what a function gives of its arguments; each takes one or two
abbrev pub gives : ExtensionFunction → List (BareValue BuiltinExtension) → Given
gives f (t ∷ []) = of_one f (text_of t) (extension_in t)
gives f (t ∷ u ∷ []) = of_two f (extension_in t) (extension_in u)
gives f ts = Err WrongType

-- the function of a name, which is in no namespace
abbrev pub named_in : List (List ℕ) → List ℕ → Option ExtensionFunction
named_in [] name = function_named name
named_in (p ∷ ps) name = None

abbrev pub named : BareName → Option ExtensionFunction
named n = named_in n.path n.basename

-- how `<` and `<=` compare two extension values, if they may: two moments, or two durations
abbrev pub compared : BuiltinExtension → BuiltinExtension → Option Ordering
compared (of.Datetime d) (of.Datetime e) = Some (int_cmp d.milliseconds e.milliseconds)
compared (of.Duration d) (of.Duration e) = Some (int_cmp d.milliseconds e.milliseconds)
compared x y = None

-- the table
abbrev pub extension_functions : Functions BuiltinExtension
extension_functions = record { call = λ n. option_map gives (named n); compare = compared }
