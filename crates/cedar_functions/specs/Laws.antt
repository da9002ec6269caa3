-- The law of the calls that make extension values.
use Rattle.std.specs.Prelude.{◌≡◌, Bool, Ok, FitsSigned}
use Rattle.std.specs.Int.{w64}
use Rattle.std.specs.Net.Addr.{IsIpv4Addr, IsIpv6Addr, MatchIp}
use Rattle.std.specs.declared.cmp.Ordering.{Ordering}
use Rattle.cedar_extensions.specs.IpAddrs.{address_of}
use Rattle.semantics_values.specs.ValueExpr.{call_expr}
use Rattle.semantics_request.specs.Evaluator.{evaluated}
use Rattle.semantics_request.specs.Requests.{Knowledge}
use Rattle.cedar_functions.specs.Answers.{extension}
use Rattle.cedar_functions.specs.Extensions.{canonical_call}
use Rattle.cedar_functions.specs.Functions.{extension_functions}
use Rattle.cedar_functions.specs.declared.extension.BuiltinExtension.{BuiltinExtension}
use Rattle.cedar_functions.specs.declared.extension.BuiltinExtension.TheVariants as of

-- what holds of each value in a program: 64 bits hold its number, and its address is one of its
-- version
abbrev pub IsHeld : BuiltinExtension → Type 0
IsHeld (of.Decimal d) = FitsSigned w64 d.ten_thousandths
IsHeld (of.IpAddr r) = MatchIp (address_of r) IsIpv4Addr IsIpv6Addr
IsHeld (of.Datetime d) = FitsSigned w64 d.milliseconds
IsHeld (of.Duration d) = FitsSigned w64 d.milliseconds

-- whatever else is known, the call that makes a value evaluates to the value
abbrev pub CallsMakeValues :
    (BuiltinExtension → BuiltinExtension → Ordering) → (BuiltinExtension → BuiltinExtension → Bool)
    → Type 0
CallsMakeValues R E =
    (k : Knowledge BuiltinExtension) (x : BuiltinExtension) → IsHeld x
    → evaluated R E extension_functions k (call_expr (canonical_call x)) ≡ Ok (Ok (extension x))
