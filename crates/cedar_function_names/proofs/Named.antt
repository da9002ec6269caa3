-- Each function has a name of its own.
use Rattle.std.proofs.Common.{◌≡◌, Some, refl}
use Rattle.cedar_function_names.specs.Names.{function_name, function_named}
use Rattle.cedar_function_names.specs.declared.function.ExtensionFunction.{ExtensionFunction}
use Rattle.cedar_function_names.specs.declared.function.ExtensionFunction.TheVariants.{Ip, Decimal, Datetime, Duration, IsIpv4, IsIpv6, IsLoopback, IsMulticast, IsInRange, LessThan, LessThanOrEqual, GreaterThan, GreaterThanOrEqual, Offset, DurationSince, ToDate, ToTime, ToMilliseconds, ToSeconds, ToMinutes, ToHours, ToDays}

pub named : (f : ExtensionFunction) → function_named (function_name f) ≡ Some f
named Ip = refl
named Decimal = refl
named Datetime = refl
named Duration = refl
named IsIpv4 = refl
named IsIpv6 = refl
named IsLoopback = refl
named IsMulticast = refl
named IsInRange = refl
named LessThan = refl
named LessThanOrEqual = refl
named GreaterThan = refl
named GreaterThanOrEqual = refl
named Offset = refl
named DurationSince = refl
named ToDate = refl
named ToTime = refl
named ToMilliseconds = refl
named ToSeconds = refl
named ToMinutes = refl
named ToHours = refl
named ToDays = refl
