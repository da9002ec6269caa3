-- The functions of Cedar's extensions (the guide's "Operators and functions").
use Rattle.std.specs.Prelude.{ℕ, Bool, true, false, List, [], ◌∷◌, Option, Some, None, codes, if◌then◌else◌}
use Rattle.std.specs.Str.{bytes_eq}
use Rattle.cedar_function_names.specs.declared.function.ExtensionFunction.{ExtensionFunction}
use Rattle.cedar_function_names.specs.declared.function.ExtensionFunction.TheVariants.{Ip, Decimal, Datetime, Duration, IsIpv4, IsIpv6, IsLoopback, IsMulticast, IsInRange, LessThan, LessThanOrEqual, GreaterThan, GreaterThanOrEqual, Offset, DurationSince, ToDate, ToTime, ToMilliseconds, ToSeconds, ToMinutes, ToHours, ToDays}

-- all of them
abbrev pub all_functions : List ExtensionFunction
all_functions =
    Ip ∷ Decimal ∷ Datetime ∷ Duration ∷ IsIpv4 ∷
    IsIpv6 ∷ IsLoopback ∷ IsMulticast ∷ IsInRange ∷ LessThan ∷
    LessThanOrEqual ∷ GreaterThan ∷ GreaterThanOrEqual ∷ Offset ∷ DurationSince ∷
    ToDate ∷ ToTime ∷ ToMilliseconds ∷ ToSeconds ∷ ToMinutes ∷
    ToHours ∷ ToDays ∷ []

-- what each is called
abbrev pub function_name : ExtensionFunction → List ℕ
function_name Ip = codes "ip"
function_name Decimal = codes "decimal"
function_name Datetime = codes "datetime"
function_name Duration = codes "duration"
function_name IsIpv4 = codes "isIpv4"
function_name IsIpv6 = codes "isIpv6"
function_name IsLoopback = codes "isLoopback"
function_name IsMulticast = codes "isMulticast"
function_name IsInRange = codes "isInRange"
function_name LessThan = codes "lessThan"
function_name LessThanOrEqual = codes "lessThanOrEqual"
function_name GreaterThan = codes "greaterThan"
function_name GreaterThanOrEqual = codes "greaterThanOrEqual"
function_name Offset = codes "offset"
function_name DurationSince = codes "durationSince"
function_name ToDate = codes "toDate"
function_name ToTime = codes "toTime"
function_name ToMilliseconds = codes "toMilliseconds"
function_name ToSeconds = codes "toSeconds"
function_name ToMinutes = codes "toMinutes"
function_name ToHours = codes "toHours"
function_name ToDays = codes "toDays"

-- the first of some functions that has this name
abbrev pub first_named : List ℕ → List ExtensionFunction → Option ExtensionFunction
first_named name [] = None
first_named name (f ∷ fs) =
    if bytes_eq name (function_name f) then Some f else first_named name fs

-- the function of a name
abbrev pub function_named : List ℕ → Option ExtensionFunction
function_named name = first_named name all_functions

-- whether it is called as a method
abbrev pub is_method : ExtensionFunction → Bool
is_method Ip = false
is_method Decimal = false
is_method Datetime = false
is_method Duration = false
is_method f = true

-- how many arguments it takes, a method's first one among them
abbrev pub arity_of : ExtensionFunction → ℕ
arity_of IsInRange = 2
arity_of LessThan = 2
arity_of LessThanOrEqual = 2
arity_of GreaterThan = 2
arity_of GreaterThanOrEqual = 2
arity_of Offset = 2
arity_of DurationSince = 2
arity_of f = 1
