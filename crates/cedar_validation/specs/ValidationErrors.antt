-- What the errors of validation say (`ExprValidationError` of Cedar's `expr.rs`).
use Rattle.std.specs.Prelude.{◌≡◌, ⊤, Option, Some, None}
use Rattle.std.specs.Rc.{rc_str_bytes}
use Rattle.cedar_names.specs.Place.{Place}
use Rattle.cedar_names.specs.PlainNames.{bare_name, name_place}
use Rattle.cedar_validation.specs.Faults.{Fault, unknown_function, missing_receiver, invalid_attribute}
use Rattle.cedar_validation.specs.declared.expr_validation_error.ExprValidationError.{ExprValidationError}
use Rattle.cedar_validation.specs.declared.expr_validation_error.ExprValidationError.TheVariants.{UnknownFunction, MissingReceiver, InvalidAttribute, Memory}

-- the fault that an error names
abbrev pub fault_of : ExprValidationError → Option Fault
fault_of (UnknownFunction name) = Some (unknown_function (bare_name name))
fault_of (MissingReceiver name) = Some (missing_receiver (bare_name name))
fault_of (InvalidAttribute attr) = Some (invalid_attribute (rc_str_bytes attr))
fault_of Memory = None

-- the place of the name that it has
abbrev pub fault_place : ExprValidationError → Option Place
fault_place (UnknownFunction name) = name_place name
fault_place (MissingReceiver name) = name_place name
fault_place e = None

-- the error names the fault that was found, or memory ran out
abbrev pub IsErrorOf : Option Fault → ExprValidationError → Type 0
IsErrorOf found (UnknownFunction name) = found ≡ Some (unknown_function (bare_name name))
IsErrorOf found (MissingReceiver name) = found ≡ Some (missing_receiver (bare_name name))
IsErrorOf found (InvalidAttribute attr) = found ≡ Some (invalid_attribute (rc_str_bytes attr))
IsErrorOf found Memory = ⊤
