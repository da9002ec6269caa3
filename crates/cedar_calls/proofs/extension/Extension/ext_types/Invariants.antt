use Rattle.std.proofs.Common.{◌≡◌, ◌++◌}
use Rattle.std.specs.List.{flat_map}
use Rattle.cedar_terms.specs.SchemaTypes.{bare_names}
use Rattle.cedar_calls.specs.Extensions.{functions_of}
use Rattle.cedar_calls.specs.Functions.{ext_types_of}
use Rattle.cedar_calls.proofs.extension.Extension.ext_types.Given as goal

-- the names so far, and those of the functions that are left
abbrev pub invariant-loop-function : goal.invariant-loop-function
invariant-loop-function g l =
    bare_names l.names.items ++ flat_map ext_types_of l.function-iterator ≡ flat_map ext_types_of (functions_of l.self)
