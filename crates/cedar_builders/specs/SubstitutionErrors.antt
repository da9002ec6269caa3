-- What the errors of substitution say (`SubstitutionError` of Cedar's `expr.rs`).
use Rattle.std.specs.Prelude.{◌≡◌, ⊤, Option, Some, None}
use Rattle.cedar_terms.specs.Types.{bare_type}
use Rattle.cedar_builders.specs.TypeClash.{TwoTypes}
use Rattle.cedar_builders.specs.declared.substitution_error.SubstitutionError.{SubstitutionError}
use Rattle.cedar_builders.specs.declared.substitution_error.SubstitutionError.TheVariants.{TypeError, Memory}

-- the types that an error names
abbrev pub types_of : SubstitutionError → Option TwoTypes
types_of (TypeError expected actual) = Some (bare_type expected, bare_type actual)
types_of Memory = None

-- the error names the types that were found to differ, or memory ran out
abbrev pub IsClashError : Option TwoTypes → SubstitutionError → Type 0
IsClashError found (TypeError expected actual) = found ≡ Some (bare_type expected, bare_type actual)
IsClashError found Memory = ⊤
