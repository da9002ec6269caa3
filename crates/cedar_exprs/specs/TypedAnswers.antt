-- Answers of a builder behind typed substitution.
use Rattle.std.specs.Prelude.{◌≡◌, ⊤, Option, Some, None, Result, Ok, Err}
use Rattle.cedar_terms.specs.Types.{bare_type}
use Rattle.cedar_builders.specs.TypeClash.{TwoTypes}
use Rattle.cedar_builders.specs.declared.expr_builder.BuildFault.{BuildFault}
use Rattle.cedar_builders.specs.declared.expr_builder.BuildFault.TheVariants as build_fault
use Rattle.cedar_builders.specs.declared.substitution_error.SubstitutionError.{SubstitutionError}
use Rattle.cedar_builders.specs.declared.substitution_error.SubstitutionError.TheVariants as substitution_error
use Rattle.cedar_exprs.specs.declared.building.typed_build.TypedBuildFault.{TypedBuildFault}
use Rattle.cedar_exprs.specs.declared.building.typed_build.TypedBuildFault.TheVariants.{TypeError, Build, Memory}

-- the clash, if there is one, else what is wanted, its meaning or its error's, unless memory runs out
abbrev pub GivesTyped : {E D M F : Type 0} → (E → M) → (D → F) → Option TwoTypes → Result M F → Result E (TypedBuildFault D) → Type 0
GivesTyped meaning_of fault_of clash wanted (Ok e) = (clash ≡ None) × (wanted ≡ Ok (meaning_of e))
GivesTyped meaning_of fault_of clash wanted (Err (TypeError t s)) = clash ≡ Some (bare_type t, bare_type s)
GivesTyped meaning_of fault_of clash wanted (Err (Build d)) = (clash ≡ None) × (wanted ≡ Err (fault_of d))
GivesTyped meaning_of fault_of clash wanted (Err Memory) = ⊤

-- the same error of one that also builds
abbrev pub of_substitution : {D : Type 0} → SubstitutionError → TypedBuildFault D
of_substitution (substitution_error.TypeError t s) = TypeError t s
of_substitution substitution_error.Memory = Memory

-- the same error of one that also substitutes
abbrev pub of_building : {D : Type 0} → BuildFault D → TypedBuildFault D
of_building (build_fault.Build d) = Build d
of_building build_fault.Memory = Memory
