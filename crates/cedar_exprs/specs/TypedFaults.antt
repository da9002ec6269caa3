-- What the faults of building behind typed substitution say (`TypedBuildFault`).
use Rattle.std.specs.Prelude.{◌++◌, Option, Some, codes}
use Rattle.cedar_terms.specs.Types.{bare_type, type_text}
use Rattle.cedar_builders.specs.BareExpr.{Text}
use Rattle.cedar_exprs.specs.declared.building.typed_build.TypedBuildFault.{TypedBuildFault}
use Rattle.cedar_exprs.specs.declared.building.typed_build.TypedBuildFault.TheVariants.{TypeError, Build, Memory}

-- the text of a fault, where T says the text of the builder's own error, if anything says it
abbrev pub typed_fault_text : {E : Type 0} → (E → Option Text) → TypedBuildFault E → Option Text
typed_fault_text T (TypeError expected actual) =
    Some (codes "expected a value of type " ++ (type_text (bare_type expected)
    ++ (codes ", got a value of type " ++ type_text (bare_type actual))))
typed_fault_text T (Build e) = T e
typed_fault_text T Memory = Some (codes "no memory")
