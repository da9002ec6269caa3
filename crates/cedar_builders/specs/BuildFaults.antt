-- What the faults of building say (`BuildFault`).
use Rattle.std.specs.Prelude.{Option, Some, codes}
use Rattle.cedar_builders.specs.BareExpr.{Text}
use Rattle.cedar_builders.specs.declared.expr_builder.BuildFault.{BuildFault}
use Rattle.cedar_builders.specs.declared.expr_builder.BuildFault.TheVariants.{Build, Memory}

-- the text of a fault, where T says the text of the builder's own error, if anything says it
abbrev pub build_fault_text : {E : Type 0} → (E → Option Text) → BuildFault E → Option Text
build_fault_text T (Build e) = T e
build_fault_text T Memory = Some (codes "no memory")
