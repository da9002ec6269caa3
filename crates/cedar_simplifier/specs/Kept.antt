-- What is kept of a known value.
use Rattle.std.specs.Prelude.{Bool, true}
use Rattle.std.specs.declared.cmp.Ordering.{Ordering}
use Rattle.cedar_values.specs.WellFormed.{well_formed}
use Rattle.cedar_simplifier.specs.declared.kind.Kind.{Kind}
use Rattle.cedar_simplifier.specs.declared.kind.Kind.TheVariants.{Known, Residual}

-- whether the value is well formed, if there is one
abbrev pub is_kept : {X : Type 0} → (X → X → Ordering) → Kind X → Bool
is_kept R (Known v) = well_formed R v
is_kept R (Residual t) = true
