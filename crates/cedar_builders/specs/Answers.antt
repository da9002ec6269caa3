-- An answer with an expression or an error, by what they mean.
use Rattle.std.specs.Prelude.{◌≡◌, ⊤, Result, Ok, Err, IfOk}
use Rattle.std.specs.declared.convert.Infallible.{Infallible}
use Rattle.cedar_builders.specs.declared.expr_builder.BuildFault.{BuildFault}
use Rattle.cedar_builders.specs.declared.expr_builder.BuildFault.TheVariants.{Build, Memory}

-- the answer means this, unless memory runs out
abbrev pub Means : {E D M : Type 0} → (E → M) → M → Result E D → Type 0
Means meaning_of m result = IfOk result (λ e. meaning_of e ≡ m)

-- the answer is what is wanted, its meaning or its error's, unless memory runs out
abbrev pub Gives : {E D M F : Type 0} → (E → M) → (D → F) → Result M F → Result E (BuildFault D) → Type 0
Gives meaning_of fault_of wanted (Ok e) = wanted ≡ Ok (meaning_of e)
Gives meaning_of fault_of wanted (Err (Build d)) = wanted ≡ Err (fault_of d)
Gives meaning_of fault_of wanted (Err Memory) = ⊤

-- an error that there is none of
abbrev pub never : Infallible → ⊥
never e = elim e [ ]

-- what holds of an expression that was built where no error is the builder's own, unless memory runs out
abbrev pub IfBuilt : {E : Type 0} → Result E (BuildFault Infallible) → (E → Type 0) → Type 0
IfBuilt (Ok e) P = P e
IfBuilt (Err (Build d)) P = ⊥
IfBuilt (Err Memory) P = ⊤
