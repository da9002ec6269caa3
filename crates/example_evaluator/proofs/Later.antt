-- To evaluate the residual of a rule is to evaluate the rule.
use Rattle.std.proofs.Common.{◌≡◌, Result, ap, subst, ◌∙◌}
use Rattle.cedar_ast.specs.Answers.{Gives}
use Rattle.cedar_ast.specs.BareExpr.{BareExpr}
use Rattle.cedar_ast.specs.Environment.{Env, fold}
use Rattle.cedar_ast.specs.Ops.{Ops}
use Rattle.cedar_ast.specs.declared.BuildFault.{BuildFault}

-- where the residual means the same
pub gives_later : {E D M F : Type 0} (meaning_of : E → M) (fault_of : D → F) (B : Ops M F)
    (later envs : Env) (rule rest residual : BareExpr) (answer : Result E (BuildFault D))
    → residual ≡ rest → fold B later rest ≡ fold B envs rule
    → Gives meaning_of fault_of (fold B later residual) answer
    → Gives meaning_of fault_of (fold B envs rule) answer
gives_later meaning_of fault_of B later envs rule rest residual answer made same =
    subst (λ wanted. Gives meaning_of fault_of wanted answer) (ap (fold B later) made ∙ same)
