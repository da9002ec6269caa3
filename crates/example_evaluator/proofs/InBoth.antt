-- To substitute in one environment and build in another is to build in both.
use Rattle.std.proofs.Common.{◌≡◌, Result, Ok, sym, ap, subst, ◌∙◌}
use Rattle.cedar_ast.specs.Answers.{Gives}
use Rattle.cedar_ast.specs.BareExpr.{BareExpr}
use Rattle.cedar_ast.specs.Environment.{Env, fold}
use Rattle.cedar_ast.specs.Ops.{Ops}
use Rattle.cedar_ast.specs.Trees.{sure, tree_ops}
use Rattle.cedar_ast.specs.declared.BuildFault.{BuildFault}

-- where building after substitution is building in some environment, and this is another one
pub gives_in : {E D M F : Type 0} (meaning_of : E → M) (fault_of : D → F) (B : Ops M F)
    (first second env other : Env) (rule substituted : BareExpr) (answer : Result E (BuildFault D))
    → fold tree_ops first rule ≡ Ok substituted
    → fold B second (sure (fold tree_ops first rule)) ≡ fold B env rule → env ≡ other
    → Gives meaning_of fault_of (fold B second substituted) answer
    → Gives meaning_of fault_of (fold B other rule) answer
gives_in meaning_of fault_of B first second env other rule substituted answer made twice is =
    subst (λ wanted. Gives meaning_of fault_of wanted answer)
    (ap (λ e. fold B second (sure e)) (sym made) ∙ twice ∙ ap (λ n. fold B n rule) is)
