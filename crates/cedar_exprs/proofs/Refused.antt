-- The refusal of a walk is that of substitution.
use Rattle.std.proofs.Common.{◌≡◌, Option, None, Result, Ok, Err, sym, ap, ◌∙◌, subst}
use Rattle.cedar_builders.specs.BareExpr.{BareExpr}
use Rattle.cedar_builders.specs.Environment.{Env}
use Rattle.cedar_builders.specs.Rebuilding.{renewed, unless_refused, refused_is}
use Rattle.cedar_builders.specs.TypeClash.{TwoTypes, Refusals, first_refusal}
use Rattle.cedar_exprs.specs.PostOrder.{IsAnswer}
use Rattle.cedar_exprs.specs.Refusals.{Refuses}
use Rattle.cedar_exprs.specs.declared.walks.post_order.PostOrderFault.{PostOrderFault}
use Rattle.cedar_exprs.specs.declared.walks.post_order.PostOrderFault.TheVariants.{Refused, Memory}

pub passed_on : {X E D : Type 0} (refuse : Refusals) (env : Env) (e : BareExpr) (meaning_of : X → Option BareExpr) (types_of : D → TwoTypes) (fault : PostOrderFault D) (answer : Result E (PostOrderFault D))
    → answer ≡ Err fault → IsAnswer {X = X} meaning_of types_of (renewed refuse env e) (Err fault) → Refuses types_of (first_refusal refuse env e) answer
passed_on refuse env e meaning_of types_of (Refused d) answer is h = subst (Refuses types_of (first_refusal refuse env e)) (sym is) (refused_is refuse env e (types_of d) h)
passed_on refuse env e meaning_of types_of Memory answer is h = subst (Refuses types_of (first_refusal refuse env e)) (sym is) tt

-- where nothing is refused, the tree
pub none_refused : (found : Option TwoTypes) (t u : BareExpr) → found ≡ None → t ≡ u → Ok t ≡ unless_refused found u
none_refused found t u none same = ap Ok same ∙ sym (ap (λ f. unless_refused f u) none)
