-- What holds of what a condition is simplified to, where more is known.
use Rattle.std.proofs.Common.{◌≡◌, Bool, IsTrue, Ok, ap, sym, subst, ◌∙◌}
use Rattle.std.specs.declared.cmp.Ordering.{Ordering}
use Rattle.cedar_builders.specs.BareExpr.{BareExpr}
use Rattle.cedar_builders.specs.Environment.{Env, fold}
use Rattle.cedar_builders.specs.Trees.{sure}
use Rattle.semantics_values.specs.BareValue.{BareCall}
use Rattle.semantics_values.specs.Laws.{BindsPlainValues}
use Rattle.semantics_simplify.specs.Asks.{asks_only}
use Rattle.semantics_simplify.specs.Simplified.{Simplified, tree_of}
use Rattle.semantics_request.specs.Evaluator.{evaluated}
use Rattle.semantics_request.specs.Laws.{ResidualFirst, ResidualAsksNoMore}
use Rattle.semantics_request.specs.Requests.{Knowledge}
use Rattle.semantics_request.specs.Residuals.{residual, residual_ops}
use Rattle.cedar_request_simplifier.specs.Promises.{MeansTheSameLater, KnownStaysLater, AsksNoMore}

-- what the walk makes, where the unknowns are bound to what is known of them, is the residual
pub made_is : {X : Type 0} (R : X → X → Ordering) (E : X → X → Bool) (C : X → BareCall)
    (k : Knowledge X) (e : BareExpr) (p : Simplified X) (env : Env) → env ≡ k.bindings
    → fold (residual_ops R E C k) env e ≡ Ok p → p ≡ residual R E C k e
made_is R E C k e p env bindings made =
    sym (ap sure made) ∙ ap (λ v. sure (fold (residual_ops R E C k) v e)) bindings

module _ {X : Type 0} (R : X → X → Ordering) (E : X → X → Bool) (C : X → BareCall)
    (k : Knowledge X) (e : BareExpr) (p : Simplified X) (is : p ≡ residual R E C k e) where
  pub same_later : ResidualFirst R E → MeansTheSameLater R E C k e p
  same_later law T l full plain =
      ap (λ q. evaluated R E T l (tree_of C q)) is ∙ law.outcome C T k l full plain e

  pub known_later : ResidualFirst R E → KnownStaysLater R E C k e p
  known_later law T l full plain t known =
      law.known C T k l full plain e t (sym is ∙ known)

  pub asks : ResidualAsksNoMore R E → BindsPlainValues C k.bindings → AsksNoMore R E C k e p
  asks law plain Q h =
      subst (λ q. IsTrue (asks_only Q (tree_of C q))) (sym is) (law C k plain Q e h)
