-- What holds of what an expression is simplified to in one pass, where names are bound.
use Rattle.std.proofs.Common.{◌≡◌, Bool, IsTrue, ap, sym, subst, ◌∙◌}
use Rattle.std.specs.declared.cmp.Ordering.{Ordering}
use Rattle.cedar_builders.specs.BareExpr.{BareExpr}
use Rattle.cedar_builders.specs.Environment.{Env, fold}
use Rattle.semantics_values.specs.Laws.{BindsPlainValues}
use Rattle.cedar_values.specs.Holders.{NoExtension, held_call}
use Rattle.semantics_eval.specs.Evaluator.{evaluator_ops}
use Rattle.semantics_simplify.specs.Asks.{asks_only}
use Rattle.semantics_simplify.specs.Laws as laws
use Rattle.semantics_simplify.specs.Simplified.{Simplified, tree_of}
use Rattle.semantics_simplify.specs.Simplifier.{simplified_in}
use Rattle.cedar_simplifier.specs.Promises.{MeansTheSame, KnownStays, AsksNoMore}

-- what a map binds are values without extension values
abbrev BindsPlain : Env → Type 0
BindsPlain = BindsPlainValues {X = NoExtension} held_call

module _ (R : NoExtension → NoExtension → Ordering) (E : NoExtension → NoExtension → Bool)
    {M : Type 0} (later : M → Env) (env : Env) (e : BareExpr) (p : Simplified NoExtension)
    (is : p ≡ simplified_in R E held_call env e) (plain : BindsPlain env)
    (plain_later : (m : M) → BindsPlain (later m)) where
  pub same_meaning : laws.IsOnePass R E → laws.PartialIsSound R E
      → MeansTheSame R E later env e p
  same_meaning one sound m =
      ap (λ q. fold (evaluator_ops R E) (later m) (tree_of held_call q))
      (is ∙ sym (one held_call env e))
      ∙ sound held_call env (later m) plain (plain_later m) e

  pub stays : laws.KnownStays R E → KnownStays R E later env e p
  stays law m t known =
      law held_call env (later m) plain (plain_later m) e t (sym is ∙ known)

  pub asks : laws.AsksNoMore R E → AsksNoMore env e p
  asks law Q h =
      subst (λ q. IsTrue (asks_only Q (tree_of held_call q))) (sym is)
      (law held_call env plain Q e h)
