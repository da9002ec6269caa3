-- What the kind of an expression says of its tree.
use Rattle.std.proofs.Common.{◌≡◌, ℕ, not, Global, List, [], ◌∷◌, Option, Result, IfOk, map, length, refl, subst, sym, ap, ◌∙◌}
use Rattle.std.specs.Global.{Vec}
use Rattle.std.specs.Option.{is_some}
use Rattle.std.specs.declared.rc.Rc.{Rc}
use Rattle.std.proofs.lemmas.List.{length-map}
use Rattle.cedar_names.specs.Names.{name_text}
use Rattle.cedar_names.specs.PlainNames.{bare_name}
use Rattle.cedar_names.specs.declared.name.Name.{Name}
use Rattle.cedar_builders.specs.BareExpr.{BareExpr, trees_of}
use Rattle.cedar_builders.specs.Walks.{children, members_of}
use Rattle.cedar_exprs.specs.BareExpr.{bare_expr, bare_expr_kind, kind_of}
use Rattle.cedar_exprs.specs.Walks as exprs
use Rattle.cedar_exprs.specs.declared.expr.Expr.{Expr}
use Rattle.cedar_exprs.specs.declared.expr.KindOf.{KindOf}
use Rattle.cedar_exprs.proofs.BareWalks.{children_bare, members_of-trees_of}
use Rattle.cedar_exprs.proofs.Records.{bare_kind_of}
use Rattle.cedar_conditions.specs.Conditions.{is_function_of, is_wrong_call}
use Rattle.cedar_conditions.specs.Nodes.{placed}
use Rattle.cedar_conditions.specs.declared.problem.Problem.{Problem}
use Rattle.cedar_conditions.proofs.Waiting.{at_depth}

-- the children of an expression, as trees
pub placed_is : (d : ℕ) (e : Expr Unit) → placed d (exprs.children e) ≡ at_depth d (children (bare_expr e))
placed_is d e = placed_trees (exprs.children e) ∙ ap (at_depth d) (children_bare e)
  where
    placed_trees : (es : List (Expr Unit)) → placed d es ≡ at_depth d (map bare_expr es)
    placed_trees [] = refl
    placed_trees (x ∷ xs) = ap (λ ys. (d, bare_expr x) ∷ ys) (placed_trees xs)

-- a call of this function with these arguments
pub call_is : {Z : Type 0} (e : Expr Unit) (n : Name) (es : Rc (Vec (Expr Unit)) Global)
    (xs : List (Expr Unit)) (r : Result (Option Problem) Z)
    → kind_of e ≡ KindOf.ExtensionFunctionApp n es → xs ≡ es.value.items
    → IfOk r (λ found. is_some found ≡ not (is_function_of (name_text (bare_name n)) (length xs)))
    → IfOk r (λ found. is_some found ≡ is_wrong_call (bare_expr e))
call_is e n es xs r kind same h =
    subst (λ b. IfOk r (λ found. is_some found ≡ b))
    (ap (λ ys. not (is_function_of (name_text (bare_name n)) ys))
    (ap length same ∙ sym (length-map es.value.items bare_expr)
    ∙ ap length (sym (members_of-trees_of (map bare_expr es.value.items))))
    ∙ ap is_wrong_call (sym (bare_kind_of e ∙ ap bare_expr_kind kind))) h
