-- A call of restricted expressions is restricted.
use Rattle.std.proofs.Common.{◌≡◌, List, [], ◌∷◌, map, true, ◌&&◌, refl, ap, ◌∙◌}
use Rattle.std.specs.List.{list_all}
use Rattle.std.proofs.lemmas.List.Folds.{list_all-append}
use Rattle.cedar_names.specs.Names.{BareName}
use Rattle.cedar_builders.specs.BareExpr.{ExtensionFunctionApp, trees_of}
use Rattle.cedar_builders.specs.Restricted.{is_restricted_node, is_restricted}
use Rattle.cedar_builders.specs.Walks.{forward, preorder, walk_all}
use Rattle.cedar_exprs.specs.BareExpr.{bare_expr, bare_exprs}
use Rattle.cedar_exprs.specs.RestrictedExprs.{bare_restricted_expr, expr_of}
use Rattle.cedar_exprs.specs.declared.expr.Expr.{Expr}
use Rattle.cedar_exprs.specs.declared.restricted_expr.RestrictedExpr.{RestrictedExpr}

all_below : (rs : List RestrictedExpr) → list_all is_restricted_node (forward (walk_all (λ e below. e ∷ forward below) (trees_of (map bare_restricted_expr rs)))) ≡ true
all_below [] = refl
all_below (r ∷ rs) =
    list_all-append is_restricted_node (preorder (bare_restricted_expr r)) (forward (walk_all (λ e below. e ∷ forward below) (trees_of (map bare_restricted_expr rs))))
    ∙ λ i. r.restricted i && all_below rs i

pub restricted_call : (n : BareName) (rs : List RestrictedExpr) → is_restricted (ExtensionFunctionApp n (trees_of (map bare_restricted_expr rs))) ≡ true
restricted_call n rs = all_below rs

trees_are : (rs : List RestrictedExpr) → map bare_expr (map expr_of rs) ≡ map bare_restricted_expr rs
trees_are [] = refl
trees_are (r ∷ rs) = ap (λ bs. bare_restricted_expr r ∷ bs) (trees_are rs)

-- the call of the expressions of these
pub call_tree : (n : BareName) (rs : List RestrictedExpr) (es : List (Expr Unit)) → es ≡ map expr_of rs → ExtensionFunctionApp n (bare_exprs es) ≡ ExtensionFunctionApp n (trees_of (map bare_restricted_expr rs))
call_tree n rs es is = ap (λ xs. ExtensionFunctionApp n (trees_of xs)) (ap (map bare_expr) is ∙ trees_are rs)
