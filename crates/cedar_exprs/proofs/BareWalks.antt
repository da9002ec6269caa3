-- The walk over an expression is the walk over its bare tree.
use Rattle.std.proofs.Common.{◌≡◌, List, [], ◌∷◌, ◌++◌, map, refl, sym, ap, ◌∙◌, Global}
use Rattle.std.specs.List.{AllByRecursion}
use Rattle.std.specs.declared.rc.RcStr.{RcStr}
use Rattle.std.proofs.lemmas.List.{map-append}
use Rattle.cedar_builders.specs.BareExpr.{BareExpr, trees_of}
use Rattle.cedar_builders.specs.Walks as bare
use Rattle.cedar_builders.specs.Walks.{forward, backward}
use Rattle.cedar_exprs.specs.BareExpr.{ExprKind, bare_expr, bare_expr_kind, kind_of, fields_at}
use Rattle.cedar_exprs.specs.Walks.{kind_children, children, walk, preorder, positions}
use Rattle.cedar_exprs.specs.declared.expr.Expr.{Expr}
use Rattle.cedar_exprs.specs.declared.expr.KindOf.{KindOf}
use Rattle.cedar_exprs.proofs.Records.{bare_kind_of}
use Rattle.cedar_exprs.proofs.WalkSteps.{walk_is, by_children}

pub members_of-trees_of : (es : List BareExpr) → bare.members_of (trees_of es) ≡ es
members_of-trees_of [] = refl
members_of-trees_of (e ∷ es) = ap (λ xs. e ∷ xs) (members_of-trees_of es)

map-forward : {A B : Type 0} (f : A → B) (xss : List (List A)) → map f (forward xss) ≡ forward (map (map f) xss)
map-forward f [] = refl
map-forward f (xs ∷ rest) = map-append f xs (forward rest) ∙ ap (λ ys. map f xs ++ ys) (map-forward f rest)

map-backward : {A B : Type 0} (f : A → B) (xss : List (List A)) → map f (backward xss) ≡ backward (map (map f) xss)
map-backward f [] = refl
map-backward f (xs ∷ rest) = map-append f (backward rest) xs ∙ ap (λ ys. ys ++ map f xs) (map-backward f rest)

module _ {T : Type 0} where
  values : (es : List (RcStr Global × Expr T)) → map bare_expr (map (λ e. e.1) es) ≡ bare.values_of (fields_at (map (λ e. (e.0, bare_expr e.1)) es))
  values [] = refl
  values (e ∷ es) = ap (λ xs. bare_expr e.1 ∷ xs) (values es)

  of_kind : (k : ExprKind T) → map bare_expr (kind_children k) ≡ bare.children (bare_expr_kind k)
  of_kind (KindOf.ExtensionFunctionApp n es) = sym (members_of-trees_of (map bare_expr es.value.items))
  of_kind (KindOf.Set es) = sym (members_of-trees_of (map bare_expr es.value.items))
  of_kind (KindOf.Record es) = values es.value.entries
  of_kind k = refl

  -- the bare trees of the children are the children of the bare tree
  pub children_bare : (e : Expr T) → map bare_expr (children e) ≡ bare.children (bare_expr e)
  children_bare e = of_kind (kind_of e) ∙ ap bare.children (sym (bare_kind_of e))

  -- what a walk gives that puts each node before what its children give, joined
  module _ (join : List (List (Expr T)) → List (Expr T)) (joined : List (List BareExpr) → List BareExpr) (alike : (xss : List (List (Expr T))) → map bare_expr (join xss) ≡ joined (map (map bare_expr) xss)) where
    abbrev given : Expr T → List (Expr T)
    given = walk (λ e below. e ∷ join below)

    abbrev bare_given : BareExpr → List BareExpr
    bare_given = bare.walk (λ e below. e ∷ joined below)

    all_bare : (es : List (Expr T)) → AllByRecursion (λ e. map bare_expr (given e) ≡ bare_given (bare_expr e)) es → map (map bare_expr) (map given es) ≡ map bare_given (map bare_expr es)
    all_bare [] h = refl
    all_bare (e ∷ es) h = rw (h.0, all_bare es h.1) refl

    given_bare : (e : Expr T) → map bare_expr (given e) ≡ bare_given (bare_expr e)
    given_bare =
        by_children (λ e. map bare_expr (given e) ≡ bare_given (bare_expr e)) (λ e below.
        ap (map bare_expr) (walk_is (λ e below. e ∷ join below) e)
        ∙ ap (λ xs. bare_expr e ∷ xs) (alike (map given (children e)) ∙ ap joined (all_bare (children e) below ∙ ap (map bare_given) (children_bare e)))
        ∙ sym (bare.walk_is (λ e below. e ∷ joined below) (bare_expr e)))

  -- the bare trees in preorder are the preorder of the bare tree
  pub preorder_bare : (e : Expr T) → map bare_expr (preorder e) ≡ bare.preorder (bare_expr e)
  preorder_bare = given_bare forward forward (map-forward bare_expr)

  -- the bare trees of the positions are the positions of the bare tree
  pub positions_bare : (e : Expr T) → map bare_expr (positions e) ≡ bare.positions (bare_expr e)
  positions_bare = given_bare backward backward (map-backward bare_expr)
