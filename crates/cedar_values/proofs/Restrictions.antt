-- A tree is restricted where its node and its children are.
use Rattle.std.proofs.Common.{◌≡◌, List, [], ◌∷◌, map, Bool, true, ◌&&◌, refl, ap, ◌∙◌, Global}
use Rattle.std.specs.List.{list_all}
use Rattle.std.specs.declared.rc.RcStr.{RcStr}
use Rattle.std.proofs.lemmas.List.Folds.{list_all-append}
use Rattle.cedar_names.specs.Names.{BareName}
use Rattle.cedar_builders.specs.BareExpr.{BareExpr, ExtensionFunctionApp, Set, Record, trees_of}
use Rattle.cedar_builders.specs.Restricted.{is_restricted_node, is_restricted}
use Rattle.cedar_builders.specs.Walks.{children, members_of, values_of, preorder, forward, walk_is}
use Rattle.cedar_exprs.specs.BareExpr.{bare_expr, bare_exprs, bare_fields}
use Rattle.cedar_exprs.specs.declared.expr.Expr.{Expr}

all_forward : {A : Type 0} (p : A → Bool) (xss : List (List A)) → list_all p (forward xss) ≡ list_all (list_all p) xss
all_forward p [] = refl
all_forward p (xs ∷ rest) = list_all-append p xs (forward rest) ∙ ap (λ b. list_all p xs && b) (all_forward p rest)

pub list_all-map : {A B : Type 0} (f : A → B) (p : B → Bool) (xs : List A) → list_all p (map f xs) ≡ list_all (λ x. p (f x)) xs
list_all-map f p [] = refl
list_all-map f p (x ∷ xs) = ap (λ b. p (f x) && b) (list_all-map f p xs)

by_children : (e : BareExpr) → is_restricted e ≡ (is_restricted_node e && list_all is_restricted (children e))
by_children e =
    ap (list_all is_restricted_node) (walk_is (λ e below. e ∷ forward below) e)
    ∙ ap (λ b. is_restricted_node e && b) (all_forward is_restricted_node (map preorder (children e)) ∙ list_all-map preorder (list_all is_restricted_node) (children e))

members_of-trees_of : (es : List BareExpr) → members_of (trees_of es) ≡ es
members_of-trees_of [] = refl
members_of-trees_of (e ∷ es) = ap (λ xs. e ∷ xs) (members_of-trees_of es)

abbrev pub AllRestricted : List (Expr Unit) → Type 0
AllRestricted es = list_all (λ e. is_restricted (bare_expr e)) es ≡ true

row : (es : List (Expr Unit)) → AllRestricted es → list_all is_restricted (members_of (bare_exprs es)) ≡ true
row es h = ap (list_all is_restricted) (members_of-trees_of (map bare_expr es)) ∙ list_all-map bare_expr is_restricted es ∙ h

pub restricted_set : (es : List (Expr Unit)) → AllRestricted es → is_restricted (Set (bare_exprs es)) ≡ true
restricted_set es h = by_children (Set (bare_exprs es)) ∙ row es h

pub restricted_call : {n : BareName} (e : Expr Unit) (es : List (Expr Unit)) → bare_expr e ≡ ExtensionFunctionApp n (bare_exprs es) → AllRestricted es → is_restricted (bare_expr e) ≡ true
restricted_call {n} e es is h = ap is_restricted is ∙ by_children (ExtensionFunctionApp n (bare_exprs es)) ∙ row es h

fields : (es : List (RcStr Global × Expr Unit)) → list_all is_restricted (values_of (bare_fields es)) ≡ list_all (λ (e : RcStr Global × Expr Unit). is_restricted (bare_expr e.1)) es
fields [] = refl
fields (e ∷ es) = ap (λ b. is_restricted (bare_expr e.1) && b) (fields es)

pub restricted_record : (es : List (RcStr Global × Expr Unit)) → list_all (λ (e : RcStr Global × Expr Unit). is_restricted (bare_expr e.1)) es ≡ true → is_restricted (Record (bare_fields es)) ≡ true
restricted_record es h = by_children (Record (bare_fields es)) ∙ fields es ∙ h
