-- The first node, in preorder, whose bare tree fails a test.
use Rattle.std.proofs.Common.{◌≡◌, List, [], ◌∷◌, map, Bool, true, false, not, ◌&&◌, if◌then◌else◌, Option, Some, None, refl, sym, ap, ◌∙◌}
use Rattle.std.specs.List.{find, list_all}
use Rattle.std.specs.Option.{option_or, is_none}
use Rattle.std.proofs.lemmas.List.Folds.{find-append, list_all-map}
use Rattle.cedar_builders.specs.BareExpr.{BareExpr}
use Rattle.cedar_builders.specs.Walks as bare
use Rattle.cedar_builders.specs.Walks.{forward}
use Rattle.cedar_exprs.specs.BareExpr.{bare_expr}
use Rattle.cedar_exprs.specs.Walks.{children, preorder}
use Rattle.cedar_exprs.specs.declared.expr.Expr.{Expr}

-- whether a node's bare tree fails the test
abbrev pub fails : {T : Type 0} → (BareExpr → Bool) → Expr T → Bool
fails passes e = not (passes (bare_expr e))

-- the first of an expression, and the first of several
abbrev pub first_failing : {T : Type 0} → (BareExpr → Bool) → Expr T → Option (Expr T)
first_failing passes e = find (fails passes) (preorder e)

abbrev pub first_failing_of : {T : Type 0} → (BareExpr → Bool) → List (Expr T) → Option (Expr T)
first_failing_of passes es = find (fails passes) (forward (map preorder es))

-- what is known of the nodes in preorder
pub record InPreorder (T : Type 0) : Type 0 where
  pub order : (e : Expr T) → preorder e ≡ e ∷ forward (map preorder (children e))
  pub trees : (e : Expr T) → map bare_expr (preorder e) ≡ bare.preorder (bare_expr e)

-- none is found exactly where all pass
none_found : {A : Type 0} (p : A → Bool) (xs : List A) → is_none (find (λ x. not (p x)) xs) ≡ list_all p xs
none_found p [] = refl
none_found p (x ∷ xs) = go (p x) (none_found p xs)
  where
    go : (b : Bool) → is_none (find (λ x. not (p x)) xs) ≡ list_all p xs → is_none (if not b then Some x else find (λ x. not (p x)) xs) ≡ (b && list_all p xs)
    go true h = h
    go false h = refl

module _ {T : Type 0} (o : InPreorder T) (passes : BareExpr → Bool) where
  -- a node that fails is the first itself, another has the first of its children
  pub at_node : (b : Bool) (e : Expr T) → passes (bare_expr e) ≡ b → first_failing passes e ≡ (if not b then Some e else first_failing_of passes (children e))
  at_node b e h = ap (find (fails passes)) (o.order e) ∙ rw h refl

  -- none fails exactly where all nodes of the bare tree pass
  pub decided : (e : Expr T) → is_none (first_failing passes e) ≡ list_all passes (bare.preorder (bare_expr e))
  decided e =
      none_found (λ (d : Expr T). passes (bare_expr d)) (preorder e)
      ∙ sym (list_all-map passes bare_expr (preorder e))
      ∙ ap (list_all passes) (o.trees e)

module _ {T : Type 0} (passes : BareExpr → Bool) where
  pub first_of_all : (e : Expr T) (es : List (Expr T)) → first_failing_of passes (e ∷ es) ≡ option_or (first_failing passes e) (first_failing_of passes es)
  first_of_all e es = find-append (fails passes) (preorder e) (forward (map preorder es))

  -- one turn over expressions, the first of which is e
  module _ (e : Expr T) (all es : List (Expr T)) (w : Option (Expr T)) (steps : all ≡ e ∷ es) (left : first_failing_of passes all ≡ w) where
    pub split : option_or (first_failing passes e) (first_failing_of passes es) ≡ w
    split = sym (ap (first_failing_of passes) steps ∙ first_of_all e es) ∙ left

    pub found : (x : Expr T) → Some x ≡ first_failing passes e → Some x ≡ w
    found x h = ap (λ r. option_or r (first_failing_of passes es)) h ∙ split

    pub passed : None ≡ first_failing passes e → first_failing_of passes es ≡ w
    passed h = ap (λ r. option_or r (first_failing_of passes es)) h ∙ split
