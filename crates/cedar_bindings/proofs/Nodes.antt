-- Nodes with names that stand for something, and the others.
use Rattle.std.proofs.Common.{Bor, option_map, unwrap_or, ◌≡◌, List, length, ℕ, Option, Some, None, Result, Ok, refl, sym, subst, ap, ◌∙◌}
use Rattle.std.specs.Option.{option_copied}
use Rattle.cedar_terms.specs.Ops.{var_text}
use Rattle.cedar_builders.specs.BareExpr.{BareExpr, Unknown, Var}
use Rattle.cedar_builders.specs.Environment.{own}
use Rattle.cedar_builders.specs.NodeByNode.{IsBuiltOf}
use Rattle.cedar_builders.specs.Trees.{tree_ops, sure}
use Rattle.cedar_builders.specs.Walks.{children}
use Rattle.cedar_exprs.specs.BareExpr.{ExprKind, bare_expr, bare_expr_kind, kind_of, node_step}
use Rattle.cedar_exprs.specs.PostOrder.{IsPut}
use Rattle.cedar_exprs.specs.declared.expr.Expr.{Expr, fold_out-Expr}
use Rattle.cedar_exprs.specs.declared.walks.post_order.PostOrderFault.{PostOrderFault}
use Rattle.cedar_bindings.specs.Names.{Names, IsNamedOf, stands_for}

-- what is made of a reference's value
pub of_copied : {A C : Type 0} (f : A → C) (r : Option (Bor A))
    → option_map (λ v. f v.now) r ≡ option_map f (option_copied r)
of_copied f None = refl
of_copied f (Some v) = refl

-- the bare tree of an expression whose kind is known
pub bare_at : {T : Type 0} (e : Expr T) (k : ExprKind T) → kind_of e ≡ k
    → bare_expr e ≡ bare_expr_kind k
bare_at {T} e k is = fold_out-Expr T BareExpr node_step e ∙ ap bare_expr_kind is

-- what never fails
pub sure_of : (r : Result BareExpr ⊥) (e : BareExpr) → r ≡ Ok e → e ≡ sure r
sure_of r e is = sym (ap sure is)

module _ {X R : Type 0} (meaning_of : X → BareExpr) (fault_of : R → ⊥) (names : Names) where
  found : (b : BareExpr) (w : Option BareExpr) (e : BareExpr) → w ≡ Some b
      → (all new : List X) (r : Result Unit (PostOrderFault R))
      → IsPut meaning_of fault_of (λ ms q. q ≡ Ok b) 0 all new r
      → IsPut meaning_of fault_of (λ ms q. q ≡ Ok (unwrap_or w e)) 0 all new r
  found b w e is all new r =
      subst (λ o. IsPut meaning_of fault_of (λ ms q. q ≡ Ok b) 0 all new r
      → IsPut meaning_of fault_of (λ ms q. q ≡ Ok (unwrap_or o e)) 0 all new r) (sym is) (λ h. h)

  -- a node whose name stands for a tree is made that tree
  pub named_built : (e : BareExpr) (b : BareExpr) → stands_for names e ≡ Some b
      → (all new : List X) (r : Result Unit (PostOrderFault R))
      → IsPut meaning_of fault_of (λ ms q. q ≡ Ok b) 0 all new r
      → IsPut meaning_of fault_of (IsNamedOf names e) (length (children e)) all new r
  named_built (Unknown n t) b is all new r h = found b (names n) (Unknown n t) is all new r h
  named_built (Var v) b is all new r h = found b (names (var_text v)) (Var v) is all new r h
  named_built _ b is all new r h = cc

  -- any other node is made as it is
  pub other_built : (e : BareExpr) → stands_for names e ≡ None
      → (k : ℕ) (all new : List X) (r : Result Unit (PostOrderFault R))
      → IsPut meaning_of fault_of (IsBuiltOf tree_ops (own tree_ops) e) k all new r
      → IsPut meaning_of fault_of (IsNamedOf names e) k all new r
  other_built (Unknown n t) is k all new r h =
      subst (λ w. IsPut meaning_of fault_of (λ ms q. q ≡ Ok (unwrap_or w (Unknown n t))) k all new r)
      (sym is) h
  other_built (Var v) is k all new r h =
      subst (λ w. IsPut meaning_of fault_of (λ ms q. q ≡ Ok (unwrap_or w (Var v))) k all new r)
      (sym is) h
  other_built _ is k all new r h = h
