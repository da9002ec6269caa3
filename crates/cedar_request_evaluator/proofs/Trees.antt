-- The bare trees of nodes whose kinds are known.
use Rattle.std.proofs.Common.{◌≡◌, ℕ, List, [], ◌∷◌, map, length, Global, refl, sym, ap, ◌∙◌, subst, BTreeMap, Vec}
use Rattle.std.proofs.lemmas.List.{length-map}
use Rattle.std.specs.declared.rc.Rc.{Rc}
use Rattle.std.specs.declared.rc.RcStr.{RcStr}
use Rattle.cedar_builders.specs.BareExpr.{BareExpr, Record, trees_of}
use Rattle.cedar_builders.specs.Walks.{members_of, values_of, children}
use Rattle.cedar_exprs.specs.BareExpr.{ExprKind, bare_expr, bare_expr_kind, bare_exprs, bare_fields, kind_of, node_step}
use Rattle.cedar_exprs.specs.declared.expr.Expr.{Expr, fold_out-Expr}
use Rattle.cedar_exprs.specs.declared.expr.KindOf.TheVariants as Kind

members_of-trees_of : (bs : List BareExpr) → members_of (trees_of bs) ≡ bs
members_of-trees_of [] = refl
members_of-trees_of (b ∷ bs) = ap (λ cs. b ∷ cs) (members_of-trees_of bs)

members-length : {T : Type 0} (es : List (Expr T))
    → length (members_of (bare_exprs es)) ≡ length es
members-length es = ap length (members_of-trees_of (map bare_expr es)) ∙ length-map es bare_expr

values_of-fields : {T : Type 0} (es : List (RcStr Global × Expr T))
    → values_of (bare_fields es) ≡ map (λ e. bare_expr e.1) es
values_of-fields [] = refl
values_of-fields (e ∷ es) = ap (λ cs. bare_expr e.1 ∷ cs) (values_of-fields es)

values-length : {T : Type 0} (es : List (RcStr Global × Expr T))
    → length (values_of (bare_fields es)) ≡ length es
values-length es = ap length (values_of-fields es) ∙ length-map es (λ e. bare_expr e.1)

module _ {T : Type 0} (e : Expr T) (k : ExprKind T) (is : kind_of e ≡ k) where
  -- the bare tree of an expression whose kind is known
  pub bare_at : bare_expr e ≡ bare_expr_kind k
  bare_at = fold_out-Expr T BareExpr node_step e ∙ ap bare_expr_kind is

  -- what holds of a kind's tree with so many children holds of an expression of the kind
  pub at_kind : (P : BareExpr → ℕ → Type 0) (n : ℕ) → n ≡ length (children (bare_expr_kind k))
      → P (bare_expr_kind k) n → P (bare_expr e) (length (children (bare_expr e)))
  at_kind P n long h =
      subst (λ t. P t (length (children t))) (sym bare_at) (subst (P (bare_expr_kind k)) long h)

  -- a kind whose children are a row of expressions
  module _ (es : Rc (Vec (Expr T) Global) Global) (v : Vec (Expr T) Global) (at : v ≡ es.value)
      (row : children (bare_expr_kind k) ≡ members_of (bare_exprs es.value.items)) where
    row_kind_length : length (children (bare_expr_kind k)) ≡ length v.items
    row_kind_length =
        ap length row ∙ members-length es.value.items
        ∙ ap (λ (w : Vec (Expr T) Global). length w.items) (sym at)

    pub row_length : length (children (bare_expr e)) ≡ length v.items
    row_length = ap (λ b. length (children b)) bare_at ∙ row_kind_length

    pub at_row : (P : BareExpr → ℕ → Type 0) (n : ℕ) → n ≡ length v.items
        → P (bare_expr_kind k) n → P (bare_expr e) (length (children (bare_expr e)))
    at_row P n long = at_kind P n (long ∙ sym row_kind_length)

module _ {T : Type 0} (e : Expr T) (m : Rc (BTreeMap (RcStr Global) (Expr T)) Global)
    (n : BTreeMap (RcStr Global) (Expr T)) (is : kind_of e ≡ Kind.Record m) (at : n ≡ m.value) where
  pub record_length : length (children (bare_expr e)) ≡ length n.entries
  record_length =
      ap (λ b. length (children b)) (bare_at e (Kind.Record m) is)
      ∙ values-length m.value.entries
      ∙ ap (λ (o : BTreeMap (RcStr Global) (Expr T)). length o.entries) (sym at)

  pub at_record : (P : BareExpr → ℕ → Type 0) → P (Record (bare_fields n.entries)) (length n.entries)
      → P (bare_expr e) (length (children (bare_expr e)))
  at_record P h =
      at_kind e (Kind.Record m) is P (length m.value.entries) (sym (values-length m.value.entries))
      (subst (λ (o : BTreeMap (RcStr Global) (Expr T)).
      P (Record (bare_fields o.entries)) (length o.entries)) at h)
