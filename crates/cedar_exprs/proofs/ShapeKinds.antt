-- Expressions of different kinds compare by their kinds.
use Rattle.std.proofs.Common.{◌≡◌, false, nat_cmp, Ordering, refl, sym, ◌∙◌}
use Rattle.std.proofs.Math.Dec.{eqb}
use Rattle.std.proofs.lemmas.Bool.{false≢true}
use Rattle.cedar_builders.specs.BareExpr.{BareExpr}
use Rattle.cedar_builders.specs.BareExpr as tree
use Rattle.cedar_builders.specs.Shapes.{kind_index, kind_number, shape_cmp}
use Rattle.cedar_exprs.specs.BareExpr.{ExprKind, bare_expr, bare_expr_kind, kind_of}
use Rattle.cedar_exprs.specs.declared.expr.Expr.{Expr}
use Rattle.cedar_exprs.specs.declared.expr.KindOf.TheVariants as kind
use Rattle.cedar_exprs.proofs.Records.{bare_at, bare_kind_of}

unlike_trees : (a b : BareExpr) → eqb (kind_index a) (kind_index b) ≡ false → shape_cmp a b ≡ nat_cmp (kind_number a) (kind_number b)
unlike_trees (tree.Lit x) (tree.Lit x') h = absurd (false≢true (sym h))
unlike_trees (tree.Var x) (tree.Var x') h = absurd (false≢true (sym h))
unlike_trees (tree.Slot x) (tree.Slot x') h = absurd (false≢true (sym h))
unlike_trees (tree.Unknown n t) (tree.Unknown n' t') h = absurd (false≢true (sym h))
unlike_trees (tree.If a b c) (tree.If a' b' c') h = absurd (false≢true (sym h))
unlike_trees (tree.And a b) (tree.And a' b') h = absurd (false≢true (sym h))
unlike_trees (tree.Or a b) (tree.Or a' b') h = absurd (false≢true (sym h))
unlike_trees (tree.UnaryApp o a) (tree.UnaryApp o' a') h = absurd (false≢true (sym h))
unlike_trees (tree.BinaryApp o a b) (tree.BinaryApp o' a' b') h = absurd (false≢true (sym h))
unlike_trees (tree.ExtensionFunctionApp n es) (tree.ExtensionFunctionApp n' es') h = absurd (false≢true (sym h))
unlike_trees (tree.GetAttr a k) (tree.GetAttr a' k') h = absurd (false≢true (sym h))
unlike_trees (tree.HasAttr a k ks) (tree.HasAttr a' k' ks') h = absurd (false≢true (sym h))
unlike_trees (tree.Like a p) (tree.Like a' p') h = absurd (false≢true (sym h))
unlike_trees (tree.Set es) (tree.Set es') h = absurd (false≢true (sym h))
unlike_trees (tree.Record fs) (tree.Record fs') h = absurd (false≢true (sym h))
unlike_trees (tree.Is a n) (tree.Is a' n') h = absurd (false≢true (sym h))
unlike_trees a b h = refl

pub unlike : {T U : Type 0} (a : Expr T) (b : Expr U) (k : ExprKind T) (r : Ordering) → kind_of a ≡ k → eqb (kind_index (bare_expr_kind k)) (kind_index (bare_expr_kind (kind_of b))) ≡ false
    → r ≡ nat_cmp (kind_number (bare_expr a)) (kind_number (bare_expr b)) → r ≡ shape_cmp (bare_expr a) (bare_expr b)
unlike a b k r at differ is =
    is ∙ sym (unlike_trees (bare_expr a) (bare_expr b) ((λ i. eqb (kind_index (bare_at a k at i)) (kind_index (bare_kind_of b i))) ∙ differ))

-- a kind that is not this one has another number
module _ {U : Type 0} where
  pub no_lit : (l : ExprKind U) → ((x : _) → l ≡ kind.Lit x → ⊥) → eqb 0 (kind_index (bare_expr_kind l)) ≡ false
  no_lit (kind.Lit x) not_it = absurd (not_it x refl)
  no_lit l not_it = refl

  pub no_var : (l : ExprKind U) → ((x : _) → l ≡ kind.Var x → ⊥) → eqb 1 (kind_index (bare_expr_kind l)) ≡ false
  no_var (kind.Var x) not_it = absurd (not_it x refl)
  no_var l not_it = refl

  pub no_slot : (l : ExprKind U) → ((x : _) → l ≡ kind.Slot x → ⊥) → eqb 2 (kind_index (bare_expr_kind l)) ≡ false
  no_slot (kind.Slot x) not_it = absurd (not_it x refl)
  no_slot l not_it = refl

  pub no_unknown : (l : ExprKind U) → ((x : _) → l ≡ kind.Unknown x → ⊥) → eqb 3 (kind_index (bare_expr_kind l)) ≡ false
  no_unknown (kind.Unknown x) not_it = absurd (not_it x refl)
  no_unknown l not_it = refl

  pub no_if : (l : ExprKind U) → ((a : _) (b : _) (c : _) → l ≡ kind.If a b c → ⊥) → eqb 4 (kind_index (bare_expr_kind l)) ≡ false
  no_if (kind.If a b c) not_it = absurd (not_it a b c refl)
  no_if l not_it = refl

  pub no_and : (l : ExprKind U) → ((a : _) (b : _) → l ≡ kind.And a b → ⊥) → eqb 5 (kind_index (bare_expr_kind l)) ≡ false
  no_and (kind.And a b) not_it = absurd (not_it a b refl)
  no_and l not_it = refl

  pub no_or : (l : ExprKind U) → ((a : _) (b : _) → l ≡ kind.Or a b → ⊥) → eqb 6 (kind_index (bare_expr_kind l)) ≡ false
  no_or (kind.Or a b) not_it = absurd (not_it a b refl)
  no_or l not_it = refl

  pub no_unary : (l : ExprKind U) → ((o : _) (a : _) → l ≡ kind.UnaryApp o a → ⊥) → eqb 7 (kind_index (bare_expr_kind l)) ≡ false
  no_unary (kind.UnaryApp o a) not_it = absurd (not_it o a refl)
  no_unary l not_it = refl

  pub no_binary : (l : ExprKind U) → ((o : _) (a : _) (b : _) → l ≡ kind.BinaryApp o a b → ⊥) → eqb 8 (kind_index (bare_expr_kind l)) ≡ false
  no_binary (kind.BinaryApp o a b) not_it = absurd (not_it o a b refl)
  no_binary l not_it = refl

  pub no_call : (l : ExprKind U) → ((n : _) (es : _) → l ≡ kind.ExtensionFunctionApp n es → ⊥) → eqb 9 (kind_index (bare_expr_kind l)) ≡ false
  no_call (kind.ExtensionFunctionApp n es) not_it = absurd (not_it n es refl)
  no_call l not_it = refl

  pub no_get : (l : ExprKind U) → ((a : _) (k : _) → l ≡ kind.GetAttr a k → ⊥) → eqb 10 (kind_index (bare_expr_kind l)) ≡ false
  no_get (kind.GetAttr a k) not_it = absurd (not_it a k refl)
  no_get l not_it = refl

  pub no_has : (l : ExprKind U) → ((a : _) (ks : _) → l ≡ kind.HasAttr a ks → ⊥) → eqb 11 (kind_index (bare_expr_kind l)) ≡ false
  no_has (kind.HasAttr a ks) not_it = absurd (not_it a ks refl)
  no_has l not_it = refl

  pub no_like : (l : ExprKind U) → ((a : _) (p : _) → l ≡ kind.Like a p → ⊥) → eqb 13 (kind_index (bare_expr_kind l)) ≡ false
  no_like (kind.Like a p) not_it = absurd (not_it a p refl)
  no_like l not_it = refl

  pub no_set : (l : ExprKind U) → ((es : _) → l ≡ kind.Set es → ⊥) → eqb 14 (kind_index (bare_expr_kind l)) ≡ false
  no_set (kind.Set es) not_it = absurd (not_it es refl)
  no_set l not_it = refl

  pub no_record : (l : ExprKind U) → ((m : _) → l ≡ kind.Record m → ⊥) → eqb 15 (kind_index (bare_expr_kind l)) ≡ false
  no_record (kind.Record m) not_it = absurd (not_it m refl)
  no_record l not_it = refl

  pub no_is : (l : ExprKind U) → ((a : _) (n : _) → l ≡ kind.Is a n → ⊥) → eqb 16 (kind_index (bare_expr_kind l)) ≡ false
  no_is (kind.Is a n) not_it = absurd (not_it a n refl)
  no_is l not_it = refl
