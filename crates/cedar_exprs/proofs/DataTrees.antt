-- The data of an expression are its own and those of its children.
use Rattle.std.proofs.Common.{◌≡◌, List, [], ◌∷◌, map, refl, ap, ◌∙◌, Global}
use Rattle.std.specs.declared.rc.RcStr.{RcStr}
use Rattle.cedar_exprs.specs.BareExpr.{ExprKind, data_of, kind_of}
use Rattle.cedar_exprs.specs.ExprData.{DataTree, holds, child, data_tree_step, data_tree, data_trees, kind_data, values_data}
use Rattle.cedar_exprs.specs.Walks.{kind_children, children}
use Rattle.cedar_exprs.specs.declared.expr.Expr.{Expr, fold_out-Expr}
use Rattle.cedar_exprs.specs.declared.expr.KindOf.{KindOf}

module _ {T : Type 0} where
  values : (es : List (RcStr Global × Expr T)) → values_data es ≡ data_trees (map (λ e. e.1) es)
  values [] = refl
  values (e ∷ es) = ap (child (data_tree e.1)) (values es)

  of_kind : (k : ExprKind T) → kind_data k ≡ data_trees (kind_children k)
  of_kind (KindOf.Record es) = values es.value.entries
  of_kind k = refl

  pub data_is : (e : Expr T) → data_tree e ≡ holds (data_of e) (data_trees (children e))
  data_is e = fold_out-Expr T (DataTree T) data_tree_step e ∙ ap (holds (data_of e)) (of_kind (kind_of e))
