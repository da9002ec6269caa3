-- The nodes that the steps of a drop leave.
use Rattle.std.proofs.Common.{◌≡◌, ◌+◌, suc, sym, ap, ◌∙◌, arith, Global, List, [], ◌∷◌, BTreeMap, Vec}
use Rattle.std.specs.declared.rc.Rc.{Rc}
use Rattle.std.specs.declared.rc.RcStr.{RcStr}
use Rattle.cedar_names.specs.declared.name.Name.{Name}
use Rattle.cedar_builders.specs.Count.{count, sum, one_more}
use Rattle.cedar_builders.specs.Walks.{walk_all, walk_fields}
use Rattle.cedar_builders.specs.BareExpr.{BareExpr}
use Rattle.cedar_exprs.specs.BareExpr.{ExprKind, node_step, bare_exprs, bare_fields, kind_of}
use Rattle.cedar_exprs.specs.Steps.{nodes, kind_nodes, item_nodes, field_nodes}
use Rattle.cedar_exprs.specs.declared.expr.Expr.{Expr, Expr-F, roll-Expr, fold-roll-Expr}
use Rattle.cedar_exprs.specs.declared.expr.KindOf.TheVariants as kind
use Rattle.cedar_exprs.proofs.Records.{bare_kind_of}

in_row : {T : Type 0} (es : List (Expr T)) → sum (walk_all one_more (bare_exprs es)) ≡ item_nodes es
in_row [] = omega arith
in_row (e ∷ es) = ap (λ n. nodes e + n) (in_row es)

in_fields : {T : Type 0} (es : List (RcStr Global × Expr T)) → sum (walk_fields one_more (bare_fields es)) ≡ field_nodes es
in_fields [] = omega arith
in_fields (e ∷ es) = ap (λ n. nodes e.1 + n) (in_fields es)

-- the nodes of a call, a set and a record
module _ {T : Type 0} where
  pub call_nodes : (k : ExprKind T) (n : Name) (es : Rc (Vec (Expr T) Global) Global) → k ≡ kind.ExtensionFunctionApp n es → kind_nodes k ≡ suc (item_nodes es.value.items)
  call_nodes k n es is = ap kind_nodes is ∙ ap suc (in_row es.value.items)

  pub set_nodes : (k : ExprKind T) (es : Rc (Vec (Expr T) Global) Global) → k ≡ kind.Set es → kind_nodes k ≡ suc (item_nodes es.value.items)
  set_nodes k es is = ap kind_nodes is ∙ ap suc (in_row es.value.items)

  pub record_nodes : (k : ExprKind T) (m : Rc (BTreeMap (RcStr Global) (Expr T)) Global) → k ≡ kind.Record m → kind_nodes k ≡ suc (field_nodes m.value.entries)
  record_nodes k m is = ap kind_nodes is ∙ ap suc (in_fields m.value.entries)

  -- a node that was written
  pub written_node : (n : Expr-F T (Expr T)) → nodes (roll-Expr T n) ≡ kind_nodes n.expr_kind
  written_node n = ap count (fold-roll-Expr T BareExpr node_step n)

  pub nodes_of : (e : Expr T) (k : ExprKind T) → k ≡ kind_of e → kind_nodes k ≡ nodes e
  nodes_of e k is = ap kind_nodes is ∙ sym (ap count (bare_kind_of e))
