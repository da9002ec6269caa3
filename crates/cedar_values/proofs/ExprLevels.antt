-- The bare tree of a set and of a record.
use Rattle.std.proofs.Common.{◌≡◌, ap, ◌∙◌, Global, BTreeMap, Vec}
use Rattle.std.specs.declared.rc.Rc.{Rc}
use Rattle.std.specs.declared.rc.RcStr.{RcStr}
use Rattle.cedar_builders.specs.BareExpr as tree
use Rattle.cedar_exprs.specs.BareExpr.{bare_expr, bare_expr_kind, node_step, bare_exprs, bare_fields, kind_of}
use Rattle.cedar_exprs.specs.declared.expr.Expr.{Expr, fold_out-Expr}
use Rattle.cedar_exprs.specs.declared.expr.KindOf.TheVariants.{Set, Record}

module _ {T : Type 0} (e : Expr T) where
  pub bare_at_set : (es : Rc (Vec (Expr T) Global) Global) → kind_of e ≡ Set es → bare_expr e ≡ tree.Set (bare_exprs es.value.items)
  bare_at_set es is = fold_out-Expr T tree.BareExpr node_step e ∙ ap bare_expr_kind is

  pub bare_at_record : (es : Rc (BTreeMap (RcStr Global) (Expr T)) Global) → kind_of e ≡ Record es → bare_expr e ≡ tree.Record (bare_fields es.value.entries)
  bare_at_record es is = fold_out-Expr T tree.BareExpr node_step e ∙ ap bare_expr_kind is
