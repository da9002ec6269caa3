-- The keys of a map, as those of its bare fields.
use Rattle.std.proofs.Common.{◌≡◌, List, [], ◌∷◌, Less, nat_cmp, Global, sym, ap, ◌∙◌, subst}
use Rattle.std.specs.Cmp.Lexicographic.{slice_cmp}
use Rattle.std.specs.List.{AllByRecursion}
use Rattle.std.specs.List.Sorted.{IsStrictlySortedBy}
use Rattle.std.specs.Map.{keys_of}
use Rattle.std.specs.Rc.{rc_str_bytes}
use Rattle.std.specs.declared.rc.Rc.{Rc}
use Rattle.std.specs.declared.rc.RcStr.{RcStr}
use Rattle.cedar_builders.specs.BareExpr as tree
use Rattle.cedar_builders.specs.Keys.{IsAscending}
use Rattle.cedar_builders.specs.AscendingKeys.{field_keys, NodeKeysAscend}
use Rattle.cedar_exprs.specs.BareExpr.{bare_expr, bare_fields, kind_of}
use Rattle.cedar_exprs.specs.declared.expr.Expr.{Expr}
use Rattle.cedar_exprs.specs.declared.expr.KindOf.TheVariants.{Record}
use Rattle.cedar_exprs.proofs.Records.{Map, Entry, text_cmp, bare_at_record}

module _ {T : Type 0} where
  below : (k : RcStr Global) (es : List (Entry T)) → AllByRecursion (λ y. text_cmp k y ≡ Less) (keys_of es) → AllByRecursion (λ y. slice_cmp nat_cmp (rc_str_bytes k) y ≡ Less) (field_keys (bare_fields es))
  below k [] h = tt
  below k (e ∷ es) h = (h.0, below k es h.1)

  -- in order in the map, ascending in the tree
  keys_ascend : (es : List (Entry T)) → IsStrictlySortedBy text_cmp (keys_of es) → IsAscending (field_keys (bare_fields es))
  unfolding IsStrictlySortedBy
  keys_ascend [] h = tt
  keys_ascend (e ∷ es) h = (below e.0 es h.0, keys_ascend es h.1)

  -- at a node that is the record of a map
  pub record_ascends : (e : Expr T) (m : Rc (Map T) Global) (n : Map T) → kind_of e ≡ Record m → n ≡ m.value → IsStrictlySortedBy text_cmp (keys_of n.entries) → NodeKeysAscend (bare_expr e)
  record_ascends e m n at same ordered =
      subst NodeKeysAscend (sym (bare_at_record e m at ∙ ap (λ (q : Map T). tree.Record (bare_fields q.entries)) (sym same))) (keys_ascend n.entries ordered)
