-- The fields of a record in the order of their keys, by what their values mean.
use Rattle.std.proofs.Common.{◌≡◌, Ordering, Less, Equal, Greater, List, [], ◌∷◌, map, fold, refl, ◌∙◌, ap}
use Rattle.std.specs.BTreeMap.{insert_entry}
use Rattle.std.specs.Cmp.Lexicographic.{slice_cmp}
use Rattle.std.specs.Global.{Global}
use Rattle.std.specs.Ordering.{match_ordering, nat_cmp}
use Rattle.std.specs.Rc.{rc_str_bytes}
use Rattle.std.specs.declared.rc.RcStr.{RcStr}
use Rattle.cedar_builders.specs.BareExpr.{Text, BareExpr, Record, fields_of}
use Rattle.cedar_builders.specs.Keys.{in_key_order, keyed, meant_pairs}
use Rattle.cedar_exprs.specs.BareExpr.{bare_expr}
use Rattle.cedar_exprs.specs.RecordPairs.{record_fields}
use Rattle.cedar_exprs.specs.declared.expr.Expr.{Expr}
use Rattle.cedar_json.specs.Values.{record_tree}

module _ {A M : Type 0} (f : A → M) where
  abbrev meant : List (Text × A) → List (Text × M)
  meant ps = map (λ p. (p.0, f p.1)) ps

  meant-match : (o : Ordering) (a b c : List (Text × A)) → meant (match_ordering o a b c) ≡ match_ordering o (meant a) (meant b) (meant c)
  meant-match Less a b c = refl
  meant-match Equal a b c = refl
  meant-match Greater a b c = refl

  meant-insert : (es : List (Text × A)) (k : Text) (v : A)
      → meant (insert_entry (slice_cmp nat_cmp) es k v) ≡ insert_entry (slice_cmp nat_cmp) (meant es) k (f v)
  meant-insert [] k v = refl
  meant-insert (e ∷ es) k v = meant-match (slice_cmp nat_cmp k e.0) _ _ _ ∙ rw (meant-insert es k v)

  meant-fold : (es ps : List (Text × A)) → meant (fold (λ xs p. insert_entry (slice_cmp nat_cmp) xs p.0 p.1) es ps)
      ≡ fold (λ xs p. insert_entry (slice_cmp nat_cmp) xs p.0 p.1) (meant es) (meant ps)
  meant-fold es [] = refl
  meant-fold es (p ∷ ps) =
      meant-fold (insert_entry (slice_cmp nat_cmp) es p.0 p.1) ps
      ∙ ap (λ xs. fold (λ xs p. insert_entry (slice_cmp nat_cmp) xs p.0 p.1) xs (meant ps)) (meant-insert es p.0 p.1)

  meant_keyed : (ps : List (RcStr Global × A)) → meant (keyed ps) ≡ meant_pairs f ps
  meant_keyed [] = refl
  meant_keyed (p ∷ ps) = ap (λ qs. (rc_str_bytes p.0, f p.1) ∷ qs) (meant_keyed ps)

  meant_in_order : (ps : List (RcStr Global × A)) → meant (in_key_order (keyed ps)) ≡ in_key_order (meant_pairs f ps)
  meant_in_order ps = meant-fold [] (keyed ps) ∙ ap in_key_order (meant_keyed ps)

pub made_record : (ps : List (RcStr Global × Expr Unit)) (e : BareExpr)
    → e ≡ Record (record_fields ps) → e ≡ record_tree (meant_pairs bare_expr ps)
made_record ps e is = is ∙ ap (λ qs. Record (fields_of qs)) (meant_in_order bare_expr ps)
