-- The values of lists and maps of expressions, one by one.
use Rattle.std.proofs.Common.{◌≡◌, ◌&&◌, List, [], ◌∷◌, ◌++◌, map, refl, sym, ap, subst, ◌∙◌, Global, BTreeMap, Vec, Bool, true, false, if◌then◌else◌}
use Rattle.std.specs.List.{AllZip, list_all}
use Rattle.std.specs.Rc.{rc_str_bytes}
use Rattle.std.specs.Cmp.{IsTotalOrder}
use Rattle.std.specs.declared.rc.Rc.{Rc}
use Rattle.std.specs.declared.rc.RcStr.{RcStr}
use Rattle.std.specs.declared.cmp.Ordering.{Ordering}
use Rattle.std.proofs.lemmas.List.Folds.{list_all-append}
use Rattle.cedar_sorted_slices.specs.Classes.{IsClassesOf}
use Rattle.cedar_sorted_slices.specs.Images.{classes_of_images}
use Rattle.cedar_builders.specs.BareExpr as tree
use Rattle.cedar_exprs.specs.BareExpr.{bare_expr, bare_exprs, bare_fields, kind_of}
use Rattle.cedar_exprs.specs.declared.expr.Expr.{Expr}
use Rattle.cedar_exprs.specs.declared.expr.KindOf.TheVariants as Kind
use Rattle.semantics_values.specs.BareValue.{RecordValue}
use Rattle.semantics_values.specs.ValueOrder.{value_cmp}
use Rattle.semantics_values.specs.Reading.{IsValueOf, AreValuesOf, ArePairsOf}
use Rattle.cedar_values.specs.BareValues.{bare_value, bare_value_kind}
use Rattle.cedar_values.specs.Conversions.{bare_pairs}
use Rattle.cedar_values.specs.RowsRead.{IsRead, IsReadPair}
use Rattle.cedar_values.specs.Places.{gathered, is_lit_value, unplaced}
use Rattle.cedar_values.specs.Sets.{by_tree, members}
use Rattle.cedar_values.specs.declared.value.Value.{Value}
use Rattle.cedar_values.specs.declared.value.ValueKind.TheVariants as ValueOf
use Rattle.cedar_values.specs.declared.set.Set.{Set}
use Rattle.cedar_values.proofs.ExprLevels.{bare_at_set, bare_at_record}
use Rattle.cedar_values.proofs.Levels.{set_tree, record_tree, unplaced_tree}

pub zip_push : {A B : Type 0} (P : A → B → Type 0) (xs : List A) (ys : List B) (x : A) (y : B) → AllZip P xs ys → P x y → AllZip P (xs ++ x ∷ []) (ys ++ y ∷ [])
zip_push P [] [] x y h p = (p, tt)
zip_push P [] (b ∷ ys) x y h p = absurd h
zip_push P (a ∷ xs) [] x y h p = absurd h
zip_push P (a ∷ xs) (b ∷ ys) x y h p = (h.0, zip_push P xs ys x y h.1 p)

-- one more item that passes
pub one_more_kept : {A : Type 0} (p : A → Bool) (xs : List A) (x : A) → list_all p xs ≡ true → p x ≡ true → list_all p (xs ++ x ∷ []) ≡ true
one_more_kept p xs x all one = list_all-append p xs (x ∷ []) ∙ λ i. all i && (one i && true)

module _ {X : Type 0} (R : X → X → Ordering) where
  pub are_values : (es : List (Expr Unit)) (vs : List (Value X)) → AllZip (IsRead R) es vs → AreValuesOf R (bare_exprs es) (map bare_value vs)
  are_values [] [] h = tt
  are_values [] (v ∷ vs) h = absurd h
  are_values (e ∷ es) [] h = absurd h
  are_values (e ∷ es) (v ∷ vs) h = (h.0, are_values es vs h.1)

  pub are_pairs : (es : List (RcStr Global × Expr Unit)) (vs : List (RcStr Global × Value X)) → AllZip (IsReadPair R) es vs → ArePairsOf R (bare_fields es) (bare_pairs vs)
  are_pairs [] [] h = tt
  are_pairs [] (v ∷ vs) h = absurd h
  are_pairs (e ∷ es) [] h = absurd h
  are_pairs (e ∷ es) (v ∷ vs) h = (h.0.0, h.0.1, are_pairs es vs h.1)

  pub same_texts : (es : List (RcStr Global × Expr Unit)) (vs : List (RcStr Global × Value X)) → AllZip (IsReadPair R) es vs
      → map (λ (p : RcStr Global × Value X). rc_str_bytes p.0) vs ≡ map (λ (p : RcStr Global × Expr Unit). rc_str_bytes p.0) es
  same_texts [] [] h = refl
  same_texts [] (v ∷ vs) h = absurd h
  same_texts (e ∷ es) [] h = absurd h
  same_texts (e ∷ es) (v ∷ vs) h = λ i. h.0.0 i ∷ same_texts es vs h.1 i

  unplaced_trees : (vs : List (Value X)) → map bare_value (map unplaced vs) ≡ map bare_value vs
  unplaced_trees [] = refl
  unplaced_trees (v ∷ vs) = λ i. unplaced_tree v i ∷ unplaced_trees vs i

  -- the trees of values see no places
  gathered_trees : (vs : List (Value X)) → map bare_value (gathered vs) ≡ map bare_value vs
  gathered_trees vs = go (list_all (λ v. is_lit_value (bare_value v)) vs)
    where
      go : (b : Bool) → map bare_value (if b then map unplaced vs else vs) ≡ map bare_value vs
      go true = unplaced_trees vs
      go false = refl

  -- the value of a set, and of a record
  pub set_read : IsTotalOrder (value_cmp R) → (e : Expr Unit) (es : Rc (Vec (Expr Unit) Global) Global) (v : Vec (Expr Unit) Global) (vs : List (Value X)) (s : Set X) → kind_of e ≡ Kind.Set es → v ≡ es.value
      → AreValuesOf R (bare_exprs v.items) (map bare_value vs) → IsClassesOf (by_tree R) (members s) (gathered vs) → IsValueOf R (bare_expr e) (bare_value_kind (ValueOf.Set s))
  set_read o e es v vs s is at read classes =
      subst (λ b. IsValueOf R b (bare_value_kind (ValueOf.Set s))) (sym (bare_at_set e es is ∙ ap (λ (w : Vec (Expr Unit) Global). tree.Set (bare_exprs w.items)) (sym at)))
      (map bare_value vs, read, map bare_value (members s), subst (IsClassesOf (value_cmp R) (map bare_value (members s))) (gathered_trees vs) (classes_of_images bare_value o (members s) (gathered vs) classes), set_tree s)

  pub record_read : (e : Expr Unit) (es : Rc (BTreeMap (RcStr Global) (Expr Unit)) Global) (v : BTreeMap (RcStr Global) (Expr Unit)) (m : Rc (BTreeMap (RcStr Global) (Value X)) Global) (w : BTreeMap (RcStr Global) (Value X))
      → kind_of e ≡ Kind.Record es → v ≡ es.value → m.value ≡ w → ArePairsOf R (bare_fields v.entries) (bare_pairs w.entries) → IsValueOf R (bare_expr e) (bare_value_kind (ValueOf.Record m))
  record_read e es v m w is at made read =
      subst (λ b. IsValueOf R b (bare_value_kind (ValueOf.Record m))) (sym (bare_at_record e es is ∙ ap (λ (q : BTreeMap (RcStr Global) (Expr Unit)). tree.Record (bare_fields q.entries)) (sym at)))
      (bare_pairs w.entries, read, record_tree m ∙ ap (λ (q : BTreeMap (RcStr Global) (Value X)). RecordValue (bare_pairs q.entries)) made)
