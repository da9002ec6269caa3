-- An expression that is being read, with all that waits for its value.
use Rattle.std.proofs.Common.{◌≡◌, ℕ, suc, ◌<◌, ◌≤◌, ◌+◌, ◌*◌, List, [], ◌∷◌, ◌++◌, map, refl, sym, ap, subst, ◌∙◌, arith, append_assoc, append-nil, IsTrue, true, Global, BTreeMap, Vec}
use Rattle.std.specs.Cmp.{IsTotalOrder}
use Rattle.std.specs.List.{AllZip, list_all}
use Rattle.std.specs.List.Sorted.{IsStrictlySortedBy}
use Rattle.std.specs.Map.{keys_of}
use Rattle.std.specs.Rc.{rc_str_bytes}
use Rattle.std.specs.declared.cmp.Ordering.{Ordering}
use Rattle.std.specs.declared.rc.Rc.{Rc}
use Rattle.std.specs.declared.rc.RcStr.{RcStr}
use Rattle.std.proofs.lemmas.List.{map-append}
use Rattle.cedar_sorted_slices.specs.Classes.{IsClassesOf}
use Rattle.cedar_builders.specs.BareExpr.{BareExpr, Set, Record, trees_of}
use Rattle.cedar_builders.specs.Count.{count, total, count_is}
use Rattle.cedar_builders.specs.Walks as bare
use Rattle.cedar_exprs.specs.FirstNodes.{InPreorder, passed}
use Rattle.cedar_exprs.specs.BareExpr.{bare_expr, bare_exprs, bare_fields, kind_of}
use Rattle.cedar_exprs.specs.declared.expr.Expr.{Expr}
use Rattle.cedar_exprs.specs.declared.expr.KindOf.TheVariants as Kind
use Rattle.semantics_values.specs.BareValue.{BareValue}
use Rattle.semantics_values.specs.Reading.{IsValueOf, AreValuesOf, ArePairsOf, is_readable, is_readable_node}
use Rattle.semantics_values.specs.ValueOrder.{value_cmp}
use Rattle.cedar_values.specs.BareValues as values
use Rattle.cedar_values.specs.BareValues.{bare_value, bare_value_kind}
use Rattle.cedar_values.specs.Conversions.{bare_pairs}
use Rattle.cedar_values.specs.Keyed.{IsAbove}
use Rattle.cedar_values.specs.NotReadable.{first_not_readable, first_not_readable_of, IsNotValueAt}
use Rattle.cedar_values.specs.Places.{gathered}
use Rattle.cedar_values.specs.Records.{key_cmp}
use Rattle.cedar_values.specs.RowsRead.{IsFor, IsNext, IsRead, IsReadPair, IsRecordRead, IsSetRead, IsStepFor, expr_nodes, pair_nodes, row_expr, row_left, step_left}
use Rattle.cedar_values.specs.Sets.{by_tree, members}
use Rattle.cedar_values.specs.WellFormed.{well_formed}
use Rattle.cedar_values.specs.declared.from_expr.Step.{Step}
use Rattle.cedar_values.specs.declared.from_expr.Step.TheVariants.{Read, Into}
use Rattle.cedar_values.specs.declared.from_expr.Waiting.{Waiting}
use Rattle.cedar_values.specs.declared.from_expr.Waiting.TheVariants.{InSet, InRecord}
use Rattle.cedar_values.specs.declared.not_value.NotValue.{NotValue}
use Rattle.cedar_values.specs.declared.set.Set as set_of
use Rattle.cedar_values.specs.declared.value.Value.{Value}
use Rattle.cedar_values.specs.declared.value.ValueKind.{ValueKind}
use Rattle.cedar_values.specs.declared.value.ValueKind.TheVariants as ValueOf
use Rattle.cedar_values.proofs.Entries.{above}
use Rattle.cedar_values.proofs.ExprLevels.{bare_at_record, bare_at_set}
use Rattle.cedar_values.proofs.FirstFault.{none_in_readable, passes_record, passes_set, refused}
use Rattle.cedar_values.proofs.Levels.{value_tree}
use Rattle.cedar_values.proofs.Readings.{are_pairs, are_values, one_more_kept, same_texts, set_read, record_read, zip_push}
use denote.Ref.{Bor}

-- ---- the turns that are left

-- where these wait
abbrev pub turns : {X : Type 0} → List (Waiting X) → ℕ
turns [] = 0
turns (w ∷ ws) = 1 + 2 * row_left w + turns ws

module _ {X : Type 0} where
  turns-snoc : (ws : List (Waiting X)) (w : Waiting X) → turns (ws ++ w ∷ []) ≡ turns ws + (1 + 2 * row_left w)
  turns-snoc [] w = omega arith
  turns-snoc (v ∷ ws) w = omega (arith, turns-snoc ws w)

  -- into an expression, and back to what waits
  pub into_fewer : (all ws : List (Waiting X)) (w : Waiting X) (e : Bor (Expr Unit)) (old next : Step X) → all ≡ ws ++ w ∷ [] → old ≡ Into w e → step_left next < count (bare_expr e.now) → turns all + 2 * step_left next < turns ws + 2 * step_left old
  into_fewer all ws w e old next is was less =
      let a = ap turns is ∙ turns-snoc ws w in
      let b : step_left old ≡ count (bare_expr e.now) + row_left w = ap step_left was in
      omega (arith, a, b, less)

  pub back_fewer : (all ws : List (Waiting X)) (w : Waiting X) (v : Value X) (old next : Step X) → all ≡ ws ++ w ∷ [] → old ≡ Read v → step_left next ≤ row_left w → turns ws + 2 * step_left next < turns all + 2 * step_left old
  back_fewer all ws w v old next is was less =
      let a = ap turns is ∙ turns-snoc ws w in
      let b : step_left old ≡ 0 = ap step_left was in
      omega (arith, a, b, less)

-- ---- the nodes of a set and of a record

members_back : (ts : List BareExpr) → bare.members_of (trees_of ts) ≡ ts
members_back [] = refl
members_back (t ∷ ts) = ap (λ us. t ∷ us) (members_back ts)

values_back : (es : List (RcStr Global × Expr Unit)) → bare.values_of (bare_fields es) ≡ map bare_expr (map (λ e. e.1) es)
values_back [] = refl
values_back (e ∷ es) = ap (λ ts. bare_expr e.1 ∷ ts) (values_back es)

pub set_count : (e : Expr Unit) (es : Rc (Vec (Expr Unit) Global) Global) (left : List (Expr Unit)) → kind_of e ≡ Kind.Set es → left ≡ es.value.items → count (bare_expr e) ≡ suc (expr_nodes left)
set_count e es left is all =
    ap count (bare_at_set e es is)
    ∙ count_is (Set (bare_exprs es.value.items))
    ∙ ap (λ ts. suc (total ts)) (members_back (map bare_expr es.value.items))
    ∙ ap (λ es. suc (expr_nodes es)) (sym all)

pub record_count : (e : Expr Unit) (es : Rc (BTreeMap (RcStr Global) (Expr Unit)) Global) (left : List (RcStr Global × Expr Unit)) → kind_of e ≡ Kind.Record es → left ≡ es.value.entries → count (bare_expr e) ≡ suc (pair_nodes left)
record_count e es left is all =
    ap count (bare_at_record e es is)
    ∙ count_is (Record (bare_fields es.value.entries))
    ∙ ap (λ ts. suc (total ts)) (values_back es.value.entries)
    ∙ ap (λ es. suc (pair_nodes es)) (sym all)

-- ---- sets and records of which some is read

module _ {X : Type 0} (R : X → X → Ordering) where
  -- nothing is read yet
  pub set_begun : (e : Expr Unit) (es : Rc (Vec (Expr Unit) Global) Global) (left : List (Expr Unit)) (vs : List (Value X)) → kind_of e ≡ Kind.Set es → left ≡ es.value.items → vs ≡ [] → IsSetRead R e vs left
  set_begun e es left vs is all none = record {
    all = es;
    is_set = is;
    seen = [];
    parts = sym all;
    read = subst (AllZip (IsRead R) []) (sym none) tt;
    kept = ap (list_all (well_formed R)) none;
  }

  pub record_begun : (e : Expr Unit) (es : Rc (BTreeMap (RcStr Global) (Expr Unit)) Global) (left : List (RcStr Global × Expr Unit)) (vs : List (RcStr Global × Value X)) → kind_of e ≡ Kind.Record es → IsStrictlySortedBy key_cmp (keys_of es.value.entries)
      → left ≡ es.value.entries → vs ≡ [] → IsRecordRead R e vs left
  record_begun e es left vs is ascending all none = record {
    all = es;
    is_record = is;
    ascending = ascending;
    seen = [];
    parts = sym all;
    read = subst (AllZip (IsReadPair R) []) (sym none) tt;
    kept = ap (list_all (λ e. well_formed R e.1)) none;
  }

  -- one member more
  pub one_more_member : (e d : Expr Unit) (vs ws : List (Value X)) (left : List (Expr Unit)) (v : Value X) → IsSetRead R e vs (d ∷ left) → IsRead R d v → IsTrue (well_formed R v) → ws ≡ vs ++ v ∷ [] → IsSetRead R e ws left
  one_more_member e d vs ws left v h read kept put = record {
    all = h.all;
    is_set = h.is_set;
    seen = h.seen ++ d ∷ [];
    parts = h.parts ∙ sym (append_assoc h.seen (d ∷ []) left);
    read = subst (AllZip (IsRead R) (h.seen ++ d ∷ [])) (sym put) (zip_push (IsRead R) h.seen vs d v h.read read);
    kept = ap (list_all (well_formed R)) put ∙ one_more_kept (well_formed R) vs v h.kept kept;
  }

  -- the key of the pair that comes next is above those before it
  pub next_above : (e : Expr Unit) (vs : List (RcStr Global × Value X)) (d : RcStr Global × Expr Unit) (left : List (RcStr Global × Expr Unit)) (k : RcStr Global) → IsRecordRead R e vs (d ∷ left) → rc_str_bytes k ≡ rc_str_bytes d.0 → IsAbove k vs
  next_above e vs d left k h key = above h.seen vs d left k (same_texts R h.seen vs h.read) (subst (λ es. IsStrictlySortedBy key_cmp (keys_of es)) h.parts h.ascending) key

  -- one pair more
  pub one_more_pair : (e : Expr Unit) (d : RcStr Global × Expr Unit) (vs ws : List (RcStr Global × Value X)) (left : List (RcStr Global × Expr Unit)) (k : RcStr Global) (v : Value X) → IsRecordRead R e vs (d ∷ left) → rc_str_bytes k ≡ rc_str_bytes d.0 → IsRead R d.1 v → IsTrue (well_formed R v)
      → ws ≡ vs ++ (k, v) ∷ [] → IsRecordRead R e ws left
  one_more_pair e d vs ws left k v h key read kept put = record {
    all = h.all;
    is_record = h.is_record;
    ascending = h.ascending;
    seen = h.seen ++ d ∷ [];
    parts = h.parts ∙ sym (append_assoc h.seen (d ∷ []) left);
    read = subst (AllZip (IsReadPair R) (h.seen ++ d ∷ [])) (sym put) (zip_push (IsReadPair R) h.seen vs d (k, v) h.read (key, read));
    kept = ap (list_all (λ e. well_formed R e.1)) put ∙ one_more_kept (λ e. well_formed R e.1) vs (k, v) h.kept kept;
  }

  -- a value is read where its kind is
  pub kind_read : (e : Expr Unit) (v : Value X) (k : ValueKind X) → values.kind_of v ≡ k → IsValueOf R (bare_expr e) (bare_value_kind k) → IsRead R e v
  kind_read e v k is h = subst (IsValueOf R (bare_expr e)) (sym (value_tree v ∙ ap bare_value_kind is)) h

  -- all is read
  pub all_members : IsTotalOrder (value_cmp R) → (e : Expr Unit) (vs : List (Value X)) (left : List (Expr Unit)) (s : set_of.Set X) → left ≡ [] → IsSetRead R e vs left → IsClassesOf (by_tree R) (members s) (gathered vs) → IsValueOf R (bare_expr e) (bare_value_kind (ValueOf.Set s))
  all_members o e vs left s none h classes =
      let all : h.all.value.items ≡ h.seen = h.parts ∙ ap (λ es. h.seen ++ es) none ∙ append-nil h.seen in
      set_read R o e h.all h.all.value vs s h.is_set refl (subst (λ es. AreValuesOf R (bare_exprs es) (map bare_value vs)) (sym all) (are_values R h.seen vs h.read)) classes

  pub all_pairs : (e : Expr Unit) (vs : List (RcStr Global × Value X)) (left : List (RcStr Global × Expr Unit)) (m : Rc (BTreeMap (RcStr Global) (Value X)) Global) (w : BTreeMap (RcStr Global) (Value X)) → left ≡ [] → m.value ≡ w → w.entries ≡ vs → IsRecordRead R e vs left → IsValueOf R (bare_expr e) (bare_value_kind (ValueOf.Record m))
  all_pairs e vs left m w none made is h =
      let all : h.all.value.entries ≡ h.seen = h.parts ∙ ap (λ es. h.seen ++ es) none ∙ append-nil h.seen in
      record_read R e h.all h.all.value m w h.is_record refl made
      (subst (λ es. ArePairsOf R (bare_fields h.all.value.entries) (bare_pairs es)) (sym is) (subst (λ es. ArePairsOf R (bare_fields es) (bare_pairs vs)) (sym all) (are_pairs R h.seen vs h.read)))

  -- ---- what waits

  -- from the outermost on, each waits for the next, and the last for this expression
  abbrev pub Nested : List (Waiting X) → Expr Unit → Expr Unit → Type 0
  Nested [] e root = e ≡ root
  Nested (w ∷ ws) e root = (row_expr w ≡ root) × (d : Expr Unit) × IsFor R w d × Nested ws e d

  nested-snoc : (ws : List (Waiting X)) (w : Waiting X) (d root : Expr Unit) → Nested ws (row_expr w) root → IsFor R w d → Nested (ws ++ w ∷ []) d root
  nested-snoc [] w d root h k = (h, d, k, refl)
  nested-snoc (v ∷ ws) w d root h k = (h.0, h.1, h.2, nested-snoc ws w d h.1 h.3 k)

  nested_last : (ws : List (Waiting X)) (w : Waiting X) (e root : Expr Unit) → Nested (ws ++ w ∷ []) e root → IsFor R w e × Nested ws (row_expr w) root
  nested_last [] w e root h = (subst (IsFor R w) (sym h.3) h.2, h.0)
  nested_last (v ∷ ws) w e root h = let k = nested_last ws w e h.1 h.3 in (k.0, (h.0, h.1, h.2, k.1))

  -- ---- the first fault

  module _ (o : InPreorder Unit) (readable : (b : BareExpr) (t : BareValue X) → IsValueOf R b t → is_readable b ≡ true) (x : NotValue) where
    past : (seen : List (Expr Unit)) (vs : List (Value X)) (d : Expr Unit) (left : List (Expr Unit)) → AllZip (IsRead R) seen vs → IsNotValueAt (first_not_readable d) x → IsNotValueAt (first_not_readable_of (seen ++ d ∷ left)) x
    past [] vs d left h k = refused (d ∷ left) d left _ refl refl x k
    past (s ∷ seen) [] d left h k = absurd h
    past (s ∷ seen) (v ∷ vs) d left h k =
        subst (λ w. IsNotValueAt w x) (passed is_readable_node s (s ∷ seen ++ d ∷ left) (seen ++ d ∷ left) _ refl refl (sym (none_in_readable o s (readable (bare_expr s) (bare_value v) h.0)))) (past seen vs d left h.1 k)

    values_read : (seen : List (RcStr Global × Expr Unit)) (vs : List (RcStr Global × Value X)) → AllZip (IsReadPair R) seen vs → AllZip (IsRead R) (map (λ e. e.1) seen) (map (λ v. v.1) vs)
    values_read [] [] h = tt
    values_read [] (v ∷ vs) h = absurd h
    values_read (s ∷ seen) [] h = absurd h
    values_read (s ∷ seen) (v ∷ vs) h = (h.0.1, values_read seen vs h.1)

    -- of what comes next it is that of the whole
    fault_around : (w : Waiting X) (d : Expr Unit) → IsFor R w d → IsNotValueAt (first_not_readable d) x → IsNotValueAt (first_not_readable (row_expr w)) x
    fault_around (InSet row) d h k =
        subst (λ w. IsNotValueAt w x) (sym (ap first_not_readable_of h.parts) ∙ passes_set o row.expr.now h.all h.all.value h.is_set refl) (past h.seen row.values.items d _ h.read k)
    fault_around (InRecord row key) d h k =
        let r = h.2 in
        let parts : map (λ (e : RcStr Global × Expr Unit). e.1) r.all.value.entries ≡ map (λ e. e.1) r.seen ++ d ∷ map (λ e. e.1) row.rest = ap (map (λ e. e.1)) r.parts ∙ map-append (λ (e : RcStr Global × Expr Unit). e.1) r.seen ((h.0, d) ∷ row.rest) in
        subst (λ w. IsNotValueAt w x) (sym (ap first_not_readable_of parts) ∙ passes_record o row.expr.now r.all r.all.value r.is_record refl)
        (past (map (λ e. e.1) r.seen) (map (λ v. v.1) row.values.entries) d (map (λ e. e.1) row.rest) (values_read r.seen row.values.entries r.read) k)

    pub nested_fault : (ws : List (Waiting X)) (e root : Expr Unit) → Nested ws e root → IsNotValueAt (first_not_readable e) x → IsNotValueAt (first_not_readable root) x
    nested_fault [] e root h k = subst (λ d. IsNotValueAt (first_not_readable d) x) h k
    nested_fault (w ∷ ws) e root h k = subst (λ d. IsNotValueAt (first_not_readable d) x) h.0 (fault_around w h.1 h.2 (nested_fault ws e h.1 h.3 k))

  -- ---- the steps

  -- an expression that is read next, with all that waits for it
  abbrev pub IsCourse : List (Waiting X) → Step X → Expr Unit → Type 0
  IsCourse ws step root = (e : Expr Unit) × Nested ws e root × IsStepFor R e step

  pub course_into : (all ws : List (Waiting X)) (w : Waiting X) (d : Bor (Expr Unit)) (old : Step X) (root : Expr Unit) → all ≡ ws ++ w ∷ [] → old ≡ Into w d → IsCourse ws old root → Nested all d.now root
  course_into all ws w d old root is was h =
      let k = subst (IsStepFor R h.0) was h.2 in
      subst (λ us. Nested us d.now root) (sym is) (nested-snoc ws w d.now root (subst (λ e. Nested ws e root) (sym k.1) h.1) k.0)

  pub course_back : (all ws : List (Waiting X)) (w : Waiting X) (v : Value X) (old : Step X) (root : Expr Unit) → all ≡ ws ++ w ∷ [] → old ≡ Read v → IsCourse all old root → IsNext R w v × Nested ws (row_expr w) root
  course_back all ws w v old root is was h =
      let k = subst (IsStepFor R h.0) was h.2 in
      let n = nested_last ws w h.0 root (subst (λ us. Nested us h.0 root) is h.1) in
      ((h.0, n.0, k.0, k.1), n.1)
