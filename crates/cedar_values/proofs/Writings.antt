-- The expressions of sets and records of which some values are written and the others come next.
use Rattle.std.proofs.Common.{◌≡◌, suc, true, ◌&&◌, List, [], ◌∷◌, ◌++◌, map, refl, sym, ap, subst, ◌∙◌, append_assoc, append-nil, Global, Option, Some, IfSome, Result, Ok, Err, IfOk, BTreeMap, Less, nat_cmp}
use Rattle.std.specs.List.{AllByRecursion, list_all}
use Rattle.std.specs.List.Sorted.{IsStrictlySortedBy}
use Rattle.std.specs.Map as maps
use Rattle.std.specs.Ordering.{ordering_reverse}
use Rattle.std.specs.Cmp.Lexicographic.{slice_cmp, nat_list_cmp_total}
use Rattle.std.specs.Rc.{rc_str_bytes}
use Rattle.std.specs.declared.rc.Rc.{Rc}
use Rattle.std.specs.declared.rc.RcStr.{RcStr}
use Rattle.std.proofs.lemmas.List.{map-append}
use Rattle.std.proofs.lemmas.List.Folds.{list_all-append}
use Rattle.cedar_builders.specs.BareExpr.{Text, BareExpr, Set, Record, trees_of, fields_of, field}
use Rattle.cedar_builders.specs.Keys.{IsAscending, keys_of, meant_pairs}
use Rattle.cedar_builders.specs.Restricted.{IsRestricted, is_restricted}
use Rattle.cedar_exprs.specs.BareExpr.{bare_expr, bare_fields}
use Rattle.cedar_exprs.specs.declared.expr.Expr.{Expr}
use Rattle.semantics_values.specs.BareValue.{BareCall, values_of}
use Rattle.semantics_values.specs.ValueExpr.{value_expr, member_exprs, pair_exprs}
use Rattle.cedar_values.specs.BareValues.{bare_value, bare_value_kind}
use Rattle.cedar_values.specs.Conversions.{bare_pairs}
use Rattle.cedar_values.specs.Counts.{nodes, nodes_of, pair_nodes}
use Rattle.cedar_values.specs.Keyed.{IsAbove}
use Rattle.cedar_values.specs.Records.{key_cmp}
use Rattle.cedar_values.specs.Rows.{ArePairsRestricted, written}
use Rattle.cedar_values.specs.Sets.{members}
use Rattle.cedar_values.specs.declared.set.Set as set_of
use Rattle.cedar_values.specs.declared.value.Value.{Value}
use Rattle.cedar_values.specs.declared.value.ValueKind.{ValueKind}
use Rattle.cedar_values.specs.declared.value.ValueKind.TheVariants as ValueOf
use Rattle.cedar_values.proofs.Levels.{set_tree, record_tree}

-- what follows for an answer that is no error, and for one that is there
pub if_ok : {A E : Type 0} {P Q : A → Type 0} (r : Result A E) → IfOk r P → ((a : A) → P a → Q a) → IfOk r Q
if_ok (Ok a) h f = f a h
if_ok (Err e) h f = tt

pub if_some : {A : Type 0} (P : A → Type 0) (o : Option A) (a : A) → o ≡ Some a → IfSome o P → P a
if_some P o a is h = subst (λ x. IfSome x P) is h

made_fields : (es : List (RcStr Global × Expr Unit)) → bare_fields es ≡ fields_of (meant_pairs bare_expr es)
made_fields [] = refl
made_fields (e ∷ es) = ap (field (rc_str_bytes e.0) (bare_expr e.1)) (made_fields es)

-- a pair that was put behind the others
pub put_pair : (made es : List (RcStr Global × Expr Unit)) (k : RcStr Global) (e : Expr Unit) (more : List (Text × BareExpr)) → es ≡ made ++ (k, e) ∷ [] → meant_pairs bare_expr es ++ more ≡ meant_pairs bare_expr made ++ (rc_str_bytes k, bare_expr e) ∷ more
put_pair made es k e more put =
    ap (λ xs. meant_pairs bare_expr xs ++ more) put
    ∙ ap (λ xs. xs ++ more) (map-append (λ (p : RcStr Global × Expr Unit). (rc_str_bytes p.0, bare_expr p.1)) made ((k, e) ∷ []))
    ∙ append_assoc (meant_pairs bare_expr made) ((rc_str_bytes k, bare_expr e) ∷ []) more

pub put_key : {A : Type 0} (made es : List (RcStr Global × A)) (k : RcStr Global) (e : A) (more : List Text) → es ≡ made ++ (k, e) ∷ [] → keys_of es ++ more ≡ keys_of made ++ rc_str_bytes k ∷ more
put_key made es k e more put =
    ap (λ xs. keys_of xs ++ more) put ∙ ap (λ xs. xs ++ more) (map-append (λ (p : RcStr Global × _). rc_str_bytes p.0) made ((k, e) ∷ [])) ∙ append_assoc (keys_of made) (rc_str_bytes k ∷ []) more

pub put_restricted : (made es : List (RcStr Global × Expr Unit)) (k : RcStr Global) (e : Expr Unit) → es ≡ made ++ (k, e) ∷ [] → ArePairsRestricted made → IsRestricted (bare_expr e) → ArePairsRestricted es
put_restricted made es k e put h one =
    let p = λ (e : RcStr Global × Expr Unit). is_restricted (bare_expr e.1) in
    ap (list_all p) put ∙ list_all-append p made ((k, e) ∷ []) ∙ (λ i. h i && (one i && true))

module _ {X : Type 0} (C : X → BareCall) where
  members_of : (vs : List (Value X)) → trees_of (map (written C) vs) ≡ member_exprs C (values_of (map bare_value vs))
  members_of [] = refl
  members_of (v ∷ vs) = rw (members_of vs)

  pairs_of : (vs : List (RcStr Global × Value X)) → fields_of (meant_pairs (written C) vs) ≡ pair_exprs C (bare_pairs vs)
  pairs_of [] = refl
  pairs_of (v ∷ vs) = ap (field (rc_str_bytes v.0) (written C v.1)) (pairs_of vs)

  -- of a set and a record nothing is written
  module _ (k : ValueKind X) (s : set_of.Set X) (is : k ≡ ValueOf.Set s) (vs : List (Value X)) (all : vs ≡ members s) where
    pub set_begun : (es : List (Expr Unit)) → es ≡ [] → Set (trees_of (map bare_expr es ++ map (written C) vs)) ≡ value_expr C (bare_value_kind k)
    set_begun es none =
        (λ i. Set (trees_of (map bare_expr (none i) ++ map (written C) (all i)))) ∙ ap Set (members_of (members s)) ∙ sym (ap (value_expr C) (ap bare_value_kind is ∙ set_tree s))

    pub set_nodes : nodes (bare_value_kind k) ≡ suc (nodes_of vs)
    set_nodes = ap nodes (ap bare_value_kind is ∙ set_tree s) ∙ ap (λ us. suc (nodes_of us)) (sym all)

  module _ (k : ValueKind X) (m : Rc (BTreeMap (RcStr Global) (Value X)) Global) (is : k ≡ ValueOf.Record m) (vs : List (RcStr Global × Value X)) (all : vs ≡ m.value.entries) where
    pub record_begun : (es : List (RcStr Global × Expr Unit)) → es ≡ [] → Record (fields_of (meant_pairs bare_expr es ++ meant_pairs (written C) vs)) ≡ value_expr C (bare_value_kind k)
    record_begun es none =
        (λ i. Record (fields_of (meant_pairs bare_expr (none i) ++ meant_pairs (written C) (all i)))) ∙ ap Record (pairs_of m.value.entries) ∙ sym (ap (value_expr C) (ap bare_value_kind is ∙ record_tree m))

    pub record_nodes : nodes (bare_value_kind k) ≡ suc (pair_nodes (bare_pairs vs))
    record_nodes = ap nodes (ap bare_value_kind is ∙ record_tree m) ∙ ap (λ us. suc (pair_nodes (bare_pairs us))) (sym all)

  -- all pairs are written
  pub all_pairs : (es : List (RcStr Global × Expr Unit)) (left : List (RcStr Global × Value X)) → left ≡ [] → Record (bare_fields es) ≡ Record (fields_of (meant_pairs bare_expr es ++ meant_pairs (written C) left))
  all_pairs es left none = ap Record (made_fields es ∙ ap fields_of (sym (append-nil (meant_pairs bare_expr es)) ∙ ap (λ vs. meant_pairs bare_expr es ++ meant_pairs (written C) vs) (sym none)))

  -- one more is written
  pub next_pair : (made es : List (RcStr Global × Expr Unit)) (k : RcStr Global) (e : Expr Unit) (all left : List (RcStr Global × Value X)) (v : RcStr Global × Value X) → es ≡ made ++ (k, e) ∷ [] → all ≡ v ∷ left
      → rc_str_bytes k ≡ rc_str_bytes v.0 → bare_expr e ≡ written C v.1 → meant_pairs bare_expr es ++ meant_pairs (written C) left ≡ meant_pairs bare_expr made ++ meant_pairs (written C) all
  next_pair made es k e all left v put taken key is =
      put_pair made es k e (meant_pairs (written C) left) put
      ∙ (λ i. meant_pairs bare_expr made ++ (key i, is i) ∷ meant_pairs (written C) left)
      ∙ ap (λ vs. meant_pairs bare_expr made ++ meant_pairs (written C) vs) (sym taken)

below : {A : Type 0} (k : RcStr Global) (es : List (RcStr Global × A)) → AllByRecursion (λ y. key_cmp k y ≡ Less) (maps.keys_of es) → AllByRecursion (λ y. slice_cmp nat_cmp (rc_str_bytes k) y ≡ Less) (keys_of es)
below k [] h = tt
below k (e ∷ es) h = (h.0, below k es h.1)

-- in order in the map, ascending as texts
pub keys_ascend : {A : Type 0} (es : List (RcStr Global × A)) → IsStrictlySortedBy key_cmp (maps.keys_of es) → IsAscending (keys_of es)
unfolding IsStrictlySortedBy
keys_ascend [] h = tt
keys_ascend (e ∷ es) h = (below e.0 es h.0, keys_ascend es h.1)

below_later : {A : Type 0} (first : Text) (es : List (RcStr Global × A)) (k : Text) (more : List Text) → AllByRecursion (λ y. slice_cmp nat_cmp first y ≡ Less) (keys_of es ++ k ∷ more) → slice_cmp nat_cmp first k ≡ Less
below_later first [] k more h = h.0
below_later first (e ∷ es) k more h = below_later first es k more h.1

-- the key that comes next is above those before it
pub next_above : {A : Type 0} (made : List (RcStr Global × A)) (k : RcStr Global) (more : List Text) → IsAscending (keys_of made ++ rc_str_bytes k ∷ more) → IsAbove k made
unfolding IsStrictlySortedBy
next_above [] k more h = tt
next_above (m ∷ made) k more h = (
  nat_list_cmp_total.antisymm (rc_str_bytes k) (rc_str_bytes m.0) ∙ ap ordering_reverse (below_later (rc_str_bytes m.0) made (rc_str_bytes k) more h.0),
  next_above made k more h.1,
)
