-- The outcome of a value's expression.
use Rattle.std.proofs.Common.{◌≡◌, refl, sym, ap, ◌∙◌, Bool, true, false, ◌||◌, List, [], ◌∷◌, map, Option, Some, Result, Ok}
use Rattle.std.proofs.lemmas.Bool.{and_parts, true≢false}
use Rattle.std.specs.BTreeSet.{insert_key}
use Rattle.std.specs.Ordering.{is_lt, match_ordering}
use Rattle.std.specs.declared.cmp.Ordering.{Ordering}
use Rattle.cedar_sorted_slices.specs.Classes.{ascends}
use Rattle.cedar_sorted_slices.specs.Ascending.{less}
use Rattle.cedar_names.specs.Names.{BareName}
use Rattle.cedar_terms.specs.Types.{BareType}
use Rattle.cedar_builders.specs.BareExpr.{Text, BareExpr}
use Rattle.cedar_builders.specs.Environment.{own, bound}
use Rattle.cedar_builders.specs.Fold.{fold_with, fold_all, fold_fields}
use Rattle.semantics_values.specs.BareValue.{BareCall, BareValue, LitValue, SetValue, RecordValue, ExtensionValue, BareValues, no_values, value, values_of, list_of, values_of_list, BarePairs, no_pairs, pair, pairs_of}
use Rattle.semantics_values.specs.ValueOrder.{value_cmp}
use Rattle.semantics_values.specs.WellFormed.{is_well_formed, are_well_formed, pairs_are_well_formed}
use Rattle.semantics_values.specs.ValueExpr.{value_expr, member_exprs, pair_exprs, has_extension, any_has_extension, any_pair_has_extension}
use Rattle.semantics_eval.specs.Outcomes.{Outcome}
use Rattle.semantics_eval.specs.Rows.{all_values, all_pairs, ascending_list, set_value}
use Rattle.semantics_eval.specs.Evaluator.{evaluator_ops}

pub or_left : (a b : Bool) → (a || b) ≡ false → a ≡ false
or_left true b h = h
or_left false b h = refl

pub or_right : (a b : Bool) → (a || b) ≡ false → b ≡ false
or_right true b h = absurd (true≢false h)
or_right false b h = h

-- the ascending list of a list that ascends
module _ {K : Type 0} (R : K → K → Ordering) where
  pub ascending_kept : (xs : List K) → ascends R xs ≡ true → ascending_list R xs ≡ xs
  ascending_kept [] h = refl
  ascending_kept (x ∷ []) h = refl
  ascending_kept (x ∷ y ∷ ys) h =
      ap (λ zs. insert_key R zs x) (ascending_kept (y ∷ ys) (and_parts (is_lt (R x y)) _ h).1)
      ∙ ap (λ r. match_ordering r (x ∷ y ∷ ys) (y ∷ ys) (y ∷ insert_key R ys x))
      (less (R x y) (and_parts (is_lt (R x y)) _ h).0)

values_ok : {X : Type 0} (ts : List (BareValue X)) → all_values (map (λ t. Ok t) ts) ≡ Ok ts
values_ok [] = refl
values_ok (t ∷ ts) = simp (values_ok ts)

pairs_ok : {X : Type 0} (ps : List (Text × BareValue X))
    → all_pairs (map (λ p. (p.0, Ok p.1)) ps) ≡ Ok ps
pairs_ok [] = refl
pairs_ok (p ∷ ps) = simp (pairs_ok ps)

module _ {X : Type 0} (R : X → X → Ordering) where
  -- the value with each set inside made an ascending list
  abbrev mutual
    pub normal : BareValue X → BareValue X
    normal (LitValue l) = LitValue l
    normal (SetValue ts) = set_value R (normals ts)
    normal (RecordValue ps) = RecordValue (pairs_of (normal_pairs ps))
    normal (ExtensionValue x c) = ExtensionValue x c

    normals : BareValues X → List (BareValue X)
    normals no_values = []
    normals (value t ts) = normal t ∷ normals ts

    normal_pairs : BarePairs X → List (Text × BareValue X)
    normal_pairs no_pairs = []
    normal_pairs (pair k t ps) = (k, normal t) ∷ normal_pairs ps

  module _ (E : X → X → Bool) (C : X → BareCall)
      (f : Text → Option BareType → Result (Outcome X) BareName) where
    mutual
      pub evaluated : (t : BareValue X) → has_extension t ≡ false
          → fold_with (evaluator_ops R E) f (value_expr C t) ≡ Ok (Ok (normal t))
      evaluated (LitValue l) h = refl
      evaluated (SetValue ts) h = simp (all_evaluated ts h, values_ok)
      evaluated (RecordValue ps) h = simp (pairs_evaluated ps h, pairs_ok)
      evaluated (ExtensionValue x c) h = absurd (true≢false h)

      all_evaluated : (ts : BareValues X) → any_has_extension ts ≡ false
          → fold_all (evaluator_ops R E) f (member_exprs C ts) ≡ Ok (map (λ t. Ok t) (normals ts))
      all_evaluated no_values h = refl
      all_evaluated (value t ts) h =
          let here = evaluated t (or_left (has_extension t) (any_has_extension ts) h) in
          let rest = all_evaluated ts (or_right (has_extension t) (any_has_extension ts) h) in
          simp (here, rest)

      pairs_evaluated : (ps : BarePairs X) → any_pair_has_extension ps ≡ false
          → fold_fields (evaluator_ops R E) f (pair_exprs C ps)
          ≡ Ok (map (λ p. (p.0, Ok p.1)) (normal_pairs ps))
      pairs_evaluated no_pairs h = refl
      pairs_evaluated (pair k t ps) h =
          let here = evaluated t (or_left (has_extension t) (any_pair_has_extension ps) h) in
          let rest = pairs_evaluated ps (or_right (has_extension t) (any_pair_has_extension ps) h) in
          simp (here, rest)

  mutual
    pub kept : (t : BareValue X) → is_well_formed R t ≡ true → normal t ≡ t
    kept (LitValue l) w = refl
    kept (SetValue ts) w =
        let ascending = (and_parts (ascends (value_cmp R) (list_of ts)) (are_well_formed R ts) w).0 in
        let inside = (and_parts (ascends (value_cmp R) (list_of ts)) (are_well_formed R ts) w).1 in
        ap (set_value R) (all_kept ts inside)
        ∙ (ap (λ us. SetValue (values_of us)) (ascending_kept (value_cmp R) (list_of ts) ascending)
        ∙ ap SetValue (sym (values_of_list ts)))
    kept (RecordValue ps) w = ap RecordValue (pairs_kept ps w)
    kept (ExtensionValue x c) w = refl

    all_kept : (ts : BareValues X) → are_well_formed R ts ≡ true → normals ts ≡ list_of ts
    all_kept no_values w = refl
    all_kept (value t ts) w =
        let here = kept t (and_parts (is_well_formed R t) (are_well_formed R ts) w).0 in
        let rest = all_kept ts (and_parts (is_well_formed R t) (are_well_formed R ts) w).1 in
        λ i. here i ∷ rest i

    pairs_kept : (ps : BarePairs X) → pairs_are_well_formed R ps ≡ true
        → pairs_of (normal_pairs ps) ≡ ps
    pairs_kept no_pairs w = refl
    pairs_kept (pair k t ps) w =
        let here = kept t (and_parts (is_well_formed R t) (pairs_are_well_formed R ps) w).0 in
        let rest = pairs_kept ps (and_parts (is_well_formed R t) (pairs_are_well_formed R ps) w).1 in
        λ i. pair k (here i) (rest i)

-- the expression of a value without extension values
abbrev pub IsPlainTree : {X : Type 0} → (X → BareCall) → BareExpr → Type 0
IsPlainTree {X} C e = (t : BareValue X) × (has_extension t ≡ false) × (e ≡ value_expr C t)

-- an unknown that is bound to one means a value
pub bound_value : {X : Type 0} (R : X → X → Ordering) (E : X → X → Bool) (C : X → BareCall)
    (r : BareType × BareExpr) → IsPlainTree C r.1 → (n : Text) (s : Option BareType)
    → (u : BareValue X) × (bound (evaluator_ops R E) (Some r) n s ≡ Ok (Ok u))
bound_value R E C r plain n s =
    let ops = evaluator_ops R E in
    (normal R plain.0, ap (fold_with ops (own ops)) plain.2 ∙ evaluated R E C (own ops) plain.0 plain.1)
