-- A value's expression is read back, and what is read is one value up to sameness.
use Rattle.std.proofs.Common.{◌≡◌, Bool, true, false, not, ◌&&◌, ◌||◌, List, [], ◌∷◌, refl, sym, ap, ◌∙◌}
use Rattle.std.proofs.lemmas.Bool.{and_parts, true≢false}
use Rattle.std.proofs.lemmas.List.Folds.{list_all-append}
use Rattle.std.specs.List.{list_all}
use Rattle.std.specs.Cmp.{IsTotalOrder, tied_itself}
use Rattle.std.specs.Cmp.Lexicographic.{slice_cmp, nat_list_cmp_total}
use Rattle.std.specs.Ordering.{nat_cmp, ordering_then, is_eq, eq_by_cmp}
use Rattle.std.specs.declared.cmp.Ordering.{Ordering}
use Rattle.std.specs.declared.cmp.Ordering.TheVariants.{Equal}
use Rattle.cedar_sorted_slices.specs.Classes.{IsClassesOf, ascends}
use Rattle.cedar_sorted_slices.specs.Ascending.{sorted_of_ascends}
use Rattle.cedar_sorted_slices.specs.Unique.{same_classes_tie, tied_has}
use Rattle.cedar_terms.specs.LiteralOrder.{literal_cmp_total}
use Rattle.cedar_builders.specs.BareExpr.{BareExpr, Lit, Set, Record, BareExprs, no_trees, tree, BareFields, no_fields, field}
use Rattle.cedar_builders.specs.Walks.{preorder}
use Rattle.semantics_values.specs.BareValue.{BareCall, BareValue, LitValue, SetValue, RecordValue, ExtensionValue, BareValues, no_values, value, values_of, list_of, values_of_list, BarePairs, no_pairs, pair}
use Rattle.semantics_values.specs.ValueOrder.{value_cmp, pairs_cmp, values_cmp_is, value_cmp_total, value_ties}
use Rattle.semantics_values.specs.WellFormed.{is_well_formed, are_well_formed, pairs_are_well_formed}
use Rattle.semantics_values.specs.ValueExpr.{value_expr, member_exprs, pair_exprs, has_extension, any_has_extension, any_pair_has_extension}
use Rattle.semantics_values.proofs.Positions.{member_positions, field_positions}
use Rattle.semantics_values.specs.Reading.{is_readable_node, is_readable, IsValueOf, AreValuesOf, ArePairsOf, ReadsBack}

pub or_left : (a b : Bool) → (a || b) ≡ false → a ≡ false
or_left true b h = h
or_left false b h = refl

pub or_right : (a b : Bool) → (a || b) ≡ false → b ≡ false
or_right true b h = absurd (true≢false h)
or_right false b h = h

or_none : (a b : Bool) → a ≡ false → b ≡ false → (a || b) ≡ false
or_none a b p q = λ i. p i || q i

not_or : (a b : Bool) → (not a && not b) ≡ not (a || b)
not_or true b = refl
not_or false b = refl

module _ {X : Type 0} (C : X → BareCall) where
  mutual
    readable : (t : BareValue X) → is_readable (value_expr C t) ≡ not (has_extension t)
    readable (LitValue l) = refl
    readable (SetValue ts) = all_are ts
    readable (RecordValue ps) = pairs_are ps
    readable (ExtensionValue x g) = refl

    all_are : (ts : BareValues X) → list_all is_readable_node (member_positions (member_exprs C ts)) ≡ not (any_has_extension ts)
    all_are no_values = refl
    all_are (value t ts) =
        list_all-append is_readable_node (preorder (value_expr C t)) (member_positions (member_exprs C ts))
        ∙ (λ i. readable t i && all_are ts i) ∙ not_or (has_extension t) (any_has_extension ts)

    pairs_are : (ps : BarePairs X) → list_all is_readable_node (field_positions (pair_exprs C ps)) ≡ not (any_pair_has_extension ps)
    pairs_are no_pairs = refl
    pairs_are (pair k t ps) =
        list_all-append is_readable_node (preorder (value_expr C t)) (field_positions (pair_exprs C ps))
        ∙ (λ i. readable t i && pairs_are ps i) ∙ not_or (has_extension t) (any_pair_has_extension ps)

module _ {X : Type 0} {R : X → X → Ordering} (o : IsTotalOrder R) where
  module _ (C : X → BareCall) where
    mutual
      gives : (t : BareValue X) → is_well_formed R t ≡ true → has_extension t ≡ false → IsValueOf R (value_expr C t) t
      gives (LitValue l) w h = refl
      gives (SetValue ts) w h = (
        list_of ts,
        all_give ts (and_parts (ascends (value_cmp R) (list_of ts)) (are_well_formed R ts) w).1 h,
        list_of ts,
        record {
          ascending = sorted_of_ascends (value_cmp_total o) (list_of ts) (and_parts (ascends (value_cmp R) (list_of ts)) (are_well_formed R ts) w).0;
          same = λ q. refl;
          kept = λ x c. c;
        },
        ap SetValue (values_of_list ts),
      )
      gives (RecordValue ps) w h = (ps, pairs_give ps w h, refl)
      gives (ExtensionValue x g) w h = absurd (true≢false h)

      all_give : (ts : BareValues X) → are_well_formed R ts ≡ true → any_has_extension ts ≡ false → AreValuesOf R (member_exprs C ts) (list_of ts)
      all_give no_values w h = tt
      all_give (value t ts) w h =
          (gives t (and_parts (is_well_formed R t) (are_well_formed R ts) w).0 (or_left (has_extension t) (any_has_extension ts) h), all_give ts (and_parts (is_well_formed R t) (are_well_formed R ts) w).1 (or_right (has_extension t) (any_has_extension ts) h))

      pairs_give : (ps : BarePairs X) → pairs_are_well_formed R ps ≡ true → any_pair_has_extension ps ≡ false → ArePairsOf R (pair_exprs C ps) ps
      pairs_give no_pairs w h = tt
      pairs_give (pair k t ps) w h =
          (refl, gives t (and_parts (is_well_formed R t) (pairs_are_well_formed R ps) w).0 (or_left (has_extension t) (any_pair_has_extension ps) h), pairs_give ps (and_parts (is_well_formed R t) (pairs_are_well_formed R ps) w).1 (or_right (has_extension t) (any_pair_has_extension ps) h))

    mutual
      plain : (t u : BareValue X) → IsValueOf R (value_expr C t) u → has_extension t ≡ false
      plain (LitValue l) u h = refl
      plain (SetValue ts) u h = all_plain ts h.0 h.1
      plain (RecordValue ps) u h = pairs_plain ps h.0 h.1
      plain (ExtensionValue x g) u h = absurd h

      all_plain : (ts : BareValues X) (us : List (BareValue X)) → AreValuesOf R (member_exprs C ts) us → any_has_extension ts ≡ false
      all_plain no_values us h = refl
      all_plain (value t ts) [] h = absurd h
      all_plain (value t ts) (u ∷ us) h = or_none (has_extension t) (any_has_extension ts) (plain t u h.0) (all_plain ts us h.1)

      pairs_plain : (ps qs : BarePairs X) → ArePairsOf R (pair_exprs C ps) qs → any_pair_has_extension ps ≡ false
      pairs_plain no_pairs qs h = refl
      pairs_plain (pair k t ps) no_pairs h = absurd h
      pairs_plain (pair k t ps) (pair l u qs) h = or_none (has_extension t) (any_pair_has_extension ps) (plain t u h.1) (pairs_plain ps qs h.2)

  sets_tie : (ts us vs ws : List (BareValue X)) → slice_cmp (value_cmp R) us ws ≡ Equal → IsClassesOf (value_cmp R) ts us → IsClassesOf (value_cmp R) vs ws → value_cmp R (SetValue (values_of ts)) (SetValue (values_of vs)) ≡ Equal
  sets_tie ts us vs ws tie a b =
      values_cmp_is R ts vs
      ∙ same_classes_tie (value_cmp_total o) ts vs a.ascending b.ascending (λ q. a.same q ∙ tied_has (value_cmp_total o) us ws tie q ∙ sym (b.same q))

  -- each two values of a tree tie
  mutual
    pub tie : (b : BareExpr) (t u : BareValue X) → IsValueOf R b t → IsValueOf R b u → value_cmp R t u ≡ Equal
    tie (Lit l) t u h g = (λ i. value_cmp R (h i) (g i)) ∙ tied_itself literal_cmp_total l
    tie (Set es) t u h g =
        (λ i. value_cmp R (h.4 i) (g.4 i))
        ∙ sets_tie h.2 h.0 g.2 g.0 (all_tie es h.0 g.0 h.1 g.1) h.3 g.3
    tie (Record fs) t u h g = (λ i. value_cmp R (h.2 i) (g.2 i)) ∙ pairs_tie fs h.0 g.0 h.1 g.1
    tie e t u h g = absurd h

    all_tie : (es : BareExprs) (ts us : List (BareValue X)) → AreValuesOf R es ts → AreValuesOf R es us → slice_cmp (value_cmp R) ts us ≡ Equal
    all_tie no_trees [] [] h g = refl
    all_tie no_trees [] (u ∷ us) h g = absurd g
    all_tie no_trees (t ∷ ts) us h g = absurd h
    all_tie (tree e es) [] us h g = absurd h
    all_tie (tree e es) (t ∷ ts) [] h g = absurd g
    all_tie (tree e es) (t ∷ ts) (u ∷ us) h g = λ i. ordering_then (tie e t u h.0 g.0 i) (all_tie es ts us h.1 g.1 i)

    pairs_tie : (fs : BareFields) (ps qs : BarePairs X) → ArePairsOf R fs ps → ArePairsOf R fs qs → pairs_cmp R ps qs ≡ Equal
    pairs_tie no_fields no_pairs no_pairs h g = refl
    pairs_tie no_fields no_pairs (pair l u qs) h g = absurd g
    pairs_tie no_fields (pair k t ps) qs h g = absurd h
    pairs_tie (field k e fs) no_pairs qs h g = absurd h
    pairs_tie (field k e fs) (pair l t ps) no_pairs h g = absurd g
    pairs_tie (field k e fs) (pair l t ps) (pair m u qs) h g =
        λ i. ordering_then (((λ j. slice_cmp nat_cmp (h.0 j) (g.0 j)) ∙ tied_itself nat_list_cmp_total k) i) (ordering_then (tie e t u h.1 g.1 i) (pairs_tie fs ps qs h.2 g.2 i))

  -- the law: a value's expression
  module _ (C : X → BareCall) (E : X → X → Bool) (ties : (x y : X) → E x y ≡ eq_by_cmp R x y) where
    pub reads_back : (t : BareValue X) → is_well_formed R t ≡ true → ReadsBack R E (value_expr C t) t
    reads_back t w = record {
      readable = readable C t;
      gives = gives C t w;
      only = λ u h. value_ties R E ties u t ∙ ap is_eq (tie (value_expr C t) u t h (gives C t w (plain C t u h)));
    }
