-- What is read of a tree is well formed, and of a readable tree.
use Rattle.std.proofs.Common.{◌≡◌, true, ◌&&◌, List, [], ◌∷◌, refl, ap, ◌∙◌}
use Rattle.std.proofs.lemmas.List.Elements.{All-contains, Contains-get_or}
use Rattle.std.proofs.lemmas.List.Folds.{list_all-append}
use Rattle.std.proofs.lemmas.List.Sums.{AllPass-from_list_all, list_all-from_AllPass}
use Rattle.std.specs.List.{list_all}
use Rattle.std.specs.declared.cmp.Ordering.{Ordering}
use Rattle.cedar_sorted_slices.specs.Classes.{IsClassesOf, ascends}
use Rattle.cedar_sorted_slices.specs.Ascending.{ascends_of_sorted}
use Rattle.cedar_builders.specs.BareExpr.{BareExpr, Lit, Set, Record, BareExprs, no_trees, tree, BareFields, no_fields, field}
use Rattle.cedar_builders.specs.Walks.{preorder}
use Rattle.semantics_values.specs.BareValue.{BareValue, values_of, list_of_values, BarePairs, no_pairs, pair}
use Rattle.semantics_values.specs.ValueOrder.{value_cmp}
use Rattle.semantics_values.specs.WellFormed.{is_well_formed, are_well_formed, pairs_are_well_formed}
use Rattle.semantics_values.specs.Reading.{is_readable_node, is_readable, IsValueOf, AreValuesOf, ArePairsOf}
use Rattle.semantics_values.proofs.Positions.{member_positions, field_positions}

module _ {X : Type 0} (R : X → X → Ordering) where
  all_members : (ts : List (BareValue X)) → are_well_formed R (values_of ts) ≡ list_all (is_well_formed R) ts
  all_members [] = refl
  all_members (t ∷ ts) = ap (λ b. is_well_formed R t && b) (all_members ts)

  -- the classes of well formed values are well formed
  kept : (ts us : List (BareValue X)) → IsClassesOf (value_cmp R) ts us → list_all (is_well_formed R) us ≡ true → list_all (is_well_formed R) ts ≡ true
  kept ts us h all = list_all-from_AllPass (is_well_formed R) ts (λ k d l. All-contains (λ t. is_well_formed R t ≡ true) us _ (AllPass-from_list_all (is_well_formed R) us all) (h.kept _ (Contains-get_or ts k d l)))

  mutual
    pub read_well_formed : (e : BareExpr) (t : BareValue X) → IsValueOf R e t → is_well_formed R t ≡ true
    read_well_formed (Lit l) t h = ap (is_well_formed R) h
    read_well_formed (Set es) t h =
        ap (is_well_formed R) h.4
        ∙ λ i. (ap (ascends (value_cmp R)) (list_of_values h.2) ∙ ascends_of_sorted (value_cmp R) h.2 h.3.ascending) i
        && (all_members h.2 ∙ kept h.2 h.0 h.3 (members_well_formed es h.0 h.1)) i
    read_well_formed (Record fs) t h = ap (is_well_formed R) h.2 ∙ pairs_well_formed fs h.0 h.1
    read_well_formed e t h = absurd h

    members_well_formed : (es : BareExprs) (ts : List (BareValue X)) → AreValuesOf R es ts → list_all (is_well_formed R) ts ≡ true
    members_well_formed no_trees [] h = refl
    members_well_formed no_trees (t ∷ ts) h = absurd h
    members_well_formed (tree e es) [] h = absurd h
    members_well_formed (tree e es) (t ∷ ts) h = λ i. read_well_formed e t h.0 i && members_well_formed es ts h.1 i

    pairs_well_formed : (fs : BareFields) (ps : BarePairs X) → ArePairsOf R fs ps → pairs_are_well_formed R ps ≡ true
    pairs_well_formed no_fields no_pairs h = refl
    pairs_well_formed no_fields (pair l t ps) h = absurd h
    pairs_well_formed (field k e fs) no_pairs h = absurd h
    pairs_well_formed (field k e fs) (pair l t ps) h = λ i. read_well_formed e t h.1 i && pairs_well_formed fs ps h.2 i

  mutual
    pub read_readable : (e : BareExpr) (t : BareValue X) → IsValueOf R e t → is_readable e ≡ true
    read_readable (Lit l) t h = refl
    read_readable (Set es) t h = members_readable es h.0 h.1
    read_readable (Record fs) t h = pairs_readable fs h.0 h.1
    read_readable e t h = absurd h

    members_readable : (es : BareExprs) (ts : List (BareValue X)) → AreValuesOf R es ts → list_all is_readable_node (member_positions es) ≡ true
    members_readable no_trees ts h = refl
    members_readable (tree e es) [] h = absurd h
    members_readable (tree e es) (t ∷ ts) h =
        list_all-append is_readable_node (preorder e) (member_positions es) ∙ λ i. read_readable e t h.0 i && members_readable es ts h.1 i

    pairs_readable : (fs : BareFields) (ps : BarePairs X) → ArePairsOf R fs ps → list_all is_readable_node (field_positions fs) ≡ true
    pairs_readable no_fields ps h = refl
    pairs_readable (field k e fs) no_pairs h = absurd h
    pairs_readable (field k e fs) (pair l t ps) h =
        list_all-append is_readable_node (preorder e) (field_positions fs) ∙ λ i. read_readable e t h.1 i && pairs_readable fs ps h.2 i
