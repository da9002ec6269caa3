-- Sets of literals by hash, side by side, and beside the lists of their members.
use Rattle.std.proofs.Common.{◌≡◌, Bool, true, false, ◌||◌, List, [], ◌∷◌, Option, Some, None, map, refl, sym, ap, ◌∙◌, IsTrue}
use Rattle.std.specs.Prelude.{◌↔◌, option_map, is_some, IfSome}
use Rattle.std.specs.HashSet.{IsDisjoint, IsSubset, contains, keys}
use Rattle.std.specs.List.{list_all, list_any}
use Rattle.std.specs.Ordering.{on}
use Rattle.std.specs.declared.cmp.Ordering.{Ordering}
use Rattle.std.proofs.lemmas.Bool.{true≢false}
use Rattle.std.proofs.lemmas.List.Folds.{list_all-map}
use Rattle.cedar_terms.specs.LiteralOrder.{literal_eq, literal_eq_decides}
use Rattle.cedar_terms.specs.Literals.{BareLiteral, bare_literal}
use Rattle.cedar_terms.specs.declared.literal.Literal.{Literal}
use Rattle.cedar_sorted_slices.specs.Classes.{has_class, HaveNoneInCommon, IsPartOf}
use Rattle.cedar_values.specs.BareValues.{bare_value}
use Rattle.cedar_values.specs.HashForms.{LiteralSet, is_hash_form, is_literal_among, literals_of}
use Rattle.cedar_values.specs.Places.{is_lit_value, literal_of, literal_value}
use Rattle.cedar_values.specs.Sets.{HoldsJust, by_tree}
use Rattle.cedar_values.specs.declared.value.Value.{Value}
use Rattle.cedar_values.proofs.HashForms.{form_has, form_lit, has, not_true, one_among, other_among}
use Rattle.cedar_values.proofs.Levels.{literal_tree}

-- a literal that is equal to one that is there
key_of : (b : BareLiteral) (ks : List Literal) → list_any (λ k. literal_eq b (bare_literal k)) ks ≡ true → (k : Literal) × (b ≡ bare_literal k)
key_of b [] h = absurd (true≢false (sym h))
key_of b (k ∷ ks) h =
    elim (literal_eq b (bare_literal k)) as (λ t. literal_eq b (bare_literal k) ≡ t → (t || list_any (λ x. literal_eq b (bare_literal x)) ks) ≡ true → (x : Literal) × (b ≡ bare_literal x)) [
      | true ↦ λ e _. (k, (literal_eq_decides b (bare_literal k)).0 e)
      | false ↦ λ _ rest. key_of b ks rest
    ] refl h

-- literals by hash are lent just where all members are literals
pub given : {X A : Type 0} (f : A → List BareLiteral) (r : Option A) (vs : List (Value X)) → is_hash_form (map bare_value vs) (option_map f r) ≡ true → is_some r ≡ list_all (λ v. is_lit_value (bare_value v)) vs
given f None vs form = sym (sym (list_all-map is_lit_value bare_value vs) ∙ not_true _ form)
given f (Some a) vs form = sym (sym (list_all-map is_lit_value bare_value vs) ∙ form_lit (map bare_value vs) (f a) form)

module _ {X : Type 0} (R : X → X → Ordering) where
  -- a literal is there just where its value is a member
  pub holds : (vs : List (Value X)) (h : LiteralSet) → is_hash_form (map bare_value vs) (Some (literals_of h)) ≡ true → HoldsJust R vs h
  holds vs h form l =
      sym (has h (bare_literal l))
      ∙ ap (is_literal_among (literals_of h)) (sym (literal_tree {X = X} l))
      ∙ form_has R vs (literals_of h) form (literal_value l)

  -- a member is a literal that is there
  key_at : (vs : List (Value X)) (h : LiteralSet) → is_hash_form (map bare_value vs) (Some (literals_of h)) ≡ true → (v : Value X) → has_class (by_tree R) vs v ≡ true
      → (k : Literal) × (literal_of (bare_value v) ≡ Some (bare_literal k)) × (contains (on bare_literal literal_eq) h k ≡ true)
  key_at vs h form v one =
      elim (literal_of (bare_value v)) as (λ m. literal_of (bare_value v) ≡ m → (k : Literal) × (m ≡ Some (bare_literal k)) × (contains (on bare_literal literal_eq) h k ≡ true)) [
        | None ↦ λ e. absurd (true≢false (sym one ∙ sym (form_has R vs (literals_of h) form v) ∙ other_among (literals_of h) (bare_value v) e))
        | Some b ↦ λ e.
            let there : list_any (λ k. literal_eq b (bare_literal k)) (keys h) ≡ true = sym (has h b) ∙ sym (one_among (literals_of h) (bare_value v) b e) ∙ form_has R vs (literals_of h) form v ∙ one in
            let k = key_of b (keys h) there in
            (k.0, ap Some k.1, ap (λ c. list_any (λ x. literal_eq c (bare_literal x)) (keys h)) (sym k.1) ∙ there)
      ] refl

  -- a literal that is there is a member
  at_key : (vs : List (Value X)) (h : LiteralSet) → is_hash_form (map bare_value vs) (Some (literals_of h)) ≡ true → (v : Value X) (k : Literal) → literal_of (bare_value v) ≡ Some (bare_literal k) → contains (on bare_literal literal_eq) h k ≡ has_class (by_tree R) vs v
  at_key vs h form v k e =
      sym (has h (bare_literal k)) ∙ sym (one_among (literals_of h) (bare_value v) (bare_literal k) e) ∙ form_has R vs (literals_of h) form v

  module _ (vs ws : List (Value X)) (h g : LiteralSet) (form : is_hash_form (map bare_value vs) (Some (literals_of h)) ≡ true) (form' : is_hash_form (map bare_value ws) (Some (literals_of g)) ≡ true) where
    pub subset_told : (r : Bool) → IsTrue r ↔ IsSubset (on bare_literal literal_eq) h g → IsTrue r ↔ IsPartOf (by_tree R) vs ws
    subset_told r told = (
      λ t v one.
          let k = key_at vs h form v one in
          sym (at_key ws g form' v k.0 k.1) ∙ told.0 t k.0 k.2,
      λ part. told.1 (λ k one. holds ws g form' k ∙ part (literal_value k) (sym (holds vs h form k) ∙ one)),
    )

    pub disjoint_told : (r : Bool) → IsTrue r ↔ IsDisjoint (on bare_literal literal_eq) h g → IsTrue r ↔ HaveNoneInCommon (by_tree R) vs ws
    disjoint_told r told = (
      λ t v one other.
          let k = key_at vs h form v one in
          true≢false (sym other ∙ sym (at_key ws g form' v k.0 k.1) ∙ told.0 t k.0 k.2),
      λ none. told.1 (λ k one. is_false (contains (on bare_literal literal_eq) g k) (λ other. none (literal_value k) (sym (holds vs h form k) ∙ one) (sym (holds ws g form' k) ∙ other))),
    )
      where
        is_false : (b : Bool) → (b ≡ true → ⊥) → b ≡ false
        is_false true never = absurd (never refl)
        is_false false never = refl

  -- having none in common is mutual
  pub swapped : (vs ws : List (Value X)) (r : Bool) → IsTrue r ↔ HaveNoneInCommon (by_tree R) ws vs → IsTrue r ↔ HaveNoneInCommon (by_tree R) vs ws
  swapped vs ws r told = (λ t v one other. told.0 t v other one, λ none. told.1 (λ v one other. none v other one))

  -- what is lent of them
  pub just : {A : Type 0} (f : A → LiteralSet) (r : Option A) (vs : List (Value X)) → is_hash_form (map bare_value vs) (option_map (λ a. literals_of (f a)) r) ≡ true → IfSome r (λ a. HoldsJust R vs (f a))
  just f None vs form = tt
  just f (Some a) vs form = holds vs (f a) form
