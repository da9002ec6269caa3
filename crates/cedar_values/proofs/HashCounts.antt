-- As many literals by hash as there are members, of which each is one of them: then they are just the
-- members.
use Rattle.std.proofs.Common.{◌≡◌, Bool, true, false, ◌&&◌, ◌||◌, arith, suc, List, [], ◌∷◌, Some, length, map, refl, sym, ap, ◌∙◌}
use Rattle.std.specs.List.{AllByRecursion, IsDistinct, list_all}
use Rattle.std.specs.List.Sorted.{IsStrictlySortedBy}
use Rattle.std.specs.Ordering.{is_eq, on}
use Rattle.std.specs.declared.cmp.Ordering.{Ordering}
use Rattle.std.specs.declared.cmp.Ordering.TheVariants.{Less}
use Rattle.std.proofs.lemmas.Bool.{and_parts, true≢false}
use Rattle.std.proofs.lemmas.Map.Made.{length-from_same_keys, length-le_from_is_member}
use Rattle.cedar_terms.specs.LiteralOrder.{literal_eq, literal_eq_decides, literal_eq_equiv, literal_ties}
use Rattle.cedar_terms.specs.Literals.{BareLiteral, bare_literal}
use Rattle.cedar_terms.specs.declared.literal.Literal.{Literal}
use Rattle.cedar_sorted_slices.specs.Images.{sorted_images}
use Rattle.semantics_values.specs.BareValue.{BareValue, LitValue, SetValue, RecordValue, ExtensionValue}
use Rattle.semantics_values.specs.ValueOrder.{value_cmp}
use Rattle.cedar_values.specs.BareValues.{bare_value}
use Rattle.cedar_values.specs.HashForms.{are_alike, is_among, is_hash_form, is_literal_among, literals_in}
use Rattle.cedar_values.specs.Places.{is_lit_value}
use Rattle.cedar_values.specs.Sets.{by_tree}
use Rattle.cedar_values.specs.declared.value.Value.{Value}
use Rattle.cedar_values.proofs.HashForms.{among_alike, among_all, form_lit, form_of}

crossed : (a b c : Bool) → (a && (b && c)) ≡ (b && (a && c))
crossed true b c = refl
crossed false true c = refl
crossed false false c = refl

and_false : (b : Bool) → (b && false) ≡ false
and_false true = refl
and_false false = refl

-- ---- lists of literals without repeats

apart : (l : BareLiteral) (ls : List BareLiteral) → is_among ls l ≡ false → AllByRecursion (λ x. literal_eq l x ≡ false) ls
apart l [] h = tt
apart l (x ∷ ls) h =
    elim (literal_eq l x) as (λ b. literal_eq l x ≡ b → (b || is_among ls l) ≡ false → AllByRecursion (λ y. literal_eq l y ≡ false) (x ∷ ls)) [
      | true ↦ λ _ f. absurd (true≢false f)
      | false ↦ λ e f. (e, apart l ls f)
    ] refl h

-- those that are as many, and hold all the others, are the same
fills : (ks ls : List BareLiteral) → IsDistinct literal_eq ls → length ks ≡ length ls → list_all (is_among ks) ls ≡ true → (l : BareLiteral) → is_among ks l ≡ is_among ls l
unfolding IsDistinct
fills ks ls distinct same all l =
    elim (is_among ls l) as (λ b. is_among ls l ≡ b → is_among ks l ≡ b) [
      | true ↦ λ h. among_all ks ls all l h
      | false ↦ λ none.
          elim (is_among ks l) as (λ b. is_among ks l ≡ b → b ≡ false) [
            | true ↦ λ found.
                let over = length-le_from_is_member literal_eq_equiv (l ∷ ls) ks (apart l ls none, distinct) (λ q h. held q (literal_eq q l) refl h found) in
                absurd (omega (arith, over, same))
            | false ↦ λ _. refl
          ] refl
    ] refl
  where
    held : (q : BareLiteral) (b : Bool) → literal_eq q l ≡ b → (literal_eq q l || is_among ls q) ≡ true → is_among ks l ≡ true → is_among ks q ≡ true
    held q true e h found = ap (is_among ks) ((literal_eq_decides q l).0 e) ∙ found
    held q false e h found = among_all ks ls all q (sym (ap (λ b. b || is_among ls q) e) ∙ h)

keys_apart : (k : Literal) (ks : List Literal) → AllByRecursion (λ x. on bare_literal literal_eq k x ≡ false) ks → AllByRecursion (λ x. literal_eq (bare_literal k) x ≡ false) (map bare_literal ks)
keys_apart k [] h = tt
keys_apart k (x ∷ ks) h = (h.0, keys_apart k ks h.1)

pub distinct_keys : (ks : List Literal) → IsDistinct (on bare_literal literal_eq) ks → IsDistinct literal_eq (map bare_literal ks)
unfolding IsDistinct
distinct_keys [] h = tt
distinct_keys (k ∷ ks) h = (keys_apart k ks h.0, distinct_keys ks h.1)

-- ---- values

module _ {X : Type 0} where
  one_by_one : (ks : List BareLiteral) (ts : List (BareValue X)) → list_all (is_literal_among ks) ts ≡ (list_all is_lit_value ts && list_all (is_among ks) (literals_in ts))
  one_by_one ks [] = refl
  one_by_one ks (LitValue l ∷ ts) = ap (λ b. is_among ks l && b) (one_by_one ks ts) ∙ crossed (is_among ks l) (list_all is_lit_value ts) (list_all (is_among ks) (literals_in ts))
  one_by_one ks (SetValue us ∷ ts) = refl
  one_by_one ks (RecordValue ps ∷ ts) = refl
  one_by_one ks (ExtensionValue x g ∷ ts) = refl

  as_many : (ts : List (BareValue X)) → list_all is_lit_value ts ≡ true → length (literals_in ts) ≡ length ts
  as_many [] h = refl
  as_many (LitValue l ∷ ts) h = ap (λ n. suc n) (as_many ts h)
  as_many (SetValue us ∷ ts) h = cc
  as_many (RecordValue ps ∷ ts) h = cc
  as_many (ExtensionValue x g ∷ ts) h = cc

  module _ (ts : List (BareValue X)) (ks : List BareLiteral) (distinct : IsDistinct literal_eq (literals_in ts)) (keys_distinct : IsDistinct literal_eq ks) where
    form_length : is_hash_form ts (Some ks) ≡ true → length ks ≡ length ts
    form_length form =
        length-from_same_keys literal_eq_equiv ks (literals_in ts) keys_distinct distinct (among_alike ks (literals_in ts) (and_parts (list_all is_lit_value ts) _ form).1)
        ∙ as_many ts (form_lit ts ks form)

    pub other_length : (length ks ≡ length ts → ⊥) → is_hash_form ts (Some ks) ≡ false
    other_length differ =
        elim (is_hash_form ts (Some ks)) as (λ b. is_hash_form ts (Some ks) ≡ b → b ≡ false) [
          | true ↦ λ form. absurd (differ (form_length form))
          | false ↦ λ _. refl
        ] refl

    -- of as many literals as there are members
    pub told : length ks ≡ length ts → list_all (is_literal_among ks) ts ≡ is_hash_form ts (Some ks)
    told same =
        elim (list_all is_lit_value ts) as (λ b. list_all is_lit_value ts ≡ b → list_all (is_literal_among ks) ts ≡ is_hash_form ts (Some ks)) [
          | true ↦ λ all.
              elim (list_all (is_among ks) (literals_in ts)) as (λ b. list_all (is_among ks) (literals_in ts) ≡ b → list_all (is_literal_among ks) ts ≡ is_hash_form ts (Some ks)) [
                | true ↦ λ kept.
                    one_by_one ks ts ∙ (λ i. all i && kept i)
                    ∙ sym (form_of ts ks all (fills ks (literals_in ts) distinct (same ∙ sym (as_many ts all)) kept))
                | false ↦ λ lost.
                    one_by_one ks ts ∙ (λ i. all i && lost i)
                    ∙ sym ((λ i. all i && (list_all (is_among (literals_in ts)) ks && lost i)) ∙ and_false _)
              ] refl
          | false ↦ λ other. one_by_one ks ts ∙ (λ i. other i && list_all (is_among ks) (literals_in ts)) ∙ sym (λ i. other i && are_alike ks (literals_in ts))
        ] refl

  module _ (R : X → X → Ordering) where
    above : (l : BareLiteral) (ts : List (BareValue X)) → AllByRecursion (λ t. value_cmp R (LitValue l) t ≡ Less) ts → AllByRecursion (λ k. literal_eq l k ≡ false) (literals_in ts)
    above l [] h = tt
    above l (LitValue k ∷ ts) h = (literal_ties l k ∙ ap is_eq h.0, above l ts h.1)
    above l (SetValue us ∷ ts) h = above l ts h.1
    above l (RecordValue ps ∷ ts) h = above l ts h.1
    above l (ExtensionValue x g ∷ ts) h = above l ts h.1

    distinct_in : (ts : List (BareValue X)) → IsStrictlySortedBy (value_cmp R) ts → IsDistinct literal_eq (literals_in ts)
    unfolding IsDistinct IsStrictlySortedBy
    distinct_in [] h = tt
    distinct_in (LitValue l ∷ ts) h = (above l ts h.0, distinct_in ts h.1)
    distinct_in (SetValue us ∷ ts) h = distinct_in ts h.1
    distinct_in (RecordValue ps ∷ ts) h = distinct_in ts h.1
    distinct_in (ExtensionValue x g ∷ ts) h = distinct_in ts h.1

    -- of ascending values no two are the same literal
    pub distinct_literals : (vs : List (Value X)) → IsStrictlySortedBy (by_tree R) vs → IsDistinct literal_eq (literals_in (map bare_value vs))
    distinct_literals vs h = distinct_in (map bare_value vs) (sorted_images bare_value (value_cmp R) vs h)
