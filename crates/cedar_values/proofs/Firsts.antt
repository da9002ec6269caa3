-- The first values of each literal, as the literals by hash tell them apart.
use Rattle.std.proofs.Common.{◌≡◌, Bool, true, false, ◌||◌, ◌++◌, List, [], ◌∷◌, map, Some, None, refl, sym, ap, subst, ◌∙◌, ⊎_elim}
use Rattle.std.specs.Cmp.{IsTotalOrder}
use Rattle.std.specs.List.{AllByRecursion, Contains, IsDistinct, list_all}
use Rattle.std.specs.Ordering.{eq_by_cmp}
use Rattle.std.specs.declared.cmp.Ordering.{Ordering}
use Rattle.std.proofs.Math.Bool.{or-false, or-true, or_comm}
use Rattle.std.proofs.lemmas.List.{map_push}
use Rattle.std.proofs.lemmas.List.Elements.{Contains-append_left, Contains-push, Contains-push_cases}
use Rattle.std.proofs.lemmas.List.Folds.{list_any-append}
use Rattle.std.proofs.lemmas.Map.Keys.{IsDistinct-push}
use Rattle.cedar_terms.specs.LiteralOrder.{literal_eq, literal_eq_equiv, literal_ties}
use Rattle.cedar_terms.specs.Literals.{BareLiteral}
use Rattle.cedar_sorted_slices.specs.Classes.{has_class}
use Rattle.cedar_sorted_slices.specs.Images.{has_image}
use Rattle.cedar_sorted_slices.specs.Unique.{has_alike}
use Rattle.semantics_values.specs.BareValue.{BareValue, LitValue, SetValue, RecordValue, ExtensionValue}
use Rattle.semantics_values.specs.ValueOrder.{value_cmp}
use Rattle.cedar_values.specs.BareValues.{bare_value}
use Rattle.cedar_values.specs.HashForms.{HasLiterals, LiteralSet, is_among, literals_in, literals_of}
use Rattle.cedar_values.specs.Places.{is_lit_value, literal_of}
use Rattle.cedar_values.specs.Sets.{HaveEachOf, by_tree}
use Rattle.cedar_values.specs.declared.value.Value.{Value}
use Rattle.cedar_values.proofs.HashForms.{known, literal_class}

-- of the values so far these are left, and their literals, of which no two are the same, are kept by hash
pub record AreFirsts {X : Type 0} (R : X → X → Ordering) (ms vs : List (Value X)) (h : LiteralSet) : Type 0 where
  pub each : HaveEachOf R ms vs
  pub hashed : HasLiterals (literals_in (map bare_value ms)) h
  pub distinct : IsDistinct literal_eq (literals_in (map bare_value ms))

no_repeat : IsDistinct literal_eq []
unfolding IsDistinct
no_repeat = tt

module _ {X : Type 0} where
  -- ---- a value more among literals

  lit_last : (ts : List (BareValue X)) (t : BareValue X) (l : BareLiteral) → literal_of t ≡ Some l → literals_in ts ++ l ∷ [] ≡ literals_in (ts ++ t ∷ [])
  lit_last [] (LitValue k) l h = ap (λ o. elim o as (λ _. List BareLiteral) [ None ↦ [] | Some x ↦ x ∷ [] ]) (sym h)
  lit_last [] (SetValue us) l h = cc
  lit_last [] (RecordValue ps) l h = cc
  lit_last [] (ExtensionValue x g) l h = cc
  lit_last (LitValue k ∷ ts) t l h = ap (λ ls. k ∷ ls) (lit_last ts t l h)
  lit_last (SetValue us ∷ ts) t l h = lit_last ts t l h
  lit_last (RecordValue ps ∷ ts) t l h = lit_last ts t l h
  lit_last (ExtensionValue x g ∷ ts) t l h = lit_last ts t l h

  none_last : (ts : List (BareValue X)) (t : BareValue X) → literal_of t ≡ None → literals_in ts ≡ literals_in (ts ++ t ∷ [])
  none_last [] (LitValue k) h = cc
  none_last [] (SetValue us) h = refl
  none_last [] (RecordValue ps) h = refl
  none_last [] (ExtensionValue x g) h = refl
  none_last (LitValue k ∷ ts) t h = ap (λ ls. k ∷ ls) (none_last ts t h)
  none_last (SetValue us ∷ ts) t h = none_last ts t h
  none_last (RecordValue ps ∷ ts) t h = none_last ts t h
  none_last (ExtensionValue x g ∷ ts) t h = none_last ts t h

  module _ (R : X → X → Ordering) where
    -- a value that is put behind both
    each_push : (ms vs : List (Value X)) (v : Value X) → HaveEachOf R ms vs → HaveEachOf R (ms ++ v ∷ []) (vs ++ v ∷ [])
    each_push ms vs v h = record {
      same = λ q.
          list_any-append (eq_by_cmp (by_tree R) q) ms (v ∷ [])
          ∙ ap (λ b. b || has_class (by_tree R) (v ∷ []) q) (h.same q)
          ∙ sym (list_any-append (eq_by_cmp (by_tree R) q) vs (v ∷ []));
      kept = λ w there.
          ⊎_elim
          (λ before. Contains-append_left vs (v ∷ []) w (h.kept w before))
          (λ is. subst (Contains (vs ++ v ∷ [])) is (Contains-push vs v))
          (Contains-push_cases ms v w there);
    }

    -- ---- one value more is looked at

    pub none_yet : (h : LiteralSet) → literals_of h ≡ [] → AreFirsts R [] [] h
    none_yet h none = record {
      each = record { same = λ q. refl; kept = λ v there. there };
      hashed = λ m. ap (λ ks. is_among ks m) none;
      distinct = no_repeat;
    }

    module _ (ms vs : List (Value X)) (v : Value X) (h : LiteralSet) (firsts : AreFirsts R ms vs h) where
      -- it is no literal
      pub other : literal_of (bare_value v) ≡ None → AreFirsts R (ms ++ v ∷ []) (vs ++ v ∷ []) h
      other none =
          let same : literals_in (map bare_value ms) ≡ literals_in (map bare_value (ms ++ v ∷ [])) = none_last (map bare_value ms) (bare_value v) none ∙ ap literals_in (sym (map_push bare_value ms v)) in
          record {
            each = each_push ms vs v firsts.each;
            hashed = λ m. firsts.hashed m ∙ ap (λ ls. is_among ls m) same;
            distinct = subst (IsDistinct literal_eq) same firsts.distinct;
          }

      module _ (n : LiteralSet) (l : BareLiteral) (is : literal_of (bare_value v) ≡ Some l) (adds : HasLiterals (l ∷ literals_of h) n) where
        -- it is the first of its class
        pub first : is_among (literals_of h) l ≡ false → AreFirsts R (ms ++ v ∷ []) (vs ++ v ∷ []) n
        first fresh =
            let ls = literals_in (map bare_value ms) in
            let same : ls ++ l ∷ [] ≡ literals_in (map bare_value (ms ++ v ∷ [])) = lit_last (map bare_value ms) (bare_value v) l is ∙ ap literals_in (sym (map_push bare_value ms v)) in
            record {
              each = each_push ms vs v firsts.each;
              hashed = λ m.
                  adds m ∙ ap (λ b. literal_eq m l || b) (firsts.hashed m)
                  ∙ or_comm (literal_eq m l) (is_among ls m) ∙ ap (λ b. is_among ls m || b) (sym (or-false (literal_eq m l)))
                  ∙ sym (list_any-append (literal_eq m) ls (l ∷ []))
                  ∙ ap (λ ks. is_among ks m) same;
              distinct = subst (IsDistinct literal_eq) same (IsDistinct-push literal_eq_equiv ls l firsts.distinct (sym (firsts.hashed l) ∙ fresh));
            }

        -- there is one of its class
        pub later : IsTotalOrder (by_tree R) → is_among (literals_of h) l ≡ true → AreFirsts R ms (vs ++ v ∷ []) n
        later o there =
            let among : is_among (literals_in (map bare_value ms)) l ≡ true = sym (firsts.hashed l) ∙ there in
            let stands : has_class (by_tree R) ms v ≡ true = sym (has_image bare_value (value_cmp R) ms v) ∙ literal_class R (map bare_value ms) (bare_value v) l is among in
            let told : (q : Value X) (b : Bool) → eq_by_cmp (by_tree R) q v ≡ b → has_class (by_tree R) ms q ≡ (has_class (by_tree R) ms q || (b || false)) =
            λ q b. elim b as (λ b. eq_by_cmp (by_tree R) q v ≡ b → has_class (by_tree R) ms q ≡ (has_class (by_tree R) ms q || (b || false))) [
              | true ↦ λ alike. has_alike o ms q v alike ∙ stands ∙ sym (or-true (has_class (by_tree R) ms q))
              | false ↦ λ _. sym (or-false (has_class (by_tree R) ms q))
            ] in
            record {
              each = record {
                same = λ q.
                    told q (eq_by_cmp (by_tree R) q v) refl
                    ∙ ap (λ b. b || has_class (by_tree R) (v ∷ []) q) (firsts.each.same q)
                    ∙ sym (list_any-append (eq_by_cmp (by_tree R) q) vs (v ∷ []));
                kept = λ w one. Contains-append_left vs (v ∷ []) w (firsts.each.kept w one);
              };
              hashed = λ m. adds m ∙ sym (known (literals_of h) l there m) ∙ firsts.hashed m;
              distinct = firsts.distinct;
            }

    -- ---- literals of which no two are the same are of classes of their own

    apart : (l : BareLiteral) (ts : List (BareValue X)) → list_all is_lit_value ts ≡ true → AllByRecursion (λ k. literal_eq l k ≡ false) (literals_in ts)
        → AllByRecursion (λ t. eq_by_cmp (value_cmp R) (LitValue l) t ≡ false) ts
    apart l [] all h = tt
    apart l (LitValue k ∷ ts) all h = (sym (literal_ties l k) ∙ h.0, apart l ts all h.1)
    apart l (SetValue us ∷ ts) all h = cc
    apart l (RecordValue ps ∷ ts) all h = cc
    apart l (ExtensionValue x g ∷ ts) all h = cc

    distinct_trees : (ts : List (BareValue X)) → list_all is_lit_value ts ≡ true → IsDistinct literal_eq (literals_in ts) → IsDistinct (eq_by_cmp (value_cmp R)) ts
    unfolding IsDistinct
    distinct_trees [] all h = tt
    distinct_trees (LitValue k ∷ ts) all h = (apart k ts all h.0, distinct_trees ts all h.1)
    distinct_trees (SetValue us ∷ ts) all h = cc
    distinct_trees (RecordValue ps ∷ ts) all h = cc
    distinct_trees (ExtensionValue x g ∷ ts) all h = cc

    apart_values : (t : BareValue X) (vs : List (Value X)) → AllByRecursion (λ u. eq_by_cmp (value_cmp R) t u ≡ false) (map bare_value vs)
        → AllByRecursion (λ v. eq_by_cmp (value_cmp R) t (bare_value v) ≡ false) vs
    apart_values t [] h = tt
    apart_values t (v ∷ vs) h = (h.0, apart_values t vs h.1)

    of_trees : (vs : List (Value X)) → IsDistinct (eq_by_cmp (value_cmp R)) (map bare_value vs) → IsDistinct (eq_by_cmp (by_tree R)) vs
    unfolding IsDistinct
    of_trees [] h = tt
    of_trees (v ∷ vs) h = (apart_values (bare_value v) vs h.0, of_trees vs h.1)

    pub distinct_values : (vs : List (Value X)) → list_all is_lit_value (map bare_value vs) ≡ true → IsDistinct literal_eq (literals_in (map bare_value vs)) → IsDistinct (eq_by_cmp (by_tree R)) vs
    distinct_values vs all h = of_trees vs (distinct_trees (map bare_value vs) all h)
