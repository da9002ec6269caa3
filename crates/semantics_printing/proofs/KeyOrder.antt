-- Keys that ascend are distinct, and in their order.
use Rattle.std.proofs.Common.{◌≡◌, List, [], ◌∷◌, ◌++◌, map, fold, true, false, not, Less, Greater, nat_cmp, refl, ap, sym, ◌∙◌, subst, append-nil, append_assoc}
use Rattle.std.specs.Ordering.{ordering_reverse}
use Rattle.std.specs.List.{AllByRecursion}
use Rattle.std.specs.List.Sorted.{IsStrictlySortedBy}
use Rattle.std.specs.BTreeMap.{insert_entry}
use Rattle.std.specs.Cmp.Derive.{both_true}
use Rattle.std.specs.Cmp.Lexicographic.{slice_cmp, nat_list_cmp_total, texts_ties}
use Rattle.cedar_builders.specs.BareExpr.{Text, BareExpr, BareFields, no_fields, field, fields_of}
use Rattle.cedar_builders.specs.AscendingKeys.{field_keys}
use Rattle.cedar_builders.specs.Keys.{is_among, are_distinct, IsAscending, in_key_order}

-- a key is below each of these
abbrev IsBelow : Text → List Text → Type 0
IsBelow k = AllByRecursion (λ l. slice_cmp nat_cmp k l ≡ Less)

not_among : (k : Text) (ks : List Text) → IsBelow k ks → is_among k ks ≡ false
not_among k [] h = refl
not_among k (l ∷ ks) h = rw (texts_ties k l, h.0, not_among k ks h.1) refl

pub distinct : (ks : List Text) → IsAscending ks → are_distinct ks ≡ true
unfolding IsStrictlySortedBy
distinct [] h = refl
distinct (k ∷ ks) h = both_true (ap not (not_among k ks h.0)) (distinct ks h.1)

-- the keys of pairs
abbrev texts : {A : Type 0} → List (Text × A) → List Text
texts = map (λ p. p.0)

abbrev put : {A : Type 0} → List (Text × A) → Text × A → List (Text × A)
put es p = insert_entry (slice_cmp nat_cmp) es p.0 p.1

module _ {A : Type 0} where
  in_middle : (P : Text → Type 0) (es : List (Text × A)) (p : Text × A) (ps : List (Text × A)) → AllByRecursion P (texts (es ++ (p ∷ ps))) → P p.0
  in_middle P [] p ps h = h.0
  in_middle P (e ∷ es) p ps h = in_middle P es p ps h.1

  put_last : (es : List (Text × A)) (p : Text × A) (ps : List (Text × A)) → IsAscending (texts (es ++ (p ∷ ps))) → put es p ≡ es ++ (p ∷ [])
  unfolding IsStrictlySortedBy
  put_last [] p ps h = refl
  put_last (e ∷ es) p ps h =
      let above : slice_cmp nat_cmp p.0 e.0 ≡ Greater =
      nat_list_cmp_total.antisymm p.0 e.0 ∙ ap ordering_reverse (in_middle (λ l. slice_cmp nat_cmp e.0 l ≡ Less) es p ps h.0) in
      rw above (ap (λ xs. e ∷ xs) (put_last es p ps h.1))

  put_all : (ps es : List (Text × A)) → IsAscending (texts (es ++ ps)) → fold put es ps ≡ es ++ ps
  put_all [] es h = sym (append-nil es)
  put_all (p ∷ ps) es h =
      let e : (es ++ (p ∷ [])) ++ ps ≡ es ++ (p ∷ ps) = append_assoc es (p ∷ []) ps in
      ap (λ xs. fold put xs ps) (put_last es p ps h)
      ∙ (put_all ps (es ++ (p ∷ [])) (subst (λ xs. IsAscending (texts xs)) (sym e) h) ∙ e)

  pub in_order : (ps : List (Text × A)) → IsAscending (texts ps) → in_key_order ps ≡ ps
  in_order ps h = put_all ps [] h

-- the fields of a record as pairs
abbrev pub pairs_of : BareFields → List (Text × BareExpr)
pairs_of no_fields = []
pairs_of (field k e fs) = (k, e) ∷ pairs_of fs

pub fields_back : (fs : BareFields) → fields_of (pairs_of fs) ≡ fs
fields_back no_fields = refl
fields_back (field k e fs) = ap (field k e) (fields_back fs)

pub pair_keys : (fs : BareFields) → map (λ p. p.0) (pairs_of fs) ≡ field_keys fs
pair_keys no_fields = refl
pair_keys (field k e fs) = ap (λ ks. k ∷ ks) (pair_keys fs)
