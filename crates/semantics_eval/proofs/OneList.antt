-- There is one strictly ascending list of the classes of some values without extension values.
use Rattle.std.proofs.Common.{◌≡◌, refl, sym, ◌∙◌, ap, false, ◌||◌, List, [], ◌∷◌}
use Rattle.std.proofs.lemmas.List.Elements.{All-nil, All-cons, All-head, All-tail, All-contains, All-contains_itself, All-weaker}
use Rattle.std.specs.Cmp.{IsTotalOrder}
use Rattle.std.specs.List.{All, Contains}
use Rattle.std.specs.declared.cmp.Ordering.{Ordering}
use Rattle.cedar_sorted_slices.specs.Classes.{IsClassesOf}
use Rattle.cedar_sorted_slices.specs.Unique.{same_classes_tie}
use Rattle.semantics_values.specs.BareValue.{BareValue, values_of, list_of, list_of_values}
use Rattle.semantics_values.specs.ValueOrder.{value_cmp, value_cmp_total, values_cmp_is}
use Rattle.semantics_values.specs.ValueExpr.{has_extension, any_has_extension}
use Rattle.semantics_eval.specs.Rows.{ascending_list}
use Rattle.semantics_eval.proofs.Kept.{or_left, or_right}
use Rattle.semantics_eval.proofs.Exact.{all_exact}
use Rattle.semantics_eval.proofs.AscendingLists.{classes_of}

module _ {X : Type 0} where
  abbrev IsPlain : BareValue X → Type 0
  IsPlain t = has_extension t ≡ false

  each_plain : (ts : List (BareValue X)) → any_has_extension (values_of ts) ≡ false → All IsPlain ts
  each_plain [] h = All-nil IsPlain
  each_plain (t ∷ ts) h =
      All-cons IsPlain t ts (or_left (has_extension t) _ h)
      (each_plain ts (or_right (has_extension t) _ h))

  none_has : (ts : List (BareValue X)) → All IsPlain ts → any_has_extension (values_of ts) ≡ false
  none_has [] h = refl
  none_has (t ∷ ts) h = λ i. All-head IsPlain t ts h i || none_has ts (All-tail IsPlain t ts h) i

  -- classes of plain values are plain
  plain_classes : (R : X → X → Ordering) (ts us : List (BareValue X))
      → any_has_extension (values_of us) ≡ false → IsClassesOf (value_cmp R) ts us
      → any_has_extension (values_of ts) ≡ false
  plain_classes R ts us h c =
      none_has ts
      (All-weaker (Contains ts) IsPlain
      (λ t inside. All-contains IsPlain us t (each_plain us h) (c.kept t inside))
      ts (All-contains_itself ts))

  pub one : {R : X → X → Ordering} → IsTotalOrder R → (ts us : List (BareValue X))
      → any_has_extension (values_of us) ≡ false → IsClassesOf (value_cmp R) ts us
      → ts ≡ ascending_list (value_cmp R) us
  one {R} o ts us h c =
      let rs = ascending_list (value_cmp R) us in
      let d = classes_of (value_cmp_total o) us in
      let tie = same_classes_tie (value_cmp_total o) ts rs c.ascending d.ascending
      (λ q. c.same q ∙ sym (d.same q)) in
      let same = all_exact R (values_of ts) (values_of rs)
      (plain_classes R ts us h c) (plain_classes R rs us h d) (values_cmp_is R ts rs ∙ tie) in
      sym (list_of_values ts) ∙ (ap list_of same ∙ list_of_values rs)
