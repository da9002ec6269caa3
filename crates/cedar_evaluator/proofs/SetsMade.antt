-- The sets that the code makes are the evaluator's.
use Rattle.std.proofs.Common.{◌≡◌, false, ◌||◌, List, [], ◌∷◌, map, refl, ap, subst, ◌∙◌}
use Rattle.std.specs.Cmp.{IsTotalOrder}
use Rattle.std.specs.declared.cmp.Ordering.{Ordering}
use Rattle.cedar_sorted_slices.specs.Classes.{IsClassesOf}
use Rattle.cedar_sorted_slices.specs.Images.{classes_of_images}
use Rattle.semantics_values.specs.BareValue.{BareValue, SetValue, values_of}
use Rattle.semantics_values.specs.ValueExpr.{has_extension, any_has_extension}
use Rattle.semantics_values.specs.ValueOrder.{value_cmp}
use Rattle.cedar_values.specs.BareValues.{bare_value}
use Rattle.cedar_values.specs.Sets.{by_tree, members}
use Rattle.cedar_values.specs.declared.set.Set as set
use Rattle.cedar_values.specs.declared.value.Value.{Value}
use Rattle.semantics_eval.specs.Laws.{IsAscendingList, IsOneList}
use Rattle.semantics_eval.specs.Rows.{ascending_list, set_value}
use Rattle.cedar_evaluator.proofs.Lists.{image_list, same_list}

all_plain : {X : Type 0} → ((t : BareValue X) → has_extension t ≡ false)
    → (ts : List (BareValue X)) → any_has_extension (values_of ts) ≡ false
all_plain h [] = refl
all_plain h (t ∷ ts) = λ i. h t i || all_plain h ts i

pub set_made : {X : Type 0} (R : X → X → Ordering) → IsTotalOrder (value_cmp R) → IsOneList R
    → ((t : BareValue X) → has_extension t ≡ false) → (v : Value X) (s : set.Set X) (vs : List (Value X))
    → bare_value v ≡ SetValue (values_of (map bare_value (members s)))
    → IsClassesOf (by_tree R) (members s) vs
    → bare_value v ≡ set_value R (map bare_value vs)
set_made R o one plain v s vs is classes =
    is
    ∙ ap (λ ts. SetValue (values_of ts))
    (one (map bare_value (members s)) (map bare_value vs)
    (all_plain plain (map bare_value vs))
    (classes_of_images bare_value o (members s) vs classes))

-- of any values: the set of the list that insertion makes of them
pub set_made_of_list : {X : Type 0} (R : X → X → Ordering) → IsTotalOrder (value_cmp R)
    → IsAscendingList R → (v : Value X) (s : set.Set X) (vs ms : List (Value X))
    → bare_value v ≡ SetValue (values_of (map bare_value (members s)))
    → ms ≡ ascending_list (by_tree R) vs → IsClassesOf (by_tree R) (members s) ms
    → bare_value v ≡ set_value R (map bare_value vs)
set_made_of_list R o ascends v s vs ms is made classes =
    let image : map bare_value ms ≡ ascending_list (value_cmp R) (map bare_value vs) =
    ap (map bare_value) made ∙ image_list bare_value (value_cmp R) vs in
    is
    ∙ ap (λ ts. SetValue (values_of ts))
    (same_list o (map bare_value (members s)) (ascending_list (value_cmp R) (map bare_value vs))
    (subst (IsClassesOf (value_cmp R) (map bare_value (members s))) image
    (classes_of_images bare_value o (members s) ms classes))
    (ascends (map bare_value vs)).ascending)
