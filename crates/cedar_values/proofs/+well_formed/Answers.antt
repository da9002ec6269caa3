use Rattle.std.proofs.lemmas.List.{drop_all}
use Rattle.std.proofs.Common.{◌≡◌, Bool, true, false, ◌&&◌, get_or, map, refl, sym, ap, ◌∙◌}
use Rattle.std.specs.List.{list_all}
use Rattle.std.specs.BTreeMap.{values}
use Rattle.std.proofs.lemmas.List.Folds.{list_all_at, list_all-map}
use Rattle.cedar_sorted_slices.specs.Classes.{ascends}
use Rattle.cedar_sorted_slices.specs.Ascending.{sorted_of_ascends}
use Rattle.cedar_values.specs.BareValues.{bare_value}
use Rattle.cedar_values.specs.HashForms.{is_hash_form}
use Rattle.cedar_values.specs.WellFormed.{kind_well_formed, well_formed}
use Rattle.cedar_values.specs.Sets.{by_tree, has_hash_form, members}
use Rattle.cedar_values.specs.declared.value.ValueKind.TheVariants.{Lit, Set, Record, ExtensionValue, outs-Lit, outs-Set, outs-Record, outs-ExtensionValue}
use Rattle.cedar_values.proofs.HashCounts.{distinct_literals}
use Rattle.cedar_values.proofs.Levels.{value_kept, kind_kept, kind_level}
use Rattle.cedar_values.proofs.WellFormedSets.{by_trees, set_is}
use Rattle.cedar_values.proofs.+well_formed.Goals as goal

pub value::Value::is_well_formed-returns : goal.value::Value::is_well_formed-returns
value::Value::is_well_formed-returns g t c = c.is_well_formed.ensures ∙ sym (value_kept g.X.Ord.cmp c.args.self.now)

pub set::Set::is_well_formed-loop-member-init : goal.set::Set::is_well_formed-loop-member-init
unfolding members
set::Set::is_well_formed-loop-member-init g t c = record {
  whole = c.deref-member-items.ensures.value ∙ λ i. (c.deref.ensures i).items;
  left = refl;
}

none_left : (a b : Bool) → (a && (b && false)) ≡ false
none_left true true = refl
none_left true false = refl
none_left false b = refl

pub set::Set::is_well_formed-returns-then-not-is_well_formed :
    goal.set::Set::is_well_formed-returns-then-not-is_well_formed
set::Set::is_well_formed-returns-then-not-is_well_formed g t c =
    let R = g.X.Ord.cmp in
    let s = c.args.self.now in
    let xs = c.deref-member-items.result.now in
    let here : well_formed R (get_or xs c.loop-member.member-index c.member-item.result) ≡ false = ap (well_formed R) (sym c.member-item.is) ∙ sym c.is_well_formed.ensures ∙ c.if-not-is_well_formed.true in
    let all : list_all (well_formed R) (members s) ≡ false = ap (list_all (well_formed R)) (sym c.loop-member.invariant.whole) ∙ list_all_at (well_formed R) xs c.loop-member.member-index c.member-item.result c.loop-member-test.true here in
    sym (set_is R s ∙ ap (λ b. ascends (by_tree R) (members s) && (has_hash_form s && b)) all ∙ none_left _ _)

and_true : (b : Bool) → (b && true) ≡ b
and_true true = refl
and_true false = refl

pub set::Set::is_well_formed-returns-then-is_ascending : goal.set::Set::is_well_formed-returns-then-is_ascending
unfolding members
set::Set::is_well_formed-returns-then-is_ascending g t c =
    let R = g.X.Ord.cmp in
    let s = c.args.self.now in
    let xs = c.deref-member-items.result.now in
    let ms = c.as_slice-members.result.now in
    let at : ms ≡ members s = c.as_slice-members.ensures.value ∙ λ i. (c.deref-2.ensures i).items in
    let all : list_all (well_formed R) (members s) ≡ true = ap (list_all (well_formed R)) (sym c.loop-member.invariant.whole) ∙ sym c.loop-member.invariant.left ∙ ap (list_all (well_formed R)) (drop_all c.loop-member.member-index xs c.loop-member-test.false) in
    let ascend : ascends (by_tree R) ms ≡ true = sym (by_trees R c.order_of_values.ensures.order (λ D. c.is_ascending.result ≡ ascends D ms) c.is_ascending.ensures.value) ∙ c.if-is_ascending.true in
    c.is_hash_form.ensures (distinct_literals R ms (sorted_of_ascends c.order_of_values.ensures.total ms ascend))
    ∙ (λ i. is_hash_form (map bare_value (at i)) (c.hash_form.ensures i))
    ∙ sym (set_is R s ∙ (λ i. (sym (ap (ascends (by_tree R)) at) ∙ ascend) i && (has_hash_form s && all i)) ∙ and_true _)

pub set::Set::is_well_formed-returns-else-is_ascending : goal.set::Set::is_well_formed-returns-else-is_ascending
unfolding members
set::Set::is_well_formed-returns-else-is_ascending g t c =
    let R = g.X.Ord.cmp in
    let s = c.args.self.now in
    let ms = c.as_slice-members.result.now in
    let at : ms ≡ members s = c.as_slice-members.ensures.value ∙ λ i. (c.deref-2.ensures i).items in
    let ascend : ascends (by_tree R) ms ≡ false = sym (by_trees R c.order_of_values.ensures.order (λ D. c.is_ascending.result ≡ ascends D ms) c.is_ascending.ensures.value) ∙ c.if-is_ascending.false in
    c.if-is_ascending.false ∙ sym (set_is R s ∙ λ i. (sym (ap (ascends (by_tree R)) at) ∙ ascend) i && (has_hash_form s && list_all (well_formed R) (members s)))

pub value::ValueKind::is_well_formed-loop-value-init : goal.value::ValueKind::is_well_formed-loop-value-init
value::ValueKind::is_well_formed-loop-value-init g t c = record {
  can_next = tt;
  finite = tt;
  left =
      let R = g.X.Ord.cmp in
      ap (list_all (well_formed R)) (c.into_iter-value-iterator.ensures.into_iter_gives ∙ c.values-value-items.ensures.rest ∙ ap values c.deref.ensures)
      ∙ list_all-map (well_formed R) (λ e. e.1) c.in-Record.pairs.value.entries
      ∙ sym (ap (kind_well_formed R) c.in-Record.is ∙ kind_kept R (Record c.in-Record.pairs) ∙ ap (kind_level R) (outs-Record c.in-Record.pairs));
}

pub value::ValueKind::is_well_formed-returns-in-Lit : goal.value::ValueKind::is_well_formed-returns-in-Lit
value::ValueKind::is_well_formed-returns-in-Lit g t c =
    let R = g.X.Ord.cmp in
    sym (ap (kind_well_formed R) c.in-Lit.is ∙ kind_kept R (Lit c.in-Lit.field-0) ∙ ap (kind_level R) (outs-Lit c.in-Lit.field-0))

pub value::ValueKind::is_well_formed-returns-in-Set : goal.value::ValueKind::is_well_formed-returns-in-Set
value::ValueKind::is_well_formed-returns-in-Set g t c =
    let R = g.X.Ord.cmp in
    c.is_well_formed.ensures ∙ sym (ap (kind_well_formed R) c.in-Set.is ∙ kind_kept R (Set c.in-Set.set) ∙ ap (kind_level R) (outs-Set c.in-Set.set))

pub value::ValueKind::is_well_formed-returns-in-ExtensionValue : goal.value::ValueKind::is_well_formed-returns-in-ExtensionValue
value::ValueKind::is_well_formed-returns-in-ExtensionValue g t c =
    let R = g.X.Ord.cmp in
    sym (ap (kind_well_formed R) c.in-ExtensionValue.is ∙ kind_kept R (ExtensionValue c.in-ExtensionValue.field-0) ∙ ap (kind_level R) (outs-ExtensionValue c.in-ExtensionValue.field-0))
