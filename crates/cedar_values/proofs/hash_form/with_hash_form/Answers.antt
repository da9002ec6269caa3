use Rattle.std.proofs.Common.{◌≡◌, true, not, None, Some, map, sym, ap, ◌∙◌}
use Rattle.std.specs.List.{IsDistinct, list_all}
use Rattle.std.specs.Ordering.{eq_by_cmp}
use Rattle.std.proofs.lemmas.List.Folds.{list_all-map}
use Rattle.cedar_sorted_slices.specs.Classes.{IsClassesOf}
use Rattle.cedar_values.specs.BareValues.{bare_value}
use Rattle.cedar_values.specs.HashForms.{is_hash_form, literals_of}
use Rattle.cedar_values.specs.Places.{is_lit_value}
use Rattle.cedar_values.proofs.Firsts.{distinct_values}
use Rattle.cedar_values.proofs.HashForms.{all_kept, form_of, kept_form}
use Rattle.cedar_values.proofs.Making.{classes_of_each}
use Rattle.cedar_values.proofs.WellFormedSets.{by_trees}
use Rattle.cedar_values.proofs.hash_form.with_hash_form.Goals as goal

pub returns-then-not-are_literals : goal.returns-then-not-are_literals
returns-then-not-are_literals g c =
    let R = g.X.Ord.cmp in
    let vs = c.args.values.items in
    let ms = c.into_ascending.result.items in
    let all = ap (list_all (λ v. is_lit_value (bare_value v))) (sym c.deref.ensures.value) ∙ sym c.are_literals.ensures ∙ c.if-not-are_literals.true in
    let classes = by_trees R c.order_of_values.ensures.order (λ D. IsClassesOf D ms vs) c.into_ascending.ensures in
    record {
      classes = classes;
      hashed = kept_form R c.values_are_ordered.ensures.total ms vs classes None (ap not (list_all-map is_lit_value bare_value vs ∙ all));
    }

pub returns : goal.returns
returns g c =
    let R = g.X.Ord.cmp in
    let vs = c.args.values.items in
    let ws = c.in_ok-firsts.firsts.items in
    let ms = c.into_sorted.result.items in
    let ks = literals_of c.in_ok-firsts.literals in
    let each = c.in_ok-firsts.ensures.each in
    let all : list_all (λ v. is_lit_value (bare_value v)) vs ≡ true = ap (list_all (λ v. is_lit_value (bare_value v))) (sym c.deref.ensures.value) ∙ sym c.are_literals.ensures ∙ c.if-not-are_literals.false in
    let kept : list_all is_lit_value (map bare_value ws) ≡ true = list_all-map is_lit_value bare_value ws ∙ all_kept (λ v. is_lit_value (bare_value v)) ws vs each.kept all in
    let classes = by_trees R c.order_of_values.ensures.order (λ D. IsDistinct (eq_by_cmp D) ws → IsClassesOf D ms ws) c.into_sorted.ensures (distinct_values R ws kept c.in_ok-firsts.ensures.distinct) in
    record {
      classes = classes_of_each R ms ws vs classes each;
      hashed = (λ i. is_hash_form (map bare_value ms) (Some (literals_of (c.in_ok-literals.ensures.ok i))))
          ∙ kept_form R c.values_are_ordered.ensures.total ms ws classes (Some ks) (form_of (map bare_value ws) ks kept c.in_ok-firsts.ensures.hashed);
    }
