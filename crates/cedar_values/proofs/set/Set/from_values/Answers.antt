use Rattle.std.proofs.Common.{◌≡◌, map, cond, sym, ap, ◌∙◌}
use Rattle.std.specs.List.{list_all}
use Rattle.cedar_values.specs.BareValues.{bare_value}
use Rattle.cedar_values.specs.Places.{gathered, is_lit_value, unplaced}
use Rattle.cedar_values.proofs.Making.{gathered_classes, gathered_same, gathered_well}
use Rattle.cedar_values.proofs.set.Set.from_values.Goals as goal

pub returns-in_ok-values : goal.returns-in_ok-values
returns-in_ok-values g c =
    let vs = c.args.values.items in
    let literals = ap (list_all (λ v. is_lit_value (bare_value v))) (sym c.deref.ensures.value) ∙ sym c.are_literals.ensures ∙ c.if-are_literals.true in
    let is : gathered vs ≡ c.in_ok-values.values.items = ap (λ b. cond b (map unplaced vs) vs) literals ∙ sym c.in_ok-values.ensures in
    record {
      classes = gathered_classes g.X.Ord.cmp c.new.result vs c.in_ok-values.values.items is c.new.ensures.classes;
      same = gathered_same g.X.Ord.cmp c.new.result vs c.in_ok-values.values.items is c.new.ensures.classes;
      well_formed = gathered_well g.X.Ord.cmp c.new.result vs c.in_ok-values.values.items is c.new.ensures.well_formed;
      hash_form = c.new.ensures.hash_form;
    }

pub returns-else-are_literals : goal.returns-else-are_literals
returns-else-are_literals g c =
    let vs = c.args.values.items in
    let literals = ap (list_all (λ v. is_lit_value (bare_value v))) (sym c.deref.ensures.value) ∙ sym c.are_literals.ensures ∙ c.if-are_literals.false in
    let is : gathered vs ≡ vs = ap (λ b. cond b (map unplaced vs) vs) literals in
    record {
      classes = gathered_classes g.X.Ord.cmp c.new-else-are_literals.result vs vs is c.new-else-are_literals.ensures.classes;
      same = gathered_same g.X.Ord.cmp c.new-else-are_literals.result vs vs is c.new-else-are_literals.ensures.classes;
      well_formed = gathered_well g.X.Ord.cmp c.new-else-are_literals.result vs vs is c.new-else-are_literals.ensures.well_formed;
      hash_form = c.new-else-are_literals.ensures.hash_form;
    }
