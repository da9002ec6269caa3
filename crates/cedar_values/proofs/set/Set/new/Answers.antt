use Rattle.std.proofs.Common.{◌≡◌, map, sym, subst, ◌∙◌, IsTrue}
use Rattle.std.specs.Prelude.{option_map}
use Rattle.std.proofs.lemmas.Result.{IfOk-weaker}
use Rattle.std.specs.List.{list_all}
use Rattle.cedar_sorted_slices.specs.Classes.{IsClassesOf}
use Rattle.cedar_values.specs.BareValues.{bare_value}
use Rattle.cedar_values.specs.HashForms.{is_hash_form, literals_of}
use Rattle.cedar_values.specs.Sets.{by_tree, has_hash_form, hashed_literals, members}
use Rattle.cedar_values.specs.WellFormed.{well_formed, set_well_formed}
use Rattle.cedar_values.proofs.Making.{if_both, made_well}
use Rattle.cedar_values.proofs.set.Set.new.Goals as goal

pub returns : goal.returns
returns g c =
    let R = g.X.Ord.cmp in
    let vs = c.args.values.items in
    let ms = c.in_ok-members.members.items in
    let f = option_map (λ h. literals_of h.value) c.in_ok-members.literals in
    let made = c.in_ok-members.ensures in
    record {
      classes = IfOk-weaker c.of_members.result (λ s. members s ≡ ms) (λ s. IsClassesOf (by_tree R) (members s) vs) (λ s is. subst (λ xs. IsClassesOf (by_tree R) xs vs) (sym is) made.classes) c.of_members.ensures.members;
      well_formed = if_both (λ s. members s ≡ ms) (λ s. hashed_literals s ≡ f) (λ s. IsTrue (list_all (well_formed R) vs) → IsTrue (set_well_formed R s)) c.of_members.result c.of_members.ensures.members c.of_members.ensures.hashed
          (λ s is hashed all. made_well R s ms vs f is hashed made.classes made.hashed all);
      hash_form = if_both (λ s. members s ≡ ms) (λ s. hashed_literals s ≡ f) (λ s. IsTrue (has_hash_form s)) c.of_members.result c.of_members.ensures.members c.of_members.ensures.hashed
          (λ s is hashed. (λ i. is_hash_form (map bare_value (is i)) (hashed i)) ∙ made.hashed);
    }
