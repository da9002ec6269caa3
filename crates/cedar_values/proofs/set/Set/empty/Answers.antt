use Rattle.std.proofs.Common.{◌≡◌, Some, IsTrue, ap, map, ◌∙◌}
use Rattle.cedar_terms.specs.Literals.{bare_literal}
use Rattle.cedar_values.specs.HashForms.{literals_of}
use Rattle.cedar_values.specs.Sets.{has_hash_form, hashed_literals, members}
use Rattle.cedar_values.specs.WellFormed.{set_well_formed}
use Rattle.cedar_values.proofs.Making.{empty_form, empty_kept, if_both}
use Rattle.cedar_values.proofs.set.Set.empty.Goals as goal

pub returns-clause-well_formed : goal.returns-clause-well_formed
returns-clause-well_formed g c =
    let R = g.X.Ord.cmp in
    if_both (λ s. members s ≡ c.new-3.result.items) (λ s. hashed_literals s ≡ Some (literals_of c.in_ok-literals.literals.value)) (λ s. IsTrue (set_well_formed R s)) c.of_members.result c.of_members.ensures.members c.of_members.ensures.hashed
    (λ s is hashed. empty_kept R s (is ∙ c.new-3.ensures.items) (hashed ∙ (λ i. Some (literals_of (c.in_ok-literals.ensures.ok i))) ∙ ap (λ ks. Some (map bare_literal ks)) c.new.ensures.empty))

pub returns-clause-hash_form : goal.returns-clause-hash_form
returns-clause-hash_form g c =
    if_both (λ s. members s ≡ c.new-3.result.items) (λ s. hashed_literals s ≡ Some (literals_of c.in_ok-literals.literals.value)) (λ s. IsTrue (has_hash_form s)) c.of_members.result c.of_members.ensures.members c.of_members.ensures.hashed
    (λ s is hashed. empty_form s (is ∙ c.new-3.ensures.items) (hashed ∙ (λ i. Some (literals_of (c.in_ok-literals.ensures.ok i))) ∙ ap (λ ks. Some (map bare_literal ks)) c.new.ensures.empty))
