use Rattle.std.proofs.Common.{Some, sym, ap, ◌∙◌}
use Rattle.std.specs.Prelude.{option_map}
use Rattle.cedar_values.specs.HashForms.{literals_of}
use Rattle.cedar_values.specs.Sets.{hashed_literals}
use Rattle.cedar_values.proofs.set.Set.hash_form.Goals as goal

pub returns-in-Some : goal.returns-in-Some
unfolding hashed_literals
returns-in-Some g c = (λ i. Some (literals_of (c.deref.ensures i))) ∙ sym (ap (option_map (λ h. literals_of h.value)) c.in-Some.is)

pub returns-in-None : goal.returns-in-None
unfolding hashed_literals
returns-in-None g c = sym (ap (option_map (λ h. literals_of h.value)) c.in-None.is)
