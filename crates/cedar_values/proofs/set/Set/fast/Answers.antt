use Rattle.std.proofs.Common.{ap, map, ◌∙◌}
use Rattle.cedar_values.specs.BareValues.{bare_value}
use Rattle.cedar_values.specs.HashForms.{is_hash_form, literals_of}
use Rattle.cedar_values.specs.Sets.{members}
use Rattle.cedar_values.proofs.HashSides.{given, just}
use Rattle.cedar_values.proofs.WellFormedSets.{set_is_hashed}
use Rattle.cedar_values.proofs.set.Set.fast.Goals as goal

pub returns-clause-given : goal.returns-clause-given
returns-clause-given g c form =
    let ms = members c.args.self.now in
    given (λ h. literals_of h.now) c.hash_form.result ms (ap (is_hash_form (map bare_value ms)) c.hash_form.ensures ∙ form)

pub returns-clause-just : goal.returns-clause-just
returns-clause-just g c form R =
    let ms = members c.args.self.now in
    just R (λ h. h.now) c.hash_form.result ms (ap (is_hash_form (map bare_value ms)) c.hash_form.ensures ∙ form)

pub returns-clause-well_formed : goal.returns-clause-well_formed
returns-clause-well_formed g c R kept = set_is_hashed R c.args.self.now kept
