use Rattle.std.proofs.Common.{◌≡◌, ap, sym, ◌∙◌}
use Rattle.std.specs.Prelude.{option_map}
use Rattle.cedar_sorted_slices.specs.Classes.{has_class}
use Rattle.cedar_values.specs.HashForms.{literals_of}
use Rattle.cedar_values.specs.Sets.{members}
use Rattle.cedar_values.proofs.HashForms.{form_has}
use Rattle.cedar_values.proofs.WellFormedSets.{of_set, form_is}
use Rattle.cedar_values.proofs.set.Set.contains.Goals as goal

pub returns-in-Some : goal.returns-in-Some
returns-in-Some g c kept =
    let R = g.X.Ord.cmp in
    let s = c.args.self.now in
    let ks = literals_of c.in-Some.literals.now in
    c.is_among.ensures
    ∙ form_has R (members s) ks (form_is R s kept _ (sym c.hash_form.ensures ∙ ap (option_map (λ h. literals_of h.now)) c.in-Some.is)) c.args.value.now

pub returns-in-None : goal.returns-in-None
returns-in-None g c =
    let law = c.order_of_values.ensures in
    of_set g.X.Ord.cmp law.order law.total (λ D xs. c.contains.result ≡ has_class D xs c.args.value.now) c.args.self.now _ c.authoritative.ensures c.contains.ensures
