use Rattle.std.proofs.Common.{◌↔◌, Some, None, IsTrue, ap, sym, ◌∙◌}
use Rattle.std.specs.Prelude.{option_map}
use Rattle.cedar_sorted_slices.specs.Classes.{IsPartOf}
use Rattle.cedar_values.specs.HashForms.{literals_of}
use Rattle.cedar_values.specs.Sets.{members}
use Rattle.cedar_values.proofs.HashForms.{not_part}
use Rattle.cedar_values.proofs.HashSides.{subset_told}
use Rattle.cedar_values.proofs.WellFormedSets.{form_is, of_sets}
use Rattle.cedar_values.proofs.set.Set.is_subset.Goals as goal

pub returns-in-Some-Some : goal.returns-in-Some-Some
returns-in-Some-Some g c kept kept' =
    let R = g.X.Ord.cmp in
    let s = c.args.self.now in
    let t = c.args.other.now in
    let h = c.in-Some-Some.literals.now in
    let k = c.in-Some-Some.others.now in
    subset_told R (members s) (members t) h k
    (form_is R s kept (Some (literals_of h)) (sym c.hash_form.ensures ∙ ap (option_map (λ h. literals_of h.now)) c.in-Some-Some.is-0))
    (form_is R t kept' (Some (literals_of k)) (sym c.hash_form-2.ensures ∙ ap (option_map (λ h. literals_of h.now)) c.in-Some-Some.is-1))
    c.is_subset.result c.is_subset.ensures

pub returns-in-None-Some : goal.returns-in-None-Some
returns-in-None-Some g c kept kept' =
    let R = g.X.Ord.cmp in
    let s = c.args.self.now in
    let t = c.args.other.now in
    let ks = literals_of c.in-None-Some.field-0-1.now in (
      λ h. cc,
      λ part. absurd (not_part R c.order_of_values.ensures.total (members s) (members t) ks
          (form_is R s kept None (sym c.hash_form.ensures ∙ ap (option_map (λ h. literals_of h.now)) c.in-None-Some.is-0))
          (form_is R t kept' (Some ks) (sym c.hash_form-2.ensures ∙ ap (option_map (λ h. literals_of h.now)) c.in-None-Some.is-1)) part),
    )

pub returns-in_default : goal.returns-in_default
returns-in_default g c =
    let law = c.order_of_values.ensures in
    of_sets g.X.Ord.cmp law.order law.total (λ D xs ys. IsTrue c.is_subset-in_default.result ↔ IsPartOf D xs ys) c.args.self.now c.args.other.now _ _
    c.authoritative.ensures c.authoritative-in_default.ensures c.is_subset-in_default.ensures
