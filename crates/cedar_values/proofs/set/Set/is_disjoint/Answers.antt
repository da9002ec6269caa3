use Rattle.std.proofs.Common.{◌↔◌, Some, IsTrue, ap, sym, ◌∙◌}
use Rattle.std.specs.Prelude.{option_map}
use Rattle.cedar_sorted_slices.specs.Classes.{HaveNoneInCommon}
use Rattle.cedar_values.specs.HashForms.{literals_of}
use Rattle.cedar_values.specs.Sets.{members}
use Rattle.cedar_values.proofs.HashSides.{disjoint_told, swapped}
use Rattle.cedar_values.proofs.WellFormedSets.{form_is, of_sets}
use Rattle.cedar_values.proofs.set.Set.is_disjoint.Goals as goal

pub returns-in-Some-Some : goal.returns-in-Some-Some
returns-in-Some-Some g c kept kept' =
    let R = g.X.Ord.cmp in
    let s = c.args.self.now in
    let t = c.args.other.now in
    let h = c.in-Some-Some.literals.now in
    let k = c.in-Some-Some.others.now in
    disjoint_told R (members s) (members t) h k
    (form_is R s kept (Some (literals_of h)) (sym c.hash_form.ensures ∙ ap (option_map (λ h. literals_of h.now)) c.in-Some-Some.is-0))
    (form_is R t kept' (Some (literals_of k)) (sym c.hash_form-2.ensures ∙ ap (option_map (λ h. literals_of h.now)) c.in-Some-Some.is-1))
    c.is_disjoint.result c.is_disjoint.ensures

pub returns-in-Some-Some-2 : goal.returns-in-Some-Some-2
returns-in-Some-Some-2 g c kept kept' =
    let R = g.X.Ord.cmp in
    let s = c.args.self.now in
    let t = c.args.other.now in
    let h = c.in-Some-Some.literals.now in
    let k = c.in-Some-Some.others.now in
    swapped R (members s) (members t) c.is_disjoint-in-Some-Some-2.result
    (disjoint_told R (members t) (members s) k h
    (form_is R t kept' (Some (literals_of k)) (sym c.hash_form-2.ensures ∙ ap (option_map (λ h. literals_of h.now)) c.in-Some-Some.is-1))
    (form_is R s kept (Some (literals_of h)) (sym c.hash_form.ensures ∙ ap (option_map (λ h. literals_of h.now)) c.in-Some-Some.is-0))
    c.is_disjoint-in-Some-Some-2.result c.is_disjoint-in-Some-Some-2.ensures)

pub returns-in_default : goal.returns-in_default
returns-in_default g c =
    let law = c.order_of_values.ensures in
    of_sets g.X.Ord.cmp law.order law.total (λ D xs ys. IsTrue c.is_disjoint-in_default.result ↔ HaveNoneInCommon D xs ys) c.args.self.now c.args.other.now _ _
    c.authoritative.ensures c.authoritative-in_default.ensures c.is_disjoint-in_default.ensures
