use Rattle.std.proofs.Common.{◌≡◌, not, length, map, sym, ap, ◌∙◌, ⊎_elim}
use Rattle.std.specs.HashSet.{keys}
use Rattle.std.specs.Prelude.{option_map}
use Rattle.std.proofs.lemmas.Bool.Decides.{eqb_tells}
use Rattle.std.proofs.lemmas.List.{length-map}
use Rattle.std.proofs.lemmas.List.Folds.{list_all-map}
use Rattle.cedar_terms.specs.Literals.{bare_literal}
use Rattle.cedar_values.specs.BareValues.{bare_value}
use Rattle.cedar_values.specs.HashForms.{is_hash_form, is_literal_among, literals_of}
use Rattle.cedar_values.specs.Places.{is_lit_value}
use Rattle.cedar_values.proofs.HashCounts.{distinct_keys, other_length, told}
use Rattle.cedar_values.proofs.hash_form.is_hash_form.Goals as goal

pub returns-then-len-members : goal.returns-then-len-members
returns-then-len-members g c distinct =
    let ms = c.args.members.now in
    let ts = map bare_value ms in
    let h = c.in-Some.literals.now in
    let ks = literals_of h in
    let same : length ks ≡ length ts =
    length-map (keys h) bare_literal ∙ sym c.len.ensures.len ∙ c.if-len-members.true ∙ sym (length-map ms bare_value) in
    c.are_among.ensures
    ∙ sym (list_all-map (is_literal_among ks) bare_value ms)
    ∙ told ts ks distinct (distinct_keys (keys h) c.len.ensures.unique) same
    ∙ sym (ap (λ r. is_hash_form ts (option_map (λ x. literals_of x.now) r)) c.in-Some.is)

pub returns-else-len-members : goal.returns-else-len-members
returns-else-len-members g c distinct =
    let ms = c.args.members.now in
    let ts = map bare_value ms in
    let h = c.in-Some.literals.now in
    let ks = literals_of h in
    ⊎_elim (λ e. absurd (c.if-len-members.false e.1)) (λ e. e.0) (eqb_tells c.len.result (length ms))
    ∙ sym (ap (λ r. is_hash_form ts (option_map (λ x. literals_of x.now) r)) c.in-Some.is
    ∙ other_length ts ks distinct (distinct_keys (keys h) c.len.ensures.unique)
    (λ same. c.if-len-members.false (c.len.ensures.len ∙ sym (length-map (keys h) bare_literal) ∙ same ∙ length-map ms bare_value)))

pub returns-in-None : goal.returns-in-None
returns-in-None g c distinct =
    let ts = map bare_value c.args.members.now in
    ap not (c.are_literals.ensures ∙ sym (list_all-map is_lit_value bare_value c.args.members.now))
    ∙ sym (ap (λ r. is_hash_form ts (option_map (λ x. literals_of x.now) r)) c.in-None.is)
