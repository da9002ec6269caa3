use Rattle.std.proofs.Common.{sym, ap, ◌∙◌}
use Rattle.std.specs.Prelude.{option_map}
use Rattle.cedar_terms.specs.Literals.{bare_literal}
use Rattle.cedar_values.specs.BareValues.{bare_value}
use Rattle.cedar_values.specs.HashForms.{literals_of}
use Rattle.cedar_values.proofs.HashForms.{has, one_among}
use Rattle.cedar_values.proofs.hash_form.is_among.Goals as goal

pub returns-in-Some : goal.returns-in-Some
returns-in-Some g c =
    let h = c.args.literals.now in
    let l = bare_literal c.in-Some.literal.now in
    c.contains.ensures
    ∙ sym (has h l)
    ∙ sym (one_among (literals_of h) (bare_value c.args.value.now) l (sym c.try_as_lit.ensures ∙ ap (option_map (λ l. bare_literal l.now)) c.in-Some.is))
