use Rattle.std.proofs.Common.{◌∷◌, not, sym, ap, ◌∙◌, subst}
use Rattle.cedar_terms.specs.Literals.{bare_literal}
use Rattle.cedar_values.specs.HashForms.{HasLiterals, is_among, literals_of}
use Rattle.cedar_values.proofs.HashForms.{added, has}
use Rattle.cedar_values.proofs.hash_form.add_literal.Goals as goal

pub returns : goal.returns
returns c =
    let old = c.args.literals.now in
    let new = c.insert.new.self in
    let copy = c.in_ok-clone.field-0 in
    record {
      literals = subst (λ l. HasLiterals (l ∷ literals_of old) new) c.in_ok-clone.ensures.bare
          (added old new copy c.in_ok-insert.field-0 c.in_ok-insert.ensures.keys c.in_ok-insert.ensures.added);
      is_new = c.in_ok-insert.ensures.added
          ∙ ap not (sym (has old (bare_literal copy)) ∙ ap (is_among (literals_of old)) c.in_ok-clone.ensures.bare);
    }
