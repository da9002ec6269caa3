use Rattle.std.proofs.Common.{◌∙◌, ap, sym}
use Rattle.std.specs.List.{list_all}
use Rattle.cedar_terms.specs.Escape.{is_plain}
use Rattle.cedar_terms.proofs.EscapeLemmas.{plain_text}
use Rattle.cedar_terms.proofs.escape.is_own_escape.Goals as goal

pub returns : goal.returns
returns c = λ h. plain_text c.args.text.now c.utf8.text
    (ap (list_all is_plain) (sym c.as_bytes.ensures.value) ∙ (sym c.are_plain.ensures ∙ h))
