use Rattle.std.proofs.Common.{ap, subst, ◌∙◌}
use Rattle.std.specs.Prelude.{unwrap_or}
use Rattle.serde_json.specs.View.{view}
use Rattle.cedar_terms.specs.Entities.{bare_entity_uid}
use Rattle.cedar_json.specs.Refusals.{Reads}
use Rattle.cedar_json.specs.Values.{IsEntity}
use Rattle.cedar_json.proofs.Members.{unwrapped}
use Rattle.cedar_json.proofs.entities.meant_uid.Goals as goal

pub returns : goal.returns
returns c =
    subst (λ d. Reads (IsEntity d) bare_entity_uid c.typed_uid.result)
    (ap (λ x. view x.now) c.unwrap_or.ensures ∙ unwrapped c.get.result c.args.json
    ∙ ap (λ o. unwrap_or o (view c.args.json.now)) c.get.ensures)
    c.typed_uid.ensures
