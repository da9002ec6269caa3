use Rattle.std.proofs.Common.{◌≡◌, ◌||◌, drop}
use Rattle.std.specs.List.{list_any}
use Rattle.cedar_terms.specs.Entities.{bare_entity_uid}
use Rattle.cedar_terms.specs.EntityOrder.{entity_uid_eq}
use Rattle.cedar_values.specs.BareValues.{bare_value}
use Rattle.cedar_request_evaluator.specs.Membership.{is_entity_with}
use Rattle.cedar_request.specs.Stores.{is_descendant_in}
use Rattle.cedar_request_evaluator.proofs.membership.is_below_some.Given as goal

-- the entities that are left answer as all do
abbrev pub invariant-loop-other : goal.invariant-loop-other
invariant-loop-other g l =
    let u = bare_entity_uid l.uid in
    let known = g.S.EntityStore.bare_entities l.entities u in
    list_any (λ v. is_entity_with (λ w. entity_uid_eq u w || is_descendant_in known w)
    (bare_value v)) (drop l.other-index l.others)
    ≡ list_any (λ v. is_entity_with (λ w. entity_uid_eq u w || is_descendant_in known w)
    (bare_value v)) l.others
