use Rattle.std.proofs.Common.{◌≡◌, map, take}
use Rattle.cedar_terms.specs.Entities.{bare_entity_uid}
use Rattle.cedar_policies.proofs.link.copied_entities.Given as goal

-- the copies so far
abbrev pub invariant-loop-uid : goal.invariant-loop-uid
invariant-loop-uid l = map (λ u. bare_entity_uid u.value) l.copies.items ≡ map (λ u. bare_entity_uid u.value) (take l.uid-index l.uids)
