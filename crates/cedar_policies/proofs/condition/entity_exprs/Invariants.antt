use Rattle.std.proofs.Common.{◌≡◌, map, take}
use Rattle.cedar_terms.specs.Entities.{bare_entity_uid}
use Rattle.cedar_exprs.specs.BareExpr.{bare_expr}
use Rattle.semantics_policies.specs.Conditions.{entity_tree}
use Rattle.cedar_policies.proofs.condition.entity_exprs.Given as goal

-- the entities so far
abbrev pub invariant-loop-uid : goal.invariant-loop-uid
invariant-loop-uid l = map bare_expr l.exprs.items ≡ map entity_tree (map (λ u. bare_entity_uid u.value) (take l.uid-index l.uids))
