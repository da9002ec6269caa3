use Rattle.std.proofs.Common.{◌≡◌, map, take}
use Rattle.cedar_terms.specs.Entities.{bare_entity_uid}
use Rattle.cedar_exprs.specs.BareExpr.{bare_expr}
use Rattle.semantics_policies.specs.Conditions.{entity_tree}
use Rattle.cedar_policy_parser.proofs.entities.entities_in.Given as goal

-- the entities so far
abbrev pub invariant-loop-expr : goal.invariant-loop-expr
invariant-loop-expr l = map bare_expr (take l.expr-index l.exprs) ≡ map (λ u. entity_tree (bare_entity_uid u.value)) l.uids.items
