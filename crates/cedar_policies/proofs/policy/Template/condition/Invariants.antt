use Rattle.std.proofs.Common.{◌≡◌, map, drop}
use Rattle.cedar_exprs.specs.BareExpr.{bare_expr}
use Rattle.semantics_policies.specs.Conditions.{condition, with_clauses}
use Rattle.cedar_policies.specs.Policies.{bare_clause, bare_policy}
use Rattle.cedar_policies.proofs.policy.Template.condition.Given as goal

-- the condition is what is made, and then the clauses that are left
abbrev pub invariant-loop-clause : goal.invariant-loop-clause
invariant-loop-clause l =
    with_clauses (bare_expr l.condition) (map bare_clause (drop l.clause-index l.self.clauses.items)) ≡ condition (bare_policy l.self)
