use Rattle.std.proofs.Common.{◌≡◌, map, take}
use Rattle.cedar_policies.specs.Policies.{bare_clause}
use Rattle.cedar_policies.proofs.link.copied_clauses.Given as goal

-- the copies so far
abbrev pub invariant-loop-clause : goal.invariant-loop-clause
invariant-loop-clause l = map bare_clause l.copies.items ≡ map bare_clause (take l.clause-index l.clauses)
