use Rattle.std.proofs.Common.{◌∙◌, []}
use Rattle.cedar_terms.specs.declared.var.Var.TheVariants as variables
use Rattle.cedar_builders.specs.BareExpr.{And, Is, Var}
use Rattle.cedar_builders.specs.Trees.{bool_of}
use Rattle.semantics_policies.specs.Conditions.{condition, scope_of}
use Rattle.semantics_policies.specs.Laws.{of_any}
use Rattle.semantics_policies.specs.Policies.{when_true}
use Rattle.semantics_policies.proofs.LastClauses.{joined, last_joined}
use Rattle.semantics_policies.proofs.laws.last_clause.Goals as goal

pub returns : goal.returns
returns c e cs n =
    let tree = Is (Var variables.Principal) n in
    let before = condition (of_any e cs) in
    last_joined (scope_of (of_any e [])) cs (when_true tree) ∙ joined (bool_of before) (And before tree)
