-- The last of some clauses.
use Rattle.std.proofs.Common.{◌≡◌, Bool, Option, Some, None, List, [], ◌∷◌, ◌++◌, refl}
use Rattle.std.specs.Prelude.{◌&&◌}
use Rattle.cedar_builders.specs.BareExpr.{BareExpr}
use Rattle.cedar_builders.specs.Trees.{and_made, folded}
use Rattle.semantics_policies.specs.Conditions.{clause_tree, with_clauses}
use Rattle.semantics_policies.specs.Policies.{Clause}

pub last_joined : (e : BareExpr) (cs : List Clause) (c : Clause) → with_clauses e (cs ++ (c ∷ [])) ≡ and_made (with_clauses e cs) (clause_tree c)
last_joined e [] c = refl
last_joined e (d ∷ cs) c = last_joined (and_made e (clause_tree d)) cs c

-- what is no Boolean literal is joined as it is
pub joined : (o : Option Bool) (node : BareExpr) → folded ◌&&◌ o None node ≡ node
joined (Some a) node = refl
joined None node = refl
