-- What is promised of what an expression is simplified to in an environment of values.
use Rattle.std.specs.Prelude.{◌≡◌, Bool, IsTrue, Ok}
use Rattle.std.specs.declared.cmp.Ordering.{Ordering}
use Rattle.cedar_builders.specs.BareExpr.{BareExpr}
use Rattle.cedar_builders.specs.Environment.{Env, fold}
use Rattle.cedar_builders.specs.Laws.{both}
use Rattle.semantics_values.specs.BareValue.{BareValue}
use Rattle.cedar_values.specs.Holders.{NoExtension, held_call}
use Rattle.semantics_eval.specs.Evaluator.{evaluator_ops}
use Rattle.semantics_simplify.specs.Asks.{Ask, asks_only, is_bound_or}
use Rattle.semantics_simplify.specs.Simplified.{Simplified, Known, tree_of}

-- R and E are the order and the equality of extension values, of which there are none; later says
-- what each map of values binds
module _ (R : NoExtension → NoExtension → Ordering) (E : NoExtension → NoExtension → Bool)
    {M : Type 0} (later : M → Env) where
  -- wherever a map binds further unknowns, the simplified tree has the outcome of the tree, or is
  -- refused by the same name
  abbrev pub MeansTheSame : Env → BareExpr → Simplified NoExtension → Type 0
  MeansTheSame env e p =
      (m : M)
      → fold (evaluator_ops R E) (later m) (tree_of held_call p)
      ≡ fold (evaluator_ops R E) (both env (later m)) e

  -- a value that is known is that outcome
  abbrev pub KnownStays : Env → BareExpr → Simplified NoExtension → Type 0
  KnownStays env e p =
      (m : M) (t : BareValue NoExtension) → p ≡ Known t
      → fold (evaluator_ops R E) (both env (later m)) e ≡ Ok (Ok t)

-- the simplified tree asks only for what the tree asks for, and for no unknown that is bound
abbrev pub AsksNoMore : Env → BareExpr → Simplified NoExtension → Type 0
AsksNoMore env e p =
    (Q : Ask → Bool) → IsTrue (asks_only (is_bound_or env Q) e)
    → IsTrue (asks_only Q (tree_of held_call p))
