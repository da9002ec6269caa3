-- What an operation makes of its operands, by the values that are known of them.
use Rattle.std.proofs.Common.{◌≡◌, refl, List, [], ◌∷◌, Some, None, Ok, Err}
use Rattle.cedar_builders.specs.BareExpr.{Text}
use Rattle.semantics_values.specs.BareValue.{BareValue}
use Rattle.semantics_eval.specs.Attributes.{has_path}
use Rattle.semantics_eval.specs.Outcomes.{Open, Outcome}
use Rattle.semantics_simplify.specs.Simplified.{Simplified, Known, Residual, outcome_of}
use Rattle.cedar_simplifier.specs.Simplified.{known_value, value_in}

module _ {X : Type 0} where
  -- what is known is the outcome
  pub known : (p : Simplified X) (t : BareValue X) → Some t ≡ known_value p
      → outcome_of p ≡ Ok t
  known (Known u) t h = cc
  known (Residual e) t h = cc

  -- a residual is open
  pub residual : (p : Simplified X) → None ≡ known_value p → outcome_of p ≡ Err Open
  residual (Known t) h = cc
  residual (Residual e) h = refl

  -- a residual has no path that is known
  pub open_path : (p : Simplified X) (k : Text) (ks : List Text) → None ≡ known_value p
      → None ≡ value_in (has_path (outcome_of p) k ks)
  open_path (Known t) k ks h = cc
  open_path (Residual e) k [] h = refl
  open_path (Residual e) k (j ∷ js) h = refl
