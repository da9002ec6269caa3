-- Calls by a table.
use Rattle.std.proofs.Common.{◌≡◌, List, Option, Some, None, Result, Ok, Err, refl, ap, subst}
use Rattle.cedar_names.specs.Names.{BareName}
use Rattle.cedar_builders.specs.Fold.{and_then}
use Rattle.semantics_values.specs.BareValue.{BareValue}
use Rattle.semantics_eval.specs.Outcomes.{Mistake, Outcome, settled}
use Rattle.semantics_eval.specs.Rows.{all_values}
use Rattle.semantics_request.specs.Evaluator.{call_by}

module _ {X : Type 0} where
  -- a function of that name is called
  pub called : (n : BareName) (o : Option (List (BareValue X) → Result (BareValue X) Mistake))
      (f : List (BareValue X) → Result (BareValue X) Mistake) (ms : List (Outcome X))
      (m : Outcome X) → Some f ≡ o → m ≡ and_then (λ ts. settled (f ts)) (all_values ms)
      → Ok m ≡ call_by n o ms
  called n o f ms m is h = subst (λ p. Ok m ≡ call_by n p ms) is (ap Ok h)

  -- there is none
  pub not_called : (n : BareName)
      (o : Option (List (BareValue X) → Result (BareValue X) Mistake)) (ms : List (Outcome X))
      → None ≡ o → Err n ≡ call_by n o ms
  not_called n o ms is = subst (λ p. Err n ≡ call_by n p ms) is refl
