-- What is known of operands, and of operators on two values.
use Rattle.std.proofs.Common.{◌≡◌, Bool, refl, Some, None, Ok, Err}
use Rattle.std.specs.declared.cmp.Ordering.{Ordering}
use Rattle.cedar_terms.specs.declared.ops.BinaryOp.{BinaryOp}
use Rattle.cedar_terms.specs.declared.ops.BinaryOp.TheVariants as Binary
use Rattle.semantics_values.specs.BareValue.{BareValue, ExtensionValue}
use Rattle.semantics_eval.specs.Outcomes.{Open}
use Rattle.semantics_simplify.specs.Simplified.{Simplified, Known, Residual, outcome_of}
use Rattle.semantics_request.specs.Entities.{Entities}
use Rattle.semantics_request.specs.Evaluator.{apply_by, apply_over}
use Rattle.semantics_request.specs.Requests.{Functions}
use Rattle.semantics_request.specs.Residuals.{plain_or_open}
use Rattle.cedar_simplifier.specs.Simplified.{known_value, value_in}

module _ {X : Type 0} where
  -- what is known is the outcome
  pub known : (s : Simplified X) (t : BareValue X) → Some t ≡ known_value s
      → outcome_of s ≡ Ok t
  known (Known u) t h = cc
  known (Residual e) t h = cc

  -- a residual is open
  pub residual : (s : Simplified X) → None ≡ known_value s → outcome_of s ≡ Err Open
  residual (Known t) h = cc
  residual (Residual e) h = refl

pub ruleset operand_laws = (known, residual)

module _ {X : Type 0} (R : X → X → Ordering) (E : X → X → Bool) (s : Entities X) where
  -- a table by which no two extension values compare
  abbrev no_functions : Functions X
  no_functions = record { call = λ n. None; compare = λ x y. None }

  -- with it an operator has the values that it has without
  pub same_values : (o : BinaryOp) (t u : BareValue X)
      → value_in (plain_or_open R (apply_by R E no_functions s o t u))
      ≡ value_in (plain_or_open R (apply_over R E s o t u))
  same_values Binary.Less (ExtensionValue x c) (ExtensionValue y d) = refl
  same_values Binary.LessEq (ExtensionValue x c) (ExtensionValue y d) = refl
  same_values o t u = refl
