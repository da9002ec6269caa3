-- Outcomes by what they mean.
use Rattle.std.proofs.Common.{◌≡◌, ◌≢◌, None, Result, Ok, Err, IsOk, IsOkAnd, refl, sym, ap, subst, ◌∙◌}
use Rattle.std.specs.Result.{ForOk}
use Rattle.std.specs.declared.cmp.Ord as Ord
use Rattle.std.specs.declared.cmp.PartialEq as PartialEq
use Rattle.std.specs.declared.cmp.PartialOrd as PartialOrd
use Rattle.semantics_values.specs.BareValue.{BareValue}
use Rattle.cedar_values.specs.BareValues.{bare_value}
use Rattle.cedar_values.specs.declared.value.Value.{Value}
use Rattle.semantics_eval.specs.Outcomes as meant
use Rattle.cedar_evaluator.specs.Laws.{IsDecided, IsValue}
use Rattle.cedar_evaluator.specs.Outcomes.{bare_outcome, meaning_of, result_of}
use Rattle.cedar_evaluator.specs.declared.fault.EvalFault.{EvalFault}
use Rattle.cedar_evaluator.specs.declared.fault.EvalFault.TheVariants.{Open}
use Rattle.cedar_evaluator.specs.declared.fault.EvaluationFault.{EvaluationFault}
use Rattle.cedar_evaluator.specs.declared.outcome.Outcome.{Outcome}

abbrev ok_of : {A E : Type 0} → A → Result A E → A
ok_of a (Ok b) = b
ok_of a (Err e) = a

same_ok : {A E : Type 0} (r : Result A E) (a b : A) → r ≡ Ok a → r ≡ Ok b → a ≡ b
same_ok r a b h g = ap (ok_of a) (sym h ∙ g)

-- what means a value is a value with this tree
value_of : {X : Type 0} (r : Result (Value X) EvalFault) (t : BareValue X)
    → bare_outcome r ≡ Ok t → IsOkAnd r (λ w. bare_value w ≡ t)
value_of (Ok w) t h = same_ok (bare_outcome (Ok w)) (bare_value w) t refl h
value_of (Err f) t h = cc

no_value : {A E : Type 0} (P : A → Type 0) (e : E) → ForOk (Err e) P
no_value P e a is = cc

-- the open fault, at no place
abbrev open_fault : EvaluationFault
open_fault = record { fault = Open; source_loc = None }

module _ {X : Type 0} {o : Ord.Ghosts X} {e : PartialEq.Ghosts X} {p : PartialOrd.Ghosts X} where
  pub is_value : {F : Type 0} (r : Result (meant.Outcome X) F) (v : Value X)
      → r ≡ Ok (Ok (bare_value v)) → IsValue (meaning_of {X = X} {o = o} {e = e} {p = p}) r v
  is_value r v h = record {
    accepted = subst IsOk (sym h) refl;
    value = λ m is. value_of (result_of m) (bare_value v)
        (same_ok r (meaning_of m) (Ok (bare_value v)) is h);
  }

  -- the open outcome
  abbrev open_outcome : Outcome X o e p
  open_outcome = record { result = Err open_fault; kept = no_value _ open_fault }

  pub not_open : {F : Type 0} (r : Result (meant.Outcome X) F)
      → IsDecided (meaning_of {X = X} {o = o} {e = e} {p = p}) r → r ≢ Ok (Err meant.Open)
  not_open r h is = h open_outcome is refl

  pub decided : {F : Type 0} (r : Result (meant.Outcome X) F) → r ≢ Ok (Err meant.Open)
      → IsDecided (meaning_of {X = X} {o = o} {e = e} {p = p}) r
  decided r h m is opens = h (is ∙ ap (λ q. Ok (bare_outcome q)) opens)
