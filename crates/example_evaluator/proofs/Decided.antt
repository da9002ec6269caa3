-- What is decided stays, whatever else is bound.
use Rattle.std.proofs.Common.{◌≡◌, ◌≢◌, Result, Ok, Err, IsOkAnd, refl, ap, ◌∙◌}
use Rattle.std.specs.declared.cmp.Ord as Ord
use Rattle.std.specs.declared.cmp.PartialEq as PartialEq
use Rattle.std.specs.declared.cmp.PartialOrd as PartialOrd
use Rattle.cedar_ast.specs.Answers.{Gives}
use Rattle.cedar_ast.specs.Evaluations as fault
use Rattle.cedar_ast.specs.Evaluations.{IsDecided, meaning_of, result_of}
use Rattle.cedar_ast.specs.declared.BuildFault.{BuildFault}
use Rattle.cedar_ast.specs.declared.BuildFault.TheVariants.{Build, Memory}
use Rattle.cedar_ast.specs.declared.evaluator.Outcome.{Outcome}
use Rattle.semantics_eval.specs.Outcomes as meant

module _ {X : Type 0} {o : Ord.Ghosts X} {e : PartialEq.Ghosts X} {p : PartialOrd.Ghosts X} where
  open_means : (m : Outcome X o e p) → result_of m ≡ Err fault.Open → meaning_of m ≡ Err meant.Open
  open_means m opens = rw opens refl

  module _ {F : Type 0} (early late : Result (meant.Outcome X) F)
      (stays : IsDecided (meaning_of {X = X} {o = o} {e = e} {p = p}) early → late ≡ early) where
    settled_stays : early ≢ Ok (Err meant.Open) → late ≡ early
    settled_stays not_open = stays (λ m is opens. not_open (is ∙ ap Ok (open_means m opens)))

    -- an answer that is not the open outcome is the answer where more is bound
    pub answer_stays : {D : Type 0} (fault_of : D → F)
        (answer : Result (Outcome X o e p) (BuildFault D))
        → Gives meaning_of fault_of early answer
        → (IsOkAnd answer (λ m. meaning_of m ≡ Err meant.Open) → ⊥)
        → Gives meaning_of fault_of late answer
    answer_stays fault_of (Ok m) is not_open = settled_stays (λ opens. not_open cc) ∙ is
    answer_stays fault_of (Err (Build d)) is not_open = settled_stays (λ opens. cc) ∙ is
    answer_stays fault_of (Err Memory) is not_open = tt
