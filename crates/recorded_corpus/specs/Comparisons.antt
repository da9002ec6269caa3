-- When two runs are alike, and what the program ends with.
use Rattle.std.specs.Prelude.{◌≡◌, ◌==◌, ℕ, Result, Ok, Err, if◌then◌else◌}
use Rattle.recorded_corpus.specs.declared.corpus.Outcome.{Outcome}
use Rattle.recorded_corpus.specs.declared.comparison.Tally.{Tally}
use Rattle.recorded_corpus.specs.declared.comparison.CompareFault.{CompareFault}

-- two runs show the same bytes, and end with the same status and the same line
pub record AreAlike (wanted came : Outcome) : Type 0 where
  pub shown : wanted.shown.now ≡ came.shown.now
  pub status : wanted.status ≡ came.status
  pub refusal : wanted.refusal.now ≡ came.refusal.now

-- 0 where no script differs, 1 where one does, 2 where the corpus was not compared to its end
abbrev pub status_of : Result Tally CompareFault → ℕ
status_of (Ok tally) = if tally.different == 0 then 0 else 1
status_of (Err fault) = 2
