use Rattle.std.proofs.Common.{◌≤◌, length}
use Rattle.recorded_corpus.specs.Corpora.{left}
use Rattle.recorded_corpus.proofs.comparison.compare.Given as goal

abbrev pub invariant-loop-text : goal.invariant-loop-text
invariant-loop-text g l = l.tally.different ≤ l.tally.scripts

abbrev pub decreases-loop-text : goal.decreases-loop-text
decreases-loop-text g l = length (left l.corpus)
