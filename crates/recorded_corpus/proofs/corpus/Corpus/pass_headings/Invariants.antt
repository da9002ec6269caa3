use Rattle.std.proofs.Common.{◌≡◌, ◌≤◌, length}
use Rattle.recorded_corpus.specs.Corpora.{last_line, left}
use Rattle.recorded_corpus.proofs.corpus.Corpus.pass_headings.Given as goal

-- the corpus ends where it did, and no more of it is left
abbrev pub invariant-loop-self : goal.invariant-loop-self
invariant-loop-self l = record {
  lines : last_line l.self ≡ last_line l.fn.self;
  shorter : length (left l.self) ≤ length (left l.fn.self);
}

abbrev pub decreases-loop-self : goal.decreases-loop-self
decreases-loop-self l = length (left l.self)
