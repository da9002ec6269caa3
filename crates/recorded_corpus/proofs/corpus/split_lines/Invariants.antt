use Rattle.std.proofs.Common.{◌≡◌, ◌<◌, ◌+◌}
use Rattle.std.specs.Prelude.{take}
use Rattle.recorded_corpus.specs.Lines.{line_feeds}
use Rattle.recorded_corpus.proofs.corpus.split_lines.Given as goal

-- the line feeds so far and those that are left make the count
abbrev pub invariant-loop-index : goal.invariant-loop-index
invariant-loop-index l = record {
  some : 0 < l.left;
  counted : line_feeds (take l.index l.text) + l.left ≡ l.count;
}
