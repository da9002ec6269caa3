-- What is left of a corpus, and where it ends.
use Rattle.std.specs.Prelude.{◌+◌, ℕ, List}
use Rattle.recorded_corpus.specs.declared.corpus.Corpus.{Corpus}
use Rattle.recorded_corpus.specs.Lines.{line_feeds}

-- the text that is left
abbrev pub left : Corpus → List ℕ
left corpus = corpus.text.now

-- the number of the corpus' last line: that of the first line left, and one more for each line feed
abbrev pub last_line : Corpus → ℕ
last_line corpus = corpus.line + line_feeds corpus.text.now
