use Rattle.semantics_grammar.proofs.Whole.{stands_whole}
use Rattle.semantics_grammar.proofs.laws.brackets_are_whole.Goals as goal

pub returns : goal.returns
returns c = stands_whole
