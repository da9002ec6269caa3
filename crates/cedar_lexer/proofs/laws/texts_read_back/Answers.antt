use Rattle.cedar_lexer.proofs.laws.texts_read_back.Goals as goal
use Rattle.cedar_lexer.proofs.EscapeTexts.{pattern_written, text_written}

pub returns-clause-texts : goal.returns-clause-texts
returns-clause-texts c = text_written

pub returns-clause-patterns : goal.returns-clause-patterns
returns-clause-patterns c = pattern_written
