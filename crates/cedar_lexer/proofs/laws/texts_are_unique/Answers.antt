use Rattle.cedar_lexer.proofs.laws.texts_are_unique.Goals as goal
use Rattle.cedar_lexer.proofs.OneText.{one_pattern, one_text}

pub returns-clause-texts : goal.returns-clause-texts
returns-clause-texts c = one_text

pub returns-clause-patterns : goal.returns-clause-patterns
returns-clause-patterns c = one_pattern
