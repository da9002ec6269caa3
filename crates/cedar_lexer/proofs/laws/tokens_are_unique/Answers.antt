use Rattle.cedar_lexer.proofs.laws.tokens_are_unique.Goals as goal
use Rattle.cedar_lexer.proofs.OneWay.{tokens_not_stuck, tokens_unique}

pub returns-clause-same : goal.returns-clause-same
returns-clause-same c = tokens_unique

pub returns-clause-accepted : goal.returns-clause-accepted
returns-clause-accepted c = tokens_not_stuck
