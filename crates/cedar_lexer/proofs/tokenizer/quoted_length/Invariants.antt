use Rattle.cedar_lexer.proofs.FirstTokenLemmas.{IsSoughtFrom}
use Rattle.cedar_lexer.proofs.tokenizer.quoted_length.Given as goal

-- the quote is where it is in what is left
abbrev pub invariant-loop-at : goal.invariant-loop-at
invariant-loop-at l = IsSoughtFrom l.bytes l.at l.is_escaped
