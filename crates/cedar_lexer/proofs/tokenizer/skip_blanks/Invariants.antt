use Rattle.std.proofs.Common.{length}
use denote.Text.{Utf8}
use denote.Shadow.{shadow}
use Rattle.cedar_lexer.specs.Blanks.{HasBlanks, HasNoSpace}
use Rattle.cedar_lexer.proofs.tokenizer.skip_blanks.Given as goal

-- what is left is a text, what stands before it is blank, and it begins with no white space
abbrev pub invariant-comments : goal.invariant-comments
invariant-comments l = record {
  rest_utf8 : shadow (Utf8 l.rest);
  so_far : HasBlanks l.text l.rest;
  no_space : HasNoSpace l.rest;
}

abbrev pub decreases-comments : goal.decreases-comments
decreases-comments l = length l.rest
