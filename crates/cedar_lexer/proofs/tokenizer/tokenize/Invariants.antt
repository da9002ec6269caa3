use denote.Text.{Utf8}
use denote.Shadow.{shadow}
use Rattle.std.proofs.Common.{◌≤◌, length}
use Rattle.cedar_lexer.specs.Blanks.{HasNoBlank}
use Rattle.cedar_lexer.specs.TokenPlaces.{AreTokensBefore}
use Rattle.cedar_lexer.proofs.tokenizer.tokenize.Given as goal

-- what is left is a text, and the tokens before it are found
abbrev pub invariant-tokens : goal.invariant-tokens
invariant-tokens l = record {
  rest_utf8 : shadow (Utf8 l.rest);
  shorter : length l.rest ≤ length l.text;
  no_blank : HasNoBlank l.rest;
  so_far : AreTokensBefore 0 l.text l.tokens.items l.rest;
}

abbrev pub decreases-tokens : goal.decreases-tokens
decreases-tokens l = length l.rest
