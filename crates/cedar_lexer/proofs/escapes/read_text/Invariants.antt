use Rattle.std.proofs.Common.{length, string_bytes}
use Rattle.std.specs.Str.{chars}
use denote.Text.{Utf8}
use denote.Shadow.{shadow}
use Rattle.cedar_lexer.specs.Readings.{IsTextSoFar}
use Rattle.cedar_lexer.proofs.escapes.read_text.Given as goal

-- what is left is a text, and what stands before it is read
abbrev pub invariant-pieces : goal.invariant-pieces
invariant-pieces l = record {
  rest_utf8 : shadow (Utf8 l.rest);
  so_far : IsTextSoFar (chars l.inside) (string_bytes l.text) (chars l.rest);
}

abbrev pub decreases-pieces : goal.decreases-pieces
decreases-pieces l = length (chars l.rest)
