use Rattle.std.proofs.Common.{◌≡◌}
use Rattle.cedar_lexer.specs.TokenStreams.{tokens_left}
use Rattle.cedar_parser.specs.Refused.{IsBefore, stop_of}
use Rattle.cedar_parser.proofs.signs.first_sign.Given as goal

-- the tokens that are left are in order, and end where all of them do
abbrev pub invariant-tokens : goal.invariant-tokens
invariant-tokens l = record {
  before : IsBefore 0 l.left;
  fits : stop_of l.left ≡ stop_of l.initial.left;
}

abbrev pub decreases-tokens : goal.decreases-tokens
decreases-tokens l = tokens_left l.left
