use Rattle.cedar_lexer.specs.TokenStreams.{tokens_left}
use Rattle.cedar_parser.specs.Meant.{here}
use Rattle.cedar_policy_parser.specs.Streams.{HasNoSlot, IsRest}
use Rattle.cedar_policy_parser.proofs.clauses.refuse_slots.Given as goal

-- if no slot is left, none was there
abbrev pub invariant-tokens : goal.invariant-tokens
invariant-tokens l = record {
  rest : IsRest l.initial.left l.left;
  none : HasNoSlot (here l.left) → HasNoSlot (here l.initial.left);
  behind : HasNoSlot (here l.initial.left) → HasNoSlot (here l.left);
}

abbrev pub decreases-tokens : goal.decreases-tokens
decreases-tokens l = tokens_left l.left
