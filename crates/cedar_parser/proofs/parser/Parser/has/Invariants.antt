use Rattle.std.proofs.Common.{◌≡◌, ◌≤◌, List, map}
use Rattle.cedar_lexer.specs.TokenStreams.{end_of}
use Rattle.cedar_parser.specs.Waiting.{Group, Waiting}
use Rattle.cedar_parser.proofs.AheadSteps.{KeysLeft}
use Rattle.std.specs.Rc.{rc_str_bytes}
use Rattle.cedar_lexer.specs.TokenStreams.{tokens_left}
use Rattle.cedar_parser.specs.Meant.{AreKeysTaken, AreLexemes, here}
use Rattle.cedar_parser.specs.Refused.{IsLeft, next_start}
use Rattle.cedar_parser.proofs.parser.Parser.has.Given as goal

-- what is left stands behind what was left, and behind the keys so far, and it goes on with further keys
abbrev pub invariant-attributes : goal.invariant-attributes
invariant-attributes l = record {
  fewer : tokens_left l.tokens ≤ tokens_left l.initial.tokens;
  left : IsLeft (next_start l.initial.tokens) l.initial.tokens l.tokens;
  behind : (l.initial.stop ≤ l.stop) × (l.stop ≤ next_start l.tokens);
  parses : AreLexemes (here l.initial.tokens) → AreKeysTaken l.initial.tokens (map rc_str_bytes l.tail.items) l.tokens;
  complete : (gs : List Group) (ws : List Waiting) → AreLexemes (here l.initial.tokens) → KeysLeft gs ws (here l.initial.tokens)
      → AreLexemes (here l.tokens) × KeysLeft gs ws (here l.tokens) × (end_of l.tokens ≡ end_of l.initial.tokens);
}

abbrev pub decreases-attributes : goal.decreases-attributes
decreases-attributes l = tokens_left l.tokens
