use Rattle.std.proofs.Common.{◌≡◌, max}
use Rattle.cedar_builders.specs.BareExpr.{BareExpr}
use Rattle.cedar_lexer.specs.TokenStreams.{tokens_left}
use Rattle.semantics_grammar.specs.Grammar.{Stands}
use Rattle.cedar_parser.specs.Complete.{IsAhead}
use Rattle.cedar_parser.specs.Meant.{AreLexemes, HasEnd, HasNoValues, IsParsed, here}
use Rattle.cedar_parser.specs.Places.{IsPlacedUpTo, source_of}
use Rattle.cedar_parser.specs.Refused.{IsBefore, next_start, open_start, operand_start, stop_of}
use Rattle.cedar_parser.proofs.parser.parse_tokens.Given as goal

-- the tokens that are left stand behind what is open, and end where all of them do; all tokens are what is parsed so far, and then those; where
-- all tokens stand for a tree, those go on with what is open
abbrev pub invariant-tokens : goal.invariant-tokens
invariant-tokens l = record {
  before : IsBefore (max (open_start l.parser) (operand_start l.operand)) l.left;
  fits : stop_of l.left ≡ stop_of l.initial.left;
  parses : HasNoValues l.initial.parser.nodes → HasEnd l.initial.left → AreLexemes (here l.initial.left)
      → IsParsed (here l.initial.left) l.parser l.operand (here l.left) × HasEnd l.left;
  complete : HasEnd l.initial.left → AreLexemes (here l.initial.left) → (tree : BareExpr) → Stands (here l.initial.left) tree
      → IsAhead l.parser l.operand (here l.left) × HasEnd l.left;
  places : HasNoValues l.initial.parser.nodes → IsPlacedUpTo (source_of l.initial.parser.nodes) (next_start l.left) l.parser l.operand;
}

abbrev pub decreases-tokens : goal.decreases-tokens
decreases-tokens l = tokens_left l.left
