use Rattle.std.proofs.Common.{◌≤◌, List, Some, length, max, ℕ}
use Rattle.semantics_grammar.specs.Lexemes.{Lexeme}
use Rattle.cedar_terms.specs.Precedences.{precedence_number}
use Rattle.cedar_parser.specs.Ahead.{own_at}
use Rattle.cedar_parser.specs.Complete.{IsBehind}
use Rattle.cedar_parser.specs.Meant.{IsParsed}
use Rattle.cedar_parser.specs.Places.{IsPlacedUpTo}
use Rattle.cedar_parser.specs.Refused.{open_start}
use Rattle.cedar_parser.proofs.parser.Parser.apply_down_to.Given as goal

-- nothing begins later than before, what was parsed is parsed, and what was to come is to come
abbrev pub invariant-operations : goal.invariant-operations
invariant-operations l = record {
  opened : open_start l.self ≤ open_start l.initial.self;
  operand : l.operand.span.start ≤ max (open_start l.initial.self) l.initial.operand.span.start;
  parses : (ts rest : List Lexeme) → IsParsed ts l.initial.self (Some l.initial.operand) rest → IsParsed ts l.self (Some l.operand) rest;
  complete : (ts : List Lexeme) → own_at ts ≤ precedence_number l.least → IsBehind l.initial.self l.initial.operand.precedence ts
      → IsBehind l.self l.operand.precedence ts;
  places : (source : List ℕ) (to : ℕ) → IsPlacedUpTo source to l.initial.self (Some l.initial.operand) → IsPlacedUpTo source to l.self (Some l.operand);
}

abbrev pub decreases-operations : goal.decreases-operations
decreases-operations l = length l.self.operations.items
