use Rattle.std.proofs.Common.{List, map}
use Rattle.cedar_lexer.specs.TokenStreams.{tokens_left}
use Rattle.semantics_grammar.specs.Lexemes.{Lexeme}
use Rattle.cedar_parser.specs.Meant.{here}
use Rattle.semantics_policies.specs.Policies.{Clause}
use Rattle.cedar_policies.specs.Policies.{bare_clause}
use Rattle.cedar_policy_parser.specs.Complete.{AreClausesUpTo}
use Rattle.cedar_policy_parser.specs.Streams.{IsRest}
use Rattle.cedar_policy_parser.proofs.CompleteClauses.{AreClausesLeft}
use Rattle.cedar_policy_parser.proofs.Loops.{ClausesSoFar}
use Rattle.cedar_policy_parser.proofs.clauses.clauses.Given as goal

-- the clauses so far, and then those that are left
abbrev pub invariant-clauses : goal.invariant-clauses
invariant-clauses l = record {
  rest : IsRest l.initial.tokens l.tokens;
  parses : ClausesSoFar l.initial.tokens l.tokens l.clauses.items;
  left :
      (found : List Clause) (rest : List Lexeme) → AreClausesUpTo (here l.initial.tokens) found rest
      → AreClausesLeft (map bare_clause l.clauses.items) found (here l.tokens) rest;
}

abbrev pub decreases-clauses : goal.decreases-clauses
decreases-clauses l = tokens_left l.tokens
