use Rattle.std.proofs.Common.{◌≡◌, ◌≤◌, string_bytes}
use Rattle.cedar_lexer.specs.TokenStreams.{end_of, tokens_left}
use Rattle.cedar_lexer.specs.declared.token.TokenKind.TheVariants as kinds
use Rattle.semantics_grammar.specs.Written.{ArePathIds}
use Rattle.cedar_parser.specs.Meant.{AreLexemes, from, here}
use Rattle.cedar_parser.specs.Refused.{IsPath}
use Rattle.cedar_parser.proofs.leaves.Path.parse.Given as goal

-- the path so far begins with the first identifier
abbrev pub invariant-identifiers : goal.invariant-identifiers
invariant-identifiers l = record {
  left : tokens_left l.tokens ≤ tokens_left l.initial.tokens;
  path : IsPath l.initial.span.start l.span l.initial.tokens l.tokens;
  parses : l.first.kind ≡ kinds.Word → ArePathIds (from l.first l.initial.tokens) (string_bytes l.text) (here l.tokens);
  end : end_of l.tokens ≡ end_of l.initial.tokens;
  lexemes : AreLexemes (here l.initial.tokens) → AreLexemes (here l.tokens);
}

abbrev pub decreases-identifiers : goal.decreases-identifiers
decreases-identifiers l = tokens_left l.tokens
