use Rattle.std.proofs.Common.{◌≤◌, List, drop}
use Rattle.cedar_lexer.specs.Groups.{IsGroupEnd, Passes, kinds_of}
use Rattle.cedar_lexer.specs.declared.token.TokenKind.{TokenKind}
use Rattle.cedar_lexer.proofs.GroupCuts.{Deep}
use Rattle.cedar_lexer.proofs.token_stream.group_length.Given as goal

-- where all tokens pass to what ends a group, those that are left do so behind the brackets that are open
abbrev pub invariant-loop-at : goal.invariant-loop-at
invariant-loop-at l = record {
  bound : l.depth ≤ l.at;
  deep : (rest : List TokenKind) → Passes l.ends_at_comma (kinds_of l.tokens) rest → IsGroupEnd l.ends_at_comma rest
      → Deep l.ends_at_comma l.depth (kinds_of (drop l.at l.tokens)) rest;
}
