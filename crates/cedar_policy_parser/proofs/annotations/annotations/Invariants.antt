use Rattle.std.proofs.Common.{◌≡◌, true, List, map}
use Rattle.cedar_lexer.specs.TokenStreams.{tokens_left}
use Rattle.cedar_builders.specs.BareExpr.{Text}
use Rattle.cedar_builders.specs.Keys.{are_distinct}
use Rattle.semantics_grammar.specs.Lexemes.{Lexeme}
use Rattle.cedar_parser.specs.Meant.{here}
use Rattle.cedar_policies.specs.Policies.{bare_annotation}
use Rattle.cedar_policy_parser.specs.Annotations.{keys_of}
use Rattle.cedar_policy_parser.specs.Complete.{AreAnnotationsUpTo}
use Rattle.cedar_policy_parser.specs.Seen.{HasSeen}
use Rattle.cedar_policy_parser.specs.Streams.{IsRest}
use Rattle.cedar_policy_parser.proofs.CompleteAnnotations.{AreAnnotationsLeft}
use Rattle.cedar_policy_parser.proofs.Loops.{AnnotationsSoFar}
use Rattle.cedar_policy_parser.proofs.annotations.annotations.Given as goal

-- the annotations so far, of which no two have the same key, and then those that are left
abbrev pub invariant-annotations : goal.invariant-annotations
invariant-annotations l = record {
  rest : IsRest l.initial.tokens l.tokens;
  seen : HasSeen (keys_of l.annotations.items) l.keys;
  keys : are_distinct (keys_of l.annotations.items) ≡ true;
  parses : AnnotationsSoFar l.initial.tokens l.tokens l.annotations.items;
  left :
      (found : List (Text × Text)) (rest : List Lexeme) → AreAnnotationsUpTo (here l.initial.tokens) found rest
      → AreAnnotationsLeft (map bare_annotation l.annotations.items) found (here l.tokens) rest;
}

abbrev pub decreases-annotations : goal.decreases-annotations
decreases-annotations l = tokens_left l.tokens
