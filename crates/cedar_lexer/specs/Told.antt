-- What is told of a failure.
use Rattle.std.specs.Prelude.{◌≡◌, ℕ, List, ⊤}
use Rattle.std.specs.Str.{IsCharBoundary}
use Rattle.cedar_lexer.specs.Places.{column_at, line_at}
use Rattle.cedar_lexer.specs.declared.error.ParseError.{ParseError}
use Rattle.cedar_lexer.specs.declared.error.ParseError.TheVariants as told
use Rattle.cedar_lexer.specs.declared.error.SyntaxError.{SyntaxError}
use Rattle.cedar_lexer.specs.declared.parse_failure.ParseFailure.{ParseFailure}
use Rattle.cedar_lexer.specs.declared.parse_failure.ParseFailure.TheVariants as failure
use Rattle.cedar_lexer.specs.declared.token.Span.{Span}

-- the error has the problem and its piece of the text, and the line and the column at which that begins
pub record IsProblemAt (text : List ℕ) (span : Span) (told : List ℕ) (e : SyntaxError) : Type 0 where
  pub problem : e.problem.now ≡ told
  pub start : e.start ≡ span.start
  pub stop : e.stop ≡ span.stop
  pub line : IsCharBoundary text span.start → e.line ≡ line_at text span.start
  pub column : IsCharBoundary text span.start → e.column ≡ column_at text span.start

-- a problem is told with its place, and if memory ran out, that is told
abbrev pub IsToldOf : ParseFailure → List ℕ → ParseError → Type 0
IsToldOf (failure.Syntax span problem) text (told.Syntax e) = IsProblemAt text span problem.now e
IsToldOf failure.Memory text told.Memory = ⊤
IsToldOf (failure.Syntax span problem) text told.Memory = ⊥
IsToldOf failure.Memory text (told.Syntax e) = ⊥

-- the failure is a problem with this piece
abbrev pub IsProblem : Span → List ℕ → ParseFailure → Type 0
IsProblem span told (failure.Syntax s problem) = (s ≡ span) × (problem.now ≡ told)
IsProblem span told failure.Memory = ⊥
