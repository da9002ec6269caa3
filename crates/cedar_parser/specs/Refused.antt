-- Where a text is refused: within the tokens, of which each stands behind what is open.
use Rattle.std.specs.Prelude.{◌≡◌, ℕ, ◌≤◌, List, [], ◌∷◌, MatchResult, Option, Some, None, Result, length, max, ⊤}
use Rattle.std.specs.Str.{IsCharBoundary}
use Rattle.cedar_parser.specs.declared.groups.Group.{Group}
use Rattle.cedar_parser.specs.declared.operand.Operand.{Operand}
use Rattle.cedar_parser.specs.declared.operand.Operation.{Operation}
use Rattle.cedar_parser.specs.declared.operand.Operation.TheVariants as operations
use Rattle.cedar_parser.specs.declared.parser.Parser.{Parser}
use Rattle.cedar_lexer.specs.TokenStreams.{end_of, first_or, next_of, rest_of}
use Rattle.cedar_lexer.specs.Places.{column_at, line_at}
use Rattle.cedar_lexer.specs.declared.error.ParseError.{ParseError}
use Rattle.cedar_lexer.specs.declared.error.ParseError.TheVariants as told
use Rattle.cedar_lexer.specs.declared.error.SyntaxError.{SyntaxError}
use Rattle.cedar_lexer.specs.declared.parse_failure.ParseFailure.{ParseFailure}
use Rattle.cedar_lexer.specs.declared.parse_failure.ParseFailure.TheVariants as failure
use Rattle.cedar_lexer.specs.declared.token.Span.{Span}
use Rattle.cedar_lexer.specs.declared.token.Token.{Token}
use Rattle.cedar_lexer.specs.declared.token_stream.TokenStream.{TokenStream}

-- the failure is about this piece, or memory ran out
abbrev pub IsAbout : Span → ParseFailure → Type 0
IsAbout span (failure.Syntax s problem) = s ≡ span
IsAbout span failure.Memory = ⊤

-- the failure is about a piece that ends up to this place
abbrev pub IsWithin : ℕ → ParseFailure → Type 0
IsWithin stop (failure.Syntax s problem) = (s.start ≤ s.stop) × (s.stop ≤ stop)
IsWithin stop failure.Memory = ⊤

-- the error tells of a piece of the text, and the line and the column at which that begins
pub record IsPieceIn (text : List ℕ) (e : SyntaxError) : Type 0 where
  pub begins : e.start ≤ e.stop
  pub ends : e.stop ≤ length text
  pub line : IsCharBoundary text e.start → e.line ≡ line_at text e.start
  pub column : IsCharBoundary text e.start → e.column ≡ column_at text e.start

-- the error tells of a piece of the text, or memory ran out
abbrev pub IsToldIn : List ℕ → ParseError → Type 0
IsToldIn text (told.Syntax e) = IsPieceIn text e
IsToldIn text told.Memory = ⊤

-- the greatest number that the items give, or 0
abbrev pub greatest : {A : Type 0} → (A → ℕ) → List A → ℕ
greatest f [] = 0
greatest f (x ∷ xs) = max (f x) (greatest f xs)

-- where an operation begins
abbrev pub start_of : Operation → ℕ
start_of (operations.Prefix op start before) = start
start_of (operations.Infix sign first) = first.span.start
start_of (operations.IsIn is first) = is.span.start
start_of (operations.Else start test first) = start

-- where the last begins of a group and the operations that wait for it
abbrev pub group_start : Group → ℕ
group_start g = max g.start (greatest start_of g.operations.items)

-- where the last begins of what is open
abbrev pub open_start : Parser → ℕ
open_start r = max (greatest start_of r.operations.items) (greatest group_start r.groups.items)

-- where an operand begins, if there is one
abbrev pub operand_start : Option Operand → ℕ
operand_start None = 0
operand_start (Some h) = h.span.start

-- the operand and what is open begin up to this place
pub record IsUpTo (at : ℕ) (r : Parser) (h : Option Operand) : Type 0 where
  pub opened : open_start r ≤ at
  pub operand : operand_start h ≤ at

-- each token begins where the one before it ends, or later
abbrev pub AreInOrder : Token → List Token → Type 0
AreInOrder end [] = end.span.start ≤ end.span.stop
AreInOrder end (t ∷ ts) = (t.span.start ≤ t.span.stop) × (t.span.stop ≤ (first_or end ts).span.start) × AreInOrder end ts

-- where the next token begins
abbrev pub next_start : TokenStream → ℕ
next_start t = (next_of t).span.start

-- where the tokens end
abbrev pub stop_of : TokenStream → ℕ
stop_of t = (end_of t).span.stop

-- the tokens that are left are in order, from this place on
pub record IsBefore (at : ℕ) (tokens : TokenStream) : Type 0 where
  pub next : at ≤ next_start tokens
  pub piece : next_start tokens ≤ (next_of tokens).span.stop
  pub fits : (next_of tokens).span.stop ≤ stop_of tokens
  pub order : AreInOrder (end_of tokens) (rest_of tokens)

-- of the tokens some are left, from this place on
pub record IsLeft (at : ℕ) (old new : TokenStream) : Type 0 where
  pub before : IsBefore at new
  pub stop : stop_of new ≡ stop_of old

-- the token stands at this place or later, and those that are left behind it
pub record IsFirst (at : ℕ) (t : Token) (tokens : TokenStream) : Type 0 where
  pub first : at ≤ t.span.start
  pub piece : t.span.start ≤ t.span.stop
  pub fits : t.span.stop ≤ stop_of tokens
  pub before : IsBefore t.span.stop tokens

-- a path begins at this place, and what is left stands behind it
pub record IsPath (at : ℕ) (span : Span) (old new : TokenStream) : Type 0 where
  pub start : span.start ≡ at
  pub piece : span.start ≤ span.stop
  pub left : IsLeft span.stop old new

-- what is left stands behind what is open and the operand
abbrev pub GoesOn : TokenStream → TokenStream → Parser → Option Operand → Type 0
GoesOn old new r h = IsLeft (max (open_start r) (operand_start h)) old new

-- how a step ends: what is left stands behind what is open and the operand, or the failure is about a piece of the text
abbrev pub IsStep : TokenStream → TokenStream → Parser → Result (Option Operand) ParseFailure → Type 0
IsStep old new r result = MatchResult result (GoesOn old new r) (IsWithin (stop_of old))
