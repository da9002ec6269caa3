-- What is still to come, over the parser's own parts: the tokens that are left go on with what is open.
use Rattle.std.specs.Prelude.{◌≡◌, ℕ, List, [], ◌∷◌, ◌++◌, map, MatchResult, Option, None, Some, Result}
use Rattle.std.specs.Option.{option_map}
use Rattle.cedar_terms.specs.declared.precedence.Precedence.{Precedence}
use Rattle.cedar_terms.specs.declared.precedence.Precedence.TheVariants as precedences
use Rattle.cedar_builders.specs.BareExpr.{Text}
use Rattle.cedar_lexer.specs.declared.parse_failure.ParseFailure.{ParseFailure}
use Rattle.cedar_lexer.specs.declared.parse_failure.ParseFailure.TheVariants as failure
use Rattle.cedar_lexer.specs.declared.token_stream.TokenStream.{TokenStream}
use Rattle.semantics_grammar.specs.Lexemes.{Lexeme}
use Rattle.cedar_parser.specs.Waiting.{Row}
use Rattle.cedar_parser.specs.Ahead.{GoesOnAfter, Inside, RecordGoesOn, Rest, RowGoesOn}
use Rattle.cedar_parser.specs.Meant.{AreLexemes, HasEnd, grouped, here, open_groups, waiting, waits}
use Rattle.cedar_parser.specs.declared.groups.Group.{Group}
use Rattle.cedar_parser.specs.declared.groups.GroupKind.{GroupKind}
use Rattle.cedar_parser.specs.declared.operand.Operand.{Operand}
use Rattle.cedar_parser.specs.declared.parser.Parser.{Parser}

-- the precedence of an operand
abbrev pub precedence_of : Option Operand → Option Precedence
precedence_of = option_map (λ h. h.precedence)

-- the tokens that are left go on with what is open and the operand
pub record IsAhead (r : Parser) (h : Option Operand) (rest : List Lexeme) : Type 0 where
  pub lexemes : AreLexemes rest
  pub goes_on : GoesOnAfter (open_groups r) (waits r) (precedence_of h) rest

-- the tokens that are left go on with what is open and an operand of this precedence
pub record IsBehind (r : Parser) (l : Precedence) (rest : List Lexeme) : Type 0 where
  pub lexemes : AreLexemes rest
  pub goes_on : Rest (open_groups r) (waits r) l rest

-- the tokens that are left go on with a group that is opened
pub record IsOpening (r : Parser) (g : GroupKind) (rest : List Lexeme) : Type 0 where
  pub lexemes : AreLexemes rest
  pub goes_on : GoesOnAfter (open_groups r ++ ((waits r, grouped g) ∷ [])) [] None rest

-- they go on with a row that has so many items
pub record IsRowAhead (r : Parser) (row : Row) (n : ℕ) (rest : List Lexeme) : Type 0 where
  pub lexemes : AreLexemes rest
  pub goes_on : RowGoesOn (open_groups r) (waits r) row n rest

-- they go on with a record that has these keys
pub record IsRecordAhead (r : Parser) (ks : List Text) (rest : List Lexeme) : Type 0 where
  pub lexemes : AreLexemes rest
  pub goes_on : RecordGoesOn (open_groups r) (waits r) ks rest

-- they go on with a group behind an expression in it
pub record IsResumed (r : Parser) (g : Group) (rest : List Lexeme) : Type 0 where
  pub lexemes : AreLexemes rest
  pub goes_on : Inside (grouped g.kind) (Rest (open_groups r) (map waiting g.operations.items)) rest

-- what is left goes on, unless memory ran out
abbrev pub StaysAhead : Parser → List Lexeme → Result (Option Operand) ParseFailure → Type 0
StaysAhead r rest result = MatchResult result (λ h. IsAhead r h rest) (λ e. e ≡ failure.Memory)

-- where the tokens go on before a step, they do so behind it, unless memory ran out
abbrev pub KeepsOn : Type 0 → TokenStream → Result (Option Operand) ParseFailure → Parser → TokenStream → Type 0
KeepsOn before old result r new =
    HasEnd old → before → MatchResult result (λ h. IsAhead r h (here new) × HasEnd new) (λ e. e ≡ failure.Memory)

-- an operand that needs no brackets
abbrev pub IsMember : Option Operand → Type 0
IsMember None = ⊥
IsMember (Some h) = h.precedence ≡ precedences.Member
