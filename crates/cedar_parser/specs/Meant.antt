-- What the parser's parts mean, and what it has parsed.
use Rattle.std.specs.Prelude.{◌≡◌, ◌++◌, ◌⊎◌, ℕ, List, [], ◌∷◌, map, Option, None, Some, Result, IfOk, IsTrue, ⊤}
use Rattle.std.specs.Global.{Global}
use Rattle.std.specs.declared.rc.RcStr.{RcStr}
use Rattle.std.specs.Option.{option_map}
use Rattle.std.specs.HashMap.{get_by, HashMap}
use Rattle.std.proofs.Common.{BuildHasherDefault, FoldHasher}
use Rattle.std.specs.Str.{bytes_eq}
use Rattle.std.specs.Rc.{rc_str_bytes}
use Rattle.cedar_terms.specs.declared.ops.UnaryOp.TheVariants as Unary
use Rattle.cedar_names.specs.PlainNames.{bare_name}
use Rattle.cedar_builders.specs.Keys.{are_distinct, in_key_order, meant_pairs}
use Rattle.cedar_builders.specs.BareExpr.{Text, BareExpr, Record, fields_of}
use Rattle.cedar_exprs.specs.declared.expr.Expr.{Expr}
use Rattle.cedar_exprs.specs.BareExpr.{bare_expr}
use Rattle.cedar_terms.specs.declared.precedence.Precedence.{Precedence}
use Rattle.cedar_terms.specs.declared.precedence.Precedence.TheVariants as precedences
use Rattle.cedar_lexer.specs.Grammar.{IsTokenText}
use Rattle.cedar_lexer.specs.TokenStreams.{end_of, rest_of}
use Rattle.cedar_lexer.specs.TokenPlaces.{AreTokens}
use Rattle.cedar_lexer.specs.declared.parse_failure.ParseFailure.{ParseFailure}
use Rattle.cedar_lexer.specs.declared.token.TokenKind.{TokenKind}
use Rattle.cedar_lexer.specs.declared.token.TokenKind.TheVariants as kinds
use Rattle.cedar_lexer.specs.declared.token.Token.{Token}
use Rattle.cedar_lexer.specs.declared.token_stream.TokenStream.{TokenStream}
use Rattle.semantics_grammar.specs.Written.{AreKeys, IsKey}
use Rattle.semantics_grammar.specs.Grammar.{Primary, Stands}
use Rattle.semantics_grammar.specs.Lexemes.{Lexeme, lexeme, lexeme_of, lexemes_of}
use Rattle.cedar_parser.specs.Waiting.{Operator, either, both, plain, negated, Waiting, sign, between, is_of_in, otherwise, last_of, Row, members, arguments, method_arguments, Grouped, in_brackets, in_test, in_branch, in_row, in_record, Group as OpenGroup, BareOperand, IsBelow, IsRowTree, closing_of}
use Rattle.cedar_parser.specs.SoFar.{IsOpenUpTo, IsParsedUpTo, IsRecordUpTo}
use Rattle.cedar_parser.specs.declared.groups.Group.{Group}
use Rattle.cedar_parser.specs.declared.groups.GroupKind.{GroupKind}
use Rattle.cedar_parser.specs.declared.groups.GroupKind.TheVariants as groups
use Rattle.cedar_parser.specs.declared.groups.RowKind.{RowKind}
use Rattle.cedar_parser.specs.declared.groups.RowKind.TheVariants as rows
use Rattle.cedar_parser.specs.declared.operand.Operand.{Operand}
use Rattle.cedar_parser.specs.declared.operand.Operation.{Operation}
use Rattle.cedar_parser.specs.declared.operand.Operation.TheVariants as operations
use Rattle.cedar_parser.specs.declared.infix.Infix.{Infix}
use Rattle.cedar_parser.specs.declared.infix.Infix.TheVariants as infixes
use Rattle.cedar_parser.specs.declared.nodes.Nodes.{Nodes}
use Rattle.cedar_parser.specs.declared.parser.Parser.{Parser}

abbrev pub operator : Infix → Operator
operator infixes.Or = either
operator infixes.And = both
operator (infixes.Plain op) = plain op
operator (infixes.Negated op) = negated op

abbrev pub waiting : Operation → Waiting
waiting (operations.Prefix op start before) = sign op before
waiting (operations.Infix op first) = between (operator op) (bare_expr first.expr)
waiting (operations.IsIn is first) = is_of_in (bare_expr is.expr) (bare_expr first)
waiting (operations.Else start test first) = otherwise (bare_expr test) (bare_expr first)

abbrev pub row_of : RowKind → Row
row_of rows.Set = members
row_of (rows.Function name) = arguments (bare_name name)
row_of (rows.Method m) = method_arguments (rc_str_bytes m)

abbrev pub grouped : GroupKind → Grouped
grouped groups.Round = in_brackets
grouped groups.If = in_test
grouped (groups.Then test) = in_branch (bare_expr test)
grouped (groups.Row kind items) = in_row (row_of kind) (map bare_expr items.items)
grouped (groups.Record pairs key) = in_record (meant_pairs bare_expr pairs.items) (rc_str_bytes key)

-- what waits for a group, and the group
abbrev pub open_group : Group → OpenGroup
open_group g = (map waiting g.operations.items, grouped g.kind)

abbrev pub bare_operand : Operand → BareOperand
bare_operand h = (h.precedence, bare_expr h.expr)

-- no name has a value
abbrev pub HasNone : HashMap (RcStr Global) (Expr Unit) (BuildHasherDefault FoldHasher) → Type 0
HasNone m = (k : List ℕ) → get_by (λ s. bytes_eq k (rc_str_bytes s)) m ≡ None

abbrev pub HasNoValues : Nodes → Type 0
HasNoValues n = HasNone n.values.now

-- what waits
abbrev pub waits : Parser → List Waiting
waits r = map waiting r.operations.items

abbrev pub open_groups : Parser → List OpenGroup
open_groups r = map open_group r.groups.items

-- each is a token of its kind
abbrev pub AreLexemes : List Lexeme → Type 0
AreLexemes [] = ⊤
AreLexemes (lexeme k w ∷ ts) = IsTokenText w k × AreLexemes ts

-- the tokens are what is open and the operand, and then the rest
pub record IsParsed (ts : List Lexeme) (r : Parser) (h : Option Operand) (rest : List Lexeme) : Type 0 where
  pub no_values : HasNoValues r.nodes
  pub lexemes : AreLexemes rest
  pub so_far : IsParsedUpTo ts (open_groups r) (waits r) (option_map bare_operand h) rest

-- the tokens are what is open, a minus, and then the rest
pub record IsParsedBehindMinus (ts : List Lexeme) (r : Parser) (rest : List Lexeme) : Type 0 where
  pub no_values : HasNoValues r.nodes
  pub lexemes : AreLexemes rest
  pub before : ℕ
  pub so_far : IsParsedUpTo ts (open_groups r) (waits r ++ (sign Unary.Neg before ∷ [])) None rest

-- the tokens are what is open, a group as far as it is parsed, and then the rest
pub record IsOpenParsed (ts : List Lexeme) (r : Parser) (g : GroupKind) (rest : List Lexeme) : Type 0 where
  pub no_values : HasNoValues r.nodes
  pub lexemes : AreLexemes rest
  pub so_far : IsOpenUpTo ts (open_groups r) (waits r) (grouped g) rest

-- the tokens are what is open, the fields of a record, each with a comma behind it, and then the rest
pub record IsRecordParsed (ts : List Lexeme) (r : Parser) (ps : List (RcStr Global × Expr Unit)) (rest : List Lexeme) : Type 0 where
  pub no_values : HasNoValues r.nodes
  pub lexemes : AreLexemes rest
  pub so_far : IsRecordUpTo ts (open_groups r) (waits r) (meant_pairs bare_expr ps) rest

-- the tokens are what is open, a group in which nothing waits, its operand, and then the rest
pub record IsClosing (ts : List Lexeme) (r : Parser) (g : Group) (e : Expr Unit) (rest : List Lexeme) : Type 0 where
  pub no_values : HasNoValues r.nodes
  pub lexemes : AreLexemes rest
  pub precedence : Precedence
  pub so_far : IsParsedUpTo ts (open_groups r ++ (open_group g ∷ [])) [] (Some (precedence, bare_expr e)) rest

-- the tokens that are not taken yet
abbrev pub here : TokenStream → List Lexeme
here t = lexemes_of (rest_of t)

-- a token, and then those that are not taken yet
abbrev pub from : Token → TokenStream → List Lexeme
from t ts = lexeme_of t ∷ here ts

-- the place behind the last token is no token
abbrev pub HasEnd : TokenStream → Type 0
HasEnd t = (end_of t).kind ≡ kinds.End

-- what was parsed before is parsed on, up to the tokens that are left
abbrev pub ParsesOn : (List Lexeme → Type 0) → TokenStream → Result (Option Operand) ParseFailure → Parser → TokenStream → Type 0
ParsesOn before old result r new =
    (ts : List Lexeme) → HasEnd old → before ts → IfOk result (λ h. IsParsed ts r h (here new) × HasEnd new)

-- the last that waits binds less tightly than the precedence
abbrev pub WaitsBelow : Precedence → Parser → Type 0
WaitsBelow l r = IsBelow l (last_of None (waits r))

-- one that waited is taken
abbrev pub IsPopped : Parser → Operation → Parser → Type 0
IsPopped old o new =
    (old.operations.items ≡ new.operations.items ++ (o ∷ [])) × (new.groups ≡ old.groups) × (new.nodes ≡ old.nodes)

-- one more waits
abbrev pub IsPushed : Parser → Operation → Parser → Type 0
IsPushed old o new =
    (new.operations.items ≡ old.operations.items ++ (o ∷ [])) × (new.groups ≡ old.groups) × (new.nodes ≡ old.nodes)

-- what waits last is no minus
abbrev pub IsNoMinus : Option Waiting → Type 0
IsNoMinus None = ⊤
IsNoMinus (Some (sign Unary.Neg n)) = ⊥
IsNoMinus (Some w) = ⊤

-- it is a minus
abbrev pub IsMinus : Waiting → Type 0
IsMinus w = (n : ℕ) × (w ≡ sign Unary.Neg n)

abbrev pub HasNoMinus : Parser → Type 0
HasNoMinus r = IsNoMinus (last_of None (waits r))

-- a minus that waited last is taken
abbrev pub IsMinusPopped : Parser → Parser → Type 0
IsMinusPopped old new =
    (n : ℕ) × (waits old ≡ waits new ++ (sign Unary.Neg n ∷ [])) × (new.groups ≡ old.groups) × (new.nodes ≡ old.nodes)

-- the kind of the first token
abbrev pub first_kind : List Lexeme → TokenKind
first_kind [] = kinds.End
first_kind (lexeme k w ∷ ts) = k

abbrev pub IsTestKind : TokenKind → Type 0
IsTestKind k = (k ≡ kinds.Has) ⊎ ((k ≡ kinds.Like) ⊎ (k ≡ kinds.Is))

-- an operand that is a whole row
abbrev pub IsRowOperand : Row → List BareExpr → Option Operand → Type 0
IsRowOperand row es None = ⊥
IsRowOperand row es (Some h) = (h.precedence ≡ precedences.Member) × IsRowTree row es (bare_expr h.expr)

-- the tree of a record with these fields, of which each key stands once
abbrev pub IsRecordTree : List (Text × BareExpr) → BareExpr → Type 0
IsRecordTree ps e = IsTrue (are_distinct (map (λ p. p.0) ps)) × (e ≡ Record (fields_of (in_key_order ps)))

abbrev pub IsRecordOperand : List (Text × BareExpr) → Option Operand → Type 0
IsRecordOperand ps None = ⊥
IsRecordOperand ps (Some h) = (h.precedence ≡ precedences.Member) × IsRecordTree ps (bare_expr h.expr)

-- a token of this kind goes on with the group, or ends it
abbrev pub Takes : Grouped → TokenKind → Type 0
Takes in_brackets k = k ≡ kinds.CloseRound
Takes in_test k = k ≡ kinds.Then
Takes (in_branch e) k = k ≡ kinds.Else
Takes (in_row row es) k = (k ≡ kinds.Comma) ⊎ (k ≡ closing_of row)
Takes (in_record ps key) k = (k ≡ kinds.Comma) ⊎ (k ≡ kinds.CloseCurly)

-- a key is taken
abbrev pub IsKeyTaken : TokenStream → RcStr Global → TokenStream → Type 0
IsKeyTaken old k new =
    (l : Lexeme) × IsKey l (rc_str_bytes k) × (here old ≡ l ∷ here new) × AreLexemes (here new) × (end_of new ≡ end_of old)

-- further keys are taken, each with a dot before it
pub record AreKeysTaken (old : TokenStream) (ks : List Text) (new : TokenStream) : Type 0 where
  pub keys : (ts : List Lexeme) (k : Text) → AreKeys ts k [] (here old) → AreKeys ts k ks (here new)
  pub lexemes : AreLexemes (here new)
  pub end : end_of new ≡ end_of old

-- a primary is taken, and what is left are tokens
abbrev pub IsLeafTaken : List Lexeme → Expr Unit → TokenStream → TokenStream → Type 0
IsLeafTaken ts e old new = Primary ts (bare_expr e) (here new) × AreLexemes (here new) × (end_of new ≡ end_of old)

-- the text is tokens that stand for this tree
abbrev pub IsParse : List ℕ → BareExpr → Type 0
IsParse text e = (ts : List Token) × AreTokens text ts × Stands (lexemes_of ts) e
