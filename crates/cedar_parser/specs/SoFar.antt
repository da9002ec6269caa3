-- What is parsed of the tokens so far: what waits, what is open and the operand stand for all tokens up to those that are left.
use Rattle.std.specs.Prelude.{◌≡◌, ◌+◌, ◌≤◌, ◌<◌, ℕ, false, List, [], ◌∷◌, Option, Some, None, ⊤}
use Rattle.cedar_names.specs.Names.{BareName}
use Rattle.cedar_terms.specs.declared.ops.UnaryOp.{UnaryOp}
use Rattle.cedar_terms.specs.declared.ops.UnaryOp.TheVariants as Unary
use Rattle.cedar_builders.specs.BareExpr.{Text, BareExpr, Is}
use Rattle.cedar_terms.specs.Precedences.{precedence_number}
use Rattle.cedar_terms.specs.declared.precedence.Precedence.{Precedence}
use Rattle.cedar_terms.specs.declared.precedence.Precedence.TheVariants as precedences
use Rattle.cedar_lexer.specs.declared.token.TokenKind.{TokenKind}
use Rattle.cedar_lexer.specs.declared.token.TokenKind.TheVariants as kinds
use Rattle.semantics_grammar.specs.Lexemes.{Lexeme, lexeme}
use Rattle.semantics_grammar.specs.Written.{IsPath, IsKey, is_number_alone}
use Rattle.semantics_grammar.specs.Grammar.{Reads, Nots, Minuses}
use Rattle.cedar_parser.specs.Waiting.{operator_of, operator_precedences, Waiting, sign, between, is_of_in, otherwise, least_operand, StandsOn, last_of, Row, members, arguments, method_arguments, Grouped, in_brackets, in_test, in_branch, in_row, in_record, Group, BareOperand}

-- so many signs before a member
abbrev pub AreSigns : UnaryOp → ℕ → List Lexeme → BareExpr → List Lexeme → Type 0
AreSigns Unary.Not n ts e rest = Nots n ts e rest
AreSigns Unary.Neg n ts e rest = Minuses n ts e rest
AreSigns Unary.IsEmpty n ts e rest = ⊥

-- the operand of a minus is no number that stands alone
abbrev pub IsNotTaken : UnaryOp → List Lexeme → Type 0
IsNotTaken Unary.Neg ts = is_number_alone ts ≡ false
IsNotTaken op ts = ⊤

-- the operand of a sign, with so many signs right before that: a member, or signs with one, so that there are four at most
abbrev pub IsSigned : UnaryOp → ℕ → Precedence → List Lexeme → BareExpr → List Lexeme → Type 0
IsSigned op before precedences.Member ts e rest = Reads precedences.Member ts e rest × IsNotTaken op ts
IsSigned op before precedences.Unary ts e rest = (n : ℕ) × (n + before < 4) × AreSigns op n ts e rest
IsSigned op before l ts e rest = ⊥

-- an expression of a precedence, as tight as is wanted
abbrev pub IsTight : ℕ → Precedence → List Lexeme → BareExpr → List Lexeme → Type 0
IsTight least l ts e rest = (least ≤ precedence_number l) × Reads l ts e rest

-- what may be the last operand of what waits
abbrev pub IsOperand : Option Waiting → Precedence → List Lexeme → BareExpr → List Lexeme → Type 0
IsOperand (Some (sign op before)) l ts e rest = IsSigned op before l ts e rest
IsOperand (Some (between o a)) l ts e rest = IsTight (least_operand (Some (between o a))) l ts e rest
IsOperand (Some (is_of_in t a)) l ts e rest = IsTight (least_operand (Some (is_of_in t a))) l ts e rest
IsOperand (Some (otherwise a b)) l ts e rest = IsTight (least_operand (Some (otherwise a b))) l ts e rest
IsOperand None l ts e rest = IsTight 0 l ts e rest

-- the token of a sign
abbrev pub IsSign : UnaryOp → TokenKind → Type 0
IsSign Unary.Not k = k ≡ kinds.Not
IsSign Unary.Neg k = k ≡ kinds.Minus
IsSign Unary.IsEmpty k = ⊥

-- the tokens are what waits, and then the rest
abbrev pub IsWaiting : List Lexeme → Waiting → List Lexeme → Type 0
IsWaiting ts (sign op before) rest =
    (k : TokenKind) × (w : List ℕ) × IsSign op k × (before < 4) × (ts ≡ lexeme k w ∷ rest)
IsWaiting ts (between o a) rest =
    (k : TokenKind) × (w : List ℕ) × (operator_of k ≡ Some o) × Reads (operator_precedences o).1 ts a (lexeme k w ∷ rest)
IsWaiting ts (is_of_in t a) rest =
    (n : BareName) × (w : List ℕ) × (v : List ℕ) × (us : List Lexeme) × (t ≡ Is a n)
    × Reads precedences.Sum ts a (lexeme kinds.Is w ∷ us) × IsPath us n (lexeme kinds.In v ∷ rest)
IsWaiting ts (otherwise a b) rest =
    (i : List ℕ) × (t : List ℕ) × (e : List ℕ) × (us : List Lexeme) × (vs : List Lexeme) × (ts ≡ lexeme kinds.If i ∷ us)
    × Reads precedences.Conditional us a (lexeme kinds.Then t ∷ vs) × Reads precedences.Conditional vs b (lexeme kinds.Else e ∷ rest)

-- the tokens are all that waits on top of this, and then the rest
abbrev pub AreWaiting : Option Waiting → List Lexeme → List Waiting → List Lexeme → Type 0
AreWaiting below ts [] rest = ts ≡ rest
AreWaiting below ts (w ∷ ws) rest = (mid : List Lexeme) × StandsOn below w × IsWaiting ts w mid × AreWaiting (Some w) mid ws rest

-- items, each with a comma behind it, and then the rest
pub data AreItems : List Lexeme → List BareExpr → List Lexeme → Type 0 where
  no_items : {rest : List Lexeme} → AreItems rest [] rest
  item : {w : List ℕ} {ts us rest : List Lexeme} {e : BareExpr} {es : List BareExpr} → Reads precedences.Conditional ts e (lexeme kinds.Comma w ∷ us)
      → AreItems us es rest → AreItems ts (e ∷ es) rest

-- fields, each with a comma behind it, and then the rest
pub data AreFields : List Lexeme → List (Text × BareExpr) → List Lexeme → Type 0 where
  no_fields : {rest : List Lexeme} → AreFields rest [] rest
  field : {l : Lexeme} {c w : List ℕ} {k : Text} {e : BareExpr} {ps : List (Text × BareExpr)} {ts us rest : List Lexeme} → IsKey l k
      → Reads precedences.Conditional ts e (lexeme kinds.Comma w ∷ us) → AreFields us ps rest
      → AreFields (l ∷ lexeme kinds.Colon c ∷ ts) ((k, e) ∷ ps) rest

-- the items of a method are its operand and its arguments
abbrev pub AreRowItems : List Lexeme → Row → List BareExpr → List Lexeme → Type 0
AreRowItems ts members es rest = (o : List ℕ) × (us : List Lexeme) × (ts ≡ lexeme kinds.OpenSquare o ∷ us) × AreItems us es rest
AreRowItems ts (arguments n) es rest =
    (w : List ℕ) × (o : List ℕ) × (us : List Lexeme) × (vs : List Lexeme) × (ts ≡ lexeme kinds.Word w ∷ vs)
    × IsPath ts n (lexeme kinds.OpenRound o ∷ us) × AreItems us es rest
AreRowItems ts (method_arguments m) es rest =
    (d : List ℕ) × (o : List ℕ) × (us : List Lexeme) × (a : BareExpr) × (bs : List BareExpr) × (es ≡ a ∷ bs)
    × Reads precedences.Member ts a (lexeme kinds.Dot d ∷ lexeme kinds.Word m ∷ lexeme kinds.OpenRound o ∷ us) × AreItems us bs rest

-- the tokens are a group as far as it is parsed, and then the rest; a conditional stands where any expression may
abbrev pub IsOpened : Option Waiting → List Lexeme → Grouped → List Lexeme → Type 0
IsOpened below ts in_brackets rest = (w : List ℕ) × (ts ≡ lexeme kinds.OpenRound w ∷ rest)
IsOpened below ts in_test rest = (i : List ℕ) × (least_operand below ≤ 0) × (ts ≡ lexeme kinds.If i ∷ rest)
IsOpened below ts (in_branch a) rest =
    (i : List ℕ) × (t : List ℕ) × (us : List Lexeme) × (least_operand below ≤ 0) × (ts ≡ lexeme kinds.If i ∷ us)
    × Reads precedences.Conditional us a (lexeme kinds.Then t ∷ rest)
IsOpened below ts (in_row row es) rest = AreRowItems ts row es rest
IsOpened below ts (in_record ps k) rest =
    (o : List ℕ) × (c : List ℕ) × (l : Lexeme) × (us : List Lexeme) × (ts ≡ lexeme kinds.OpenCurly o ∷ us)
    × AreFields us ps (l ∷ lexeme kinds.Colon c ∷ rest) × IsKey l k

-- the tokens are a group with what waits for it, and then the rest
abbrev pub IsGroup : List Lexeme → Group → List Lexeme → Type 0
IsGroup ts g rest = (mid : List Lexeme) × AreWaiting None ts g.0 mid × IsOpened (last_of None g.0) mid g.1 rest

-- the tokens are these groups, and then the rest
abbrev pub AreGroups : List Lexeme → List Group → List Lexeme → Type 0
AreGroups ts [] rest = ts ≡ rest
AreGroups ts (g ∷ gs) rest = (mid : List Lexeme) × IsGroup ts g mid × AreGroups mid gs rest

-- the tokens are the operand, if there is one, and then the rest
abbrev pub HasOperand : Option Waiting → List Lexeme → Option BareOperand → List Lexeme → Type 0
HasOperand below ts None rest = ts ≡ rest
HasOperand below ts (Some h) rest = IsOperand below h.0 ts h.1 rest

-- the tokens are the groups that are open, what waits in the last of them, the operand, and then the rest
abbrev pub IsParsedUpTo : List Lexeme → List Group → List Waiting → Option BareOperand → List Lexeme → Type 0
IsParsedUpTo ts gs ws h rest =
    (inner : List Lexeme) × (at : List Lexeme) × AreGroups ts gs inner × AreWaiting None inner ws at × HasOperand (last_of None ws) at h rest

-- the tokens are the groups that are open, what waits in the last of them, and then what passes
abbrev pub IsParsedBefore : List Lexeme → List Group → List Waiting → (Option Waiting → List Lexeme → Type 0) → Type 0
IsParsedBefore ts gs ws P = (inner : List Lexeme) × (at : List Lexeme) × AreGroups ts gs inner × AreWaiting None inner ws at × P (last_of None ws) at

-- the tokens are the groups that are open, what waits, a group as far as it is parsed, and then the rest
abbrev pub IsOpenUpTo : List Lexeme → List Group → List Waiting → Grouped → List Lexeme → Type 0
IsOpenUpTo ts gs ws g rest = IsParsedBefore ts gs ws (λ below at. IsOpened below at g rest)

-- the tokens are the groups that are open, what waits, and the fields of a record, each with a comma behind it, and then the rest
abbrev pub IsRecordUpTo : List Lexeme → List Group → List Waiting → List (Text × BareExpr) → List Lexeme → Type 0
IsRecordUpTo ts gs ws ps rest =
    IsParsedBefore ts gs ws (λ below at. (o : List ℕ) × (us : List Lexeme) × (at ≡ lexeme kinds.OpenCurly o ∷ us) × AreFields us ps rest)

-- a number that follows is no part of a minus
abbrev pub IsFree : Option Waiting → List Lexeme → Type 0
IsFree None ts = ⊤
IsFree (Some (sign op before)) ts = IsNotTaken op ts
IsFree (Some (between o a)) ts = ⊤
IsFree (Some (is_of_in t a)) ts = ⊤
IsFree (Some (otherwise a b)) ts = ⊤
