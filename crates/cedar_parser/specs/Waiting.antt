-- Operations whose last operand is not parsed yet, and groups that are open, by their trees.
use Rattle.std.specs.Prelude.{◌≡◌, ◌&&◌, Bool, codes, ◌≤◌, ◌<◌, ℕ, suc, List, [], ◌∷◌, Option, Some, None, ⊤, unwrap_or}
use Rattle.std.specs.Str.{bytes_eq}
use Rattle.cedar_names.specs.Names.{BareName, IsNameOf}
use Rattle.cedar_terms.specs.declared.ops.BinaryOp.{BinaryOp}
use Rattle.cedar_terms.specs.declared.ops.BinaryOp.TheVariants as Binary
use Rattle.cedar_terms.specs.declared.ops.UnaryOp.{UnaryOp}
use Rattle.cedar_terms.specs.declared.ops.UnaryOp.TheVariants as Unary
use Rattle.cedar_builders.specs.BareExpr.{Text, BareExpr, If, And, Or, UnaryApp, BinaryApp, Set, trees_of}
use Rattle.semantics_grammar.specs.Written.{function_tree, is_nil, method_tree}
use Rattle.cedar_terms.specs.Precedences.{infix_precedences, precedence_number}
use Rattle.cedar_terms.specs.declared.precedence.Precedence.{Precedence}
use Rattle.cedar_terms.specs.declared.precedence.Precedence.TheVariants as precedences
use Rattle.cedar_lexer.specs.declared.token.TokenKind.{TokenKind}
use Rattle.cedar_lexer.specs.declared.token.TokenKind.TheVariants as kinds

-- an operator between two operands
pub data Operator : Type 0 where
  either : Operator
  both : Operator
  plain : BinaryOp → Operator
  negated : BinaryOp → Operator

-- the operator that a token is
abbrev pub operator_of : TokenKind → Option Operator
operator_of kinds.OrSign = Some either
operator_of kinds.AndSign = Some both
operator_of kinds.Equal = Some (plain Binary.Eq)
operator_of kinds.NotEqual = Some (negated Binary.Eq)
operator_of kinds.Less = Some (plain Binary.Less)
operator_of kinds.LessEqual = Some (plain Binary.LessEq)
operator_of kinds.Greater = Some (negated Binary.LessEq)
operator_of kinds.GreaterEqual = Some (negated Binary.Less)
operator_of kinds.In = Some (plain Binary.In)
operator_of kinds.Plus = Some (plain Binary.Add)
operator_of kinds.Minus = Some (plain Binary.Sub)
operator_of kinds.Times = Some (plain Binary.Mul)
operator_of k = None

-- an operator between two trees
abbrev pub operator_tree : Operator → BareExpr → BareExpr → BareExpr
operator_tree either a b = Or a b
operator_tree both a b = And a b
operator_tree (plain op) a b = BinaryApp op a b
operator_tree (negated op) a b = UnaryApp Unary.Not (BinaryApp op a b)

-- its precedence, and those that its operands need
abbrev pub operator_precedences : Operator → Precedence × Precedence × Precedence
operator_precedences either = (precedences.Or, precedences.Or, precedences.And)
operator_precedences both = (precedences.And, precedences.And, precedences.Relation)
operator_precedences (plain op) = unwrap_or (infix_precedences op) (precedences.Relation, precedences.Sum, precedences.Sum)
operator_precedences (negated op) = unwrap_or (infix_precedences op) (precedences.Relation, precedences.Sum, precedences.Sum)

-- an operation without its last operand: a sign, and how many signs stand right before it; an operator behind its left operand; `a is T in`, with the tree
-- of `a is T`; a conditional up to `else`
pub data Waiting : Type 0 where
  sign : UnaryOp → ℕ → Waiting
  between : Operator → BareExpr → Waiting
  is_of_in : BareExpr → BareExpr → Waiting
  otherwise : BareExpr → BareExpr → Waiting

-- the operation with its last operand
abbrev pub waiting_tree : Waiting → BareExpr → BareExpr
waiting_tree (sign op n) e = UnaryApp op e
waiting_tree (between o a) e = operator_tree o a e
waiting_tree (is_of_in t a) e = And t (BinaryApp Binary.In a e)
waiting_tree (otherwise a b) e = If a b e

-- its precedence
abbrev pub waiting_precedence : Waiting → Precedence
waiting_precedence (sign op n) = precedences.Unary
waiting_precedence (between o a) = (operator_precedences o).0
waiting_precedence (is_of_in t a) = precedences.Relation
waiting_precedence (otherwise a b) = precedences.Conditional

-- the least precedence of its last operand, as a number; nothing but a sign stands on a sign
abbrev pub least_operand : Option Waiting → ℕ
least_operand None = 0
least_operand (Some (sign op n)) = 7
least_operand (Some (between o a)) = precedence_number (operator_precedences o).2
least_operand (Some (is_of_in t a)) = 4
least_operand (Some (otherwise a b)) = 0

-- what may wait on top of what: signs alike are counted, and all else binds as tightly as what is below wants
abbrev pub StandsOn : Option Waiting → Waiting → Type 0
StandsOn (Some (sign op n)) (sign p m) = (op ≡ p) × (m ≡ suc n)
StandsOn None (sign p m) = m ≡ 0
StandsOn (Some (between o a)) (sign p m) = m ≡ 0
StandsOn (Some (is_of_in t a)) (sign p m) = m ≡ 0
StandsOn (Some (otherwise a b)) (sign p m) = m ≡ 0
StandsOn below w = least_operand below ≤ precedence_number (waiting_precedence w)

-- the last of those that wait
abbrev pub last_of : Option Waiting → List Waiting → Option Waiting
last_of below [] = below
last_of below (w ∷ ws) = last_of (Some w) ws

-- rows that are open
pub data Row : Type 0 where
  members : Row
  arguments : BareName → Row
  method_arguments : Text → Row

-- groups that are open
pub data Grouped : Type 0 where
  in_brackets : Grouped
  in_test : Grouped
  in_branch : BareExpr → Grouped
  in_row : Row → List BareExpr → Grouped
  in_record : List (Text × BareExpr) → Text → Grouped

-- a group, and what waits for it
abbrev pub Group : Type 0
Group = List Waiting × Grouped

-- an operand that was parsed: its precedence and its tree
abbrev pub BareOperand : Type 0
BareOperand = Precedence × BareExpr

-- the bracket at the end of a row
abbrev pub closing_of : Row → TokenKind
closing_of members = kinds.CloseSquare
closing_of (arguments n) = kinds.CloseRound
closing_of (method_arguments m) = kinds.CloseRound

-- the tree of a row with all its items; the first item of a method is its operand, so there is one, and the method has the name of its text
abbrev pub IsRowTree : Row → List BareExpr → BareExpr → Type 0
IsRowTree members es t = t ≡ Set (trees_of es)
IsRowTree (arguments n) es t = t ≡ function_tree n (trees_of es)
IsRowTree (method_arguments m) [] t = ⊤
IsRowTree (method_arguments m) (a ∷ bs) t = (n : BareName) × IsNameOf m n × (method_tree m n a (trees_of bs) ≡ Some t)

-- what waits last binds less tightly than this precedence
abbrev pub IsBelow : Precedence → Option Waiting → Type 0
IsBelow l None = ⊤
IsBelow l (Some w) = precedence_number (waiting_precedence w) < precedence_number l

-- an operator of the only item
abbrev pub IsUnaryOf : UnaryOp → List BareExpr → BareExpr → Type 0
IsUnaryOf op es t = (a : BareExpr) × (es ≡ a ∷ []) × (t ≡ UnaryApp op a)

-- an operator of the only two items
abbrev pub IsBinaryOf : BinaryOp → List BareExpr → BareExpr → Type 0
IsBinaryOf op es t = (a : BareExpr) × (b : BareExpr) × (es ≡ a ∷ b ∷ []) × (t ≡ BinaryApp op a b)

-- the function whose calls with a text are unknowns
abbrev pub is_unknown_name : BareName → Bool
is_unknown_name n = is_nil n.path && bytes_eq n.basename (codes "unknown")
