-- How tightly the texts of literals and operators bind (Cedar's file `grammar.lalrpop`).
use Rattle.std.specs.Prelude.{ℕ, Option, Some, None}
use Rattle.cedar_terms.specs.Literals.{BareLiteral, LongLit}
use Rattle.cedar_terms.specs.declared.ops.BinaryOp.{BinaryOp}
use Rattle.cedar_terms.specs.declared.ops.BinaryOp.TheVariants as Binary
use Rattle.cedar_terms.specs.declared.precedence.Precedence.{Precedence}
use Rattle.cedar_terms.specs.declared.precedence.Precedence.TheVariants as precedences

-- the precedences from the loosest on
abbrev pub precedence_number : Precedence → ℕ
precedence_number precedences.Conditional = 0
precedence_number precedences.Or = 1
precedence_number precedences.And = 2
precedence_number precedences.Relation = 3
precedence_number precedences.Sum = 4
precedence_number precedences.Product = 5
precedence_number precedences.Unary = 6
precedence_number precedences.Member = 7

-- a number counts as a sign and its operand, since it may be below 0
abbrev pub literal_precedence : BareLiteral → Precedence
literal_precedence (LongLit n) = precedences.Unary
literal_precedence l = precedences.Member

-- the precedence of an operator that stands between its operands, and those that its operands need; the others are methods
abbrev pub infix_precedences : BinaryOp → Option (Precedence × Precedence × Precedence)
infix_precedences Binary.Eq = Some (precedences.Relation, precedences.Sum, precedences.Sum)
infix_precedences Binary.Less = Some (precedences.Relation, precedences.Sum, precedences.Sum)
infix_precedences Binary.LessEq = Some (precedences.Relation, precedences.Sum, precedences.Sum)
infix_precedences Binary.In = Some (precedences.Relation, precedences.Sum, precedences.Sum)
infix_precedences Binary.Add = Some (precedences.Sum, precedences.Sum, precedences.Product)
infix_precedences Binary.Sub = Some (precedences.Sum, precedences.Sum, precedences.Product)
infix_precedences Binary.Mul = Some (precedences.Product, precedences.Product, precedences.Unary)
infix_precedences op = None
