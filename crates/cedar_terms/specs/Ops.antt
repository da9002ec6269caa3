-- The texts and the places in their orders of operators and variables (Cedar's files `ops.rs` and
-- `expr.rs`).
use Rattle.std.specs.Prelude.{ℕ, List, codes}
use Rattle.cedar_names.specs.declared.slot.PrincipalOrResource.{PrincipalOrResource}
use Rattle.cedar_names.specs.declared.slot.PrincipalOrResource.TheVariants as Scope
use Rattle.cedar_terms.specs.declared.ops.UnaryOp.{UnaryOp}
use Rattle.cedar_terms.specs.declared.ops.UnaryOp.TheVariants as Unary
use Rattle.cedar_terms.specs.declared.ops.BinaryOp.{BinaryOp}
use Rattle.cedar_terms.specs.declared.ops.BinaryOp.TheVariants as Binary
use Rattle.cedar_terms.specs.declared.var.Var.{Var}
use Rattle.cedar_terms.specs.declared.var.Var.TheVariants as Variable

abbrev pub unary_op_text : UnaryOp → List ℕ
unary_op_text Unary.Not = codes "!"
unary_op_text Unary.Neg = codes "-"
unary_op_text Unary.IsEmpty = codes "isEmpty"

-- the text of a binary operator
abbrev pub binary_op_text : BinaryOp → List ℕ
binary_op_text Binary.Eq = codes "=="
binary_op_text Binary.Less = codes "<"
binary_op_text Binary.LessEq = codes "<="
binary_op_text Binary.Add = codes "+"
binary_op_text Binary.Sub = codes "-"
binary_op_text Binary.Mul = codes "*"
binary_op_text Binary.In = codes "in"
binary_op_text Binary.Contains = codes "contains"
binary_op_text Binary.ContainsAll = codes "containsAll"
binary_op_text Binary.ContainsAny = codes "containsAny"
binary_op_text Binary.GetTag = codes "getTag"
binary_op_text Binary.HasTag = codes "hasTag"

-- the text of a variable
abbrev pub var_text : Var → List ℕ
var_text Variable.Principal = codes "principal"
var_text Variable.Action = codes "action"
var_text Variable.Resource = codes "resource"
var_text Variable.Context = codes "context"

-- the place of a unary operator among them, from 0 on
abbrev pub unary_op_number : UnaryOp → ℕ
unary_op_number Unary.Not = 0
unary_op_number Unary.Neg = 1
unary_op_number Unary.IsEmpty = 2

-- the place of a binary operator among them, from 0 on
abbrev pub binary_op_number : BinaryOp → ℕ
binary_op_number Binary.Eq = 0
binary_op_number Binary.Less = 1
binary_op_number Binary.LessEq = 2
binary_op_number Binary.Add = 3
binary_op_number Binary.Sub = 4
binary_op_number Binary.Mul = 5
binary_op_number Binary.In = 6
binary_op_number Binary.Contains = 7
binary_op_number Binary.ContainsAll = 8
binary_op_number Binary.ContainsAny = 9
binary_op_number Binary.GetTag = 10
binary_op_number Binary.HasTag = 11

-- the place of a variable among them, from 0 on
abbrev pub var_number : Var → ℕ
var_number Variable.Principal = 0
var_number Variable.Action = 1
var_number Variable.Resource = 2
var_number Variable.Context = 3

-- the variable of the principal or the resource
abbrev pub var_of : PrincipalOrResource → Var
var_of Scope.Principal = Variable.Principal
var_of Scope.Resource = Variable.Resource
