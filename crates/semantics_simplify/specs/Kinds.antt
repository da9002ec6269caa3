-- Trees that can only be Booleans, by their root.
use Rattle.std.specs.Prelude.{Bool, true, false, is_some}
use Rattle.cedar_terms.specs.declared.ops.UnaryOp.{UnaryOp}
use Rattle.cedar_terms.specs.declared.ops.UnaryOp.TheVariants as Unary
use Rattle.cedar_terms.specs.declared.ops.BinaryOp.{BinaryOp}
use Rattle.cedar_terms.specs.declared.ops.BinaryOp.TheVariants as Binary
use Rattle.cedar_builders.specs.BareExpr.{BareExpr, Lit, And, Or, UnaryApp, BinaryApp, HasAttr, Like, Is}
use Rattle.cedar_builders.specs.Trees.{literal_bool}

-- whether an operator gives only Booleans
abbrev pub is_unary_test : UnaryOp → Bool
is_unary_test Unary.Neg = false
is_unary_test o = true

-- whether an operator on two values gives only Booleans
abbrev pub is_binary_test : BinaryOp → Bool
is_binary_test Binary.Add = false
is_binary_test Binary.Sub = false
is_binary_test Binary.Mul = false
is_binary_test Binary.GetTag = false
is_binary_test o = true

-- whether a tree, by its root, can only be a Boolean or a fault
abbrev pub is_boolean_kind : BareExpr → Bool
is_boolean_kind (Lit l) = is_some (literal_bool l)
is_boolean_kind (And a b) = true
is_boolean_kind (Or a b) = true
is_boolean_kind (UnaryApp o a) = is_unary_test o
is_boolean_kind (BinaryApp o a b) = is_binary_test o
is_boolean_kind (HasAttr a k ks) = true
is_boolean_kind (Like a p) = true
is_boolean_kind (Is a n) = true
is_boolean_kind e = false
