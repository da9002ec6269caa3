-- The type of a tree, as far as it is known without evaluation (`try_type_of` of Cedar's `expr.rs`).
use Rattle.std.specs.Prelude.{if◌then◌else◌, Option, Some, None}
use Rattle.std.specs.Option.{option_map}
use Rattle.cedar_names.specs.Names.{BareName}
use Rattle.cedar_terms.specs.SchemaTypes.{value_type}
use Rattle.cedar_terms.specs.TypeOrder.{type_eq}
use Rattle.cedar_terms.specs.Types.{BareType, BoolType, LongType, SetType, RecordType, literal_type}
use Rattle.cedar_terms.specs.declared.ops.BinaryOp.{BinaryOp}
use Rattle.cedar_terms.specs.declared.ops.BinaryOp.TheVariants.{Add, Sub, Mul, GetTag}
use Rattle.cedar_terms.specs.declared.ops.UnaryOp.{UnaryOp}
use Rattle.cedar_terms.specs.declared.ops.UnaryOp.TheVariants.{Neg}
use Rattle.cedar_builders.specs.BareExpr.{BareExpr, Lit, Unknown, If, And, Or, UnaryApp, BinaryApp, ExtensionFunctionApp, HasAttr, Like, Set, Record, Is}
use Rattle.cedar_validation.specs.Tables.{ReturnTypes}

-- the type of both, if both have one and it is the same
abbrev pub common : Option BareType → Option BareType → Option BareType
common (Some t) (Some s) = if type_eq t s then Some t else None
common t s = None

-- of what an operator on one argument gives
abbrev pub unary_type : UnaryOp → BareType
unary_type Neg = LongType
unary_type op = BoolType

-- of what an operator on two arguments gives; that of a tag is not known
abbrev pub binary_type : BinaryOp → Option BareType
binary_type Add = Some LongType
binary_type Sub = Some LongType
binary_type Mul = Some LongType
binary_type GetTag = None
binary_type op = Some BoolType

-- of what a call gives: that of the values of the declared return type
abbrev pub call_type : ReturnTypes → BareName → Option BareType
call_type return_type_at name = option_map value_type (return_type_at name)

-- of a node whose type does not depend on its children's
abbrev pub node_type : ReturnTypes → BareExpr → Option BareType
node_type return_type_at (Lit l) = Some (literal_type l)
node_type return_type_at (Unknown n t) = t
node_type return_type_at (And a b) = Some BoolType
node_type return_type_at (Or a b) = Some BoolType
node_type return_type_at (UnaryApp op a) = Some (unary_type op)
node_type return_type_at (BinaryApp op a b) = binary_type op
node_type return_type_at (ExtensionFunctionApp n es) = call_type return_type_at n
node_type return_type_at (HasAttr a k ks) = Some BoolType
node_type return_type_at (Like a p) = Some BoolType
node_type return_type_at (Set es) = Some SetType
node_type return_type_at (Record fs) = Some RecordType
node_type return_type_at (Is a n) = Some BoolType
node_type return_type_at e = None

-- of a tree: an `if` has the common type of its two branches
abbrev pub type_of_tree : ReturnTypes → BareExpr → Option BareType
type_of_tree return_type_at (If a b c) = common (type_of_tree return_type_at b) (type_of_tree return_type_at c)
type_of_tree return_type_at e = node_type return_type_at e
