-- The order of trees by their shape (`cmp_shape` and `variant_order` of Cedar's `expr.rs`).
use Rattle.std.specs.Prelude.{ℕ, List, [], ◌∷◌, length}
use Rattle.std.specs.Cmp.Lexicographic.{slice_cmp}
use Rattle.std.specs.Option.{option_cmp}
use Rattle.std.specs.Ordering.{nat_cmp, ordering_then}
use Rattle.std.specs.declared.cmp.Ordering.{Ordering}
use Rattle.std.specs.declared.cmp.Ordering.TheVariants.{Less, Equal, Greater}
use Rattle.cedar_names.specs.NameOrder.{name_cmp}
use Rattle.cedar_names.specs.declared.slot.SlotId.{SlotId}
use Rattle.cedar_names.specs.declared.slot.SlotId.TheVariants.{Principal, Resource}
use Rattle.cedar_terms.specs.LiteralOrder.{literal_cmp}
use Rattle.cedar_terms.specs.Ops.{var_number, unary_op_number, binary_op_number}
use Rattle.cedar_terms.specs.PatternOrder.{pattern_cmp}
use Rattle.cedar_terms.specs.TypeOrder.{type_cmp}
use Rattle.cedar_builders.specs.BareExpr.{Text, BareExpr, Lit, Var, Slot, Unknown, If, And, Or, UnaryApp, BinaryApp, ExtensionFunctionApp, GetAttr, HasAttr, Like, Set, Record, Is, BareExprs, no_trees, tree, BareFields, no_fields, field}
use Rattle.cedar_builders.specs.Walks.{members_of, values_of}

-- the kinds in their order, in which a test for more than one attribute has 12
abbrev pub kind_index : BareExpr → ℕ
kind_index (Lit l) = 0
kind_index (Var v) = 1
kind_index (Slot s) = 2
kind_index (Unknown n t) = 3
kind_index (If a b c) = 4
kind_index (And a b) = 5
kind_index (Or a b) = 6
kind_index (UnaryApp o a) = 7
kind_index (BinaryApp o a b) = 8
kind_index (ExtensionFunctionApp n es) = 9
kind_index (GetAttr a k) = 10
kind_index (HasAttr a k ks) = 11
kind_index (Like a p) = 13
kind_index (Set es) = 14
kind_index (Record fs) = 15
kind_index (Is a n) = 16

-- the number of a test for attributes, by those behind the first
abbrev pub has_number : List Text → ℕ
has_number [] = 11
has_number (k ∷ ks) = 12

-- the number that a tree compares by first
abbrev pub kind_number : BareExpr → ℕ
kind_number (HasAttr a k ks) = has_number ks
kind_number e = kind_index e

-- the slots in their order
abbrev pub slot_number : SlotId → ℕ
slot_number Principal = 0
slot_number Resource = 1

-- how many members, and how many fields
abbrev pub row_count : BareExprs → ℕ
row_count es = length (members_of es)

abbrev pub field_count : BareFields → ℕ
field_count fs = length (values_of fs)

-- the first of two answers that is not `Equal`
infixr 5 ◌or_else◌
abbrev pub ◌or_else◌ : Ordering → Ordering → Ordering
r or_else s = ordering_then r s

abbrev mutual
  -- trees of different kinds compare by their kinds; those of one kind by what stands here, from left to right
  pub shape_cmp : BareExpr → BareExpr → Ordering
  shape_cmp (Lit l) (Lit l') = literal_cmp l l'
  shape_cmp (Var v) (Var v') = nat_cmp (var_number v) (var_number v')
  shape_cmp (Slot s) (Slot s') = nat_cmp (slot_number s) (slot_number s')
  shape_cmp (Unknown n t) (Unknown n' t') = slice_cmp nat_cmp n n' or_else option_cmp type_cmp t t'
  shape_cmp (If a b c) (If a' b' c') = shape_cmp a a' or_else shape_cmp b b' or_else shape_cmp c c'
  shape_cmp (And a b) (And a' b') = shape_cmp a a' or_else shape_cmp b b'
  shape_cmp (Or a b) (Or a' b') = shape_cmp a a' or_else shape_cmp b b'
  shape_cmp (UnaryApp o a) (UnaryApp o' a') = nat_cmp (unary_op_number o) (unary_op_number o') or_else shape_cmp a a'
  shape_cmp (BinaryApp o a b) (BinaryApp o' a' b') = nat_cmp (binary_op_number o) (binary_op_number o') or_else shape_cmp a a' or_else shape_cmp b b'
  shape_cmp (ExtensionFunctionApp n es) (ExtensionFunctionApp n' es') = name_cmp n n' or_else nat_cmp (row_count es) (row_count es') or_else row_cmp es es'
  shape_cmp (GetAttr a k) (GetAttr a' k') = slice_cmp nat_cmp k k' or_else shape_cmp a a'
  shape_cmp (HasAttr a k ks) (HasAttr a' k' ks') = nat_cmp (has_number ks) (has_number ks') or_else slice_cmp (slice_cmp nat_cmp) (k ∷ ks) (k' ∷ ks') or_else shape_cmp a a'
  shape_cmp (Like a p) (Like a' p') = pattern_cmp p p' or_else shape_cmp a a'
  shape_cmp (Set es) (Set es') = nat_cmp (row_count es) (row_count es') or_else row_cmp es es'
  shape_cmp (Record fs) (Record fs') = nat_cmp (field_count fs) (field_count fs') or_else fields_cmp fs fs'
  shape_cmp (Is a n) (Is a' n') = name_cmp n n' or_else shape_cmp a a'
  shape_cmp a b = nat_cmp (kind_number a) (kind_number b)

  -- the arguments of calls, or the members of sets
  pub row_cmp : BareExprs → BareExprs → Ordering
  row_cmp no_trees no_trees = Equal
  row_cmp no_trees (tree e' es') = Less
  row_cmp (tree e es) no_trees = Greater
  row_cmp (tree e es) (tree e' es') = shape_cmp e e' or_else row_cmp es es'

  -- the keys and values of records, pair by pair
  pub fields_cmp : BareFields → BareFields → Ordering
  fields_cmp no_fields no_fields = Equal
  fields_cmp no_fields (field k' e' fs') = Less
  fields_cmp (field k e fs) no_fields = Greater
  fields_cmp (field k e fs) (field k' e' fs') = slice_cmp nat_cmp k k' or_else shape_cmp e e' or_else fields_cmp fs fs'
