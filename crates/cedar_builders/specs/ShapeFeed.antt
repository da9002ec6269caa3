-- What the shape of a tree feeds a hasher: the number of its kind as one byte, then its fields in their order, with the number of arguments, members
-- and pairs before them. The feed is this project's own.
use Rattle.std.specs.Prelude.{[], ◌∷◌, ◌++◌, List, pos}
use Rattle.std.specs.Hash as fed
use Rattle.std.specs.Hash.{HashWrites}
use Rattle.cedar_names.specs.NameOrder.{name_fed}
use Rattle.cedar_terms.specs.LiteralOrder.{literal_fed}
use Rattle.cedar_terms.specs.Ops.{var_number, unary_op_number, binary_op_number}
use Rattle.cedar_terms.specs.PatternOrder.{pattern_fed}
use Rattle.cedar_terms.specs.TypeOrder.{type_fed}
use Rattle.cedar_builders.specs.BareExpr.{Text, BareExpr, Lit, Var, Slot, Unknown, If, And, Or, UnaryApp, BinaryApp, ExtensionFunctionApp, GetAttr, HasAttr, Like, Set, Record, Is, BareExprs, no_trees, tree, BareFields, no_fields, field}
use Rattle.cedar_builders.specs.Shapes.{has_number, slot_number, row_count, field_count}

-- one attribute alone, or a first one and the list of the others
abbrev pub attributes_fed : Text → List Text → HashWrites
attributes_fed k [] = fed.str k
attributes_fed k (l ∷ ls) = fed.str k ++ fed.slice fed.str (l ∷ ls)

abbrev mutual
  pub shape_fed : BareExpr → HashWrites
  shape_fed (Lit l) = fed.u8 0 ++ literal_fed l
  shape_fed (Var v) = fed.u8 1 ++ fed.isize (pos (var_number v))
  shape_fed (Slot s) = fed.u8 2 ++ fed.isize (pos (slot_number s))
  shape_fed (Unknown n t) = fed.u8 3 ++ fed.str n ++ fed.option type_fed t
  shape_fed (If a b c) = fed.u8 4 ++ shape_fed a ++ shape_fed b ++ shape_fed c
  shape_fed (And a b) = fed.u8 5 ++ shape_fed a ++ shape_fed b
  shape_fed (Or a b) = fed.u8 6 ++ shape_fed a ++ shape_fed b
  shape_fed (UnaryApp o a) = fed.u8 7 ++ fed.isize (pos (unary_op_number o)) ++ shape_fed a
  shape_fed (BinaryApp o a b) = fed.u8 8 ++ fed.isize (pos (binary_op_number o)) ++ shape_fed a ++ shape_fed b
  shape_fed (ExtensionFunctionApp n es) = fed.u8 9 ++ name_fed n ++ fed.usize (row_count es) ++ row_fed es
  shape_fed (GetAttr a k) = fed.u8 10 ++ shape_fed a ++ fed.str k
  shape_fed (HasAttr a k ks) = fed.u8 (has_number ks) ++ shape_fed a ++ attributes_fed k ks
  shape_fed (Like a p) = fed.u8 13 ++ shape_fed a ++ pattern_fed p
  shape_fed (Set es) = fed.u8 14 ++ fed.usize (row_count es) ++ row_fed es
  shape_fed (Record fs) = fed.u8 15 ++ fed.usize (field_count fs) ++ fields_fed fs
  shape_fed (Is a n) = fed.u8 16 ++ shape_fed a ++ name_fed n

  -- the arguments of a call, or the members of a set
  pub row_fed : BareExprs → HashWrites
  row_fed no_trees = []
  row_fed (tree e es) = shape_fed e ++ row_fed es

  -- the keys and values of a record, pair by pair
  pub fields_fed : BareFields → HashWrites
  fields_fed no_fields = []
  fields_fed (field k e fs) = fed.str k ++ shape_fed e ++ fields_fed fs
