-- The builder of trees (the struct `ExprBuilder` of Cedar's `expr.rs`): its meanings are bare trees, and it never fails.
use Rattle.std.specs.Prelude.{Bool, ◌&&◌, ◌||◌, Option, Some, None, Result, Ok, Err}
use Rattle.cedar_terms.specs.Literals.{BareLiteral, BoolLit}
use Rattle.cedar_terms.specs.Types.{BareType}
use Rattle.cedar_builders.specs.BareExpr.{BareExpr, Lit, Var, Slot, Unknown, If, And, Or, UnaryApp, BinaryApp, ExtensionFunctionApp, GetAttr, HasAttr, Like, Set, Record, Is, BareExprs, no_trees, tree, trees_of, BareFields, no_fields, field, fields_of}
use Rattle.cedar_builders.specs.Ops.{Ops}
use Rattle.cedar_builders.specs.Environment.{Env, empty, fold}

-- the Boolean that a literal is
abbrev pub literal_bool : BareLiteral → Option Bool
literal_bool (BoolLit b) = Some b
literal_bool l = None

-- the Boolean that a tree is the literal of
abbrev pub bool_of : BareExpr → Option Bool
bool_of (Lit l) = literal_bool l
bool_of e = None

-- the literal of f where both sides are Boolean literals, else the node
abbrev pub folded : (Bool → Bool → Bool) → Option Bool → Option Bool → BareExpr → BareExpr
folded f (Some a) (Some b) node = Lit (BoolLit (f a b))
folded f (Some a) None node = node
folded f None b node = node

-- a conjunction, which is a literal where both sides are Boolean literals
abbrev pub and_made : BareExpr → BareExpr → BareExpr
and_made a b = folded ◌&&◌ (bool_of a) (bool_of b) (And a b)

-- a disjunction, which is a literal where both sides are Boolean literals
abbrev pub or_made : BareExpr → BareExpr → BareExpr
or_made a b = folded ◌||◌ (bool_of a) (bool_of b) (Or a b)

-- each kind makes its node, but for these two, whatever the errors
abbrev pub tree_ops_with : (F : Type 0) → Ops BareExpr F
tree_ops_with F = record {
  lit_of = Lit;
  var_of = Var;
  slot_of = Slot;
  unknown_of = Unknown;
  if_of = If;
  and_of = and_made;
  or_of = or_made;
  unary_of = UnaryApp;
  binary_of = BinaryApp;
  call_of = λ n es. Ok (ExtensionFunctionApp n (trees_of es));
  get_of = GetAttr;
  has_of = HasAttr;
  like_of = Like;
  set_of = λ es. Set (trees_of es);
  record_of = λ ps. Record (fields_of ps);
  is_of = Is;
}

-- the builder of trees never fails
abbrev pub tree_ops : Ops BareExpr ⊥
tree_ops = tree_ops_with ⊥

-- what never fails
abbrev pub sure : {A : Type 0} → Result A ⊥ → A
sure (Ok a) = a
sure (Err e) = absurd e

-- the tree that a name is bound to, built with nothing bound, else the unknown itself
abbrev pub bound_tree : Option (BareType × BareExpr) → BareExpr → BareExpr
bound_tree None u = u
bound_tree (Some r) u = sure (fold tree_ops empty r.1)

abbrev mutual
  -- the tree with each bound unknown made its tree: the fold at the builder of trees, which never fails
  pub substituted : Env → BareExpr → BareExpr
  substituted env (Lit l) = Lit l
  substituted env (Var v) = Var v
  substituted env (Slot s) = Slot s
  substituted env (Unknown n t) = bound_tree (env n) (Unknown n t)
  substituted env (If a b c) = If (substituted env a) (substituted env b) (substituted env c)
  substituted env (And a b) = and_made (substituted env a) (substituted env b)
  substituted env (Or a b) = or_made (substituted env a) (substituted env b)
  substituted env (UnaryApp o a) = UnaryApp o (substituted env a)
  substituted env (BinaryApp o a b) = BinaryApp o (substituted env a) (substituted env b)
  substituted env (ExtensionFunctionApp n es) = ExtensionFunctionApp n (all_substituted env es)
  substituted env (GetAttr a k) = GetAttr (substituted env a) k
  substituted env (HasAttr a k ks) = HasAttr (substituted env a) k ks
  substituted env (Like a p) = Like (substituted env a) p
  substituted env (Set es) = Set (all_substituted env es)
  substituted env (Record fs) = Record (fields_substituted env fs)
  substituted env (Is a n) = Is (substituted env a) n

  -- the same of a list of trees
  pub all_substituted : Env → BareExprs → BareExprs
  all_substituted env no_trees = no_trees
  all_substituted env (tree e es) = tree (substituted env e) (all_substituted env es)

  -- the same of the values of a record
  pub fields_substituted : Env → BareFields → BareFields
  fields_substituted env no_fields = no_fields
  fields_substituted env (field k e fs) = field k (substituted env e) (fields_substituted env fs)
