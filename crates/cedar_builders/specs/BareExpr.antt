-- Bare trees: expressions without places and data (`ExprKind` of Cedar's `expr.rs`), one constructor a kind.
use Rattle.std.specs.Prelude.{ℕ, List, [], ◌∷◌, Option}
use Rattle.cedar_names.specs.Names.{BareName}
use Rattle.cedar_names.specs.declared.slot.SlotId.{SlotId}
use Rattle.cedar_terms.specs.Literals.{BareLiteral}
use Rattle.cedar_terms.specs.declared.ops.UnaryOp.{UnaryOp}
use Rattle.cedar_terms.specs.declared.ops.BinaryOp.{BinaryOp}
use Rattle.cedar_terms.specs.declared.pattern.PatternElem.{PatternElem}
use Rattle.cedar_terms.specs.declared.var.Var.{Var as Variable}
use Rattle.cedar_terms.specs.Types.{BareType}

-- a text, as its bytes in UTF-8
abbrev pub Text : Type 0
Text = List ℕ

mutual
  -- a finite tree of one of the kinds, each with its fields in the order in which they are built
  pub data BareExpr : Type 0 where
    Lit : BareLiteral → BareExpr
    Var : Variable → BareExpr
    Slot : SlotId → BareExpr
    Unknown : Text → Option BareType → BareExpr
    If : BareExpr → BareExpr → BareExpr → BareExpr
    And : BareExpr → BareExpr → BareExpr
    Or : BareExpr → BareExpr → BareExpr
    UnaryApp : UnaryOp → BareExpr → BareExpr
    BinaryApp : BinaryOp → BareExpr → BareExpr → BareExpr
    ExtensionFunctionApp : BareName → BareExprs → BareExpr
    GetAttr : BareExpr → Text → BareExpr
    HasAttr : BareExpr → Text → List Text → BareExpr
    Like : BareExpr → List PatternElem → BareExpr
    Set : BareExprs → BareExpr
    Record : BareFields → BareExpr
    Is : BareExpr → BareName → BareExpr

  -- the arguments of a call, or the members of a set
  pub data BareExprs : Type 0 where
    no_trees : BareExprs
    tree : BareExpr → BareExprs → BareExprs

  -- the keys and values of a record
  pub data BareFields : Type 0 where
    no_fields : BareFields
    field : Text → BareExpr → BareFields → BareFields

-- the trees of a list
abbrev pub trees_of : List BareExpr → BareExprs
trees_of [] = no_trees
trees_of (b ∷ bs) = tree b (trees_of bs)

-- the fields of a list of pairs
abbrev pub fields_of : List (Text × BareExpr) → BareFields
fields_of [] = no_fields
fields_of (p ∷ ps) = field p.0 p.1 (fields_of ps)
