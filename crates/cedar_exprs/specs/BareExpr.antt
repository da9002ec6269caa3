-- The bare tree of an expression, generic in the type of its data.
use Rattle.std.specs.Prelude.{List, [], ◌∷◌, map, Option}
use Rattle.std.specs.Global.{Global}
use Rattle.std.specs.Rc.{rc_str_bytes}
use Rattle.std.specs.declared.rc.RcStr.{RcStr}
use Rattle.cedar_names.specs.Place.{Place}
use Rattle.cedar_names.specs.PlainNames.{bare_name}
use Rattle.cedar_names.specs.declared.non_empty.NonEmpty.{NonEmpty}
use Rattle.cedar_terms.specs.Entities.{bare_entity_type}
use Rattle.cedar_terms.specs.Literals.{bare_literal}
use Rattle.cedar_terms.specs.Unknowns.{BareUnknown, bare_unknown}
use Rattle.cedar_builders.specs.BareExpr.{Text, BareExpr, Lit, Var, Slot, Unknown, If, And, Or, UnaryApp, BinaryApp, ExtensionFunctionApp, GetAttr, HasAttr, Like, Set, Record, Is, BareExprs, trees_of, BareFields, no_fields, field}
use Rattle.cedar_exprs.specs.declared.expr.Expr.{Expr, Expr-F, fold-Expr, out-Expr}
use Rattle.cedar_exprs.specs.declared.expr.Expr.TheShapes.{former-Expr-expr_kind}
use Rattle.cedar_exprs.specs.declared.expr.KindOf.{KindOf}

-- the kind of an expression
abbrev pub ExprKind : Type 0 → Type 0
ExprKind T = KindOf (Expr T)

-- the pairs of a map, each key as its text
abbrev pub fields_at : List (RcStr Global × BareExpr) → BareFields
fields_at [] = no_fields
fields_at (e ∷ es) = field (rc_str_bytes e.0) e.1 (fields_at es)

-- the attributes of a path behind the first
abbrev pub further : NonEmpty (RcStr Global) → List Text
further ks = map rc_str_bytes ks.tail.items

-- the tree of an unknown
abbrev pub unknown_tree : BareUnknown → BareExpr
unknown_tree u = Unknown u.name u.annotation

-- one level, whose children are bare trees already
abbrev pub bare_step : KindOf BareExpr → BareExpr
bare_step (KindOf.Lit l) = Lit (bare_literal l)
bare_step (KindOf.Var v) = Var v
bare_step (KindOf.Slot s) = Slot s
bare_step (KindOf.Unknown u) = unknown_tree (bare_unknown u)
bare_step (KindOf.If a b c) = If a.value b.value c.value
bare_step (KindOf.And a b) = And a.value b.value
bare_step (KindOf.Or a b) = Or a.value b.value
bare_step (KindOf.UnaryApp o a) = UnaryApp o a.value
bare_step (KindOf.BinaryApp o a b) = BinaryApp o a.value b.value
bare_step (KindOf.ExtensionFunctionApp n es) = ExtensionFunctionApp (bare_name n) (trees_of es.value.items)
bare_step (KindOf.GetAttr a k) = GetAttr a.value (rc_str_bytes k)
bare_step (KindOf.HasAttr a ks) = HasAttr a.value (rc_str_bytes ks.head) (further ks)
bare_step (KindOf.Like a p) = Like a.value p
bare_step (KindOf.Set es) = Set (trees_of es.value.items)
bare_step (KindOf.Record es) = Record (fields_at es.value.entries)
bare_step (KindOf.Is a n) = Is a.value (bare_entity_type n)

-- place and data are dropped
abbrev pub node_step : {T : Type 0} → Expr-F T BareExpr → BareExpr
node_step e = bare_step e.expr_kind

-- the bare tree of an expression
abbrev pub bare_expr : {T : Type 0} → Expr T → BareExpr
bare_expr {T} = fold-Expr T BareExpr node_step

-- a kind with what a function makes of the children in their places
abbrev pub map_kind : {A B : Type 0} → (A → B) → KindOf A → KindOf B
map_kind {A} {B} f = (former-Expr-expr_kind Unit).map A B f

-- the bare tree of a kind
abbrev pub bare_expr_kind : {T : Type 0} → ExprKind T → BareExpr
bare_expr_kind k = bare_step (map_kind bare_expr k)

-- the bare trees of a list of expressions
abbrev pub bare_exprs : {T : Type 0} → List (Expr T) → BareExprs
bare_exprs es = trees_of (map bare_expr es)

-- the keys of a map with the bare trees of its values
abbrev pub bare_fields : {T : Type 0} → List (RcStr Global × Expr T) → BareFields
bare_fields es = fields_at (map (λ e. (e.0, bare_expr e.1)) es)

-- the kind of an expression
abbrev pub kind_of : {T : Type 0} → Expr T → ExprKind T
kind_of {T} e = (out-Expr T e).expr_kind

-- its place, if known
abbrev pub expr_place : {T : Type 0} → Expr T → Option Place
expr_place {T} e = (out-Expr T e).source_loc

-- the data of its outermost node
abbrev pub data_of : {T : Type 0} → Expr T → T
data_of {T} e = (out-Expr T e).«data»
