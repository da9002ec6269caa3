-- The data at each position of an expression, in the shape of the tree.
use Rattle.std.specs.Prelude.{Bool, IsTrue, ⊤, List, [], ◌∷◌, map}
use Rattle.std.specs.Global.{Global}
use Rattle.std.specs.declared.rc.RcStr.{RcStr}
use Rattle.cedar_exprs.specs.BareExpr.{ExprKind, map_kind}
use Rattle.cedar_exprs.specs.declared.expr.Expr.{Expr, Expr-F, fold-Expr}
use Rattle.cedar_exprs.specs.declared.expr.KindOf.{KindOf}

mutual
  -- the data of a node and of its children
  pub data DataTree (T : Type 0) : Type 0 where
    holds : T → DataTrees T → DataTree T

  -- the data of the children, in field order
  pub data DataTrees (T : Type 0) : Type 0 where
    no_data : DataTrees T
    child : DataTree T → DataTrees T → DataTrees T

abbrev mutual
  -- at each position, what the two hold is equal by E
  pub SameData : {T : Type 0} → (T → T → Bool) → DataTree T → DataTree T → Type 0
  SameData E (holds d ds) (holds e es) = IsTrue (E d e) × SameDatas E ds es

  pub SameDatas : {T : Type 0} → (T → T → Bool) → DataTrees T → DataTrees T → Type 0
  SameDatas E no_data no_data = ⊤
  SameDatas E no_data (child e es) = ⊥
  SameDatas E (child d ds) no_data = ⊥
  SameDatas E (child d ds) (child e es) = SameData E d e × SameDatas E ds es

abbrev pub datas_of : {T : Type 0} → List (DataTree T) → DataTrees T
datas_of [] = no_data
datas_of (d ∷ ds) = child d (datas_of ds)

abbrev pub values_of : {K T : Type 0} → List (K × DataTree T) → DataTrees T
values_of [] = no_data
values_of (e ∷ es) = child e.1 (values_of es)

-- one level, whose children are their data already
abbrev pub kind_data_step : {T : Type 0} → KindOf (DataTree T) → DataTrees T
kind_data_step (KindOf.Lit l) = no_data
kind_data_step (KindOf.Var v) = no_data
kind_data_step (KindOf.Slot s) = no_data
kind_data_step (KindOf.Unknown u) = no_data
kind_data_step (KindOf.If a b c) = child a.value (child b.value (child c.value no_data))
kind_data_step (KindOf.And a b) = child a.value (child b.value no_data)
kind_data_step (KindOf.Or a b) = child a.value (child b.value no_data)
kind_data_step (KindOf.UnaryApp o a) = child a.value no_data
kind_data_step (KindOf.BinaryApp o a b) = child a.value (child b.value no_data)
kind_data_step (KindOf.ExtensionFunctionApp n es) = datas_of es.value.items
kind_data_step (KindOf.GetAttr a k) = child a.value no_data
kind_data_step (KindOf.HasAttr a ks) = child a.value no_data
kind_data_step (KindOf.Like a p) = child a.value no_data
kind_data_step (KindOf.Set es) = datas_of es.value.items
kind_data_step (KindOf.Record es) = values_of es.value.entries
kind_data_step (KindOf.Is a n) = child a.value no_data

abbrev pub data_tree_step : {T : Type 0} → Expr-F T (DataTree T) → DataTree T
data_tree_step e = holds e.«data» (kind_data_step e.expr_kind)

-- the data at each position
abbrev pub data_tree : {T : Type 0} → Expr T → DataTree T
data_tree {T} = fold-Expr T (DataTree T) data_tree_step

-- the data of the children of a kind
abbrev pub kind_data : {T : Type 0} → ExprKind T → DataTrees T
kind_data k = kind_data_step (map_kind data_tree k)

-- the data of a list of expressions, and of the values of a map
abbrev pub data_trees : {T : Type 0} → List (Expr T) → DataTrees T
data_trees es = datas_of (map data_tree es)

abbrev pub values_data : {T : Type 0} → List (RcStr Global × Expr T) → DataTrees T
values_data es = values_of (map (λ e. (e.0, data_tree e.1)) es)
