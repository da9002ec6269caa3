-- What names stand for, put into trees.
use Rattle.std.specs.Prelude.{List, Option, None, Result, Ok, option_map, unwrap_or}
use Rattle.std.specs.Global.{Global}
use Rattle.std.specs.HashMap.{HashMap, get_by}
use Rattle.std.specs.Rc.{rc_str_bytes}
use Rattle.std.specs.Str.{bytes_eq}
use Rattle.std.specs.declared.hash.BuildHasherDefault.{BuildHasherDefault}
use Rattle.std.specs.declared.hash.FoldHasher.{FoldHasher}
use Rattle.std.specs.declared.rc.RcStr.{RcStr}
use Rattle.cedar_terms.specs.Ops.{var_text}
use Rattle.cedar_terms.specs.Types.{BareType}
use Rattle.cedar_builders.specs.BareExpr.{Text, BareExpr, Var, Unknown}
use Rattle.cedar_builders.specs.Fold.{fold_with}
use Rattle.cedar_builders.specs.NodeByNode.{IsBuiltOf, IsMadeByNodes, fold_by_nodes}
use Rattle.cedar_builders.specs.Ops.{Ops}
use Rattle.cedar_builders.specs.Trees.{sure, tree_ops}
use Rattle.cedar_exprs.specs.BareExpr.{bare_expr}
use Rattle.cedar_exprs.specs.declared.expr.Expr.{Expr}

-- the tree that a name stands for, if any
abbrev pub Names : Type 0
Names = Text → Option BareExpr

-- those of a map
abbrev pub names_of :
    {T : Type 0} → HashMap (RcStr Global) (Expr T) (BuildHasherDefault FoldHasher) → Names
names_of m n = option_map bare_expr (get_by (λ k. bytes_eq n (rc_str_bytes k)) m)

-- the tree that a variable or an unknown stands for, by its name
abbrev pub stands_for : Names → BareExpr → Option BareExpr
stands_for names (Var v) = names (var_text v)
stands_for names (Unknown n t) = names n
stands_for names e = None

-- the builder of trees, but that a variable becomes the tree that its name stands for
abbrev pub named_ops : Names → Ops BareExpr ⊥
named_ops names = record tree_ops { var_of = λ v. unwrap_or (names (var_text v)) (Var v) }

-- and so does an unknown
abbrev pub named_unknown : Names → Text → Option BareType → Result BareExpr ⊥
named_unknown names n t = Ok (unwrap_or (names n) (Unknown n t))

-- a tree, in which each variable and each unknown is the tree that its name stands for, if any; in
-- these trees no name is looked for
abbrev pub named : Names → BareExpr → BareExpr
named names e = sure (fold_with (named_ops names) (named_unknown names) e)

-- what is made of a node and of what its children were made
abbrev pub IsNamedOf : Names → BareExpr → List BareExpr → Result BareExpr ⊥ → Type 0
IsNamedOf names = IsBuiltOf (named_ops names) (named_unknown names)

-- it is made node by node
pub named_by_nodes : (names : Names)
    → IsMadeByNodes (fold_with (named_ops names) (named_unknown names)) (IsNamedOf names)
named_by_nodes names = fold_by_nodes (named_ops names) (named_unknown names)
