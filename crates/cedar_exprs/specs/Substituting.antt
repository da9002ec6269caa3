-- What substitution makes of a node: its new expression, if it does not stay as it is.
use Rattle.std.specs.Prelude.{List, length, map, Option, Some, None, Result, Ok}
use Rattle.std.specs.Global.{Global}
use Rattle.std.specs.declared.rc.Rc.{Rc}
use Rattle.cedar_builders.specs.Environment.{empty, fold}
use Rattle.cedar_builders.specs.Trees.{sure, tree_ops}
use Rattle.cedar_builders.specs.BareExpr.{BareExpr}
use Rattle.cedar_builders.specs.Rebuilding.{all_new_or}
use Rattle.cedar_builders.specs.TypeClash.{TwoTypes}
use Rattle.cedar_exprs.specs.BareExpr.{bare_expr}
use Rattle.cedar_exprs.specs.PostOrder.{Takes}
use Rattle.cedar_exprs.specs.declared.expr.Expr.{Expr}
use Rattle.cedar_exprs.specs.declared.substitution.substitute.Substituted.{Substituted}
use Rattle.cedar_exprs.specs.declared.substitution.substitute.Substituted.TheVariants.{Same, Value, New}

-- the tree that a node becomes, if it does not stay as it is: of a value that of its expression
abbrev pub new_tree : {V : Type 0} → (V → BareExpr) → Substituted V → Option BareExpr
new_tree tree_of Same = None
new_tree tree_of (Value v) = Some (sure (fold tree_ops empty (tree_of v.now)))
new_tree tree_of (New e) = Some (bare_expr e.value)

-- an expression is made of children, each renewed by one of the last results, which are taken off
abbrev pub IsRenewedOfLast : {V : Type 0} → (V → BareExpr) → List BareExpr → (List BareExpr → Result BareExpr TwoTypes → Type 0) → List (Substituted V) → List (Substituted V) → Rc (Expr Unit) Global → Type 0
IsRenewedOfLast tree_of es IsMadeOf all rest e = Takes (length es) (λ last. IsMadeOf (all_new_or es (map (new_tree tree_of) last)) (Ok (bare_expr e.value))) all rest
