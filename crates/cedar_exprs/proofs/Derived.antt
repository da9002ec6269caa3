-- The derived comparison goes level by level.
use Rattle.std.proofs.Common.{◌≡◌, Bool, ◌&&◌, [], refl, ap, ◌∙◌}
use denote.Param.{param}
use denote.RattleType.{RattleType}
use mir.Syntax.{Dict, impl, tnil, dnil}
use Rattle.std.specs.Bool.{Decides}
use Rattle.std.specs.declared.cmp.PartialEq as partial_eq
use Rattle.std.specs.contracts.cmp.PartialEq.TheBound as partial_eq_bound
use Rattle.cedar_exprs.specs.ExprData.{data_tree}
use Rattle.cedar_exprs.specs.BareExpr.{bare_expr, kind_of, data_of}
use Rattle.cedar_exprs.specs.declared.expr.Expr.{Expr}
use Rattle.cedar_exprs.specs.declared.expr.KindOf.{KindOf}
use Rattle.cedar_exprs.specs.contracts.expr.Expr as expr
use Rattle.cedar_exprs.specs.contracts.expr.ExprPartialEq.TheImpl as expr_eq
use Rattle.cedar_exprs.specs.contracts.expr.ExprPartialEq.TheImpl.Laws as expr_laws
use Rattle.cedar_exprs.specs.contracts.expr.KindOfPartialEq.TheImpl as kind_eq
use Rattle.cedar_exprs.proofs.Levels.{layer_eq, Same, decides_same}

-- of kinds over children of any type
kinds : (C : RattleType) (Q : partial_eq.Ghosts C.Denot) (Q' : Dict) (a b : KindOf C.Denot) → (kind_eq.ghosts C Q Q').eq a b ≡ layer_eq Q.eq a b
kinds C Q Q' (KindOf.Lit _) (KindOf.Lit _) = refl
kinds C Q Q' (KindOf.Var _) (KindOf.Var _) = refl
kinds C Q Q' (KindOf.Slot _) (KindOf.Slot _) = refl
kinds C Q Q' (KindOf.Unknown _) (KindOf.Unknown _) = refl
kinds C Q Q' (KindOf.If _ _ _) (KindOf.If _ _ _) = refl
kinds C Q Q' (KindOf.And _ _) (KindOf.And _ _) = refl
kinds C Q Q' (KindOf.Or _ _) (KindOf.Or _ _) = refl
kinds C Q Q' (KindOf.UnaryApp _ _) (KindOf.UnaryApp _ _) = refl
kinds C Q Q' (KindOf.BinaryApp _ _ _) (KindOf.BinaryApp _ _ _) = refl
kinds C Q Q' (KindOf.ExtensionFunctionApp _ _) (KindOf.ExtensionFunctionApp _ _) = refl
kinds C Q Q' (KindOf.GetAttr _ _) (KindOf.GetAttr _ _) = refl
kinds C Q Q' (KindOf.HasAttr _ _) (KindOf.HasAttr _ _) = refl
kinds C Q Q' (KindOf.Like _ _) (KindOf.Like _ _) = refl
kinds C Q Q' (KindOf.Set _) (KindOf.Set _) = refl
kinds C Q Q' (KindOf.Record _) (KindOf.Record _) = refl
kinds C Q Q' (KindOf.Is _ _) (KindOf.Is _ _) = refl
kinds C Q Q' a b = refl

module _ (T : RattleType) (P : partial_eq.Ghosts T.Denot) (P' : Dict) (p : partial_eq_bound.Lawful T P P') where
  abbrev expr_same : Expr T.Denot → Expr T.Denot → Bool
  expr_same = (expr_eq.ghosts T P P').eq

  pub expr_eq_decides : (a b : Expr T.Denot) → Decides (expr_same a b) (Same P.eq (bare_expr a) (bare_expr b) (data_tree a) (data_tree b))
  expr_eq_decides = decides_same P.eq expr_same (λ a b.
      expr_laws.is T P P' p a b ∙ ap (λ x. x && P.eq (data_of a) (data_of b)) (kinds (expr.the_row (param 0 T)) (record { eq = expr_same }) (impl [] tnil dnil) (kind_of a) (kind_of b)))
