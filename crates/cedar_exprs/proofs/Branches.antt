-- Expressions that wait on a stack, one more or one fewer.
use Rattle.std.proofs.Common.{◌≡◌, List, [], ◌∷◌, ◌++◌, map, reverse, ap, ◌∙◌}
use Rattle.std.proofs.lemmas.List.{map-append, reverse-append}
use Rattle.cedar_exprs.specs.BareExpr.{bare_expr}
use Rattle.cedar_exprs.specs.Waiting.{bare_waiting}
use Rattle.cedar_exprs.specs.Walks.{referents}
use Rattle.cedar_exprs.specs.declared.expr.Expr.{Expr}
use denote.Ref.{Bor}

module _ {T : Type 0} (all rest : List (Bor (Expr T))) (e : Bor (Expr T)) (is : all ≡ rest ++ e ∷ []) where
  -- the last comes first
  pub top_first : bare_waiting all ≡ bare_expr e.now ∷ bare_waiting rest
  top_first =
      ap bare_waiting is
      ∙ ap (λ es. reverse (map bare_expr es)) (map-append (λ (x : Bor (Expr T)). x.now) rest (e ∷ []))
      ∙ ap reverse (map-append bare_expr (referents rest) (e.now ∷ []))
      ∙ reverse-append (map bare_expr (referents rest)) (bare_expr e.now ∷ [])
