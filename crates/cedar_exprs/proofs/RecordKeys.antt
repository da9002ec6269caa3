-- The keys of the records in an expression ascend where they ascend at its node and in its children.
use Rattle.std.proofs.Common.{◌≡◌, List, [], ◌∷◌, map, sym, subst}
use Rattle.std.specs.Prelude.{All}
use Rattle.std.specs.List.{AllByRecursion}
use Rattle.std.proofs.lemmas.List.Elements.{All-nil, All-cons, All-append}
use Rattle.cedar_builders.specs.AscendingKeys.{NodeKeysAscend, KeysAscend}
use Rattle.cedar_builders.specs.Walks as bare
use Rattle.cedar_builders.specs.Walks.{forward}
use Rattle.cedar_exprs.specs.BareExpr.{bare_expr}
use Rattle.cedar_exprs.specs.Walks.{children}
use Rattle.cedar_exprs.specs.declared.expr.Expr.{Expr}
use Rattle.cedar_exprs.proofs.BareWalks.{children_bare}

-- in each of some expressions
abbrev pub AscendIn : {T : Type 0} → List (Expr T) → Type 0
AscendIn es = AllByRecursion (λ e. KeysAscend (bare_expr e)) es

module _ {T : Type 0} where
  together : (es : List (Expr T)) → AscendIn es → All NodeKeysAscend (forward (map bare.preorder (map bare_expr es)))
  together [] h = All-nil NodeKeysAscend
  together (e ∷ es) h = All-append NodeKeysAscend (bare.preorder (bare_expr e)) _ h.0 (together es h.1)

  pub ascends : (e : Expr T) → NodeKeysAscend (bare_expr e) → AscendIn (children e) → KeysAscend (bare_expr e)
  ascends e here below =
      subst (All NodeKeysAscend) (sym (bare.walk_is (λ e below. e ∷ forward below) (bare_expr e)))
      (All-cons NodeKeysAscend (bare_expr e) _ here (subst (λ es. All NodeKeysAscend (forward (map bare.preorder es))) (children_bare e) (together (children e) below)))

  -- one child more
  pub ascends_with : (e : Expr T) (all es : List (Expr T)) → all ≡ e ∷ es → KeysAscend (bare_expr e) → AscendIn es → AscendIn all
  ascends_with e all es steps first rest = subst AscendIn (sym steps) (first, rest)
