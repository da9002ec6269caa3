-- Keys with the expressions at their indices.
use Rattle.std.proofs.Common.{◌≡◌, List, [], ◌∷◌, ◌++◌, ◌⊎◌, inl, inr, refl, sym, ap, ◌∙◌, length, arith}
use Rattle.std.specs.Borrow.{Bor}
use Rattle.std.proofs.lemmas.List.{append-nil}
use Rattle.cedar_builders.specs.BareExpr.{Text}
use Rattle.cedar_exprs.specs.declared.expr.Expr.{Expr}
use Rattle.cedar_script.specs.CommandEffects.{key_pairs}

none_left : (keys : List (Bor Text)) (exprs : List (Expr Unit)) → (length keys ≡ 0) ⊎ (length exprs ≡ 0) → key_pairs keys exprs ≡ []
none_left [] exprs h = refl
none_left (k ∷ ks) [] h = refl
none_left (k ∷ ks) (e ∷ es) (inl h) = let bad : ⊥ = omega (arith, h) in absurd bad
none_left (k ∷ ks) (e ∷ es) (inr h) = let bad : ⊥ = omega (arith, h) in absurd bad

-- where either side has ended, all pairs are made
pub all_paired : {A : Type 0} → (f : A → List (Text × Expr Unit)) (made : A) (keys : List (Bor Text)) (exprs : List (Expr Unit)) (all : List (Text × Expr Unit)) → f made ++ key_pairs keys exprs ≡ all → (length keys ≡ 0) ⊎ (length exprs ≡ 0) → f made ≡ all
all_paired f made keys exprs all h ended = sym (append-nil (f made)) ∙ ap (λ ps. f made ++ ps) (sym (none_left keys exprs ended)) ∙ h
