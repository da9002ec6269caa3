-- One more of a list that is gone through.
use Rattle.std.proofs.Common.{◌≡◌, List, [], ◌∷◌, ◌++◌, refl, sym, ap, subst, ◌∙◌, append_assoc}
use Rattle.std.specs.Global.{Global}
use Rattle.std.specs.declared.cmp.Ord as Ord
use Rattle.std.specs.declared.cmp.PartialEq as PartialEq
use Rattle.std.specs.declared.cmp.PartialOrd as PartialOrd
use Rattle.std.specs.declared.rc.RcStr.{RcStr}
use Rattle.cedar_builders.specs.Keys.{keyed, meant_pairs}
use Rattle.cedar_exprs.specs.BareExpr.{bare_expr}
use Rattle.cedar_exprs.specs.declared.expr.Expr.{Expr}
use Rattle.cedar_values.specs.declared.well_formed.WellFormedValue.{WellFormedValue}
use Rattle.cedar_entities.specs.declared.entity.Entity.{Entity}
use Rattle.cedar_functions.specs.declared.extension.BuiltinExtension.{BuiltinExtension}
use Rattle.cedar_json.specs.declared.entities.EntityJson.{EntityJson}
use Rattle.cedar_inputs.specs.Entities.{AreEntitiesOf, IsEntityOf}
use Rattle.cedar_inputs.specs.Values.{AreValuesOf, IsValueOf}

module _ {o : Ord.Ghosts BuiltinExtension} {e : PartialEq.Ghosts BuiltinExtension}
    {p : PartialOrd.Ghosts BuiltinExtension} where
  -- one value more
  values_more : (ps : List (RcStr Global × Expr Unit))
      (vs : List (RcStr Global × WellFormedValue BuiltinExtension o e p)) (k : RcStr Global)
      (t : Expr Unit) (v : WellFormedValue BuiltinExtension o e p)
      → AreValuesOf (meant_pairs bare_expr ps) (keyed vs) → IsValueOf (bare_expr t) v
      → AreValuesOf (meant_pairs bare_expr (ps ++ (k, t) ∷ [])) (keyed (vs ++ (k, v) ∷ []))
  values_more [] [] k t v h is = (refl, is, tt)
  values_more [] (w ∷ ws) k t v h is = absurd h
  values_more (q ∷ ps) [] k t v h is = absurd h
  values_more (q ∷ ps) (w ∷ ws) k t v h is = (h.0, h.1, values_more ps ws k t v h.2 is)

  pub values_next : (ps : List (RcStr Global × Expr Unit))
      (vs ws : List (RcStr Global × WellFormedValue BuiltinExtension o e p)) (k : RcStr Global)
      (t : Expr Unit) (v : WellFormedValue BuiltinExtension o e p) → ws ≡ vs ++ (k, v) ∷ []
      → AreValuesOf (meant_pairs bare_expr ps) (keyed vs) → IsValueOf (bare_expr t) v
      → AreValuesOf (meant_pairs bare_expr (ps ++ (k, t) ∷ [])) (keyed ws)
  values_next ps vs ws k t v next h is =
      subst (λ xs. AreValuesOf (meant_pairs bare_expr (ps ++ (k, t) ∷ [])) (keyed xs)) (sym next)
      (values_more ps vs k t v h is)

  -- one entity more
  entities_more : (js : List EntityJson)
      (xs : List (Entity (WellFormedValue BuiltinExtension o e p))) (j : EntityJson)
      (x : Entity (WellFormedValue BuiltinExtension o e p)) → AreEntitiesOf js xs
      → IsEntityOf j x → AreEntitiesOf (js ++ j ∷ []) (xs ++ x ∷ [])
  entities_more [] [] j x h is = (is, tt)
  entities_more [] (y ∷ ys) j x h is = absurd h
  entities_more (i ∷ js) [] j x h is = absurd h
  entities_more (i ∷ js) (y ∷ ys) j x h is = (h.0, entities_more js ys j x h.1 is)

  pub entities_next : (js : List EntityJson)
      (xs ys : List (Entity (WellFormedValue BuiltinExtension o e p))) (j : EntityJson)
      (x : Entity (WellFormedValue BuiltinExtension o e p)) → ys ≡ xs ++ x ∷ []
      → AreEntitiesOf js xs → IsEntityOf j x → AreEntitiesOf (js ++ j ∷ []) ys
  entities_next js xs ys j x next h is =
      subst (AreEntitiesOf (js ++ j ∷ [])) (sym next) (entities_more js xs j x h is)

-- what was yielded, and then what is left
pub whole_next : {A : Type 0} (all ps rest left : List A) (x : A) → all ≡ ps ++ rest
    → rest ≡ x ∷ left → all ≡ (ps ++ x ∷ []) ++ left
whole_next all ps rest left x whole step =
    whole ∙ (ap (λ qs. ps ++ qs) step ∙ sym (append_assoc ps (x ∷ []) left))
