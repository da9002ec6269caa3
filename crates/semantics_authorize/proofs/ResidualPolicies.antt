-- Residual policies have the response of the policies.
use Rattle.std.proofs.Common.{◌≡◌, ◌≢◌, refl, sym, ap, subst, ◌∙◌, Bool, false, not, cond, ◌&&◌, ◌||◌, List, [], ◌∷◌, map, Some, None}
use Rattle.std.specs.Prelude.{filter, if◌then◌else◌}
use Rattle.std.specs.List.{list_any, cons_option}
use Rattle.std.specs.declared.cmp.Ordering.{Ordering}
use Rattle.cedar_builders.specs.BareExpr.{Text, BareExpr}
use Rattle.semantics_request.specs.Evaluator.{evaluated}
use Rattle.semantics_request.specs.Laws.{DecidedStays}
use Rattle.semantics_authorize.specs.Policies.{Effect, Permit, Forbid, Policy, Verdict, Satisfied, Unsatisfied, Failed, Undecided, verdict}
use Rattle.semantics_authorize.specs.Decisions.{EvaluatedPolicy, Allow, Deny, effect_eq, applies, may_apply, error_as, errors, response}
use Rattle.semantics_authorize.specs.Authorization.{evaluated_by}
use Rattle.semantics_authorize.specs.ResidualPolicies.{always, residual_policy, residual_policies}
use Rattle.semantics_authorize.specs.Laws.{ResidualPoliciesFirst}

-- what responses are made of is the same
record AreAlike (js ks : List EvaluatedPolicy) : Type 0 where
  some : (e : Effect) → list_any (applies e) js ≡ list_any (applies e) ks
  may : (e : Effect) → list_any (may_apply e) js ≡ list_any (may_apply e) ks
  all : (e : Effect) → filter (applies e) js ≡ filter (applies e) ks
  errors : errors js ≡ errors ks

alike_response : (js ks : List EvaluatedPolicy) → AreAlike js ks → response js ≡ response ks
alike_response js ks a = λ i. record {
  decision =
      if a.some Forbid i || not (a.may Permit i) then Some Deny
      else if a.some Permit i && not (a.may Forbid i) then Some Allow else None;
  determining =
      if a.some Forbid i then map (λ j. j.id) (a.all Forbid i) else map (λ j. j.id) (a.all Permit i);
  errors = a.errors i;
}

-- one more policy on both sides
both_more : (j : EvaluatedPolicy) (js ks : List EvaluatedPolicy) → AreAlike js ks
    → AreAlike (j ∷ js) (j ∷ ks)
both_more j js ks a = record {
  some = λ e. ap (λ b. applies e j || b) (a.some e);
  may = λ e. ap (λ b. may_apply e j || b) (a.may e);
  all = λ e. ap (λ (xs : List EvaluatedPolicy). cond (applies e j) (j ∷ xs) xs) (a.all e);
  errors = ap (cons_option (error_as j.id j.verdict)) a.errors;
}

no_effect : (e f : Effect) → false ≡ (effect_eq e f && false)
no_effect Permit Permit = refl
no_effect Permit Forbid = refl
no_effect Forbid Permit = refl
no_effect Forbid Forbid = refl

-- a policy whose condition is false says nothing
false_more : (n : Text) (f : Effect) (js ks : List EvaluatedPolicy) → AreAlike js ks
    → AreAlike js (record { id = n; effect = f; verdict = Unsatisfied } ∷ ks)
false_more n f js ks a =
    let j : EvaluatedPolicy = record { id = n; effect = f; verdict = Unsatisfied } in
    record {
      some = λ e. a.some e ∙ ap (λ b. b || list_any (applies e) ks) (no_effect e f);
      may = λ e. a.may e ∙ ap (λ b. b || list_any (may_apply e) ks) (no_effect e f);
      all = λ e.
          a.all e
          ∙ ap (λ b. cond b (j ∷ filter (applies e) ks) (filter (applies e) ks)) (no_effect e f);
      errors = a.errors;
    }

-- J says what conditions come to, and K what they come to later
module _ (J K : BareExpr → Verdict) (stays : (e : BareExpr) → J e ≢ Undecided → K e ≡ J e)
    (holds : K always ≡ Satisfied) where
  abbrev later : List Policy → List EvaluatedPolicy
  later = map (evaluated_by K)

  one_more : (p : Policy) (v : Verdict) → J p.condition ≡ v → (rs ps : List Policy)
      → AreAlike (later rs) (later ps)
      → AreAlike (later (cons_option (residual_policy p v) rs)) (later (p ∷ ps))
  one_more p Satisfied is rs ps a =
      let same : K p.condition ≡ Satisfied = stays p.condition (λ u. cc) ∙ is in
      subst (λ w. AreAlike (record { id = p.id; effect = p.effect; verdict = w } ∷ later rs)
      (later (p ∷ ps))) (same ∙ sym holds) (both_more (evaluated_by K p) (later rs) (later ps) a)
  one_more p Unsatisfied is rs ps a =
      let same : K p.condition ≡ Unsatisfied = stays p.condition (λ u. cc) ∙ is in
      subst (λ w. AreAlike (later rs)
      (record { id = p.id; effect = p.effect; verdict = w } ∷ later ps)) (sym same)
      (false_more p.id p.effect (later rs) (later ps) a)
  one_more p (Failed f) is rs ps a = both_more (evaluated_by K p) (later rs) (later ps) a
  one_more p Undecided is rs ps a = both_more (evaluated_by K p) (later rs) (later ps) a

  residuals_alike : (ps : List Policy) → AreAlike (later (residual_policies J ps)) (later ps)
  residuals_alike [] =
      record { some = λ e. refl; may = λ e. refl; all = λ e. refl; errors = refl }
  residuals_alike (p ∷ ps) =
      one_more p (J p.condition) refl (residual_policies J ps) ps (residuals_alike ps)

  residuals_respond : (ps : List Policy)
      → response (later (residual_policies J ps)) ≡ response (later ps)
  residuals_respond ps =
      alike_response (later (residual_policies J ps)) (later ps) (residuals_alike ps)

pub residual_policies_first : {X : Type 0} (R : X → X → Ordering) (E : X → X → Bool)
    → DecidedStays R E → ResidualPoliciesFirst R E
residual_policies_first R E stays C T k l full plain ps =
    residuals_respond (λ e. verdict (evaluated R E T k e)) (λ e. verdict (evaluated R E T l e))
    (λ e w. ap verdict (stays C T k l full plain e (λ is_open. w (ap verdict is_open)))) refl ps
