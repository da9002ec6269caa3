-- One policy after others.
use Rattle.std.proofs.Common.{◌≡◌, ◌==◌, length, Bool, true, false, not, ◌||◌, List, [], ◌∷◌, ◌++◌, map, Option, cond, refl, sym, ap, subst, ◌∙◌, if◌then◌else◌}
use Rattle.std.specs.Global.{Global}
use Rattle.std.specs.List.{filter, list_any}
use Rattle.std.specs.declared.rc.RcStr.{RcStr}
use Rattle.std.proofs.Math.Dec.{eqb-suc-zero}
use Rattle.std.proofs.lemmas.List.{map-append}
use Rattle.std.proofs.lemmas.List.Elements.{filter-append, filter_map-append}
use Rattle.std.proofs.lemmas.List.Folds.{list_any-append}
use Rattle.cedar_builders.specs.BareExpr.{Text, BareExpr}
use Rattle.semantics_authorize.specs.Policies.{Effect, Permit, Forbid, Policy, Verdict}
use Rattle.semantics_authorize.specs.Authorization.{evaluated_by}
use Rattle.semantics_authorize.specs.Decisions.{EvaluatedPolicy, Decision, applies, may_apply, applying, errors, error_as, decision, determining, response}
use Rattle.cedar_authorizer.specs.Tallies.{IsTally, IsTallyWith, decided, determined_by, is_nil, with_verdict}
use Rattle.cedar_authorizer.specs.Responses.{bare_errors, texts}
use Rattle.cedar_authorizer.specs.declared.tally.Tally.{Tally}

applying_last : (e : Effect) (js : List EvaluatedPolicy) (j : EvaluatedPolicy)
    → applying e (js ++ j ∷ []) ≡ applying e js ++ applying e (j ∷ [])
applying_last e js j =
    ap (map (λ i. i.id)) (filter-append (applies e) js (j ∷ []))
    ∙ map-append (λ i. i.id) (filter (applies e) js) (filter (applies e) (j ∷ []))

-- a tally of one policy more
tally_next : (t u : Tally) (js : List EvaluatedPolicy) (j : EvaluatedPolicy)
    → IsTally t js → IsTallyWith t u j → IsTally u (js ++ j ∷ [])
tally_next t u js j is one = record {
  permits = one.permits ∙ ap (λ xs. xs ++ applying Permit (j ∷ [])) is.permits
      ∙ sym (applying_last Permit js j);
  forbids = one.forbids ∙ ap (λ xs. xs ++ applying Forbid (j ∷ [])) is.forbids
      ∙ sym (applying_last Forbid js j);
  may_permit = one.may_permit ∙ ap (λ b. b || list_any (may_apply Permit) (j ∷ [])) is.may_permit
      ∙ sym (list_any-append (may_apply Permit) js (j ∷ []));
  may_forbid = one.may_forbid ∙ ap (λ b. b || list_any (may_apply Forbid) (j ∷ [])) is.may_forbid
      ∙ sym (list_any-append (may_apply Forbid) js (j ∷ []));
  errors = one.errors ∙ ap (λ xs. xs ++ errors (j ∷ [])) is.errors
      ∙ sym (filter_map-append (λ i. error_as i.id i.verdict) js (j ∷ []));
}

one_more : (b : Bool) (j : EvaluatedPolicy) (js : List EvaluatedPolicy) (c : Bool)
    → c ≡ not (is_nil (map (λ i. i.id) js))
    → (b || c) ≡ not (is_nil (map (λ i. i.id) (cond b (j ∷ js) js)))
one_more true j js c h = refl
one_more false j js c h = h

-- some policy applies just where the list of those that do is not empty
some_apply : (e : Effect) (js : List EvaluatedPolicy)
    → list_any (applies e) js ≡ not (is_nil (applying e js))
some_apply e [] = refl
some_apply e (j ∷ js) =
    one_more (applies e j) j (filter (applies e) js) (list_any (applies e) js) (some_apply e js)

-- the decision by what is counted
decision_of : (js : List EvaluatedPolicy)
    → decision js
    ≡ decided (not (is_nil (applying Forbid js))) (not (is_nil (applying Permit js)))
    (list_any (may_apply Forbid) js) (list_any (may_apply Permit) js)
decision_of js = λ i.
    decided (some_apply Forbid js i) (some_apply Permit js i) (list_any (may_apply Forbid) js)
    (list_any (may_apply Permit) js)

pub decision_of_tally : (t : Tally) (js : List EvaluatedPolicy) (d : Option Decision) → IsTally t js
    → d ≡ decided (not (is_nil (texts t.forbids.items))) (not (is_nil (texts t.permits.items)))
    t.may_forbid t.may_permit
    → d ≡ decision js
decision_of_tally t js d is h =
    h
    ∙ (λ i. decided (not (is_nil (is.forbids i))) (not (is_nil (is.permits i)))
    (is.may_forbid i) (is.may_permit i))
    ∙ sym (decision_of js)

-- a tally of one policy more, of which a judge said what its condition comes to
pub tally_more : (J : BareExpr → Verdict) (t u : Tally) (ps : List Policy) (p : Policy)
    (v : Verdict) → IsTally t (map (evaluated_by J) ps) → v ≡ J p.condition
    → IsTallyWith t u (with_verdict p v) → IsTally u (map (evaluated_by J) (ps ++ p ∷ []))
tally_more J t u ps p v is same one =
    subst (IsTally u) (sym (map-append (evaluated_by J) ps (p ∷ [])))
    (tally_next t u (map (evaluated_by J) ps) (evaluated_by J p) is
    (subst (λ w. IsTallyWith t u (with_verdict p w)) same one))

-- the determining policies by what is counted
determined : (b : Bool) (xs ys : List Text) → b ≡ not (is_nil xs)
    → determined_by xs ys ≡ (if b then xs else ys)
determined true [] ys is = cc
determined true (x ∷ xs) ys is = refl
determined false [] ys is = refl
determined false (x ∷ xs) ys is = cc

pub response_of_tally : (t : Tally) (js : List EvaluatedPolicy) (d : Option Decision)
    (ids : List Text) → IsTally t js → d ≡ decision js
    → ids ≡ determined_by (texts t.forbids.items) (texts t.permits.items)
    → record { decision = d; determining = ids; errors = bare_errors t.errors.items }
    ≡ response js
response_of_tally t js d ids is decides determines =
    let found : ids ≡ determining js =
    determines
    ∙ (λ i. determined_by (is.forbids i) (is.permits i))
    ∙ determined (list_any (applies Forbid) js) (applying Forbid js) (applying Permit js)
    (some_apply Forbid js) in
    λ i. record { decision = decides i; determining = found i; errors = is.errors i }

-- no identifiers, no texts
pub none_of_them : (xs : List (RcStr Global)) → (length xs == 0) ≡ is_nil (texts xs)
none_of_them [] = refl
none_of_them (x ∷ xs) = eqb-suc-zero (length xs)
