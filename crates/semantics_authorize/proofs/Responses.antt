-- The laws of the response to a request.
use Rattle.std.proofs.Common.{◌≡◌, ◌≢◌, refl, ap, Bool, true, false, ◌&&◌, List, [], ◌∷◌, map, Option, Some, None, Result, Ok, Err}
use Rattle.std.proofs.lemmas.Bool.{and_parts}
use Rattle.std.proofs.lemmas.List.Sorted.{IsPermutation-map}
use Rattle.std.specs.List.{list_all}
use Rattle.std.specs.declared.cmp.Ordering.{Ordering}
use Rattle.cedar_names.specs.Names.{BareName}
use Rattle.cedar_builders.specs.BareExpr.{BareExpr}
use Rattle.cedar_builders.specs.Environment.{fold}
use Rattle.cedar_builders.specs.Trees.{tree_ops, sure}
use Rattle.semantics_eval.specs.Outcomes.{Open, By, Outcome, truth_of}
use Rattle.semantics_simplify.specs.Asks.{asks_only}
use Rattle.semantics_simplify.specs.Simplified.{tree_of}
use Rattle.semantics_simplify.specs.Simplifier.{simplified}
use Rattle.semantics_request.specs.Requests.{Functions, Knowledge}
use Rattle.semantics_request.specs.Evaluator.{evaluated}
use Rattle.semantics_request.specs.Entities.{Entities, both_stores}
use Rattle.semantics_request.specs.Put.{of_entities_alone, with_none_bound, put}
use Rattle.semantics_request.specs.Residuals.{residual}
use Rattle.semantics_request.specs.Laws.{is_known, NeverOpen, DecidedStays}
use Rattle.semantics_request.specs.Laws as outcome
use Rattle.semantics_authorize.specs.Policies.{Policy, Verdict, Undecided, truth_verdict, verdict}
use Rattle.semantics_authorize.specs.Decisions.{response}
use Rattle.semantics_authorize.specs.Authorization.{evaluated_by, with_condition, evaluated_policies, authorized}
use Rattle.semantics_authorize.specs.DecisionLaws.{is_settled, AreLater}
use Rattle.semantics_authorize.specs.Laws.{PutFirst, RequestPutFirst, SimplifiedFirst, ResidualFirst, DecisionStays, StoreInParts, KnownIsDecided, PolicyOrderIsFree}
use Rattle.semantics_authorize.proofs.Verdicts.{known_decision_stays, settled_is_known, order_is_free}

-- policies with other conditions, whose outcomes are the same
module _ {X : Type 0} (R : X → X → Ordering) (E : X → X → Bool) (T : Functions X) (k l : Knowledge X)
    (change : BareExpr → BareExpr)
    (is : (e : BareExpr) → evaluated R E T k (change e) ≡ evaluated R E T l e) where
  evaluated_alike : (ps : List Policy)
      → evaluated_policies R E T k (map (with_condition change) ps) ≡ evaluated_policies R E T l ps
  evaluated_alike [] = refl
  evaluated_alike (p ∷ ps) = λ i.
      record { id = p.id; effect = p.effect; verdict = verdict (is p.condition i) } ∷ evaluated_alike ps i

  same_response : (ps : List Policy)
      → authorized R E T k (map (with_condition change) ps) ≡ authorized R E T l ps
  same_response ps = ap response (evaluated_alike ps)

-- policies that are evaluated later
module _ (J K : BareExpr → Verdict) (later : (e : BareExpr) → J e ≢ Undecided → K e ≡ J e) where
  evaluated_later : (ps : List Policy)
      → AreLater (map (evaluated_by J) ps) (map (evaluated_by K) ps)
  evaluated_later [] = tt
  evaluated_later (p ∷ ps) =
      (record { id = refl; effect = refl; verdict = later p.condition }, evaluated_later ps)

module _ {X : Type 0} (R : X → X → Ordering) (E : X → X → Bool) where
  pub put_first : outcome.PutFirst R E → PutFirst R E
  put_first first T k =
      same_response R E T (with_none_bound k) k (λ e. sure (fold tree_ops k.bindings e)) (first T k)

  pub request_put_first : outcome.RequestPutFirst R E → RequestPutFirst R E
  request_put_first first C T k plain =
      same_response R E T (of_entities_alone k) k (put C k) (first C T k plain)

  pub simplified_first : outcome.SimplifiedFirst R E → SimplifiedFirst R E
  simplified_first first C T k plain =
      same_response R E T k k (λ e. tree_of C (simplified R E C e)) (first C T k plain)

  pub residual_first : outcome.ResidualFirst R E → ResidualFirst R E
  residual_first first C T k l full plain =
      same_response R E T l l (λ e. tree_of C (residual R E C k e))
      (first.outcome C T k l full plain)

  pub decision_stays : DecidedStays R E → DecisionStays R E
  decision_stays stays C T k l full plain ps =
      known_decision_stays (evaluated_policies R E T k ps) (evaluated_policies R E T l ps)
      (evaluated_later (λ e. verdict (evaluated R E T k e)) (λ e. verdict (evaluated R E T l e))
      (λ e w. ap verdict (stays C T k l full plain e (λ is_open. w (ap verdict is_open)))) ps)

  abbrev with_part : Knowledge X → Entities X → Knowledge X
  with_part k s = record k { entities = both_stores k.entities s }

  -- what is decided by one part of a store stays where another is added
  pub store_in_parts : outcome.StoreInParts R E → StoreInParts R E
  store_in_parts stays C T k s plain ps =
      known_decision_stays (evaluated_policies R E T k ps) (evaluated_policies R E T (with_part k s) ps)
      (evaluated_later (λ e. verdict (evaluated R E T k e)) (λ e. verdict (evaluated R E T (with_part k s) e))
      (λ e w. ap verdict (stays C T k s plain e (λ is_open. w (ap verdict is_open)))) ps)

  -- an outcome that is not open settles a verdict
  settled_verdict : (r : Result (Outcome X) BareName) → r ≢ Ok (Err Open)
      → is_settled (verdict r) ≡ true
  settled_verdict (Ok (Ok t)) h = of_truth (truth_of t)
    where
      of_truth : (b : Option Bool) → is_settled (truth_verdict b) ≡ true
      of_truth None = refl
      of_truth (Some true) = refl
      of_truth (Some false) = refl
  settled_verdict (Ok (Err Open)) h = absurd (h refl)
  settled_verdict (Ok (Err (By m))) h = refl
  settled_verdict (Err n) h = refl

  all_settled : (T : Functions X) (k : Knowledge X) (P : BareExpr → Bool)
      → ((e : BareExpr) → P e ≡ true → evaluated R E T k e ≢ Ok (Err Open))
      → (ps : List Policy) → list_all (λ p. P p.condition) ps ≡ true
      → list_all (λ j. is_settled j.verdict) (evaluated_policies R E T k ps) ≡ true
  all_settled T k P closed [] h = refl
  all_settled T k P closed (p ∷ ps) h =
      let q = and_parts (P p.condition) (list_all (λ o. P o.condition) ps) h in
      let here = settled_verdict (evaluated R E T k p.condition) (closed p.condition q.0) in
      let rest = all_settled T k P closed ps q.1 in
      λ i. here i && rest i

  pub known_is_decided : NeverOpen R E → KnownIsDecided R E
  known_is_decided never C T k there plain ps asked =
      settled_is_known (evaluated_policies R E T k ps)
      (all_settled T k (asks_only (is_known k)) (never C T k there plain) ps asked)

  pub policy_order_is_free : PolicyOrderIsFree R E
  policy_order_is_free T k ps qs s =
      order_is_free (evaluated_policies R E T k ps) (evaluated_policies R E T k qs)
      (IsPermutation-map (evaluated_by (λ e. verdict (evaluated R E T k e))) ps qs s)
