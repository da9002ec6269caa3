-- The laws of decisions.
use Rattle.std.proofs.Common.{◌≡◌, ◌≢◌, refl, sym, ap, subst, ◌∙◌, Bool, true, false, not, cond, ◌&&◌, ◌||◌, List, [], ◌∷◌, map, Option, Some, None, IsPermutation}
use Rattle.std.specs.Prelude.{filter, if◌then◌else◌}
use Rattle.std.specs.List.{list_any, list_all}
use Rattle.std.proofs.lemmas.Bool.{true≢false, false≢true, and_parts, or_left, or_right}
use Rattle.std.proofs.lemmas.List.Sorted.{list_any-IsPermutation}
use Rattle.cedar_builders.specs.BareExpr.{Text}
use Rattle.semantics_authorize.specs.Policies.{Effect, Permit, Forbid, PolicyError, Verdict, Satisfied, Unsatisfied, Failed, Undecided}
use Rattle.semantics_authorize.specs.Decisions.{EvaluatedPolicy, Decision, Allow, Deny, effect_eq, is_satisfied, may_be_satisfied, applies, may_apply, is_denied, is_allowed, decision, applying, error_as, errors}
use Rattle.semantics_authorize.specs.DecisionLaws.{IsExact, is_settled, SettledIsKnown, DenyByDefault, ForbidOverrides, IsSameResponse, OrderIsFree, FurtherKeeps, OnlyFails, FailedOnlyFails, IsLater, AreLater, KnownDecisionStays, UnknownMayBeEither}

-- the decision, by its two tests
abbrev decided : Bool → Bool → Option Decision
decided d a = if d then Some Deny else if a then Some Allow else None

allow_deny : Some Allow ≢ Some Deny
allow_deny h = true≢false (ap is_allow h)
  where
    is_allow : Option Decision → Bool
    is_allow (Some Allow) = true
    is_allow d = false

-- which test passed
was_denied : (d a : Bool) → decided d a ≡ Some Deny → d ≡ true
was_denied true a h = refl
was_denied false true h = cc
was_denied false false h = cc

was_allowed : (d a : Bool) → decided d a ≡ Some Allow → a ≡ true
was_allowed true a h = cc
was_allowed false true h = refl
was_allowed false false h = cc

was_neither : (d a : Bool) → decided d a ≡ None → (d ≡ false) × (a ≡ false)
was_neither true a h = cc
was_neither false true h = cc
was_neither false false h = (refl, refl)

denied_if : (d a : Bool) → d ≡ true → decided d a ≡ Some Deny
denied_if d a h = ap (λ b. decided b a) h

allowed_if : (d a : Bool) → d ≡ false → a ≡ true → decided d a ≡ Some Allow
allowed_if d a h k = λ i. decided (h i) (k i)

-- a policy that applies may apply
satisfied_may : (v : Verdict) → is_satisfied v ≡ true → may_be_satisfied v ≡ true
satisfied_may Satisfied h = refl
satisfied_may Unsatisfied h = h
satisfied_may (Failed f) h = h
satisfied_may Undecided h = refl

both_true : (a b : Bool) → a ≡ true → b ≡ true → (a && b) ≡ true
both_true a b h k = λ i. h i && k i

applies_may : (e : Effect) (j : EvaluatedPolicy) → applies e j ≡ true → may_apply e j ≡ true
applies_may e j h =
    let p = and_parts (effect_eq e j.effect) (is_satisfied j.verdict) h in
    both_true (effect_eq e j.effect) (may_be_satisfied j.verdict) p.0 (satisfied_may j.verdict p.1)

either : (a b c d : Bool) → (a ≡ true → c ≡ true) → (b ≡ true → d ≡ true) → (a || b) ≡ true
    → (c || d) ≡ true
either true b c d f g h = or_left c d (f refl)
either false b c d f g h = or_right c d (g h)

-- what passes one test passes another
any_weaker : (p q : EvaluatedPolicy → Bool) → ((j : EvaluatedPolicy) → p j ≡ true → q j ≡ true) → (js : List EvaluatedPolicy)
    → list_any p js ≡ true → list_any q js ≡ true
any_weaker p q f [] h = h
any_weaker p q f (j ∷ js) h =
    either (p j) (list_any p js) (q j) (list_any q js) (f j) (any_weaker p q f js) h

-- what is allowed is not denied
apart : (af mf ap mp : Bool) → (af ≡ true → mf ≡ true) → (ap ≡ true → mp ≡ true)
    → (ap && not mf) ≡ true → (af || not mp) ≡ false
apart true true ap mp f g h = absurd (false≢true (subst (λ b. b ≡ true) (and_false ap) h))
  where
    and_false : (b : Bool) → (b && false) ≡ false
    and_false true = refl
    and_false false = refl
apart true false ap mp f g h = absurd (false≢true (f refl))
apart false mf true mp f g h = ap' (g refl)
  where
    ap' : mp ≡ true → not mp ≡ false
    ap' e = λ i. not (e i)
apart false mf false mp f g h = absurd (false≢true h)

allowed_apart : (js : List EvaluatedPolicy) → is_allowed js ≡ true → is_denied js ≡ false
allowed_apart js =
    apart (list_any (applies Forbid) js) (list_any (may_apply Forbid) js)
    (list_any (applies Permit) js) (list_any (may_apply Permit) js)
    (any_weaker (applies Forbid) (may_apply Forbid) (applies_may Forbid) js)
    (any_weaker (applies Permit) (may_apply Permit) (applies_may Permit) js)

pub exact : IsExact
exact = record {
  allowed = λ js. (
    was_allowed (is_denied js) (is_allowed js),
    λ h. allowed_if (is_denied js) (is_allowed js) (allowed_apart js h) h,
  );
  denied = λ js. (
    was_denied (is_denied js) (is_allowed js),
    denied_if (is_denied js) (is_allowed js),
  );
}

-- where each condition is decided, what may apply applies
settled_same : (v : Verdict) → is_settled v ≡ true → may_be_satisfied v ≡ is_satisfied v
settled_same Satisfied h = refl
settled_same Unsatisfied h = refl
settled_same (Failed f) h = refl
settled_same Undecided h = absurd (false≢true h)

all_settled : (e : Effect) (js : List EvaluatedPolicy) → list_all (λ j. is_settled j.verdict) js ≡ true
    → list_any (may_apply e) js ≡ list_any (applies e) js
all_settled e [] h = refl
all_settled e (j ∷ js) h =
    let p = and_parts (is_settled j.verdict) _ h in
    λ i. (effect_eq e j.effect && settled_same j.verdict p.0 i) || all_settled e js p.1 i

simply : (f p : Bool)
    → decided (f || not p) (p && not f) ≡ (if p && not f then Some Allow else Some Deny)
simply true true = refl
simply true false = refl
simply false true = refl
simply false false = refl

pub settled_is_known : SettledIsKnown
settled_is_known js h =
    (λ i. decided (list_any (applies Forbid) js || not (all_settled Permit js h i))
    (list_any (applies Permit) js && not (all_settled Forbid js h i)))
    ∙ simply (list_any (applies Forbid) js) (list_any (applies Permit) js)

pub deny_by_default : DenyByDefault
deny_by_default js h =
    denied_if (is_denied js) (is_allowed js)
    (or_right (list_any (applies Forbid) js) (not (list_any (may_apply Permit) js))
    (ap not h))

pub forbid_overrides : ForbidOverrides
forbid_overrides js h =
    denied_if (is_denied js) (is_allowed js)
    (or_left (list_any (applies Forbid) js) (not (list_any (may_apply Permit) js)) h)

-- a test of the identifiers of the policies that apply is a test of the policies
of_applying : (test : Text → Bool) (e : Effect) (js : List EvaluatedPolicy)
    → list_any test (applying e js) ≡ list_any (λ j. applies e j && test j.id) js
of_applying test e [] = refl
of_applying test e (j ∷ js) = go (applies e j) (of_applying test e js)
  where
    go : (b : Bool) → list_any test (applying e js) ≡ list_any (λ k. applies e k && test k.id) js
        → list_any test (map (λ k. k.id) (cond b (j ∷ filter (applies e) js) (filter (applies e) js)))
        ≡ ((b && test j.id) || list_any (λ k. applies e k && test k.id) js)
    go true h = ap (λ b. test j.id || b) h
    go false h = h

-- and a test of errors
passes_as : (Text × PolicyError → Bool) → Option (Text × PolicyError) → Bool
passes_as test None = false
passes_as test (Some p) = test p

of_errors : (test : Text × PolicyError → Bool) (js : List EvaluatedPolicy)
    → list_any test (errors js) ≡ list_any (λ j. passes_as test (error_as j.id j.verdict)) js
unfolding passes_as
of_errors test [] = refl
of_errors test (j ∷ js) = go j.verdict (of_errors test js)
  where
    go : (v : Verdict)
        → list_any test (errors js) ≡ list_any (λ k. passes_as test (error_as k.id k.verdict)) js
        → list_any test (errors (record { id = j.id; effect = j.effect; verdict = v } ∷ js))
        ≡ (passes_as test (error_as j.id v)
        || list_any (λ k. passes_as test (error_as k.id k.verdict)) js)
    go (Failed f) h = ap (λ b. test (j.id, f) || b) h
    go Satisfied h = h
    go Unsatisfied h = h
    go Undecided h = h

module _ (js ks : List EvaluatedPolicy) (s : IsPermutation js ks) where
  -- a test of policies
  any_same : (p : EvaluatedPolicy → Bool) → list_any p js ≡ list_any p ks
  any_same p = list_any-IsPermutation p js ks s

  decision_same : decision js ≡ decision ks
  decision_same = λ i.
      decided (any_same (applies Forbid) i || not (any_same (may_apply Permit) i))
      (any_same (applies Permit) i && not (any_same (may_apply Forbid) i))

  applying_same : (test : Text → Bool) (e : Effect)
      → list_any test (applying e js) ≡ list_any test (applying e ks)
  applying_same test e =
      of_applying test e js
      ∙ (any_same (λ j. applies e j && test j.id) ∙ sym (of_applying test e ks))

  chosen_same : (test : Text → Bool) (b c : Bool) → b ≡ c
      → list_any test (if b then applying Forbid js else applying Permit js)
      ≡ list_any test (if c then applying Forbid ks else applying Permit ks)
  chosen_same test b c h =
      go b ∙ ap (λ d. list_any test (if d then applying Forbid ks else applying Permit ks)) h
    where
      go : (d : Bool) → list_any test (if d then applying Forbid js else applying Permit js)
          ≡ list_any test (if d then applying Forbid ks else applying Permit ks)
      go true = applying_same test Forbid
      go false = applying_same test Permit

  same_response : IsSameResponse js ks
  same_response = record {
    decision = decision_same;
    determining = λ test.
        chosen_same test (list_any (applies Forbid) js) (list_any (applies Forbid) ks)
        (any_same (applies Forbid));
    errors = λ test.
        of_errors test js
        ∙ (any_same (λ j. passes_as test (error_as j.id j.verdict)) ∙ sym (of_errors test ks));
  }

pub order_is_free : OrderIsFree
order_is_free = same_response

-- a policy with the other effect passes no test of one
other_effect : (e : Effect) (v : Bool) (d : Effect) → effect_eq e d ≡ false → (effect_eq e d && v) ≡ false
other_effect e v d h = ap (λ b. b && v) h

no_permit : (d : Effect) → d ≡ Forbid → effect_eq Permit d ≡ false
no_permit d h = ap (effect_eq Permit) h

no_forbid : (d : Effect) → d ≡ Permit → effect_eq Forbid d ≡ false
no_forbid d h = ap (effect_eq Forbid) h

further_forbid : (a b af mp : Bool) → b ≡ false → (af || not mp) ≡ true
    → ((a || af) || not (b || mp)) ≡ true
further_forbid true b af mp h k = refl
further_forbid false b af mp h k = ap (λ c. af || not (c || mp)) h ∙ k

further_permit : (a b ap mf : Bool) → b ≡ false → (ap && not mf) ≡ true
    → ((a || ap) && not (b || mf)) ≡ true
further_permit true b x mf h k =
    ap (λ c. not (c || mf)) h ∙ (and_parts x (not mf) k).1
further_permit false b x mf h k = ap (λ c. x && not (c || mf)) h ∙ k

pub further_keeps : FurtherKeeps
further_keeps = record {
  forbid = λ j js h k.
      (exact.denied (j ∷ js)).1
      (further_forbid (applies Forbid j) (may_apply Permit j) (list_any (applies Forbid) js)
      (list_any (may_apply Permit) js)
      (other_effect Permit (may_be_satisfied j.verdict) j.effect (no_permit j.effect h))
      ((exact.denied js).0 k));
  permit = λ j js h k.
      (exact.allowed (j ∷ js)).1
      (further_permit (applies Permit j) (may_apply Forbid j) (list_any (applies Permit) js)
      (list_any (may_apply Forbid) js)
      (other_effect Forbid (may_be_satisfied j.verdict) j.effect (no_forbid j.effect h))
      ((exact.allowed js).0 k));
}

-- a policy that failed passes no test
and_false : (b : Bool) → (b && false) ≡ false
and_false true = refl
and_false false = refl

module _ (j : EvaluatedPolicy) (f : PolicyError) (js : List EvaluatedPolicy) (failed : j.verdict ≡ Failed f) where
  not_applying : (e : Effect) → applies e j ≡ false
  not_applying e = ap (λ v. effect_eq e j.effect && is_satisfied v) failed ∙ and_false (effect_eq e j.effect)

  not_maybe : (e : Effect) → may_apply e j ≡ false
  not_maybe e = ap (λ v. effect_eq e j.effect && may_be_satisfied v) failed ∙ and_false (effect_eq e j.effect)

  applying_rest : (e : Effect) → applying e (j ∷ js) ≡ applying e js
  applying_rest e =
      ap (λ b. map (λ k. k.id) (cond b (j ∷ filter (applies e) js) (filter (applies e) js)))
      (not_applying e)

  only : OnlyFails j f js
  only = record {
    decision = λ i.
        decided
        ((not_applying Forbid i || list_any (applies Forbid) js)
        || not (not_maybe Permit i || list_any (may_apply Permit) js))
        ((not_applying Permit i || list_any (applies Permit) js)
        && not (not_maybe Forbid i || list_any (may_apply Forbid) js));
    determining = λ i.
        if not_applying Forbid i || list_any (applies Forbid) js
        then applying_rest Forbid i
        else applying_rest Permit i;
    errors = ap
        (λ v. errors (record { id = j.id; effect = j.effect; verdict = v } ∷ js)) failed;
  }

pub failed_only_fails : FailedOnlyFails
failed_only_fails = only

-- what is settled is not undecided
not_undecided : (v : Verdict) → is_settled v ≡ true → v ≢ Undecided
not_undecided v h e = true≢false (sym h ∙ ap is_settled e)

satisfied_settled : (v : Verdict) → is_satisfied v ≡ true → is_settled v ≡ true
satisfied_settled Satisfied h = refl
satisfied_settled Unsatisfied h = refl
satisfied_settled (Failed f) h = refl
satisfied_settled Undecided h = h

module _ (j k : EvaluatedPolicy) (l : IsLater j k) (e : Effect) where
  applies_later : applies e j ≡ true → applies e k ≡ true
  applies_later h =
      let p = and_parts (effect_eq e j.effect) (is_satisfied j.verdict) h in
      let w = not_undecided j.verdict (satisfied_settled j.verdict p.1) in
      (λ i. effect_eq e (l.effect i) && is_satisfied (l.verdict w i)) ∙ h

  may_before : may_apply e k ≡ true → may_apply e j ≡ true
  may_before h =
      both_true (effect_eq e j.effect) (may_be_satisfied j.verdict)
      (sym (ap (effect_eq e) l.effect) ∙ p.0) (go j.verdict refl)
    where
      p : (effect_eq e k.effect ≡ true) × (may_be_satisfied k.verdict ≡ true)
      p = and_parts (effect_eq e k.effect) (may_be_satisfied k.verdict) h

      same : is_settled j.verdict ≡ true → may_be_satisfied j.verdict ≡ true
      same s = sym (ap may_be_satisfied (l.verdict (not_undecided j.verdict s))) ∙ p.1

      go : (v : Verdict) → j.verdict ≡ v → may_be_satisfied j.verdict ≡ true
      go Undecided q = ap may_be_satisfied q
      go Satisfied q = same (ap is_settled q)
      go Unsatisfied q = same (ap is_settled q)
      go (Failed f) q = same (ap is_settled q)

any_later : (e : Effect) (js ks : List EvaluatedPolicy) → AreLater js ks
    → list_any (applies e) js ≡ true → list_any (applies e) ks ≡ true
any_later e [] [] l h = h
any_later e [] (k ∷ ks) l h = absurd l
any_later e (j ∷ js) [] l h = absurd l
any_later e (j ∷ js) (k ∷ ks) l h =
    either (applies e j) (list_any (applies e) js) (applies e k) (list_any (applies e) ks)
    (applies_later j k l.0 e) (any_later e js ks l.1) h

any_before : (e : Effect) (js ks : List EvaluatedPolicy) → AreLater js ks
    → list_any (may_apply e) ks ≡ true → list_any (may_apply e) js ≡ true
any_before e [] [] l h = h
any_before e [] (k ∷ ks) l h = absurd l
any_before e (j ∷ js) [] l h = absurd l
any_before e (j ∷ js) (k ∷ ks) l h =
    either (may_apply e k) (list_any (may_apply e) ks) (may_apply e j) (list_any (may_apply e) js)
    (may_before j k l.0 e) (any_before e js ks l.1) h

denied_on : (a b m n : Bool) → (a ≡ true → b ≡ true) → (n ≡ true → m ≡ true)
    → (a || not m) ≡ true → (b || not n) ≡ true
denied_on true b m n f g h = or_left b (not n) (f refl)
denied_on false b m true f g h = absurd (false≢true (sym (ap not (g refl)) ∙ h))
denied_on false b m false f g h = or_right b true refl

allowed_on : (a b m n : Bool) → (a ≡ true → b ≡ true) → (n ≡ true → m ≡ true)
    → (a && not m) ≡ true → (b && not n) ≡ true
allowed_on true b m true f g h = absurd (false≢true (sym (ap not (g refl)) ∙ h))
allowed_on true b m false f g h = both_true b true (f refl) refl
allowed_on false b m n f g h = absurd (false≢true h)

module _ (js ks : List EvaluatedPolicy) (l : AreLater js ks) where
  denied_later : is_denied js ≡ true → is_denied ks ≡ true
  denied_later =
      denied_on (list_any (applies Forbid) js) (list_any (applies Forbid) ks)
      (list_any (may_apply Permit) js) (list_any (may_apply Permit) ks)
      (any_later Forbid js ks l) (any_before Permit js ks l)

  allowed_later : is_allowed js ≡ true → is_allowed ks ≡ true
  allowed_later =
      allowed_on (list_any (applies Permit) js) (list_any (applies Permit) ks)
      (list_any (may_apply Forbid) js) (list_any (may_apply Forbid) ks)
      (any_later Permit js ks l) (any_before Forbid js ks l)

  stays : decision js ≢ None → decision ks ≡ decision js
  stays known = go (decision js) refl
    where
      go : (d : Option Decision) → decision js ≡ d → decision ks ≡ decision js
      go (Some Allow) h = (exact.allowed ks).1 (allowed_later ((exact.allowed js).0 h)) ∙ sym h
      go (Some Deny) h = (exact.denied ks).1 (denied_later ((exact.denied js).0 h)) ∙ sym h
      go None h = absurd (known h)

pub known_decision_stays : KnownDecisionStays
known_decision_stays = stays

-- a policy that is undecided comes to be true if it has this effect, else false
come : Effect → Effect → Verdict → Verdict
come e d Undecided = if effect_eq e d then Satisfied else Unsatisfied
come e d v = v

come_true : Effect → EvaluatedPolicy → EvaluatedPolicy
come_true e j = record { id = j.id; effect = j.effect; verdict = come e j.effect j.verdict }

later : (e : Effect) (j : EvaluatedPolicy) → IsLater j (come_true e j)
unfolding come come_true
later e j = record { id = refl; effect = refl; verdict = λ w. go j.verdict w }
  where
    go : (v : Verdict) → v ≢ Undecided → come e j.effect v ≡ v
    go Satisfied w = refl
    go Unsatisfied w = refl
    go (Failed f) w = refl
    go Undecided w = absurd (w refl)

all_later : (e : Effect) (js : List EvaluatedPolicy) → AreLater js (map (come_true e) js)
all_later e [] = tt
all_later e (j ∷ js) = (later e j, all_later e js)

-- then those with this effect apply that may, and those with the other that do
apply_then : (e d : Effect) (v : Verdict)
    → (effect_eq e d && is_satisfied (come e d v)) ≡ (effect_eq e d && may_be_satisfied v)
unfolding come
apply_then Permit Permit Undecided = refl
apply_then Forbid Forbid Undecided = refl
apply_then Permit Forbid v = refl
apply_then Forbid Permit v = refl
apply_then e d Satisfied = refl
apply_then e d Unsatisfied = refl
apply_then e d (Failed f) = refl

abbrev other : Effect → Effect
other Permit = Forbid
other Forbid = Permit

may_then : (e d : Effect) (v : Verdict)
    → (effect_eq (other e) d && may_be_satisfied (come e d v)) ≡ (effect_eq (other e) d && is_satisfied v)
unfolding come
may_then Permit Forbid Undecided = refl
may_then Forbid Permit Undecided = refl
may_then Permit Permit v = refl
may_then Forbid Forbid v = refl
may_then Permit d Satisfied = refl
may_then Permit d Unsatisfied = refl
may_then Permit d (Failed f) = refl
may_then Forbid d Satisfied = refl
may_then Forbid d Unsatisfied = refl
may_then Forbid d (Failed f) = refl

any_applies : (e : Effect) (js : List EvaluatedPolicy)
    → list_any (applies e) (map (come_true e) js) ≡ list_any (may_apply e) js
unfolding come_true
any_applies e [] = refl
any_applies e (j ∷ js) = λ i. apply_then e j.effect j.verdict i || any_applies e js i

any_may : (e : Effect) (js : List EvaluatedPolicy)
    → list_any (may_apply (other e)) (map (come_true e) js) ≡ list_any (applies (other e)) js
unfolding come_true
any_may e [] = refl
any_may e (j ∷ js) = λ i. may_then e j.effect j.verdict i || any_may e js i

open_tests : (af mp x mf : Bool) → (af || not mp) ≡ false → (x && not mf) ≡ false
    → ((mp && not af) ≡ true) × ((mf || not x) ≡ true)
open_tests true mp x mf h k = absurd (true≢false h)
open_tests false false x mf h k = absurd (true≢false h)
open_tests false true true true h k = (refl, refl)
open_tests false true true false h k = absurd (true≢false k)
open_tests false true false true h k = (refl, refl)
open_tests false true false false h k = (refl, refl)

pub unknown_may_be_either : UnknownMayBeEither
unknown_may_be_either js h =
    let n = was_neither (is_denied js) (is_allowed js) h in
    let t = open_tests (list_any (applies Forbid) js) (list_any (may_apply Permit) js)
    (list_any (applies Permit) js) (list_any (may_apply Forbid) js) n.0 n.1 in
    let ks = map (come_true Permit) js in
    let ls = map (come_true Forbid) js in
    record {
      allowed = (
        ks,
        all_later Permit js,
        (exact.allowed ks).1 ((λ i. any_applies Permit js i && not (any_may Permit js i)) ∙ t.0),
      );
      denied = (
        ls,
        all_later Forbid js,
        (exact.denied ls).1 ((λ i. any_applies Forbid js i || not (any_may Forbid js i)) ∙ t.1),
      );
    }
