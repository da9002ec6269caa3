-- The laws of decisions, by what the conditions of policies come to, over the definitions alone.
use Rattle.std.specs.Prelude.{◌≡◌, ◌≢◌, ◌↔◌, ⊤, Bool, true, false, not, ◌&&◌, IsTrue, List, [], ◌∷◌, IsPermutation, Some, None, if◌then◌else◌}
use Rattle.std.specs.List.{list_any, list_all}
use Rattle.cedar_builders.specs.BareExpr.{Text}
use Rattle.semantics_authorize.specs.Policies.{Permit, Forbid, PolicyError, Verdict, Failed, Undecided}
use Rattle.semantics_authorize.specs.Decisions.{EvaluatedPolicy, Allow, Deny, applies, may_apply, is_denied, is_allowed, decision, determining, errors}

-- Allow and Deny are said just where these tests pass
pub record IsExact : Type 0 where
  pub allowed : (js : List EvaluatedPolicy) → (decision js ≡ Some Allow) ↔ IsTrue (is_allowed js)
  pub denied : (js : List EvaluatedPolicy) → (decision js ≡ Some Deny) ↔ IsTrue (is_denied js)

-- a policy of which it is known whether it applies
abbrev pub is_settled : Verdict → Bool
is_settled Undecided = false
is_settled v = true

-- where it is known of each, the decision is Allow if some permit applies and no forbid, else Deny
abbrev pub SettledIsKnown : Type 0
SettledIsKnown =
    (js : List EvaluatedPolicy) → IsTrue (list_all (λ j. is_settled j.verdict) js)
    → decision js
    ≡ (if list_any (applies Permit) js && not (list_any (applies Forbid) js)
    then Some Allow else Some Deny)

-- where no permit may apply, the decision is Deny
abbrev pub DenyByDefault : Type 0
DenyByDefault =
    (js : List EvaluatedPolicy) → list_any (may_apply Permit) js ≡ false → decision js ≡ Some Deny

-- where some forbid applies, the decision is Deny
abbrev pub ForbidOverrides : Type 0
ForbidOverrides =
    (js : List EvaluatedPolicy) → IsTrue (list_any (applies Forbid) js) → decision js ≡ Some Deny

-- the same decision, and no test of identifiers, nor of errors, tells the responses apart
pub record IsSameResponse (js ks : List EvaluatedPolicy) : Type 0 where
  pub decision : decision js ≡ decision ks
  pub determining :
      (test : Text → Bool) → list_any test (determining js) ≡ list_any test (determining ks)
  pub errors :
      (test : Text × PolicyError → Bool) → list_any test (errors js) ≡ list_any test (errors ks)

-- the order of the policies does not count
abbrev pub OrderIsFree : Type 0
OrderIsFree = (js ks : List EvaluatedPolicy) → IsPermutation js ks → IsSameResponse js ks

-- a further forbid keeps Deny, and a further permit keeps Allow
pub record FurtherKeeps : Type 0 where
  pub forbid :
      (j : EvaluatedPolicy) (js : List EvaluatedPolicy) → j.effect ≡ Forbid
      → decision js ≡ Some Deny → decision (j ∷ js) ≡ Some Deny
  pub permit :
      (j : EvaluatedPolicy) (js : List EvaluatedPolicy) → j.effect ≡ Permit
      → decision js ≡ Some Allow → decision (j ∷ js) ≡ Some Allow

-- of a policy that has an error the response says nothing but that
pub record OnlyFails (j : EvaluatedPolicy) (f : PolicyError) (js : List EvaluatedPolicy)
    : Type 0 where
  pub decision : decision (j ∷ js) ≡ decision js
  pub determining : determining (j ∷ js) ≡ determining js
  pub errors : errors (j ∷ js) ≡ (j.id, f) ∷ errors js

abbrev pub FailedOnlyFails : Type 0
FailedOnlyFails =
    (j : EvaluatedPolicy) (f : PolicyError) (js : List EvaluatedPolicy) → j.verdict ≡ Failed f
    → OnlyFails j f js

-- the same policy later, when more may be known: its verdict stays, unless it was undecided
pub record IsLater (j k : EvaluatedPolicy) : Type 0 where
  pub id : k.id ≡ j.id
  pub effect : k.effect ≡ j.effect
  pub verdict : j.verdict ≢ Undecided → k.verdict ≡ j.verdict

-- one by one
abbrev pub AreLater : List EvaluatedPolicy → List EvaluatedPolicy → Type 0
AreLater [] [] = ⊤
AreLater [] (k ∷ ks) = ⊥
AreLater (j ∷ js) [] = ⊥
AreLater (j ∷ js) (k ∷ ks) = IsLater j k × AreLater js ks

-- a decision that is known stays
abbrev pub KnownDecisionStays : Type 0
KnownDecisionStays =
    (js ks : List EvaluatedPolicy) → AreLater js ks → decision js ≢ None → decision ks ≡ decision js

-- and where it is not known, it may still come to be either
pub record MayBeEither (js : List EvaluatedPolicy) : Type 0 where
  pub allowed : (ks : List EvaluatedPolicy) × AreLater js ks × (decision ks ≡ Some Allow)
  pub denied : (ks : List EvaluatedPolicy) × AreLater js ks × (decision ks ≡ Some Deny)

abbrev pub UnknownMayBeEither : Type 0
UnknownMayBeEither = (js : List EvaluatedPolicy) → decision js ≡ None → MayBeEither js
