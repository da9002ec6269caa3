-- What a tally counts.
use Rattle.std.specs.Prelude.{◌≡◌, Bool, true, false, not, ◌&&◌, ◌++◌, ◌||◌, List, [], ◌∷◌, Option, Some, None, if◌then◌else◌}
use Rattle.std.specs.List.{list_any}
use Rattle.semantics_authorize.specs.Policies.{Permit, Forbid, Policy, Verdict}
use Rattle.semantics_authorize.specs.Decisions.{EvaluatedPolicy, Decision, Allow, Deny, applying, errors, may_apply}
use Rattle.cedar_builders.specs.BareExpr.{Text}
use Rattle.cedar_authorizer.specs.Responses.{bare_errors, texts}
use Rattle.cedar_authorizer.specs.declared.tally.Tally.{Tally}

-- a policy with what its condition comes to
abbrev pub with_verdict : Policy → Verdict → EvaluatedPolicy
with_verdict p v = record { id = p.id; effect = p.effect; verdict = v }

-- it counts these policies
pub record IsTally (t : Tally) (js : List EvaluatedPolicy) : Type 0 where
  pub permits : texts t.permits.items ≡ applying Permit js
  pub forbids : texts t.forbids.items ≡ applying Forbid js
  pub may_permit : t.may_permit ≡ list_any (may_apply Permit) js
  pub may_forbid : t.may_forbid ≡ list_any (may_apply Forbid) js
  pub errors : bare_errors t.errors.items ≡ errors js

-- it counts one policy more than another
pub record IsTallyWith (t u : Tally) (j : EvaluatedPolicy) : Type 0 where
  pub permits : texts u.permits.items ≡ texts t.permits.items ++ applying Permit (j ∷ [])
  pub forbids : texts u.forbids.items ≡ texts t.forbids.items ++ applying Forbid (j ∷ [])
  pub may_permit : u.may_permit ≡ (t.may_permit || list_any (may_apply Permit) (j ∷ []))
  pub may_forbid : u.may_forbid ≡ (t.may_forbid || list_any (may_apply Forbid) (j ∷ []))
  pub errors : bare_errors u.errors.items ≡ bare_errors t.errors.items ++ errors (j ∷ [])

-- whether a list is empty
abbrev pub is_nil : {A : Type 0} → List A → Bool
is_nil [] = true
is_nil (x ∷ xs) = false

-- the decision by what is counted: whether some forbid applies, whether some permit does, and
-- whether more of either may
abbrev pub decided : Bool → Bool → Bool → Bool → Option Decision
decided forbids permits may_forbid may_permit =
    if forbids || not may_permit then Some Deny
    else if permits && not may_forbid then Some Allow else None

-- the determining policies: the forbids that apply, if any do, else the permits
abbrev pub determined_by : List Text → List Text → List Text
determined_by forbids permits = if is_nil forbids then permits else forbids
