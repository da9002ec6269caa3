-- The response to a request, by what the conditions of the policies come to (Cedar's `Authorizer`).
use Rattle.std.specs.Prelude.{Bool, true, false, not, ◌&&◌, ◌||◌, List, map, filter, filter_map, Option, Some, None, if◌then◌else◌}
use Rattle.std.specs.List.{list_any}
use Rattle.cedar_builders.specs.BareExpr.{Text}
use Rattle.semantics_authorize.specs.Policies.{Effect, Permit, Forbid, PolicyError, Verdict, Satisfied, Failed, Undecided}

-- a policy, by what its condition comes to
pub record EvaluatedPolicy : Type 0 where
  pub id : Text
  pub effect : Effect
  pub verdict : Verdict

pub data Decision : Type 0 where
  Allow Deny : Decision

-- whether two effects are one
abbrev pub effect_eq : Effect → Effect → Bool
effect_eq Permit Permit = true
effect_eq Forbid Forbid = true
effect_eq e f = false

-- whether a condition is true
abbrev pub is_satisfied : Verdict → Bool
is_satisfied Satisfied = true
is_satisfied v = false

-- whether a condition is true, or may come to be
abbrev pub may_be_satisfied : Verdict → Bool
may_be_satisfied Satisfied = true
may_be_satisfied Undecided = true
may_be_satisfied v = false

-- whether a policy has this effect and its condition is true, or may come to be
abbrev pub applies : Effect → EvaluatedPolicy → Bool
applies e j = effect_eq e j.effect && is_satisfied j.verdict

abbrev pub may_apply : Effect → EvaluatedPolicy → Bool
may_apply e j = effect_eq e j.effect && may_be_satisfied j.verdict

-- denied: some forbid applies, or no permit may
abbrev pub is_denied : List EvaluatedPolicy → Bool
is_denied js = list_any (applies Forbid) js || not (list_any (may_apply Permit) js)

-- allowed: some permit applies, and no forbid may
abbrev pub is_allowed : List EvaluatedPolicy → Bool
is_allowed js = list_any (applies Permit) js && not (list_any (may_apply Forbid) js)

-- the decision, if it is known yet (Cedar's `PartialResponse::decision`, and that of a `Response`
-- if each condition is decided)
abbrev pub decision : List EvaluatedPolicy → Option Decision
decision js = if is_denied js then Some Deny else if is_allowed js then Some Allow else None

-- the policies that apply with this effect, by their identifiers
abbrev pub applying : Effect → List EvaluatedPolicy → List Text
applying e js = map (λ j. j.id) (filter (applies e) js)

-- the determining policies (`Diagnostics::reason`): the forbids that apply, if any do, else the
-- permits that apply
abbrev pub determining : List EvaluatedPolicy → List Text
determining js =
    if list_any (applies Forbid) js then applying Forbid js else applying Permit js

-- the error of a policy, if it has one
abbrev pub error_as : Text → Verdict → Option (Text × PolicyError)
error_as i (Failed f) = Some (i, f)
error_as i v = None

-- the policies that have an error (`Diagnostics::errors`)
abbrev pub errors : List EvaluatedPolicy → List (Text × PolicyError)
errors = filter_map (λ j. error_as j.id j.verdict)

-- a response (`Response` and its `Diagnostics`)
pub record Response : Type 0 where
  pub decision : Option Decision
  pub determining : List Text
  pub errors : List (Text × PolicyError)

abbrev pub response : List EvaluatedPolicy → Response
response js =
    record { decision = decision js; determining = determining js; errors = errors js }
