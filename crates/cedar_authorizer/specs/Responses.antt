-- What a response means.
use Rattle.std.specs.Prelude.{List, map, option_map}
use Rattle.std.specs.Global.{Global}
use Rattle.std.specs.Rc.{rc_str_bytes}
use Rattle.std.specs.declared.rc.RcStr.{RcStr}
use Rattle.cedar_builders.specs.BareExpr.{Text}
use Rattle.semantics_authorize.specs.Decisions as meant
use Rattle.semantics_authorize.specs.Policies as meant_policies
use Rattle.cedar_authorizer.specs.Verdicts.{bare_error}
use Rattle.cedar_authorizer.specs.declared.fault.PolicyError.{PolicyError}
use Rattle.cedar_authorizer.specs.declared.response.Decision.{Decision}
use Rattle.cedar_authorizer.specs.declared.response.Decision.TheVariants.{Allow, Deny}
use Rattle.cedar_authorizer.specs.declared.response.Response.{Response}

abbrev pub bare_decision : Decision → meant.Decision
bare_decision Allow = meant.Allow
bare_decision Deny = meant.Deny

-- identifiers by their texts
abbrev pub texts : List (RcStr Global) → List Text
texts = map rc_str_bytes

-- errors, each with the text of its policy's identifier
abbrev pub bare_errors :
    List (RcStr Global × PolicyError) → List (Text × meant_policies.PolicyError)
bare_errors = map (λ e. (rc_str_bytes e.0, bare_error e.1))

-- a response
abbrev pub bare_response : Response → meant.Response
bare_response r = record {
  decision = option_map bare_decision r.decision;
  determining = texts r.determining.items;
  errors = bare_errors r.errors.items;
}
