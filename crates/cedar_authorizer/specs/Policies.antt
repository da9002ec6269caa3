-- What a policy means.
use Rattle.std.specs.Rc.{rc_str_bytes}
use Rattle.cedar_exprs.specs.BareExpr.{bare_expr}
use Rattle.semantics_authorize.specs.Policies as meant
use Rattle.cedar_policies.specs.declared.policy.Effect.{Effect}
use Rattle.cedar_policies.specs.declared.policy.Effect.TheVariants.{Permit, Forbid}
use Rattle.cedar_authorizer.specs.declared.policy.Policy.{Policy}

abbrev pub bare_effect : Effect → meant.Effect
bare_effect Permit = meant.Permit
bare_effect Forbid = meant.Forbid

-- the texts of its identifier, its effect, and the tree of its condition
abbrev pub bare_policy : Policy → meant.Policy
bare_policy p = record {
  id = rc_str_bytes p.id;
  effect = bare_effect p.effect;
  condition = bare_expr p.condition;
}
