use Rattle.std.proofs.Common.{ap, ◌∙◌}
use Rattle.cedar_builders.specs.Restricted.{is_restricted}
use Rattle.cedar_values.proofs.Restrictions.{restricted_set}
use Rattle.cedar_values.proofs.to_expr.write_members.Goals as goal

pub returns-clause-is_step : goal.returns-clause-is_step
returns-clause-is_step g c =
    ap is_restricted (c.at_place.ensures.tree ∙ c.in_ok-set.ensures.tree) ∙ restricted_set c.each.row.exprs.items c.each.invariant.1
