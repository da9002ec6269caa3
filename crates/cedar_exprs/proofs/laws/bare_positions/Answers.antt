use Rattle.cedar_exprs.proofs.BareWalks.{positions_bare}
use Rattle.cedar_exprs.proofs.laws.bare_positions.Goals as goal

pub returns : goal.returns
returns g c = positions_bare c.args.expr.now
