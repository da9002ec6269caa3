-- the derived comparison decides both
use Rattle.cedar_exprs.proofs.Derived.{expr_eq_decides}
use Rattle.cedar_exprs.proofs.laws.equal_expressions.Goals as goal

pub returns : goal.returns
returns g c = expr_eq_decides g.row.T g.T.PartialEq g.T.PartialEq-dict (record { laws = g.met.T.PartialEq.laws })
