-- the derived hash respects the derived comparison
use Rattle.cedar_exprs.specs.contracts.expr.ExprHash.TheImpl.Laws as hash_laws
use Rattle.cedar_exprs.proofs.laws.alike_expressions.Goals as goal

pub returns : goal.returns
returns g c = hash_laws.respects_eq-law g.row.T g.T.Hash g.T.Hash-dict g.T.Eq g.T.Eq-dict g.T.PartialEq g.T.PartialEq-dict (record { respects_eq = g.met.T.Hash.respects_eq }) (record { laws = g.met.T.Eq.laws }) (record { laws = g.met.T.PartialEq.laws })
