use Rattle.cedar_values.proofs.ValueOrder.{set_order, set_eq_by_tree}
use Rattle.cedar_values.proofs.laws.order_of_sets.Goals as goal

pub returns : goal.returns
returns g c = record {
  order = set_order g.row.X g.X.Ord g.X.Ord-dict g.X.Eq g.X.Eq-dict g.X.PartialEq g.X.PartialEq-dict g.X.PartialOrd g.X.PartialOrd-dict (record { total = g.met.X.Ord.total; matches_partial_cmp = g.met.X.Ord.matches_partial_cmp; matches_eq = g.met.X.Ord.matches_eq }) (record { laws = g.met.X.Eq.laws }) (record { laws = g.met.X.PartialEq.laws }) (record { laws = g.met.X.PartialOrd.laws });
  same = set_eq_by_tree g.row.X g.X.Ord g.X.Ord-dict g.X.Eq g.X.Eq-dict g.X.PartialEq g.X.PartialEq-dict g.X.PartialOrd g.X.PartialOrd-dict (record { total = g.met.X.Ord.total; matches_partial_cmp = g.met.X.Ord.matches_partial_cmp; matches_eq = g.met.X.Ord.matches_eq }) (record { laws = g.met.X.Eq.laws }) (record { laws = g.met.X.PartialEq.laws }) (record { laws = g.met.X.PartialOrd.laws });
}
