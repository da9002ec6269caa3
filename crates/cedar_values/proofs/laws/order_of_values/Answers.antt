use Rattle.std.proofs.Common.{sym, ◌∙◌}
use Rattle.std.specs.Ordering.{is_eq}
use Rattle.semantics_values.specs.ValueOrder.{value_ties}
use Rattle.cedar_values.specs.BareValues.{bare_value}
use Rattle.cedar_values.proofs.ValueOrder.{value_order, by_tree_total, value_eq_by_cmp}
use Rattle.cedar_values.proofs.laws.order_of_values.Goals as goal

pub returns : goal.returns
returns g c = record {
  order = λ a b i. value_order g.row.X g.X.Ord g.X.Ord-dict g.X.Eq g.X.Eq-dict g.X.PartialEq g.X.PartialEq-dict g.X.PartialOrd g.X.PartialOrd-dict (record { total = g.met.X.Ord.total; matches_partial_cmp = g.met.X.Ord.matches_partial_cmp; matches_eq = g.met.X.Ord.matches_eq }) (record { laws = g.met.X.Eq.laws }) (record { laws = g.met.X.PartialEq.laws }) (record { laws = g.met.X.PartialOrd.laws }) i a b;
  total = by_tree_total g.row.X g.X.Ord g.X.Ord-dict g.X.Eq g.X.Eq-dict g.X.PartialEq g.X.PartialEq-dict g.X.PartialOrd g.X.PartialOrd-dict (record { total = g.met.X.Ord.total; matches_partial_cmp = g.met.X.Ord.matches_partial_cmp; matches_eq = g.met.X.Ord.matches_eq }) (record { laws = g.met.X.Eq.laws }) (record { laws = g.met.X.PartialEq.laws }) (record { laws = g.met.X.PartialOrd.laws });
  same = λ a b. value_eq_by_cmp g.row.X g.X.Ord g.X.Ord-dict g.X.Eq g.X.Eq-dict g.X.PartialEq g.X.PartialEq-dict g.X.PartialOrd g.X.PartialOrd-dict (record { total = g.met.X.Ord.total; matches_partial_cmp = g.met.X.Ord.matches_partial_cmp; matches_eq = g.met.X.Ord.matches_eq }) (record { laws = g.met.X.Eq.laws }) (record { laws = g.met.X.PartialEq.laws }) (record { laws = g.met.X.PartialOrd.laws }) a b ∙ (λ i. is_eq (value_order g.row.X g.X.Ord g.X.Ord-dict g.X.Eq g.X.Eq-dict g.X.PartialEq g.X.PartialEq-dict g.X.PartialOrd g.X.PartialOrd-dict (record { total = g.met.X.Ord.total; matches_partial_cmp = g.met.X.Ord.matches_partial_cmp; matches_eq = g.met.X.Ord.matches_eq }) (record { laws = g.met.X.Eq.laws }) (record { laws = g.met.X.PartialEq.laws }) (record { laws = g.met.X.PartialOrd.laws }) i a b)) ∙ sym (value_ties g.X.Ord.cmp g.X.PartialEq.eq g.met.X.Ord.matches_eq (bare_value a) (bare_value b));
}
