use Rattle.std.proofs.Common.{sym, ap, ◌∙◌}
use Rattle.std.specs.Cmp.{Equal-is}
use Rattle.std.specs.Cmp.Lexicographic.{slice_cmp}
use Rattle.std.specs.Ordering.{is_eq}
use Rattle.cedar_sorted_slices.specs.Unique.{same_classes_tie, tied_has}
use Rattle.cedar_values.specs.Sets.{by_tree, members}
use Rattle.cedar_values.proofs.ValueOrder.{set_eq_is}
use Rattle.cedar_values.proofs.WellFormedSets.{sorted_members}
use Rattle.cedar_values.proofs.laws.sets_are_finite_sets.Goals as goal

pub returns : goal.returns
returns g c a b kept kept' =
    let R = g.X.Ord.cmp in
    let total = c.order_of_values.ensures.total in
    let is = set_eq_is g.row.X g.X.Ord g.X.Ord-dict g.X.Eq g.X.Eq-dict g.X.PartialEq g.X.PartialEq-dict g.X.PartialOrd g.X.PartialOrd-dict (record { total = g.met.X.Ord.total; matches_partial_cmp = g.met.X.Ord.matches_partial_cmp; matches_eq = g.met.X.Ord.matches_eq }) (record { laws = g.met.X.Eq.laws }) (record { laws = g.met.X.PartialEq.laws }) (record { laws = g.met.X.PartialOrd.laws }) a b in (
      λ t q. tied_has total (members a) (members b) ((Equal-is (slice_cmp (by_tree R) (members a) (members b))).0 (sym is ∙ t)) q,
      λ h. is ∙ ap is_eq (same_classes_tie total (members a) (members b) (sorted_members R total a kept) (sorted_members R total b kept') h),
    )
