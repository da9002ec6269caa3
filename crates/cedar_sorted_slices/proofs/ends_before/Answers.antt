use Rattle.std.proofs.Common.{sym, ap, ◌∙◌}
use Rattle.std.specs.Ordering.{is_lt, is_some_and}
use Rattle.cedar_sorted_slices.specs.Ascending.{less}
use Rattle.cedar_sorted_slices.proofs.Ends.{apart}
use Rattle.cedar_sorted_slices.proofs.ends_before.Goals as goal

pub returns-in-Some-Some : goal.returns-in-Some-Some
returns-in-Some-Some g c s t lt =
    let last = c.in-Some-Some.last.now in
    let first = c.in-Some-Some.first.now in
    let is = g.met.T.Ord.matches_partial_cmp last first in
    apart g.met.T.Ord.total c.args.items.now c.args.others.now last first s t c.in-Some-Some.ensures.value c.in-Some-Some.ensures'.value
    (less _ (sym (ap (is_some_and is_lt) is) ∙ sym c.lt.ensures ∙ lt))
