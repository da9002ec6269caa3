use Rattle.cedar_sorted_slices.specs.Unique.{same_classes_tie, tied_has, tied_length}
use Rattle.cedar_sorted_slices.proofs.laws.ascending_lists_are_unique.Goals as goal

pub returns-clause-ties : goal.returns-clause-ties
returns-clause-ties g c xs ys s t = (same_classes_tie g.met.T.Ord.total xs ys s t, tied_has g.met.T.Ord.total xs ys)

pub returns-clause-lengths : goal.returns-clause-lengths
returns-clause-lengths g c xs ys s t same =
    let o = g.met.T.Ord.total in
    tied_length o xs ys (same_classes_tie o xs ys s t same)
