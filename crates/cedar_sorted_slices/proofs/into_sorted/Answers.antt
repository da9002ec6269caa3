use Rattle.std.specs.Ordering.{eq_by_cmp}
use Rattle.std.proofs.lemmas.Cmp.{eq_by_cmp_equiv}
use Rattle.std.proofs.lemmas.List.Sorted.{Contains-permutation, IsPermutation-sym}
use Rattle.std.proofs.lemmas.Map.Keys.{IsDistinct-IsPermutation}
use Rattle.cedar_sorted_slices.proofs.Halving.{has-permutation}
use Rattle.cedar_sorted_slices.proofs.Distinct.{strictly}
use Rattle.cedar_sorted_slices.proofs.into_sorted.Goals as goal

pub returns : goal.returns
returns g c distinct =
    let o = g.met.T.Ord in
    let R = g.T.Ord.cmp in
    let items = c.args.distinct.items in
    let sorted = c.sort_unstable.new.self.items in
    let moved = c.sort_unstable.ensures.permutation in
    record {
      ascending = strictly o.total sorted c.sort_unstable.ensures.sorted (IsDistinct-IsPermutation (eq_by_cmp R) (eq_by_cmp_equiv o.total).symm items sorted moved distinct);
      same = λ q. has-permutation o.total items sorted q moved;
      kept = λ x h. Contains-permutation _ _ x (IsPermutation-sym _ _ moved) h;
    }
