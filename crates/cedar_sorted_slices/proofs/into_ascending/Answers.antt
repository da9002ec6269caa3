use Rattle.std.proofs.Common.{sym, subst, ap, ◌∙◌}
use Rattle.std.specs.List.{Contains}
use Rattle.std.specs.List.Sorted.{IsStrictlySortedBy}
use Rattle.std.proofs.lemmas.List.Filters.{dedup_is}
use Rattle.std.proofs.lemmas.List.Kept.{IsStrictlySortedBy-dedup, Contains-from_dedup}
use Rattle.std.proofs.lemmas.List.Sorted.{Contains-permutation, IsPermutation-sym}
use Rattle.cedar_sorted_slices.proofs.Halving.{has-dedup, has-permutation}
use Rattle.cedar_sorted_slices.specs.Classes.{has_class}
use Rattle.cedar_sorted_slices.proofs.into_ascending.Goals as goal

pub returns : goal.returns
returns g c =
    let o = g.met.T.Ord in
    let sorted = c.sort_unstable.new.self.items in
    let is = dedup_is g.T.PartialEq.eq sorted c.dedup.new.self.items c.dedup.ensures.filtered in
    record {
      ascending = subst (IsStrictlySortedBy g.T.Ord.cmp) (sym is) (IsStrictlySortedBy-dedup o.total o.matches_eq sorted c.sort_unstable.ensures.sorted);
      same = λ q. ap (λ xs. has_class g.T.Ord.cmp xs q) is ∙ has-dedup o.total o.matches_eq sorted q ∙ has-permutation o.total c.args.items.items sorted q c.sort_unstable.ensures.permutation;
      kept = λ x h. Contains-permutation _ _ x (IsPermutation-sym _ _ c.sort_unstable.ensures.permutation) (Contains-from_dedup g.T.PartialEq.eq sorted x (subst (λ xs. Contains xs x) is h));
    }
