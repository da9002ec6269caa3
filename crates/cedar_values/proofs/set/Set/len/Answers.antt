use Rattle.std.proofs.Common.{sym, ap, length, ◌∙◌}
use Rattle.cedar_sorted_slices.specs.Unique.{same_classes_tie, tied_length}
use Rattle.cedar_values.specs.Sets.{members}
use Rattle.cedar_values.proofs.WellFormedSets.{sorted_members}
use Rattle.cedar_values.proofs.set.Set.len.Goals as goal

pub returns-clause-classes : goal.returns-clause-classes
returns-clause-classes g c R total kept xs h =
    let s = c.args.self.now in
    ap length c.authoritative.ensures
    ∙ tied_length total (members s) xs (same_classes_tie total (members s) xs (sorted_members R total s kept) h.ascending (λ q. sym (h.same q)))
