use Rattle.std.proofs.Common.{sym, subst, ◌∙◌}
use Rattle.cedar_values.specs.Records.{IsLastOfEach}
use Rattle.cedar_values.specs.WellFormed.{well_formed}
use Rattle.cedar_values.proofs.Levels.{record_kept}
use Rattle.cedar_values.proofs.Records.{all_last}
use Rattle.cedar_values.proofs.value.ValueKind.record.Goals as goal

pub returns-clause-well_formed : goal.returns-clause-well_formed
returns-clause-well_formed g c all =
    let R = g.X.Ord.cmp in
    let m = c.in_ok-map.map in
    let ps = c.args.pairs.items in
    let made = subst (λ n. IsLastOfEach ps n.entries) (sym c.in_ok-map.ensures.ok) c.in_ok-entries.ensures in
    record_kept R m ∙ all_last (well_formed R) ps m.value.entries made all
