use Rattle.std.proofs.Common.{ap, ◌∙◌}
use Rattle.cedar_ancestors.specs.Keyed.{entry_at}
use Rattle.cedar_ancestors.proofs.Keys.{entry_by}
use Rattle.cedar_ancestors.proofs.store.Store.get.Goals as goal

pub returns : goal.returns
returns g c =
    let R = g.K.Ord.cmp in
    c.get.ensures.value
    ∙ (entry_by R g.K.PartialEq.eq g.met.K.Ord.matches_eq c.self.inside.entries.entries c.args.key.now
    ∙ ap (λ m. entry_at R m c.args.key.now) c.self.view_is)
