use Rattle.std.proofs.Common.{ap, sym, ◌∙◌}
use Rattle.std.specs.List.{list_all}
use Rattle.cedar_values.specs.WellFormed.{well_formed}
use Rattle.cedar_simplifier.proofs.KnownChildren.{are_known, known_set, set_residual, values_kept}
use Rattle.cedar_simplifier.proofs.simplifier_of.SimplifierOfExprBuilder.set.Goals as goal

pub known-requires : goal.known-requires
known-requires g c =
    c.in_ok-set_of.ensures.well_formed
    (ap (list_all (well_formed _)) c.in_ok-values.ensures
    ∙ values_kept _ (λ p. p.kept) c.args.members.items)

pub returns-then-are_known : goal.returns-then-are_known
returns-then-are_known g c =
    c.known.ensures
    ∙ known_set _ _ c.args.members.items _ _
    (ap are_known (sym c.deref.ensures.value) ∙ sym c.are_known.ensures ∙ c.if-are_known.true)
    c.in_ok-set_of.ensures.tree c.in_ok-values.ensures

pub returns : goal.returns
returns g c =
    c.in_ok-residual.ensures
    ∙ set_residual _ _ c.args.members.items
    (ap are_known (sym c.deref.ensures.value) ∙ sym c.are_known.ensures ∙ c.if-are_known.false)
