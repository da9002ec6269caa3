use Rattle.std.proofs.Common.{ap, sym, subst, ◌∙◌}
use Rattle.std.specs.List.{list_all}
use Rattle.cedar_builders.specs.BareExpr.{Record}
use Rattle.cedar_builders.specs.Keys.{IsAscending}
use Rattle.cedar_values.specs.WellFormed.{well_formed}
use Rattle.semantics_simplify.specs.Simplified.{Residual}
use Rattle.cedar_simplifier.proofs.KnownChildren.{have_known, known_record, record_residual, pairs_kept}
use Rattle.cedar_simplifier.proofs.simplifier_of.SimplifierOfExprBuilder.record.Goals as goal

pub known-requires : goal.known-requires
known-requires g c =
    c.in_ok-record_of.ensures.well_formed
    (ap (list_all (λ p. well_formed _ p.1)) c.in_ok-values.ensures
    ∙ pairs_kept _ (λ p. p.kept) c.args.pairs.items)

pub returns-then-have_known-clause-means : goal.returns-then-have_known-clause-means
returns-then-have_known-clause-means g c ascends =
    c.known.ensures
    ∙ known_record _ c.args.pairs.items _ _
    (ap have_known (sym c.deref.ensures.value) ∙ sym c.have_known.ensures ∙ c.if-have_known.true)
    c.in_ok-record_of.ensures.tree c.in_ok-values.ensures ascends

pub returns-clause-means : goal.returns-clause-means
returns-clause-means g c ascends =
    c.residual.ensures
    ∙ ap Residual (c.in_ok-record.ensures.tree (subst IsAscending (sym c.in_ok-fields.ensures.keys) ascends)
    ∙ ap Record c.in_ok-fields.ensures.trees)
    ∙ record_residual _ c.args.pairs.items
    (ap have_known (sym c.deref.ensures.value) ∙ sym c.have_known.ensures ∙ c.if-have_known.false)
