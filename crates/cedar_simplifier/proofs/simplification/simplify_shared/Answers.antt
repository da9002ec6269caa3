use Rattle.std.proofs.Common.{ap, sym}
use Rattle.std.specs.Prelude.{⊤}
use Rattle.cedar_builders.specs.Trees.{sure}
use Rattle.cedar_exprs.specs.BareExpr.{bare_expr}
use Rattle.cedar_values.specs.WellFormedValues.{well_formed_env}
use Rattle.cedar_simplifier.specs.Simplified.{meaning_of}
use Rattle.cedar_simplifier.proofs.OnePass.{asks, same_meaning, stays}
use Rattle.cedar_simplifier.proofs.simplification.simplify_shared.Goals as goal

pub returns-in-Ok-clause-simplified : goal.returns-in-Ok-clause-simplified
returns-in-Ok-clause-simplified c = sym (ap sure c.in-Ok.ensures)

pub returns-in-Ok-clause-means_the_same : goal.returns-in-Ok-clause-means_the_same
returns-in-Ok-clause-means_the_same c =
    same_meaning _ _ well_formed_env (well_formed_env c.args.values.now) (bare_expr c.args.expr.now) (meaning_of c.in-Ok.simplified)
    (sym (ap sure c.in-Ok.ensures))
    (c.well_formed_maps_bind_plain_values.ensures _ _ _ c.args.values.now)
    (λ m. c.well_formed_maps_bind_plain_values.ensures _ _ _ m)
    c.one_pass.ensures c.partial_evaluation_is_sound.ensures

pub returns-in-Ok-clause-known_stays : goal.returns-in-Ok-clause-known_stays
returns-in-Ok-clause-known_stays c =
    stays _ _ well_formed_env (well_formed_env c.args.values.now) (bare_expr c.args.expr.now) (meaning_of c.in-Ok.simplified)
    (sym (ap sure c.in-Ok.ensures))
    (c.well_formed_maps_bind_plain_values.ensures _ _ _ c.args.values.now)
    (λ m. c.well_formed_maps_bind_plain_values.ensures _ _ _ m)
    c.known_stays.ensures

pub returns-in-Ok-clause-asks_no_more : goal.returns-in-Ok-clause-asks_no_more
returns-in-Ok-clause-asks_no_more c =
    let env = well_formed_env c.args.values.now in
    let plain = c.well_formed_maps_bind_plain_values.ensures _ _ _ c.args.values.now in
    asks _ _ (λ (u : ⊤). env) env (bare_expr c.args.expr.now) (meaning_of c.in-Ok.simplified)
    (sym (ap sure c.in-Ok.ensures)) plain (λ u. plain) c.asks_no_more.ensures
