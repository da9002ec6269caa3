use Rattle.std.proofs.Common.{ap, sym}
use Rattle.cedar_builders.specs.Trees.{sure}
use Rattle.cedar_exprs.specs.BareExpr.{bare_expr}
use Rattle.cedar_values.specs.Holders.{NoExtension, plain_env}
use Rattle.cedar_values.specs.ValueMaps.{ValueMap}
use Rattle.cedar_simplifier.specs.Simplified.{meaning_of}
use Rattle.cedar_simplifier.proofs.OnePass.{asks, same_meaning, stays}
use Rattle.cedar_simplifier.proofs.simplification.simplify.Goals as goal

pub returns-in-Ok-clause-simplified : goal.returns-in-Ok-clause-simplified
returns-in-Ok-clause-simplified c = sym (ap sure c.in-Ok.ensures)

pub returns-in-Ok-clause-means_the_same : goal.returns-in-Ok-clause-means_the_same
returns-in-Ok-clause-means_the_same c =
    same_meaning _ _ plain_env (plain_env c.args.values.now) (bare_expr c.args.expr.now) (meaning_of c.in-Ok.simplified)
    (sym (ap sure c.in-Ok.ensures))
    (c.maps_bind_plain_values.ensures c.args.values.now
    (c.no_extension_values.ensures.maps c.args.values.now))
    (λ (m : ValueMap NoExtension).
    c.maps_bind_plain_values.ensures m (c.no_extension_values.ensures.maps m))
    c.one_pass.ensures c.partial_evaluation_is_sound.ensures

pub returns-in-Ok-clause-known_stays : goal.returns-in-Ok-clause-known_stays
returns-in-Ok-clause-known_stays c =
    stays _ _ plain_env (plain_env c.args.values.now) (bare_expr c.args.expr.now) (meaning_of c.in-Ok.simplified)
    (sym (ap sure c.in-Ok.ensures))
    (c.maps_bind_plain_values.ensures c.args.values.now
    (c.no_extension_values.ensures.maps c.args.values.now))
    (λ (m : ValueMap NoExtension).
    c.maps_bind_plain_values.ensures m (c.no_extension_values.ensures.maps m))
    c.known_stays.ensures

pub returns-in-Ok-clause-asks_no_more : goal.returns-in-Ok-clause-asks_no_more
returns-in-Ok-clause-asks_no_more c =
    asks _ _ plain_env (plain_env c.args.values.now) (bare_expr c.args.expr.now) (meaning_of c.in-Ok.simplified)
    (sym (ap sure c.in-Ok.ensures))
    (c.maps_bind_plain_values.ensures c.args.values.now
    (c.no_extension_values.ensures.maps c.args.values.now))
    (λ (m : ValueMap NoExtension).
    c.maps_bind_plain_values.ensures m (c.no_extension_values.ensures.maps m))
    c.asks_no_more.ensures
