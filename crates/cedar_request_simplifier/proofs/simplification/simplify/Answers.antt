use Rattle.cedar_exprs.specs.BareExpr.{bare_expr}
use Rattle.cedar_values.specs.WellFormedValues.{well_formed_env}
use Rattle.cedar_request_evaluator.specs.Knowledge.{knowledge_of}
use Rattle.cedar_simplifier.specs.Simplified.{meaning_of}
use Rattle.cedar_request_simplifier.proofs.Later.{asks, known_later, made_is, same_later}
use Rattle.cedar_request_simplifier.proofs.simplification.simplify.Goals as goal

pub returns-in-Ok-clause-residual : goal.returns-in-Ok-clause-residual
returns-in-Ok-clause-residual g c =
    made_is g.X.Ord.cmp g.X.PartialEq.eq g.X.ExtensionValue.canonical
    (knowledge_of g.S.EntityStore.bare_entities c.args.evaluator.now)
    (bare_expr c.args.condition.now) (meaning_of c.in-Ok.simplified)
    (well_formed_env c.values.result.now) c.values.ensures c.in-Ok.ensures

pub returns-in-Ok-clause-means_the_same : goal.returns-in-Ok-clause-means_the_same
returns-in-Ok-clause-means_the_same g c =
    same_later g.X.Ord.cmp g.X.PartialEq.eq g.X.ExtensionValue.canonical
    (knowledge_of g.S.EntityStore.bare_entities c.args.evaluator.now)
    (bare_expr c.args.condition.now) (meaning_of c.in-Ok.simplified)
    (returns-in-Ok-clause-residual g c) c.residual_first.ensures

pub returns-in-Ok-clause-known_stays : goal.returns-in-Ok-clause-known_stays
returns-in-Ok-clause-known_stays g c =
    known_later g.X.Ord.cmp g.X.PartialEq.eq g.X.ExtensionValue.canonical
    (knowledge_of g.S.EntityStore.bare_entities c.args.evaluator.now)
    (bare_expr c.args.condition.now) (meaning_of c.in-Ok.simplified)
    (returns-in-Ok-clause-residual g c) c.residual_first.ensures

pub returns-in-Ok-clause-asks_no_more : goal.returns-in-Ok-clause-asks_no_more
returns-in-Ok-clause-asks_no_more g c =
    asks g.X.Ord.cmp g.X.PartialEq.eq g.X.ExtensionValue.canonical
    (knowledge_of g.S.EntityStore.bare_entities c.args.evaluator.now)
    (bare_expr c.args.condition.now) (meaning_of c.in-Ok.simplified)
    (returns-in-Ok-clause-residual g c) c.residual_asks_no_more.ensures
    (c.maps_bind_plain_values.ensures _ _ _ c.args.evaluator.now.values.now)
