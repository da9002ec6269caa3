use Rattle.cedar_parser.proofs.Placed.{over, record_placed}
use Rattle.std.proofs.Common.{◌∙◌}
use Rattle.cedar_exprs.specs.RecordPairs.{record_values}
use Rattle.cedar_parser.proofs.CompleteTexts.{distinct_accepted}
use Rattle.cedar_exprs.specs.BareExpr.{bare_expr}
use Rattle.cedar_parser.proofs.Records.{record_tree}
use Rattle.cedar_parser.proofs.nodes.Nodes.record.Goals as goal

pub returns-in-Ok-clause-tree : goal.returns-in-Ok-clause-tree
returns-in-Ok-clause-tree c = record_tree c.args.pairs.items (bare_expr c.in-Ok.expr) c.in-Ok.ensures.made.tree c.in-Ok.ensures.distinct

pub returns-in-Err-clause-complete : goal.returns-in-Err-clause-complete
returns-in-Err-clause-complete c d =
    c.refused_record.ensures.memory (distinct_accepted bare_expr c.args.pairs.items c.in-Err.error c.in-Err.ensures.refuses d)

pub returns-in-Ok-clause-places : goal.returns-in-Ok-clause-places
returns-in-Ok-clause-places c m h =
    let made = c.in-Ok.ensures.made in
    over c.args.self.now c.args.span (record_values c.args.pairs.items) c.in-Ok.expr
    (record { place = made.place ∙ c.in_ok-at.ensures; over = made.over }) m (record_placed c.args.pairs.items h)
