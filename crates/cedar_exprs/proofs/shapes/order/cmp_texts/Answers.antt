use Rattle.std.proofs.Common.{◌∙◌}
use Rattle.cedar_exprs.proofs.ShapeWalks.{slices_map}
use Rattle.cedar_exprs.proofs.shapes.order.cmp_texts.Goals as goal

pub returns : goal.returns
returns c = c.cmp.ensures ∙ slices_map c.args.a.now.items c.args.b.now.items
