use Rattle.std.proofs.Common.{refl, sym, ap, ◌∙◌}
use Rattle.cedar_exprs.specs.Steps.{below_nodes}
use Rattle.cedar_exprs.specs.declared.drop.subtrees.Subtrees.TheVariants as below
use Rattle.cedar_exprs.proofs.Fewer.{set_nodes, record_nodes}
use Rattle.cedar_exprs.proofs.drop.subtrees.kind_over.Goals as goal

pub returns-in-Row-Items : goal.returns-in-Row-Items
returns-in-Row-Items g c =
    let is = c.in-Row-Items.is ∙ ap below.Row c.in-Row-Items.field-0-is in
    set_nodes _ c.in-Row-Items.items refl ∙ sym (ap below_nodes is)

pub returns-in-Row-Fields : goal.returns-in-Row-Fields
returns-in-Row-Fields g c =
    let is = c.in-Row-Fields.is ∙ ap below.Row c.in-Row-Fields.field-0-is in
    record_nodes _ c.in-Row-Fields.fields refl ∙ sym (ap below_nodes is)
