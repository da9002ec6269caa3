use Rattle.std.proofs.Common.{sym, ap, subst, ◌∙◌}
use Rattle.std.proofs.lemmas.Bool.{and_parts}
use Rattle.semantics_values.specs.Reading.{ReadsBack}
use Rattle.semantics_values.specs.ValueExpr.{value_expr}
use Rattle.cedar_values.specs.BareValues.{bare_value, bare_value_kind}
use Rattle.cedar_values.specs.WellFormed.{well_formed}
use Rattle.cedar_values.proofs.Levels.{value_tree}
use Rattle.cedar_values.proofs.Writings.{if_ok}
use Rattle.cedar_values.proofs.value.Value.to_expr.Goals as goal

pub returns-clause-tree : goal.returns-clause-tree
returns-clause-tree g c =
    let kind = ap (value_expr g.X.ExtensionValue.canonical) (ap bare_value_kind c.value_kind.ensures ∙ sym (value_tree c.args.self.now)) in
    if_ok c.expr_at.result c.expr_at.ensures.tree (λ e is. is ∙ kind)

pub returns-clause-read_back : goal.returns-clause-read_back
unfolding well_formed
returns-clause-read_back g c =
    let t = bare_value c.args.self.now in
    let kind = ap (value_expr g.X.ExtensionValue.canonical) (ap bare_value_kind c.value_kind.ensures ∙ sym (value_tree c.args.self.now)) in
    if_ok c.expr_at.result c.expr_at.ensures.tree
    (λ e is kept. subst (λ b. ReadsBack g.X.Ord.cmp g.X.PartialEq.eq b t) (sym (is ∙ kind)) (c.expressions_read_back.ensures g.X.ExtensionValue.canonical t (and_parts _ _ kept).0))
