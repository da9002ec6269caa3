use Rattle.std.proofs.Common.{sym, subst}
use Rattle.std.proofs.lemmas.Bool.{and_parts}
use Rattle.semantics_values.specs.Reading.{ReadsBack}
use Rattle.cedar_values.specs.BareValues.{bare_value_kind}
use Rattle.cedar_values.specs.WellFormed.{kind_well_formed}
use Rattle.cedar_values.proofs.Writings.{if_ok}
use Rattle.cedar_values.proofs.value.ValueKind.to_expr.Goals as goal

pub returns-clause-read_back : goal.returns-clause-read_back
unfolding kind_well_formed
returns-clause-read_back g c =
    let t = bare_value_kind c.args.self.now in
    if_ok c.expr_at.result c.expr_at.ensures.tree
    (λ e is kept. subst (λ b. ReadsBack g.X.Ord.cmp g.X.PartialEq.eq b t) (sym is) (c.expressions_read_back.ensures g.X.ExtensionValue.canonical t (and_parts _ _ kept).0))
