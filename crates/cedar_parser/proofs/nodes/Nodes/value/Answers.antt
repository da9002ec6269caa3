use Rattle.std.proofs.Common.{◌∙◌, sym}
use Rattle.cedar_parser.proofs.Operators.{none_some}
use Rattle.cedar_parser.proofs.nodes.Nodes.value.Goals as goal

pub returns-in_ok-expr-in-Some : goal.returns-in_ok-expr-in-Some
returns-in_ok-expr-in-Some c none = absurd (none_some (sym (none c.args.name.now) ∙ sym c.in-Some.ensures.value))
