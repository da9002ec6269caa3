use Rattle.std.proofs.Common.{rules}
use Rattle.cedar_exprs.specs.BareExpr.{bare_expr}
use Rattle.cedar_parser.specs.Meant.{HasNone, here}
use Rattle.cedar_policy_parser.proofs.Groups.{tree_given}
use Rattle.cedar_policy_parser.proofs.stream.parse_group.Goals as goal

pub returns-clause-complete : goal.returns-clause-complete
returns-clause-complete c tree stands =
    let parsed = c.parse_tokens.ensures in
    let none : HasNone c.new-values.result = search rules in
    tree_given bare_expr (here c.args.tokens) tree c.parse_tokens.result c.tree_is_unique.ensures (parsed.parses none c.requires.end c.requires.lexemes)
    (parsed.complete c.requires.end c.requires.lexemes) stands
