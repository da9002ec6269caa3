use Rattle.cedar_parser.proofs.Placed.{leaf_placed}
use Rattle.std.proofs.Common.{arith}
use Rattle.cedar_parser.proofs.CompleteSteps.{operand_ahead}
use Rattle.cedar_terms.specs.declared.precedence.Precedence.TheVariants as precedences
use Rattle.cedar_parser.proofs.parser.Parser.literal.Goals as goal
use Rattle.std.proofs.Common.{◌∙◌, ap}
use Rattle.cedar_builders.specs.BareExpr.{Lit}
use Rattle.cedar_exprs.specs.BareExpr.{bare_expr}
use Rattle.cedar_terms.specs.Literals.{bare_literal}
use Rattle.cedar_parser.proofs.ParserSteps.{literal_parsed}

pub returns-clause-parses : goal.returns-clause-parses
returns-clause-parses c ts rest h p f =
    literal_parsed ts rest c.args.self.now c.member.result c.args.token (Lit (bare_literal c.args.literal)) h p f c.member.ensures.precedence
    (ap bare_expr c.member.ensures.expr ∙ c.in_ok-expr.ensures.tree)

pub returns-clause-complete : goal.returns-clause-complete
returns-clause-complete c rest b = operand_ahead c.args.self.now c.member.result precedences.Member rest b c.member.ensures.precedence

pub returns-clause-places : goal.returns-clause-places
returns-clause-places c fits source h =
    let at = c.args.token.span.start in
    leaf_placed source at at c.args.self.now c.member.result c.args.token.span c.in_ok-expr.expr h c.member.ensures.span c.member.ensures.expr
    c.in_ok-expr.ensures.place (omega arith) fits fits
