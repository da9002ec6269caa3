use Rattle.cedar_parser.proofs.Placed.{leaf_placed}
use Rattle.std.proofs.Common.{arith}
use Rattle.cedar_parser.proofs.CompleteSteps.{operand_ahead}
use Rattle.cedar_terms.specs.declared.precedence.Precedence.TheVariants as precedences
use Rattle.cedar_parser.proofs.parser.Parser.positive.Goals as goal
use Rattle.std.proofs.Common.{◌∙◌, ap, refl, subst}
use Rattle.cedar_exprs.specs.BareExpr.{bare_expr}
use Rattle.cedar_lexer.specs.Grammar.{IsTokenText}
use Rattle.cedar_terms.specs.Literals.{bare_literal}
use Rattle.cedar_parser.proofs.GroupSteps.{positive_parsed}

pub returns-clause-parses : goal.returns-clause-parses
returns-clause-parses c ts rest h k f =
    positive_parsed ts rest c.args.self.now c.member.result c.args.digits (bare_literal c.in_ok-integer.field-0) h k f
    (c.in_ok-integer.ensures.positive (subst (IsTokenText c.args.digits.text.now) k h.lexemes.0) refl)
    c.member.ensures.precedence (ap bare_expr c.member.ensures.expr ∙ c.in_ok-expr.ensures.tree)

pub returns-clause-complete : goal.returns-clause-complete
returns-clause-complete c rest text fits b = operand_ahead c.args.self.now c.member.result precedences.Member rest b c.member.ensures.precedence

pub returns-clause-places : goal.returns-clause-places
returns-clause-places c fits source h =
    let at = c.args.digits.span.start in
    leaf_placed source at at c.args.self.now c.member.result c.args.digits.span c.in_ok-expr.expr h c.member.ensures.span c.member.ensures.expr
    c.in_ok-expr.ensures.place (omega arith) fits fits
