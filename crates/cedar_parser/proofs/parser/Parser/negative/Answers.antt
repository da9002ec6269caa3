use Rattle.cedar_parser.proofs.Placed.{leaf_placed}
use Rattle.std.proofs.Common.{arith}
use Rattle.cedar_parser.proofs.CompleteSteps.{operand_ahead}
use Rattle.cedar_terms.specs.declared.precedence.Precedence.TheVariants as precedences
use Rattle.cedar_parser.proofs.parser.Parser.negative.Goals as goal
use Rattle.std.proofs.Common.{refl, subst}
use Rattle.cedar_lexer.specs.Grammar.{IsTokenText}
use Rattle.cedar_terms.specs.Literals.{bare_literal}
use Rattle.cedar_parser.proofs.GroupSteps.{negative_step}

pub returns-clause-parses : goal.returns-clause-parses
returns-clause-parses c ts rest h k =
    negative_step ts rest c.args.self.now _ c.args.digits (bare_literal c.in_ok-integer.field-0) h k
    (c.in_ok-integer.ensures.negative (subst (IsTokenText c.args.digits.text.now) k h.lexemes.0) refl) refl
    c.in_ok-expr.ensures.tree

pub returns-clause-complete : goal.returns-clause-complete
returns-clause-complete c rest text fits b = operand_ahead c.args.self.now _ precedences.Unary rest b refl

pub returns-clause-places : goal.returns-clause-places
returns-clause-places c source first fits h =
    leaf_placed source c.args.start c.args.digits.span.start c.args.self.now
    (record { expr = c.in_ok-expr.expr; precedence = precedences.Unary; span = record { start = c.args.start; stop = c.args.digits.span.stop } })
    (record { start = c.args.start; stop = c.args.digits.span.stop })
    c.in_ok-expr.expr h refl refl c.in_ok-expr.ensures.place (omega arith) fits (omega (arith, first, fits))
