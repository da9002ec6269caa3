use Rattle.cedar_parser.proofs.Placed.{operator_placed}
use Rattle.cedar_parser.specs.Places.{and_placed, none_placed}
use Rattle.cedar_parser.specs.declared.operand.Operation.TheVariants as operations
use Rattle.std.proofs.Common.{◌≡◌, Err, rules}
use Rattle.cedar_parser.proofs.CompleteSteps.{infix_pushed}
use Rattle.cedar_parser.proofs.Ascending.{operator_fits}
use Rattle.std.proofs.Common.{◌∙◌, ap, sym, arith}
use Rattle.cedar_parser.proofs.parser.Parser.«infix».Goals as goal
use Rattle.std.proofs.Common.{◌∷◌, ◌≤◌, refl, subst}
use Rattle.cedar_terms.specs.Precedences.{precedence_number}
use Rattle.semantics_grammar.specs.Lexemes.{lexeme_of}
use Rattle.cedar_parser.specs.Meant.{WaitsBelow}
use Rattle.cedar_parser.proofs.ParserSteps.{infix_parsed}

pub returns-clause-parses : goal.returns-clause-parses
returns-clause-parses c ts rest h is =
    infix_parsed ts rest c.left.new.self _ c.in_ok-left.left c.args.«infix» c.args.token
    (c.in_ok-left.ensures.parses ts (lexeme_of c.args.token ∷ rest) h) is
    (subst (λ l. WaitsBelow l c.left.new.self) c.precedences-own.ensures.own c.in_ok-left.ensures.below.0)
    (subst (λ l. precedence_number l ≤ precedence_number c.in_ok-left.left.precedence) c.precedences-own.ensures.left c.in_ok-left.ensures.below.1)
    c.in_ok-push.ensures.items refl refl

pub returns-clause-complete : goal.returns-clause-complete
returns-clause-complete c rest b is =
    let f = operator_fits c.args.token.kind _ is in
    let x = ap precedence_number c.precedences-own.ensures.own in
    let y = ap precedence_number c.precedences-own.ensures.left in
    let l = c.in_ok-left.ensures.complete c.args.token.kind c.args.token.text.now rest (f.1 ∙ sym x, f.0 ∙ sym y, omega (arith, f.1, f.2, x)) b in
    infix_pushed c.left.new.self _ c.in_ok-left.left c.args.«infix» c.args.token rest l is
    (subst (λ l. WaitsBelow l c.left.new.self) c.precedences-own.ensures.own c.in_ok-left.ensures.below.0) c.in_ok-push.ensures.items refl

pub returns-in_err-left-clause-complete : goal.returns-in_err-left-clause-complete
returns-in_err-left-clause-complete c rest b is =
    let f = operator_fits c.args.token.kind _ is in
    let x = ap precedence_number c.precedences-own.ensures.own in
    let y = ap precedence_number c.precedences-own.ensures.left in
    let e = c.in_err-left.field-0.0 in
    let failed : c.from_residual.result ≡ Err e = search rules in
    rw failed (c.in_err-left.ensures.complete c.args.token.kind c.args.token.text.now rest (f.1 ∙ sym x, f.0 ∙ sym y, omega (arith, f.1, f.2, x)) b)

pub returns-clause-places : goal.returns-clause-places
returns-clause-places c source h =
    let l = c.in_ok-left.ensures.places source c.args.token.span.start h in
    operator_placed source c.args.token.span.start c.left.new.self _ (operations.Infix c.args.«infix» c.in_ok-left.left) c.in_ok-left.left l
    c.in_ok-push.ensures.items refl refl refl (and_placed l.1 none_placed)
