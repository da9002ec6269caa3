use Rattle.cedar_parser.proofs.Placed.{open_later}
use Rattle.cedar_parser.specs.Places.{none_placed}
use Rattle.std.proofs.Common.{arith}
use Rattle.cedar_parser.proofs.CompleteSteps.{if_opens}
use Rattle.cedar_parser.proofs.parser.Parser.conditional.Goals as goal
use Rattle.std.proofs.Common.{◌∷◌, ap, rules, IsTrue}
use Rattle.semantics_grammar.specs.Lexemes.{lexeme, lexeme_of}
use Rattle.cedar_parser.specs.Meant.{open_groups, waits}
use Rattle.cedar_parser.specs.SoFar.{IsOpened}
use Rattle.cedar_parser.specs.Waiting.{in_test}
use Rattle.cedar_parser.proofs.Steps.{before_primary}

pub returns-then-takes_conditional-clause-parses : goal.returns-then-takes_conditional-clause-parses
returns-then-takes_conditional-clause-parses c ts rest h is =
    let takes : IsTrue c.takes_conditional.result = search rules in
    c.open.ensures.parses ts rest (record {
      no_values = h.no_values;
      lexemes = h.lexemes.1;
      so_far = before_primary ts (open_groups c.args.self.now) (waits c.args.self.now) (λ below at. IsOpened below at in_test rest)
          (lexeme_of c.args.token ∷ rest) h.so_far
          (c.args.token.text.now, c.takes_conditional.ensures.fits takes, ap (λ k. lexeme k c.args.token.text.now ∷ rest) is);
    })

pub returns-then-takes_conditional-clause-complete : goal.returns-then-takes_conditional-clause-complete
returns-then-takes_conditional-clause-complete c rest a is =
    c.open.ensures.complete rest (if_opens c.args.self.now c.args.token rest a is).1

pub returns-else-takes_conditional-clause-complete : goal.returns-else-takes_conditional-clause-complete
returns-else-takes_conditional-clause-complete c rest a is =
    let takes : IsTrue c.takes_conditional.result = c.takes_conditional.ensures.complete (if_opens c.args.self.now c.args.token rest a is).0 in
    absurd (search rules)

pub returns-then-takes_conditional-clause-places : goal.returns-then-takes_conditional-clause-places
returns-then-takes_conditional-clause-places c fits source h =
    let at = c.args.token.span.start in
    let to = c.args.token.span.stop in
    c.open.ensures.places source to fits (open_later source at at at to c.args.self.now (omega arith) fits h) none_placed
