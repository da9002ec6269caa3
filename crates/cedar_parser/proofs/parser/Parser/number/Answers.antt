use Rattle.cedar_parser.specs.Places.{IsPlacedUpTo}
use Rattle.cedar_parser.proofs.CompleteSteps.{negative_behind, number_behind}
use Rattle.cedar_parser.proofs.AheadSteps.{no_minus, number_follows}
use Rattle.cedar_parser.specs.Ahead.{Rest}
use Rattle.cedar_parser.specs.Complete.{IsAhead}
use Rattle.cedar_parser.specs.Meant.{IsNoMinus, open_groups}
use Rattle.std.proofs.Common.{◌∙◌}
use Rattle.cedar_parser.proofs.parser.Parser.number.Goals as goal
use Rattle.std.proofs.Common.{◌∷◌, None, inl, inr, subst, sym}
use Rattle.semantics_grammar.specs.Lexemes.{lexeme_of}
use Rattle.cedar_parser.specs.Meant.{IsParsed, waits}
use Rattle.cedar_parser.specs.SoFar.{IsFree}
use Rattle.cedar_parser.specs.Waiting.{last_of}
use Rattle.cedar_parser.proofs.GroupSteps.{behind_minus, free_before, free_of}

pub returns-in-Dot-clause-parses : goal.returns-in-Dot-clause-parses
returns-in-Dot-clause-parses c ts rest h d e =
    c.positive.ensures.parses ts rest h d
    (free_before (last_of None (waits c.args.self.now)) c.args.digits c.args.next rest d e (inl c.in-Dot.is))

pub returns-in-OpenSquare-clause-parses : goal.returns-in-OpenSquare-clause-parses
returns-in-OpenSquare-clause-parses c ts rest h d e =
    c.positive-in-OpenSquare.ensures.parses ts rest h d
    (free_before (last_of None (waits c.args.self.now)) c.args.digits c.args.next rest d e (inr c.in-OpenSquare.is))

pub returns-in-Some-clause-parses : goal.returns-in-Some-clause-parses
returns-in-Some-clause-parses c ts rest h d e =
    c.negative.ensures.parses ts rest
    (behind_minus ts (lexeme_of c.args.digits ∷ rest) c.args.self.now c.pop_minus.new.self h c.in-Some.ensures.pops) d

pub returns-in-None-clause-parses : goal.returns-in-None-clause-parses
returns-in-None-clause-parses c ts rest h d e =
    c.positive-in-None.ensures.parses ts rest (subst (λ s. IsParsed ts s None (lexeme_of c.args.digits ∷ rest)) (sym c.in-None.ensures.pops.0) h) d
    (subst (λ s. IsFree (last_of None (waits s)) (lexeme_of c.args.digits ∷ rest)) (sym c.in-None.ensures.pops.0)
    (free_of (last_of None (waits c.args.self.now)) (lexeme_of c.args.digits ∷ rest) c.in-None.ensures.pops.1))

pub returns-in-Dot-clause-complete : goal.returns-in-Dot-clause-complete
returns-in-Dot-clause-complete c rest a d e =
    let r = c.args.self.now in
    let k = number_behind r c.args.digits rest a d
    (number_follows (open_groups r) (waits r) (last_of None (waits r)) c.args.digits.text.now rest (inl (sym e ∙ c.in-Dot.is))) in
    c.positive.ensures.complete rest k.0 k.1 k.2

pub returns-in-OpenSquare-clause-complete : goal.returns-in-OpenSquare-clause-complete
returns-in-OpenSquare-clause-complete c rest a d e =
    let r = c.args.self.now in
    let k = number_behind r c.args.digits rest a d
    (number_follows (open_groups r) (waits r) (last_of None (waits r)) c.args.digits.text.now rest (inr (sym e ∙ c.in-OpenSquare.is))) in
    c.positive-in-OpenSquare.ensures.complete rest k.0 k.1 k.2

pub returns-in-Some-clause-complete : goal.returns-in-Some-clause-complete
returns-in-Some-clause-complete c rest a d e =
    let k = negative_behind c.args.self.now c.pop_minus.new.self c.args.digits rest a d (λ f. c.in_default.not-Dot (e ∙ f))
    (λ f. c.in_default.not-OpenSquare (e ∙ f)) c.in-Some.ensures.pops in
    c.negative.ensures.complete rest k.0 k.1 k.2

pub returns-in-None-clause-complete : goal.returns-in-None-clause-complete
returns-in-None-clause-complete c rest a d e =
    let r = c.pop_minus.new.self in
    let b = subst (λ s. IsAhead s None (lexeme_of c.args.digits ∷ rest)) (sym c.in-None.ensures.pops.0) a in
    let m = subst (λ s. IsNoMinus (last_of None (waits s))) (sym c.in-None.ensures.pops.0) c.in-None.ensures.pops.1 in
    let k = number_behind r c.args.digits rest b d (no_minus (Rest (open_groups r) (waits r)) (last_of None (waits r)) _ m) in
    c.positive-in-None.ensures.complete rest k.0 k.1 k.2

pub returns-in-Some-clause-places : goal.returns-in-Some-clause-places
returns-in-Some-clause-places c fits source h =
    let m = c.in-Some.ensures.places source c.args.digits.span.start h in c.negative.ensures.places source m.0 fits m.1

pub returns-in-None-clause-places : goal.returns-in-None-clause-places
returns-in-None-clause-places c fits source h =
    c.positive-in-None.ensures.places fits source
    (subst (λ s. IsPlacedUpTo source c.args.digits.span.start s None) (sym c.in-None.ensures.pops.0) h)
