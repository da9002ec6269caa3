use Rattle.std.proofs.Common.{◌∙◌, Some, ap, sym, subst, arith, rules, ◌++◌, ◌∷◌, []}
use Rattle.std.proofs.lemmas.Bool.Decides.{nat_tests}
use Rattle.std.specs.Str.{chars}
use Rattle.cedar_lexer.proofs.ReadingLemmas.{pattern_ends, pattern_goes_on, pattern_stops}
use Rattle.cedar_lexer.specs.Readings.{IsAnswerOfPattern}
use Rattle.cedar_lexer.proofs.escapes.read_pattern.Goals as goal

pub pieces-preserved : goal.pieces-preserved
pieces-preserved c = record {
  rest_utf8 = search rules;
  so_far =
      pattern_goes_on (chars c.args.inside.now) c.pieces.elems.items c.push.new.self.items (chars c.pieces.rest.now)
      (chars c.in-Some.later.now) c.in-Some.piece c.pieces.invariant.so_far c.in-Some.ensures.reads
      (c.in_ok-push.ensures.items ∙ ap (λ e. c.pieces.elems.items ++ (e ∷ [])) c.pattern_elem.ensures);
}

pub returns-then-not-is_empty : goal.returns-then-not-is_empty
returns-then-not-is_empty c =
    pattern_stops (chars c.args.inside.now) c.pieces.elems.items c.pieces.rest.now c.pieces.invariant.so_far
    c.pieces.invariant.rest_utf8 (grind (arith, nat_tests)) c.in_default.ensures.reads

pub returns : goal.returns
returns c =
    let inside = chars c.args.inside.now in
    subst (λ p. IsAnswerOfPattern inside (Some p)) (sym c.in_ok-from_vec.ensures)
    (pattern_ends inside c.pieces.elems.items c.pieces.rest.now c.pieces.invariant.so_far (grind (arith, nat_tests)))
