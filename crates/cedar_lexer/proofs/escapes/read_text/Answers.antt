use Rattle.std.proofs.Common.{◌≡◌, string_bytes, subst, arith, rules}
use Rattle.std.proofs.lemmas.Bool.Decides.{nat_tests}
use Rattle.std.specs.Str.{chars}
use Rattle.cedar_lexer.proofs.FirstPieceLemmas.{found}
use Rattle.cedar_lexer.proofs.ReadingLemmas.{text_ends, text_goes_on, text_has_star, text_stops}
use Rattle.cedar_lexer.specs.FirstPieces.{piece_at}
use Rattle.cedar_lexer.proofs.escapes.read_text.Goals as goal

pub returns-in-Star : goal.returns-in-Star
returns-in-Star c =
    let later = chars c.in-Some.later.now in
    let rest = chars c.pieces.rest.now in
    text_has_star (chars c.args.inside.now) (string_bytes c.pieces.text) rest later c.pieces.invariant.so_far
    (subst (λ p. found p later ≡ piece_at rest) c.in-Star.is c.in-Some.ensures.reads)

pub pieces-preserved : goal.pieces-preserved
pieces-preserved c =
    let later = chars c.in-Some.later.now in
    let rest = chars c.pieces.rest.now in
    record {
      rest_utf8 = search rules;
      so_far =
          text_goes_on (chars c.args.inside.now) (string_bytes c.pieces.text) (string_bytes c.push.new.self) rest later c.in-Char.c
          c.pieces.invariant.so_far (subst (λ p. found p later ≡ piece_at rest) c.in-Char.is c.in-Some.ensures.reads)
          c.in_ok-push-in-Char.ensures.bytes;
    }

pub returns-then-is_empty : goal.returns-then-is_empty
returns-then-is_empty c =
    text_ends (chars c.args.inside.now) (string_bytes c.pieces.text) c.pieces.rest.now c.pieces.invariant.so_far
    (grind (arith, nat_tests))

pub returns-else-is_empty : goal.returns-else-is_empty
returns-else-is_empty c =
    text_stops (chars c.args.inside.now) (string_bytes c.pieces.text) c.pieces.rest.now c.pieces.invariant.so_far
    c.pieces.invariant.rest_utf8 (grind (arith, nat_tests)) c.in_default.ensures.reads
