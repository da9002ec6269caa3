use Rattle.cedar_parser.proofs.Placed.{placed_later}
use Rattle.std.proofs.Common.{◌≡◌, Err, rules}
use Rattle.std.proofs.Common.{arith}
use Rattle.cedar_parser.proofs.AheadSteps.{test_least, test_own}
use Rattle.cedar_parser.proofs.CompleteSteps.{kind_behind}
use Rattle.cedar_parser.proofs.parser.Parser.test.Goals as goal
use Rattle.std.proofs.Common.{Some, ⊎_elim}
use Rattle.cedar_lexer.specs.declared.token.TokenKind.TheVariants as kinds
use Rattle.cedar_parser.specs.Meant.{from, here}
use Rattle.cedar_parser.proofs.TakenSteps.{kind_parsed}

pub returns-in-Has-clause-parses : goal.returns-in-Has-clause-parses
returns-in-Has-clause-parses c ts end h =
    let p = c.in_ok-left.ensures.parses ts (from c.args.token c.args.tokens.now) h.1 in
    c.has.ensures.parses ts end (
      c.in_ok-left.ensures.below.0,
      c.in_ok-left.ensures.below.1,
      (c.args.token.text.now, kind_parsed ts (here c.args.tokens.now) c.left.new.self (Some c.in_ok-left.left) c.args.token kinds.Has p c.in-Has.is),
    )

pub returns-in-Like-clause-parses : goal.returns-in-Like-clause-parses
returns-in-Like-clause-parses c ts end h =
    let p = c.in_ok-left.ensures.parses ts (from c.args.token c.args.tokens.now) h.1 in
    c.like.ensures.parses ts end (
      c.in_ok-left.ensures.below.0,
      c.in_ok-left.ensures.below.1,
      (c.args.token.text.now, kind_parsed ts (here c.args.tokens.now) c.left.new.self (Some c.in_ok-left.left) c.args.token kinds.Like p c.in-Like.is),
    )

pub returns-in_default-clause-parses : goal.returns-in_default-clause-parses
returns-in_default-clause-parses c ts end h =
    let p = c.in_ok-left.ensures.parses ts (from c.args.token c.args.tokens.now) h.1 in
    c.is.ensures.parses ts end (
      c.in_ok-left.ensures.below.0,
      c.in_ok-left.ensures.below.1,
      (c.args.token.text.now, kind_parsed ts (here c.args.tokens.now) c.left.new.self (Some c.in_ok-left.left) c.args.token kinds.Is p (⊎_elim (λ e. absurd (c.in_default.not-Has e)) (⊎_elim (λ e. absurd (c.in_default.not-Like e)) (λ e. e)) h.0)),
    )

pub returns-in-Has-clause-complete : goal.returns-in-Has-clause-complete
returns-in-Has-clause-complete c t end b =
    let l = c.in_ok-left.ensures.complete c.args.token.kind c.args.token.text.now (here c.args.tokens.now)
    (test_own c.args.token.kind t, test_least c.args.token.kind t, omega arith) b in
    c.has.ensures.complete c.args.token.text.now c.in_ok-left.ensures.below.0 end
    (kind_behind c.left.new.self c.in_ok-left.left.precedence c.args.token kinds.Has (here c.args.tokens.now) c.in-Has.is l)

pub returns-in-Like-clause-complete : goal.returns-in-Like-clause-complete
returns-in-Like-clause-complete c t end b =
    let l = c.in_ok-left.ensures.complete c.args.token.kind c.args.token.text.now (here c.args.tokens.now)
    (test_own c.args.token.kind t, test_least c.args.token.kind t, omega arith) b in
    c.like.ensures.complete c.args.token.text.now c.in_ok-left.ensures.below.0 end
    (kind_behind c.left.new.self c.in_ok-left.left.precedence c.args.token kinds.Like (here c.args.tokens.now) c.in-Like.is l)

pub returns-in_default-clause-complete : goal.returns-in_default-clause-complete
returns-in_default-clause-complete c t end b =
    let l = c.in_ok-left.ensures.complete c.args.token.kind c.args.token.text.now (here c.args.tokens.now)
    (test_own c.args.token.kind t, test_least c.args.token.kind t, omega arith) b in
    c.is.ensures.complete c.args.token.text.now c.in_ok-left.ensures.below.0 end
    (kind_behind c.left.new.self c.in_ok-left.left.precedence c.args.token kinds.Is (here c.args.tokens.now)
    (⊎_elim (λ e. absurd (c.in_default.not-Has e)) (⊎_elim (λ e. absurd (c.in_default.not-Like e)) (λ e. e)) t) l)

pub returns-in_err-left-clause-complete : goal.returns-in_err-left-clause-complete
returns-in_err-left-clause-complete c t end b =
    let x = c.in_err-left.field-0.0 in
    let failed : c.from_residual.result ≡ Err x = search rules in
    rw failed (c.in_err-left.ensures.complete c.args.token.kind c.args.token.text.now (here c.args.tokens.now)
    (test_own c.args.token.kind t, test_least c.args.token.kind t, omega arith) b)

pub returns-in-Has-clause-places : goal.returns-in-Has-clause-places
returns-in-Has-clause-places c source h =
    let at = c.args.token.span.start in
    c.has.ensures.places source
    (placed_later source at _ c.left.new.self (Some c.in_ok-left.left) (omega (arith, c.requires.piece, c.requires.before.next))
    (c.in_ok-left.ensures.places source at h))

pub returns-in-Like-clause-places : goal.returns-in-Like-clause-places
returns-in-Like-clause-places c source h =
    let at = c.args.token.span.start in
    c.like.ensures.places source
    (placed_later source at _ c.left.new.self (Some c.in_ok-left.left) (omega (arith, c.requires.piece, c.requires.before.next))
    (c.in_ok-left.ensures.places source at h))

pub returns-in_default-clause-places : goal.returns-in_default-clause-places
returns-in_default-clause-places c source h =
    let at = c.args.token.span.start in
    c.is.ensures.places source
    (placed_later source at _ c.left.new.self (Some c.in_ok-left.left) (omega (arith, c.requires.piece, c.requires.before.next))
    (c.in_ok-left.ensures.places source at h))
