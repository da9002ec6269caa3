use Rattle.std.proofs.Common.{arith}
use Rattle.cedar_parser.proofs.InOrder.{taken}
use Rattle.std.proofs.Common.{◌≡◌, Err}
use Rattle.std.proofs.Common.{rules}
use Rattle.cedar_parser.proofs.CompleteLeaves.{key_quoted, key_refused, key_word, word_wanted}
use Rattle.cedar_parser.specs.Refused.{next_start}
use Rattle.cedar_parser.proofs.InOrder.{here, skipped, then_left, untouched}
use Rattle.cedar_parser.proofs.Paths.{quoted_key, word_key}
use Rattle.cedar_parser.proofs.leaves.key.Goals as goal

pub returns-in_ok-text_of-in-Some-clause-goes_on : goal.returns-in_ok-text_of-in-Some-clause-goes_on
returns-in_ok-text_of-in-Some-clause-goes_on c =
    let old = c.args.tokens.now in
    skipped (next_start old) old c.take_if.new.self c.in-Some.token (here 0 old c.requires) c.in-Some.ensures.gives.1

pub returns-in_ok-from_str-in-None-clause-goes_on : goal.returns-in_ok-from_str-in-None-clause-goes_on
returns-in_ok-from_str-in-None-clause-goes_on c =
    let old = c.args.tokens.now in
    let at = next_start old in
    let mid = c.take_if.new.self in
    let u = untouched at old mid (here 0 old c.requires) c.in-None.ensures.gives in
    then_left at at old mid c.expect.new.self u
    (skipped at mid c.expect.new.self c.in_ok-token-in-None.token u.before c.in_ok-token-in-None.ensures.gives.1)

pub returns-in_ok-text_of-in-Some-clause-parses : goal.returns-in_ok-text_of-in-Some-clause-parses
returns-in_ok-text_of-in-Some-clause-parses c lex =
    quoted_key c.args.tokens.now c.take_if.new.self c.in-Some.token c.in_ok-text_of-in-Some.field-0 lex c.in-Some.ensures.gives.0
    c.in-Some.ensures.gives.1 c.in_ok-text_of-in-Some.ensures.text

pub returns-in_ok-from_str-in-None-clause-parses : goal.returns-in_ok-from_str-in-None-clause-parses
returns-in_ok-from_str-in-None-clause-parses c lex =
    word_key c.args.tokens.now c.take_if.new.self c.expect.new.self c.in_ok-token-in-None.token c.in_ok-from_str-in-None.field-0 lex
    c.in-None.ensures.gives c.in_ok-token-in-None.ensures.gives.0 c.in_ok-token-in-None.ensures.gives.1 c.in_ok-from_str-in-None.ensures.ok

pub returns-in_ok-text_of-in-Some-clause-complete : goal.returns-in_ok-text_of-in-Some-clause-complete
returns-in_ok-text_of-in-Some-clause-complete c l k rest e h =
    key_quoted c.args.tokens.now c.take_if.new.self c.in-Some.token c.in_ok-text_of-in-Some.field-0 l k rest e h c.in-Some.ensures.gives.0
    c.in-Some.ensures.gives.1 c.in_ok-text_of-in-Some.ensures.complete

pub returns-in_err-text_of-in-Some-clause-complete : goal.returns-in_err-text_of-in-Some-clause-complete
returns-in_err-text_of-in-Some-clause-complete c l k rest e h =
    let x = c.in_err-text_of-in-Some.field-0.0 in
    let same : c.from_residual.result ≡ Err x = search rules in
    rw same (c.in_err-text_of-in-Some.ensures.complete k
    (key_refused c.args.tokens.now c.take_if.new.self c.in-Some.token l k rest e h c.in-Some.ensures.gives.0 c.in-Some.ensures.gives.1))

pub returns-in_ok-from_str-in-None-clause-complete : goal.returns-in_ok-from_str-in-None-clause-complete
returns-in_ok-from_str-in-None-clause-complete c l k rest e h =
    key_word c.args.tokens.now c.take_if.new.self c.expect.new.self c.in_ok-token-in-None.token c.in_ok-from_str-in-None.field-0 l k rest e h
    c.in-None.ensures.gives c.in_ok-token-in-None.ensures.gives.0 c.in_ok-token-in-None.ensures.gives.1 c.in_ok-from_str-in-None.ensures.ok

pub returns-in_err-token-in-None-clause-complete : goal.returns-in_err-token-in-None-clause-complete
returns-in_err-token-in-None-clause-complete c l k rest e h =
    let word = word_wanted c.args.tokens.now c.take_if.new.self l k rest e h (λ b. search rules) c.in-None.ensures.gives in
    absurd (search rules)

pub returns-in_ok-text_of-in-Some-clause-behind : goal.returns-in_ok-text_of-in-Some-clause-behind
returns-in_ok-text_of-in-Some-clause-behind c =
    let old = c.args.tokens.now in
    let k = taken (next_start old) old c.take_if.new.self c.in-Some.token (here 0 old c.requires) c.in-Some.ensures.gives.1 in
    (omega (arith, k.0.first, k.0.piece), k.0.before.next)

pub returns-in_ok-from_str-in-None-clause-behind : goal.returns-in_ok-from_str-in-None-clause-behind
returns-in_ok-from_str-in-None-clause-behind c =
    let old = c.args.tokens.now in
    let at = next_start old in
    let mid = c.take_if.new.self in
    let u = untouched at old mid (here 0 old c.requires) c.in-None.ensures.gives in
    let k = taken at mid c.expect.new.self c.in_ok-token-in-None.token u.before c.in_ok-token-in-None.ensures.gives.1 in
    (omega (arith, k.0.first, k.0.piece), k.0.before.next)
