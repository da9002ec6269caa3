use Rattle.std.proofs.Common.{◌≡◌, Err, string_bytes, rules}
use Rattle.std.proofs.lemmas.Bool.{false≢true}
use Rattle.cedar_parser.proofs.InOrder.{taken}
use Rattle.cedar_parser.proofs.TypePaths.{type_begins, type_left, type_named}
use Rattle.cedar_parser.proofs.leaves.parse_entity_type.Goals as goal

pub parse-requires : goal.parse-requires
parse-requires c =
    (taken 0 c.args.tokens.now c.expect.new.self c.in_ok-first.first c.requires c.in_ok-first.ensures.gives.1).0

pub returns-in_err-first-clause-complete : goal.returns-in_err-first-clause-complete
returns-in_err-first-clause-complete c lex n rest p end =
    absurd (false≢true (c.in_err-first.ensures.exact.1 (type_begins c.args.tokens.now n rest p)))

pub returns-in_err-name-clause-complete : goal.returns-in_err-name-clause-complete
returns-in_err-name-clause-complete c lex n rest p end =
    let e = c.in_err-name.field-0.0 in
    let first = c.in_ok-first in
    let same : c.from_residual-in_err-name.result ≡ Err e = search rules in
    rw same (type_named c.args.tokens.now c.expect.new.self c.parse.new.tokens first.first (string_bytes c.in_ok-path.path.text) e
    first.ensures.gives.1 c.in_ok-path.ensures.parses first.ensures.gives.0 lex c.in_err-name.ensures.complete)

pub returns-clause-complete : goal.returns-clause-complete
returns-clause-complete c lex n rest p end =
    let first = c.in_ok-first in
    type_left c.args.tokens.now c.expect.new.self c.parse.new.tokens first.first (string_bytes c.in_ok-path.path.text) n rest
    first.ensures.gives.1 c.in_ok-path.ensures.parses first.ensures.gives.0 c.in_ok-path.ensures.complete p end
