use Rattle.std.proofs.Common.{rules}
use Rattle.std.proofs.lemmas.Bool.{false≢true}
use Rattle.cedar_lexer.specs.declared.token.TokenKind.TheVariants as kinds
use Rattle.cedar_parser.specs.Meant.{here}
use Rattle.cedar_policy_parser.proofs.Firsts.{begins_next, begins_of, taken_rest}
use Rattle.cedar_policy_parser.proofs.ScopeEnds.{round_behind, round_first}
use Rattle.cedar_policy_parser.proofs.scope.close.Goals as goal

pub returns-in_err-wanted-in-Comma-clause-complete : goal.returns-in_err-wanted-in-Comma-clause-complete
returns-in_err-wanted-in-Comma-clause-complete c rest h = absurd (false≢true (c.in_err-wanted-in-Comma.ensures.next (search rules) (λ e. cc)))

pub returns-in_err-wanted-in-Comma-2-clause-complete : goal.returns-in_err-wanted-in-Comma-2-clause-complete
returns-in_err-wanted-in-Comma-2-clause-complete c rest h =
    let m = c.in_ok-wanted-in-Comma in
    let r = round_behind m.field-0.text.now (here c.args.tokens.now) (here c.wanted.new.tokens) rest m.ensures.taken.first h in
    absurd (false≢true (c.in_err-wanted-in-Comma-2.ensures.present (begins_of r.split)))

pub returns-in_ok-wanted-in-Comma-2-clause-complete : goal.returns-in_ok-wanted-in-Comma-2-clause-complete
returns-in_ok-wanted-in-Comma-2-clause-complete c rest h =
    let m = c.in_ok-wanted-in-Comma in
    let r = round_behind m.field-0.text.now (here c.args.tokens.now) (here c.wanted.new.tokens) rest m.ensures.taken.first h in
    taken_rest c.in_ok-wanted-in-Comma-2.ensures.taken.first r.split

pub returns-in_err-wanted-in_default-clause-complete : goal.returns-in_err-wanted-in_default-clause-complete
returns-in_err-wanted-in_default-clause-complete c rest h =
    let t = c.args.tokens.now in
    let r = round_first (here t) rest (begins_next t kinds.Comma (search rules)) h in
    absurd (false≢true (c.in_err-wanted-in_default.ensures.present (begins_of r.split)))

pub returns-in_ok-wanted-in_default-clause-complete : goal.returns-in_ok-wanted-in_default-clause-complete
returns-in_ok-wanted-in_default-clause-complete c rest h =
    let t = c.args.tokens.now in
    let r = round_first (here t) rest (begins_next t kinds.Comma (search rules)) h in
    taken_rest c.in_ok-wanted-in_default.ensures.taken.first r.split
