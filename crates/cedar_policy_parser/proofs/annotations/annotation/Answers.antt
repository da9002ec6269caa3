use Rattle.std.proofs.Common.{◌≡◌, [], Err, Ok, rules}
use Rattle.std.proofs.lemmas.Bool.{false≢true}
use Rattle.std.specs.Global.{Global}
use Rattle.std.specs.Rc.{rc_str_bytes}
use Rattle.std.specs.declared.rc.RcStr.{RcStr}
use Rattle.cedar_lexer.specs.declared.token.TokenKind.TheVariants as kinds
use Rattle.cedar_parser.specs.Meant.{here}
use Rattle.cedar_policies.specs.Policies.{bare_annotation}
use Rattle.cedar_policy_parser.proofs.Bodies.{behind_at, behind_at_alone}
use Rattle.cedar_policy_parser.proofs.CompleteAnnotations.{alone_given, key_first, text_given}
use Rattle.cedar_policy_parser.proofs.Firsts.{begins_next, no_memory}
use Rattle.cedar_policy_parser.proofs.annotations.annotation.Goals as goal

pub returns-in_ok-value-in-OpenRound-clause-parses : goal.returns-in_ok-value-in-OpenRound-clause-parses
returns-in_ok-value-in-OpenRound-clause-parses c =
    let name = c.in_ok-name in
    let same : rc_str_bytes c.in_ok-key.key ≡ name.name.text.now = search rules in
    behind_at name.name c.in_ok-wanted-in-OpenRound.field-0 (rc_str_bytes c.in_ok-key.key) (rc_str_bytes c.in_ok-value-in-OpenRound.value)
    c.args.tokens.now c.key.new.tokens c.wanted.new.tokens c.value.new.tokens name.ensures.taken same c.in_ok-wanted-in-OpenRound.ensures.taken
    c.in_ok-value-in-OpenRound.ensures.parses

pub returns-in_ok-value-in_default-clause-parses : goal.returns-in_ok-value-in_default-clause-parses
returns-in_ok-value-in_default-clause-parses c =
    let name = c.in_ok-name in
    let same : rc_str_bytes c.in_ok-key.key ≡ name.name.text.now = search rules in
    let none : rc_str_bytes c.in_ok-value-in_default.value ≡ [] = search rules in
    behind_at_alone name.name (rc_str_bytes c.in_ok-key.key) (rc_str_bytes c.in_ok-value-in_default.value) c.args.tokens.now c.key.new.tokens
    name.ensures.taken same none

pub returns-in_err-name-clause-complete : goal.returns-in_err-name-clause-complete
returns-in_err-name-clause-complete c a rest h =
    let s = key_first (here c.args.tokens.now) a rest h in absurd (false≢true (c.in_err-name.ensures.present s.kind a.0 s.behind s.word s.first))

pub returns-in_err-wanted-in-OpenRound-clause-complete : goal.returns-in_err-wanted-in-OpenRound-clause-complete
returns-in_err-wanted-in-OpenRound-clause-complete c a rest h = absurd (false≢true (c.in_err-wanted-in-OpenRound.ensures.next (search rules) (λ e. cc)))

pub returns-in_err-value-in-OpenRound-clause-complete : goal.returns-in_err-value-in-OpenRound-clause-complete
returns-in_err-value-in-OpenRound-clause-complete c a rest h =
    let name = c.in_ok-name in
    let taken = name.ensures.taken in
    let e = c.in_err-value-in-OpenRound.field-0.0 in
    let same : rc_str_bytes c.in_ok-key.key ≡ name.name.text.now = search rules in
    no_memory bare_annotation a rest c.value.new.tokens c.from_residual-in_err-value-in-OpenRound.result e (search rules)
    (text_given (λ (t : RcStr Global). rc_str_bytes t) taken.kind (rc_str_bytes c.in_ok-key.key) name.name.text.now c.in_ok-wanted-in-OpenRound.field-0.text.now a
    (here c.args.tokens.now) (here c.key.new.tokens) rest c.wanted.new.tokens c.value.new.tokens (Err e) same taken.taken.first
    c.in_ok-wanted-in-OpenRound.ensures.taken.first c.in_err-value-in-OpenRound.ensures.complete h)

pub returns-in_ok-value-in-OpenRound-clause-complete : goal.returns-in_ok-value-in-OpenRound-clause-complete
returns-in_ok-value-in-OpenRound-clause-complete c a rest h =
    let name = c.in_ok-name in
    let taken = name.ensures.taken in
    let same : rc_str_bytes c.in_ok-key.key ≡ name.name.text.now = search rules in
    text_given rc_str_bytes taken.kind (rc_str_bytes c.in_ok-key.key) name.name.text.now c.in_ok-wanted-in-OpenRound.field-0.text.now a
    (here c.args.tokens.now) (here c.key.new.tokens) rest c.wanted.new.tokens c.value.new.tokens (Ok c.in_ok-value-in-OpenRound.value) same
    taken.taken.first c.in_ok-wanted-in-OpenRound.ensures.taken.first c.in_ok-value-in-OpenRound.ensures.complete h

pub returns-in_ok-value-in_default-clause-complete : goal.returns-in_ok-value-in_default-clause-complete
returns-in_ok-value-in_default-clause-complete c a rest h =
    let name = c.in_ok-name in
    let taken = name.ensures.taken in
    let same : rc_str_bytes c.in_ok-key.key ≡ name.name.text.now = search rules in
    let none : rc_str_bytes c.in_ok-value-in_default.value ≡ [] = search rules in
    alone_given taken.kind (rc_str_bytes c.in_ok-key.key) (rc_str_bytes c.in_ok-value-in_default.value) name.name.text.now a
    (here c.args.tokens.now) (here c.key.new.tokens) rest same none taken.taken.first (begins_next c.key.new.tokens kinds.OpenRound (search rules)) h
