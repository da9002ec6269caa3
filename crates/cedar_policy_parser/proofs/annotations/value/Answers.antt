use Rattle.std.proofs.Common.{subst, sym, rules}
use Rattle.std.proofs.lemmas.Bool.{false≢true}
use Rattle.std.specs.Rc.{rc_str_bytes}
use Rattle.semantics_grammar.specs.Written.{IsTextOf}
use Rattle.cedar_policy_parser.proofs.Firsts.{begins_of, no_memory, taken_rest, taken_text}
use Rattle.cedar_policy_parser.proofs.annotations.value.Goals as goal

pub returns-in_err-quoted-clause-complete : goal.returns-in_err-quoted-clause-complete
returns-in_err-quoted-clause-complete c x rest h = absurd (false≢true (c.in_err-quoted.ensures.present (begins_of h.split)))

pub returns-in_err-value-clause-complete : goal.returns-in_err-value-clause-complete
returns-in_err-value-clause-complete c x rest h =
    let q = c.in_ok-quoted in
    let text = subst (λ w. IsTextOf w x) (sym (taken_text q.ensures.taken.first h.split)) h.text in
    let e = c.in_err-value.field-0.0 in
    no_memory rc_str_bytes x rest c.wanted.new.tokens c.from_residual-in_err-value.result e (search rules) (c.in_err-value.ensures.complete x text)

pub returns-clause-complete : goal.returns-clause-complete
returns-clause-complete c x rest h =
    let q = c.in_ok-quoted in
    let text = subst (λ w. IsTextOf w x) (sym (taken_text q.ensures.taken.first h.split)) h.text in
    (c.in_ok-value.ensures.complete x text, taken_rest c.in_ok-wanted.ensures.taken.first (taken_rest q.ensures.taken.first h.split))
