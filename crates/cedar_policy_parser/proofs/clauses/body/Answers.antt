use Rattle.std.proofs.Common.{subst, sym, rules}
use Rattle.std.proofs.lemmas.Bool.{false≢true}
use Rattle.cedar_exprs.specs.BareExpr.{bare_expr}
use Rattle.cedar_parser.specs.Meant.{here}
use Rattle.cedar_policy_parser.specs.Streams.{HasNoSlot}
use Rattle.cedar_policy_parser.proofs.ClauseBodies.{body_inside}
use Rattle.cedar_policy_parser.proofs.Firsts.{begins_of, no_memory, taken_rest}
use Rattle.cedar_policy_parser.proofs.clauses.body.Goals as goal

pub returns-in_err-wanted-clause-complete : goal.returns-in_err-wanted-clause-complete
returns-in_err-wanted-clause-complete c x rest h = absurd (false≢true (c.in_err-wanted.ensures.present (begins_of h.split)))

pub returns-in_err-refuse_slots-clause-complete : goal.returns-in_err-refuse_slots-clause-complete
returns-in_err-refuse_slots-clause-complete c x rest h =
    let o = c.in_ok-wanted in
    let i =
    body_inside o.field-0.text.now x (here c.args.tokens.now) (here c.wanted.new.tokens) (here c.group-inside.result) (here c.group-inside.new.tokens) rest
    o.ensures.taken.first c.group-inside.ensures.whole h in
    absurd (false≢true (c.in_err-refuse_slots.ensures.complete (subst (λ t. HasNoSlot (here t)) (sym c.copy.ensures) i.no_slot)))

pub returns-in_err-expr-clause-complete : goal.returns-in_err-expr-clause-complete
returns-in_err-expr-clause-complete c x rest h =
    let o = c.in_ok-wanted in
    let e = c.in_err-expr.field-0.0 in
    let i =
    body_inside o.field-0.text.now x (here c.args.tokens.now) (here c.wanted.new.tokens) (here c.group-inside.result) (here c.group-inside.new.tokens) rest
    o.ensures.taken.first c.group-inside.ensures.whole h in
    no_memory bare_expr x rest c.group-inside.new.tokens c.from_residual-in_err-expr.result e (search rules) (c.in_err-expr.ensures.complete x i.stands)

pub returns-in_err-wanted-2-clause-complete : goal.returns-in_err-wanted-2-clause-complete
returns-in_err-wanted-2-clause-complete c x rest h =
    let o = c.in_ok-wanted in
    let i =
    body_inside o.field-0.text.now x (here c.args.tokens.now) (here c.wanted.new.tokens) (here c.group-inside.result) (here c.group-inside.new.tokens) rest
    o.ensures.taken.first c.group-inside.ensures.whole h in
    absurd (false≢true (c.in_err-wanted-2.ensures.present (begins_of i.left)))

pub returns-clause-complete : goal.returns-clause-complete
returns-clause-complete c x rest h =
    let o = c.in_ok-wanted in
    let i =
    body_inside o.field-0.text.now x (here c.args.tokens.now) (here c.wanted.new.tokens) (here c.group-inside.result) (here c.group-inside.new.tokens) rest
    o.ensures.taken.first c.group-inside.ensures.whole h in
    (c.in_ok-expr.ensures.complete x i.stands, taken_rest c.in_ok-wanted-2.ensures.taken.first i.left)
