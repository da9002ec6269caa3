use Rattle.cedar_parser.proofs.Placed.{open_later, step_later, all_wider, next_begins}
use Rattle.std.proofs.Common.{◌≡◌, Err}
use Rattle.std.proofs.Common.{rules}
use Rattle.std.proofs.Common.{◌∙◌}
use Rattle.cedar_parser.proofs.CompleteRows.{colon_follows, field_begins, field_opens_ahead, member_ahead, record_ends_ahead, stays_keeps}
use Rattle.cedar_builders.specs.Keys.{meant_pairs}
use Rattle.cedar_exprs.specs.BareExpr.{bare_expr}
use Rattle.cedar_parser.proofs.TakenSteps.{end_kept, field_ends, field_key, if_both}
use Rattle.std.proofs.Common.{max, arith, ◌≤◌}
use Rattle.cedar_parser.proofs.InOrder as order
use Rattle.cedar_parser.specs.Refused.{next_start, open_start}
use Rattle.cedar_parser.proofs.InOrder.{left_from, maybe_taken, skipped, step_about, step_opened, taken, then_left}
use Rattle.cedar_parser.proofs.parser.Parser.field.Goals as goal

pub returns-in-Some-clause-goes_on : goal.returns-in-Some-clause-goes_on
returns-in-Some-clause-goes_on c =
    let at = max (open_start c.args.self.now) c.args.start in
    let old = c.args.tokens.now in
    let new = c.take_if.new.self in
    let t = c.in-Some.field-0 in
    let k = taken at old new t c.requires c.in-Some.ensures.gives.1 in
    step_about at (record { start = c.args.start; stop = t.span.stop }) old new c.record.new.self c.record.result c.record.ensures.opened
    (skipped at old new t c.requires c.in-Some.ensures.gives.1) (omega (arith, k.0.first, k.0.piece)) (omega (arith, k.0.fits, k.1))

pub returns-clause-goes_on : goal.returns-clause-goes_on
returns-clause-goes_on c =
    let at = max (open_start c.args.self.now) c.args.start in
    let old = c.args.tokens.now in
    let first = c.take_if.new.self in
    let second = c.key.new.tokens in
    let new = c.expect.new.self in
    let l = maybe_taken at old first c.take_if.result _ c.requires c.take_if.ensures.gives in
    let m = left_from (next_start first) at first second l.before.next c.in_ok-key.ensures.goes_on in
    let n = skipped at second new c.in_ok-_colon._colon m.before c.in_ok-_colon.ensures.gives.1 in
    step_opened at old new c.open.new.self c.open.result c.open.ensures.opened
    (then_left at at old first new l (then_left at at first second new m n))

pub returns-in-Some-clause-parses : goal.returns-in-Some-clause-parses
returns-in-Some-clause-parses c ts end h =
    field_ends ts c.args.self.now c.record.new.self (meant_pairs bare_expr c.args.pairs.items) c.in-Some.field-0 c.args.tokens.now
    c.take_if.new.self c.record.result end h.no_values h.lexemes h.so_far c.in-Some.ensures.gives.0
    c.in-Some.ensures.gives.1 c.record.ensures.same c.record.ensures.tree

pub returns-clause-parses : goal.returns-clause-parses
returns-clause-parses c ts end h =
    let k = field_key ts c.args.self.now (meant_pairs bare_expr c.args.pairs.items) c.in_ok-key.key c.in_ok-_colon._colon c.args.tokens.now
    c.take_if.new.self c.key.new.tokens c.expect.new.self h.lexemes h.so_far c.in_default.ensures.gives c.in_ok-key.ensures.parses
    c.in_ok-_colon.ensures.gives.0 c.in_ok-_colon.ensures.gives.1 in
    if_both _ _ c.open.result (c.open.ensures.parses ts _ (record { no_values = h.no_values; lexemes = k.1; so_far = k.0 }))
    (end_kept c.args.tokens.now c.expect.new.self k.2 end)

pub returns-in-Some-clause-complete : goal.returns-in-Some-clause-complete
returns-in-Some-clause-complete c end a =
    let new = c.take_if.new.self in
    let k = record_ends_ahead c.args.self.now _ c.in-Some.field-0 c.args.tokens.now new a c.in-Some.ensures.gives.0 c.in-Some.ensures.gives.1 in
    stays_keeps c.«record».new.self c.«record».result new (end_kept c.args.tokens.now new c.in-Some.ensures.gives.1.1 end)
    (member_ahead c.args.self.now c.«record».new.self c.«record».result _ k.1 c.«record».ensures.same (c.«record».ensures.complete k.0))

pub returns-clause-complete : goal.returns-clause-complete
returns-clause-complete c end a =
    let f = field_begins c.args.self.now (meant_pairs bare_expr c.args.pairs.items) c.args.tokens.now c.take_if.new.self a (λ b. search rules)
    c.in_default.ensures.gives in
    let k = c.in_ok-key.ensures.complete f.0.word f.0.key _ f.0.tokens f.0.is_key in
    let o = field_opens_ahead c.args.self.now c.args.pairs.items c.in_ok-key.key c.take_if.new.self c.key.new.tokens c.expect.new.self c.in_ok-_colon._colon
    f.0 f.1 k.0 k.1 c.in_ok-_colon.ensures.gives.1 in
    stays_keeps c.open.new.self c.open.result c.expect.new.self
    (end_kept c.args.tokens.now c.expect.new.self (c.in_ok-_colon.ensures.gives.1.1 ∙ (k.2 ∙ c.in_default.ensures.gives.1)) end)
    (c.open.ensures.complete _ (record { lexemes = o.0; goes_on = o.1 }))

pub returns-in_err-key-clause-complete : goal.returns-in_err-key-clause-complete
returns-in_err-key-clause-complete c end a =
    let f = field_begins c.args.self.now (meant_pairs bare_expr c.args.pairs.items) c.args.tokens.now c.take_if.new.self a (λ b. search rules)
    c.in_default.ensures.gives in
    let e = c.in_err-key.field-0.0 in
    let failed : c.from_residual.result ≡ Err e = search rules in
    rw failed (c.in_err-key.ensures.complete f.0.word f.0.key _ f.0.tokens f.0.is_key)

pub returns-in_err-_colon-clause-complete : goal.returns-in_err-_colon-clause-complete
returns-in_err-_colon-clause-complete c end a =
    let f = field_begins c.args.self.now (meant_pairs bare_expr c.args.pairs.items) c.args.tokens.now c.take_if.new.self a (λ b. search rules)
    c.in_default.ensures.gives in
    let k = c.in_ok-key.ensures.complete f.0.word f.0.key _ f.0.tokens f.0.is_key in
    let colon = colon_follows f.0.colon f.0.behind c.key.new.tokens k.1 in
    absurd (search rules)

pub returns-in-Some-clause-places : goal.returns-in-Some-clause-places
returns-in-Some-clause-places c source h items =
    let at = max (open_start c.args.self.now) c.args.start in
    let old = c.args.tokens.now in
    let new = c.take_if.new.self in
    let t = c.in-Some.field-0 in
    let k = taken at old new t c.requires c.in-Some.ensures.gives.1 in
    let b = next_begins at old new t c.requires c.in-Some.ensures.gives.1 in
    let l : next_start old ≤ t.span.stop = omega (arith, b, k.0.piece) in
    step_later source t.span.stop (next_start new) c.«record».new.self c.«record».result k.0.before.next
    (c.«record».ensures.places source (omega (arith, k.0.first, k.0.piece))
    (open_later source c.args.start (next_start old) c.args.start t.span.stop c.args.self.now (omega arith) l h)
    (all_wider c.args.start t.span.stop (omega arith) l items))

pub returns-clause-places : goal.returns-clause-places
returns-clause-places c source h items =
    let at = max (open_start c.args.self.now) c.args.start in
    let old = c.args.tokens.now in
    let first = c.take_if.new.self in
    let second = c.key.new.tokens in
    let new = c.expect.new.self in
    let l = maybe_taken (next_start old) old first c.take_if.result _ (order.here at old c.requires) c.take_if.ensures.gives in
    let m = left_from (next_start first) (next_start old) first second l.before.next c.in_ok-key.ensures.goes_on in
    let k = skipped (next_start old) second new c.in_ok-_colon._colon m.before c.in_ok-_colon.ensures.gives.1 in
    c.open.ensures.places source (next_start new) (omega (arith, c.requires.next, k.before.next))
    (open_later source c.args.start (next_start old) c.args.start (next_start new) c.args.self.now (omega arith) k.before.next h)
    (all_wider c.args.start (next_start new) (omega arith) k.before.next items)
