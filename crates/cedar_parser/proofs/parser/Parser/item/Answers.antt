use Rattle.cedar_parser.proofs.Placed.{open_later, step_later, all_wider, next_begins}
use Rattle.cedar_parser.specs.Refused.{next_start}
use Rattle.cedar_parser.proofs.InOrder.{untouched}
use Rattle.std.proofs.Common.{rules}
use Rattle.cedar_parser.proofs.CompleteRows.{member_ahead, row_ends_ahead, row_opens_ahead, stays_keeps}
use Rattle.std.proofs.Common.{length}
use Rattle.std.proofs.Common.{map, subst}
use Rattle.cedar_exprs.specs.BareExpr.{bare_expr}
use Rattle.cedar_parser.specs.Meant.{IsOpenParsed, row_of}
use Rattle.cedar_parser.specs.declared.groups.GroupKind.TheVariants as groups
use Rattle.cedar_parser.proofs.TakenSteps.{end_kept, if_both, item_ends, untouched_here}
use Rattle.std.proofs.Common.{max, arith, ◌≤◌}
use Rattle.cedar_parser.proofs.InOrder as order
use Rattle.cedar_parser.specs.Refused.{open_start}
use Rattle.cedar_parser.proofs.InOrder.{skipped, step_about, taken}
use Rattle.cedar_parser.proofs.parser.Parser.item.Goals as goal

pub returns-in-Some-clause-goes_on : goal.returns-in-Some-clause-goes_on
returns-in-Some-clause-goes_on c =
    let at = max (open_start c.args.self.now) c.args.start in
    let old = c.args.tokens.now in
    let new = c.take_if.new.self in
    let t = c.in-Some.field-0 in
    let k = taken at old new t c.requires c.in-Some.ensures.gives.1 in
    step_about at (record { start = c.args.start; stop = t.span.stop }) old new c.row.new.self c.row.result c.row.ensures.opened
    (skipped at old new t c.requires c.in-Some.ensures.gives.1) (omega (arith, k.0.first, k.0.piece)) (omega (arith, k.0.fits, k.1))

pub returns-in-Some-clause-parses : goal.returns-in-Some-clause-parses
returns-in-Some-clause-parses c ts end h =
    item_ends ts c.args.self.now c.row.new.self (row_of c.args.kind) (map bare_expr c.args.items.items) c.in-Some.field-0 c.args.tokens.now
    c.take_if.new.self c.closing.result c.row.result end h.no_values h.lexemes h.so_far c.closing.ensures c.in-Some.ensures.gives.0
    c.in-Some.ensures.gives.1 c.row.ensures.same c.row.ensures.tree

pub returns-in-None-clause-parses : goal.returns-in-None-clause-parses
returns-in-None-clause-parses c ts end h =
    if_both _ _ c.open.result
    (c.open.ensures.parses ts _ (subst (IsOpenParsed ts c.args.self.now (groups.Row c.args.kind c.args.items))
    (untouched_here c.args.tokens.now c.take_if.new.self c.in-None.ensures.gives) h))
    (end_kept c.args.tokens.now c.take_if.new.self c.in-None.ensures.gives.1 end)

pub returns-in-Some-clause-complete : goal.returns-in-Some-clause-complete
returns-in-Some-clause-complete c end a =
    let new = c.take_if.new.self in
    let k = row_ends_ahead c.args.self.now (row_of c.args.kind) (length c.args.items.items) c.in-Some.field-0 c.closing.result c.args.tokens.now new a
    c.closing.ensures c.in-Some.ensures.gives.0 c.in-Some.ensures.gives.1 in
    stays_keeps c.row.new.self c.row.result new (end_kept c.args.tokens.now new c.in-Some.ensures.gives.1.1 end)
    (member_ahead c.args.self.now c.row.new.self c.row.result _ k.1 c.row.ensures.same (c.row.ensures.complete k.0))

pub returns-in-None-clause-complete : goal.returns-in-None-clause-complete
returns-in-None-clause-complete c end a =
    let new = c.take_if.new.self in
    let k = row_opens_ahead c.args.self.now c.args.kind c.args.items.items c.args.tokens.now new a (λ b. search rules) c.in-None.ensures.gives in
    stays_keeps c.open.new.self c.open.result new (end_kept c.args.tokens.now new c.in-None.ensures.gives.1 end)
    (c.open.ensures.complete _ (record { lexemes = k.0; goes_on = k.1 }))

pub returns-in-Some-clause-places : goal.returns-in-Some-clause-places
returns-in-Some-clause-places c source h items =
    let at = max (open_start c.args.self.now) c.args.start in
    let old = c.args.tokens.now in
    let new = c.take_if.new.self in
    let t = c.in-Some.field-0 in
    let k = taken at old new t c.requires c.in-Some.ensures.gives.1 in
    let b = next_begins at old new t c.requires c.in-Some.ensures.gives.1 in
    let l : next_start old ≤ t.span.stop = omega (arith, b, k.0.piece) in
    step_later source t.span.stop (next_start new) c.row.new.self c.row.result k.0.before.next
    (c.row.ensures.places source (omega (arith, k.0.first, k.0.piece))
    (open_later source c.args.start (next_start old) c.args.start t.span.stop c.args.self.now (omega arith) l h)
    (all_wider c.args.start t.span.stop (omega arith) l items))

pub returns-in-None-clause-places : goal.returns-in-None-clause-places
returns-in-None-clause-places c source h items =
    let at = max (open_start c.args.self.now) c.args.start in
    let old = c.args.tokens.now in
    let new = c.take_if.new.self in
    let u = untouched (next_start old) old new (order.here at old c.requires) c.in-None.ensures.gives in
    c.open.ensures.places source (next_start new) (omega (arith, c.requires.next, u.before.next))
    (open_later source c.args.start (next_start old) c.args.start (next_start new) c.args.self.now (omega arith) u.before.next h)
    (all_wider c.args.start (next_start new) (omega arith) u.before.next items)
