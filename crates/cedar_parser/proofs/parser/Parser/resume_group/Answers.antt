use Rattle.cedar_parser.proofs.Placed.{and_last, group_later, in_order, first_placed, operand_placed, pair_last, placed_later, step_later, wider}
use Rattle.cedar_parser.specs.Places.{ArePlaced, and_placed, around, items_of, none_placed}
use Rattle.std.proofs.Common.{arith, sym, Some, map}
use Rattle.cedar_parser.specs.Refused.{next_start}
use Rattle.cedar_parser.proofs.GroupSteps.{restored}
use Rattle.cedar_parser.proofs.CompleteSteps.{branch_stays, field_resumed, item_resumed, last_field_resumed, last_resumed, resumed_takes, round_resumed, test_resumed}
use Rattle.cedar_parser.proofs.CompleteRows.{member_ahead, stays_keeps}
use Rattle.cedar_parser.proofs.parser.Parser.resume_group.Goals as goal
use Rattle.std.proofs.Common.{IsTrue, ap, rules, subst}
use Rattle.cedar_parser.specs.Meant.{Takes, grouped, here, row_of}
use Rattle.cedar_parser.specs.Waiting.{closing_of}
use Rattle.cedar_lexer.specs.declared.token.TokenKind.TheVariants as kinds
use Rattle.cedar_parser.proofs.GroupSteps.{branch_closed, field_closed, is_comma, item_closed, last_field_closed, last_item_closed, no_comma, round_closed, test_closed}
use Rattle.cedar_parser.proofs.CompleteRows.{not_comma}
use Rattle.cedar_parser.proofs.TakenSteps.{if_both}

pub returns-in-Round-clause-parses : goal.returns-in-Round-clause-parses
returns-in-Round-clause-parses c ts end h =
    let takes : IsTrue c.takes.result = search rules in
    let k = subst (λ x. Takes (grouped x) c.args.token.kind) c.in-Round.is (c.takes.ensures.0 takes) in (
      round_closed ts (here c.args.tokens.now) c.args.self.now c.args.group c.args.expr c.args.token c.member.result h c.in-Round.is k
          c.member.ensures.precedence c.member.ensures.expr,
      end,
    )

pub returns-in-If-clause-parses : goal.returns-in-If-clause-parses
returns-in-If-clause-parses c ts end h =
    let takes : IsTrue c.takes.result = search rules in
    let k = subst (λ x. Takes (grouped x) c.args.token.kind) c.in-If.is (c.takes.ensures.0 takes) in
    if_both _ _ c.open.result
    (c.open.ensures.parses ts (here c.args.tokens.now)
    (test_closed ts (here c.args.tokens.now) c.args.self.now c.args.group c.args.expr c.args.token h c.in-If.is k)) end

pub returns-in-Then-clause-parses : goal.returns-in-Then-clause-parses
returns-in-Then-clause-parses c ts end h =
    let takes : IsTrue c.takes.result = search rules in
    let k = subst (λ x. Takes (grouped x) c.args.token.kind) c.in-Then.is (c.takes.ensures.0 takes) in
    branch_closed ts c.args.self.now c.otherwise.new.self c.args.group c.in-Then.test c.args.expr c.args.token c.args.group.start c.args.tokens.now
    c.otherwise.result end h c.in-Then.is k c.otherwise.ensures.pushed

pub returns-then-goes_on-clause-parses : goal.returns-then-goes_on-clause-parses
returns-then-goes_on-clause-parses c ts end h =
    c.item.ensures.parses ts end (record {
      no_values = h.no_values;
      lexemes = h.lexemes.1;
      so_far = item_closed ts (here c.args.tokens.now) c.args.self.now c.args.group c.args.expr c.args.token (row_of c.in-Row.kind) c.in-Row.items.items
          c.in_ok-items-in-Row.items.items h (ap grouped c.in-Row.is) (is_comma c.args.token.kind c.if-goes_on.ensures) c.in_ok-items-in-Row.ensures.items;
    })

pub returns-else-goes_on-clause-parses : goal.returns-else-goes_on-clause-parses
returns-else-goes_on-clause-parses c ts end h =
    let takes : IsTrue c.takes.result = search rules in
    let k = subst (λ x. Takes (grouped x) c.args.token.kind) c.in-Row.is (c.takes.ensures.0 takes) in
    last_item_closed ts c.args.self.now c.row.new.self c.args.group c.args.expr c.args.token (row_of c.in-Row.kind) c.in-Row.items.items
    c.in_ok-items-in-Row.items.items c.args.tokens.now c.row.result end h (ap grouped c.in-Row.is)
    (no_comma c.args.token.kind (closing_of (row_of c.in-Row.kind)) c.if-goes_on.ensures k) c.in_ok-items-in-Row.ensures.items c.row.ensures.same
    c.row.ensures.tree

pub returns-then-goes_on-2-clause-parses : goal.returns-then-goes_on-2-clause-parses
returns-then-goes_on-2-clause-parses c ts end h =
    c.field.ensures.parses ts end (record {
      no_values = h.no_values;
      lexemes = h.lexemes.1;
      so_far = field_closed ts (here c.args.tokens.now) c.args.self.now c.args.group c.args.expr c.args.token c.in-Record.key c.in-Record.pairs.items
          c.in_ok-pairs-in-Record.pairs.items h (ap grouped c.in-Record.is) (is_comma c.args.token.kind c.if-goes_on-2.ensures) c.in_ok-pairs-in-Record.ensures.items;
    })

pub returns-else-goes_on-2-clause-parses : goal.returns-else-goes_on-2-clause-parses
returns-else-goes_on-2-clause-parses c ts end h =
    let takes : IsTrue c.takes.result = search rules in
    let k = subst (λ x. Takes (grouped x) c.args.token.kind) c.in-Record.is (c.takes.ensures.0 takes) in
    last_field_closed ts c.args.self.now c.«record».new.self c.args.group c.args.expr c.args.token c.in-Record.key c.in-Record.pairs.items
    c.in_ok-pairs-in-Record.pairs.items c.args.tokens.now c.«record».result end h (ap grouped c.in-Record.is)
    (no_comma c.args.token.kind kinds.CloseCurly c.if-goes_on-2.ensures k) c.in_ok-pairs-in-Record.ensures.items c.«record».ensures.same
    c.«record».ensures.tree

pub returns-in-Round-clause-complete : goal.returns-in-Round-clause-complete
returns-in-Round-clause-complete c end a =
    (round_resumed c.args.self.now c.args.group c.args.token (here c.args.tokens.now) c.member.result a c.in-Round.is c.member.ensures.precedence, end)

pub returns-in-If-clause-complete : goal.returns-in-If-clause-complete
returns-in-If-clause-complete c end a =
    stays_keeps c.open.new.self c.open.result c.args.tokens.now end
    (c.open.ensures.complete (here c.args.tokens.now)
    (test_resumed c.args.self.now c.args.group c.args.token (here c.args.tokens.now) c.args.expr a c.in-If.is))

pub returns-then-goes_on-clause-complete : goal.returns-then-goes_on-clause-complete
returns-then-goes_on-clause-complete c end a =
    c.item.ensures.complete end
    (item_resumed c.args.self.now c.args.group c.args.token (here c.args.tokens.now) (row_of c.in-Row.kind) c.args.expr c.in-Row.items.items
    c.in_ok-items-in-Row.items.items a (ap grouped c.in-Row.is) (is_comma c.args.token.kind c.if-goes_on.ensures) c.in_ok-items-in-Row.ensures.items)

pub returns-else-goes_on-clause-complete : goal.returns-else-goes_on-clause-complete
returns-else-goes_on-clause-complete c end a =
    let k = last_resumed c.args.self.now c.args.group c.args.token (here c.args.tokens.now) (row_of c.in-Row.kind) c.args.expr c.in-Row.items.items
    c.in_ok-items-in-Row.items.items a (ap grouped c.in-Row.is) (not_comma c.args.token.kind c.if-goes_on.ensures) c.in_ok-items-in-Row.ensures.items in
    stays_keeps c.row.new.self c.row.result c.args.tokens.now end
    (member_ahead (restored c.args.self.now c.args.group) c.row.new.self c.row.result (here c.args.tokens.now) k.1 c.row.ensures.same (c.row.ensures.complete k.0))

pub returns-then-goes_on-2-clause-complete : goal.returns-then-goes_on-2-clause-complete
returns-then-goes_on-2-clause-complete c end a =
    c.field.ensures.complete end
    (field_resumed c.args.self.now c.args.group c.args.token (here c.args.tokens.now) c.in-Record.key c.args.expr c.in-Record.pairs.items
    c.in_ok-pairs-in-Record.pairs.items a (ap grouped c.in-Record.is) (is_comma c.args.token.kind c.if-goes_on-2.ensures) c.in_ok-pairs-in-Record.ensures.items)

pub returns-else-goes_on-2-clause-complete : goal.returns-else-goes_on-2-clause-complete
returns-else-goes_on-2-clause-complete c end a =
    let k = last_field_resumed c.args.self.now c.args.group c.args.token (here c.args.tokens.now) c.in-Record.key c.args.expr c.in-Record.pairs.items
    c.in_ok-pairs-in-Record.pairs.items a (ap grouped c.in-Record.is) (not_comma c.args.token.kind c.if-goes_on-2.ensures) c.in_ok-pairs-in-Record.ensures.items in
    stays_keeps c.«record».new.self c.«record».result c.args.tokens.now end
    (member_ahead (restored c.args.self.now c.args.group) c.«record».new.self c.«record».result (here c.args.tokens.now) k.1 c.«record».ensures.same
    (c.«record».ensures.complete k.0))

pub returns-then-not-takes-clause-complete : goal.returns-then-not-takes-clause-complete
returns-then-not-takes-clause-complete c end a =
    let takes : IsTrue c.takes.result = c.takes.ensures.1 (resumed_takes c.args.self.now c.args.group c.args.token (here c.args.tokens.now) a) in
    absurd (search rules)

pub returns-in-Then-clause-complete : goal.returns-in-Then-clause-complete
returns-in-Then-clause-complete c end a =
    branch_stays c.args.self.now c.otherwise.new.self c.args.group c.args.token c.args.tokens.now c.args.group.start c.in-Then.test c.args.expr
    c.otherwise.result _ end a c.in-Then.is c.otherwise.ensures.pushed c.otherwise.ensures.opened

pub returns-in-Round-clause-places : goal.returns-in-Round-clause-places
returns-in-Round-clause-places c source h =
    let g = c.args.group in
    let t = c.args.token.span in
    let m = c.member.result in
    let p = c.requires.first.piece in
    placed_later source t.stop _ (around c.args.self.now g) (Some m) c.requires.first.before.next
    (operand_placed source g.start t.start (around c.args.self.now g) m g.start t.stop c.args.expr h.outside (ap (λ s. s.start) c.member.ensures.span)
    (ap (λ s. s.stop) c.member.ensures.span) c.member.ensures.expr (omega arith) p (wider g.start t.stop (omega arith) p h.expr))

pub returns-in-If-clause-places : goal.returns-in-If-clause-places
returns-in-If-clause-places c source h =
    let to = next_start c.args.tokens.now in
    let f = c.requires.first in
    let k = group_later source c.args.token.span.start to c.args.self.now c.args.group c.args.expr (omega (arith, f.piece, f.before.next)) h in
    c.open.ensures.places source to (in_order k.expr) k.outside (and_placed k.expr none_placed)

pub returns-in-Then-clause-places : goal.returns-in-Then-clause-places
returns-in-Then-clause-places c source h =
    let g = c.args.group in
    let to = next_start c.args.tokens.now in
    let f = c.requires.first in
    let k = group_later source c.args.token.span.start to c.args.self.now g c.args.expr (omega (arith, f.piece, f.before.next)) h in
    c.otherwise.ensures.places source to k.outside (first_placed (subst (ArePlaced source g.start to) (ap items_of c.in-Then.is) k.items)) k.expr

pub returns-then-goes_on-clause-places : goal.returns-then-goes_on-clause-places
returns-then-goes_on-clause-places c source h =
    let g = c.args.group in
    let to = next_start c.args.tokens.now in
    let f = c.requires.first in
    let k = group_later source c.args.token.span.start to c.args.self.now g c.args.expr (omega (arith, f.piece, f.before.next)) h in
    c.item.ensures.places source k.outside
    (subst (ArePlaced source g.start to) (sym c.in_ok-items-in-Row.ensures.items)
    (and_last c.in-Row.items.items c.args.expr (subst (ArePlaced source g.start to) (ap items_of c.in-Row.is) k.items) k.expr))

pub returns-else-goes_on-clause-places : goal.returns-else-goes_on-clause-places
returns-else-goes_on-clause-places c source h =
    let g = c.args.group in
    let to = c.args.token.span.stop in
    let f = c.requires.first in
    let k = group_later source c.args.token.span.start to c.args.self.now g c.args.expr f.piece h in
    step_later source to (next_start c.args.tokens.now) c.row.new.self c.row.result f.before.next
    (c.row.ensures.places source (in_order k.expr) k.outside
    (subst (ArePlaced source g.start to) (sym c.in_ok-items-in-Row.ensures.items)
    (and_last c.in-Row.items.items c.args.expr (subst (ArePlaced source g.start to) (ap items_of c.in-Row.is) k.items) k.expr)))

pub returns-then-goes_on-2-clause-places : goal.returns-then-goes_on-2-clause-places
returns-then-goes_on-2-clause-places c source h =
    let g = c.args.group in
    let to = next_start c.args.tokens.now in
    let f = c.requires.first in
    let k = group_later source c.args.token.span.start to c.args.self.now g c.args.expr (omega (arith, f.piece, f.before.next)) h in
    c.field.ensures.places source k.outside
    (subst (λ ps. ArePlaced source g.start to (map (λ p. p.1) ps)) (sym c.in_ok-pairs-in-Record.ensures.items)
    (pair_last c.in-Record.pairs.items c.in-Record.key c.args.expr (subst (ArePlaced source g.start to) (ap items_of c.in-Record.is) k.items) k.expr))

pub returns-else-goes_on-2-clause-places : goal.returns-else-goes_on-2-clause-places
returns-else-goes_on-2-clause-places c source h =
    let g = c.args.group in
    let to = c.args.token.span.stop in
    let f = c.requires.first in
    let k = group_later source c.args.token.span.start to c.args.self.now g c.args.expr f.piece h in
    step_later source to (next_start c.args.tokens.now) c.«record».new.self c.«record».result f.before.next
    (c.«record».ensures.places source (in_order k.expr) k.outside
    (subst (λ ps. ArePlaced source g.start to (map (λ p. p.1) ps)) (sym c.in_ok-pairs-in-Record.ensures.items)
    (pair_last c.in-Record.pairs.items c.in-Record.key c.args.expr (subst (ArePlaced source g.start to) (ap items_of c.in-Record.is) k.items) k.expr)))
