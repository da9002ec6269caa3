use Rattle.cedar_parser.proofs.Placed.{longer_placed}
use Rattle.std.proofs.Common.{Err}
use Rattle.std.proofs.Common.{inl}
use Rattle.cedar_lexer.specs.declared.token.TokenKind.TheVariants as kinds
use Rattle.cedar_terms.specs.declared.precedence.Precedence.TheVariants as precedences
use Rattle.cedar_parser.specs.Meant.{AreLexemes, open_groups, waits}
use Rattle.cedar_parser.proofs.AheadSteps.{key_more, keys_end, test_ahead}
use Rattle.cedar_parser.proofs.CompleteSteps.{operand_ahead}
use Rattle.cedar_parser.proofs.CompleteTokens.{first_other, has_key, key_step, no_end}
use Rattle.cedar_parser.proofs.CompleteTokens as tokens
use Rattle.cedar_parser.proofs.TakenSteps.{end_kept, taken_is, untouched_here}
use Rattle.std.proofs.Common.{◌≡◌, ◌∙◌, map, refl, rules, subst, sym, arith}
use Rattle.std.specs.Rc.{rc_str_bytes}
use Rattle.cedar_builders.specs.BareExpr.{HasAttr}
use Rattle.cedar_exprs.specs.BareExpr.{bare_expr}
use Rattle.semantics_grammar.specs.Written.{AreKeys}
use Rattle.cedar_parser.specs.Meant.{here}
use Rattle.cedar_parser.specs.Refused.{next_start}
use Rattle.cedar_parser.proofs.InOrder.{earlier, left_from, maybe_taken, then_left}
use Rattle.cedar_parser.proofs.InOrder as order
use Rattle.cedar_parser.proofs.NameSteps.{has_step, more_keys}
use Rattle.cedar_parser.proofs.TakenSteps.{none_taken, one_taken}
use Rattle.cedar_parser.proofs.parser.Parser.has.Goals as goal

pub key-requires-in-attributes : goal.key-requires-in-attributes
key-requires-in-attributes c =
    let at = next_start c.key.new.tokens in
    let new = c.take_if.new.self in
    let l = maybe_taken at c.attributes.tokens new c.take_if.result _ c.attributes.invariant.left.before c.take_if.ensures.gives in
    earlier at 0 new (omega arith) l.before

pub attributes-init : goal.attributes-init
attributes-init c =
    let new = c.key.new.tokens in
    record {
      fewer = omega arith;
      left = record { before = order.here _ new c.in_ok-head.ensures.goes_on.before; stop = refl };
      behind = (omega arith, c.in_ok-head.ensures.behind.1);
      parses = λ l. record {
        keys = λ ts k p. subst (λ xs. AreKeys ts k (map rc_str_bytes xs) (here new)) (sym c.new-tail.ensures.items) p;
        lexemes = l;
        end = refl;
      };
      complete = λ gs ws l k. (l, k, refl);
    }

pub attributes-preserved : goal.attributes-preserved
attributes-preserved c =
    let first = c.key.new.tokens in
    let old = c.attributes.tokens in
    let mid = c.take_if.new.self in
    let new = c.key-in-attributes.new.tokens in
    let at = next_start first in
    let inv = c.attributes.invariant in
    let b = maybe_taken (next_start old) old mid c.take_if.result _ (order.here at old inv.left.before) c.take_if.ensures.gives in
    let m = maybe_taken at old mid c.take_if.result _ inv.left.before c.take_if.ensures.gives in
    let k = c.in_ok-attr.ensures.goes_on in
    let o = one_taken _ _ c.take_if.result c.take_if.ensures.gives (sym c.is_some.ensures ∙ c.attributes-test.true) in
    record {
      fewer = omega arith;
      left = left_from (next_start mid) at first new m.before.next (then_left at (next_start mid) first mid new (then_left at at first old mid inv.left m) k);
      behind = (omega (arith, inv.behind, c.in_ok-attr.ensures.behind, b.before.next), c.in_ok-attr.ensures.behind.1);
      parses = λ l. more_keys first old mid new o.0 c.in_ok-attr.attr c.attributes.tail.items c.push.new.self.items (inv.parses l) o.1.0 o.1.1
          c.in_ok-attr.ensures.parses c.in_ok-push.ensures.items;
      complete = λ gs ws l k. (
          let i = inv.complete gs ws l k in
          let same = taken_is old mid o.0 kinds.Dot o.1.0 o.1.1 in
          let m = key_more gs ws o.0.text.now (here mid) (subst (tokens.KeysAre gs ws) same i.1) in
          let e = c.in_ok-attr.ensures.complete m.word m.key m.behind m.tokens m.is_key in
          let s = key_step gs ws mid new m (subst AreLexemes same i.0).1 e.1 in
          (s.0, s.1, e.2 ∙ (o.1.1.1 ∙ i.2)));
    }

pub returns-clause-parses : goal.returns-clause-parses
returns-clause-parses c ts end h =
    let u = none_taken _ _ c.take_if.result c.take_if.ensures.gives (sym c.is_some.ensures ∙ c.attributes-test.false) in
    let e : bare_expr c.in_ok-has.field-0.expr ≡ HasAttr (bare_expr c.args.left.expr) (rc_str_bytes c.in_ok-head.head) (map rc_str_bytes c.attributes.tail.items) = search rules in
    has_step ts c.args.self.now c.args.left c.in_ok-has.field-0 c.args.tokens.now c.key.new.tokens c.attributes.tokens c.take_if.new.self h.2.0
    c.in_ok-head.head c.attributes.tail.items end h.2.1 h.0 h.1 c.in_ok-head.ensures.parses c.attributes.invariant.parses u
    c.in_ok-has.ensures.precedence e

pub returns-in_err-head-clause-complete : goal.returns-in_err-head-clause-complete
returns-in_err-head-clause-complete c w below end b =
    let r = c.args.self.now in
    let f = has_key (open_groups r) (waits r) (here c.args.tokens.now)
    (test_ahead (open_groups r) (waits r) c.args.left.precedence kinds.Has w (here c.args.tokens.now) (inl refl) below b.goes_on) in
    let x = c.in_err-head.field-0.0 in
    let failed : c.from_residual.result ≡ Err x = search rules in
    rw failed (c.in_err-head.ensures.complete f.word f.key f.behind f.tokens f.is_key)

pub returns-in_err-attr-clause-complete : goal.returns-in_err-attr-clause-complete
returns-in_err-attr-clause-complete c w below end b =
    let r = c.args.self.now in
    let f = has_key (open_groups r) (waits r) (here c.args.tokens.now)
    (test_ahead (open_groups r) (waits r) c.args.left.precedence kinds.Has w (here c.args.tokens.now) (inl refl) below b.goes_on) in
    let k = c.in_ok-head.ensures.complete f.word f.key f.behind f.tokens f.is_key in
    let s = key_step (open_groups r) (waits r) c.args.tokens.now c.key.new.tokens f b.lexemes.1 k.1 in
    let i = c.attributes.invariant.complete (open_groups r) (waits r) s.0 s.1 in
    let o = one_taken _ _ c.take_if.result c.take_if.ensures.gives (sym c.is_some.ensures ∙ c.attributes-test.true) in
    let m = key_more (open_groups r) (waits r) o.0.text.now (here c.take_if.new.self)
    (subst (tokens.KeysAre (open_groups r) (waits r)) (taken_is c.attributes.tokens c.take_if.new.self o.0 kinds.Dot o.1.0 o.1.1) i.1) in
    let x = c.in_err-attr.field-0.0 in
    let failed : c.from_residual-in_err-attr.result ≡ Err x = search rules in
    rw failed (c.in_err-attr.ensures.complete m.word m.key m.behind m.tokens m.is_key)

pub returns-clause-complete : goal.returns-clause-complete
returns-clause-complete c w below end b =
    let r = c.args.self.now in
    let f = has_key (open_groups r) (waits r) (here c.args.tokens.now)
    (test_ahead (open_groups r) (waits r) c.args.left.precedence kinds.Has w (here c.args.tokens.now) (inl refl) below b.goes_on) in
    let k = c.in_ok-head.ensures.complete f.word f.key f.behind f.tokens f.is_key in
    let s = key_step (open_groups r) (waits r) c.args.tokens.now c.key.new.tokens f b.lexemes.1 k.1 in
    let i = c.attributes.invariant.complete (open_groups r) (waits r) s.0 s.1 in
    let t2 = c.attributes.tokens in
    let t3 = c.take_if.new.self in
    let u = none_taken _ _ c.take_if.result c.take_if.ensures.gives (sym c.is_some.ensures ∙ c.attributes-test.false) in
    let other = first_other kinds.Dot t2 t3 (λ x. search rules) (no_end kinds.Dot refl) u in
    let same = untouched_here t2 t3 u in (
      operand_ahead r c.in_ok-has.field-0 precedences.Relation (here t3)
          (record {
            lexemes = subst AreLexemes same i.0;
            goes_on = keys_end (open_groups r) (waits r) (here t3) other (subst (tokens.KeysAre (open_groups r) (waits r)) same i.1);
          }) c.in_ok-has.ensures.precedence,
      end_kept c.args.tokens.now t3 (u.1 ∙ (i.2 ∙ k.2)) end,
    )

pub returns-clause-places : goal.returns-clause-places
returns-clause-places c source h =
    let old = c.args.tokens.now in
    let mid = c.attributes.tokens in
    let new = c.take_if.new.self in
    let stop = c.attributes.stop in
    let inv = c.attributes.invariant in
    let m = maybe_taken (next_start mid) mid new c.take_if.result _ (order.here _ mid inv.left.before) c.take_if.ensures.gives in
    longer_placed source (next_start old) stop (next_start new) c.args.self.now c.args.left c.in_ok-has.field-0 h c.in_ok-has.ensures.start
    c.in_ok-has.ensures.stop c.in_ok-has.ensures.place (omega (arith, c.in_ok-head.ensures.behind.0, inv.behind)) (omega (arith, inv.behind.1, m.before.next))
