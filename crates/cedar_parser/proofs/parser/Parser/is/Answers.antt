use Rattle.cedar_parser.proofs.Placed.{copy_placed, in_order, longer_placed, next_begins, open_later, wait_placed, wider}
use Rattle.cedar_parser.specs.Places.{IsPlaced, IsPlacedUpTo, and_placed, none_placed}
use Rattle.cedar_parser.specs.Refused.{next_start}
use Rattle.cedar_parser.specs.declared.operand.Operation.TheVariants as operations
use Rattle.std.proofs.Common.{Err}
use Rattle.std.proofs.Common.{inr, Some}
use Rattle.cedar_lexer.specs.declared.token.TokenKind.TheVariants as kinds
use Rattle.cedar_terms.specs.declared.precedence.Precedence.TheVariants as precedences
use Rattle.cedar_exprs.specs.BareExpr.{bare_expr}
use Rattle.cedar_parser.specs.Meant.{AreLexemes, here, open_groups, waits}
use Rattle.cedar_parser.specs.Waiting.{is_of_in}
use Rattle.cedar_parser.proofs.AheadSteps.{test_ahead}
use Rattle.cedar_parser.proofs.Onward.{waits_more}
use Rattle.cedar_parser.proofs.CompleteSteps.{operand_ahead, pushed_ahead}
use Rattle.cedar_parser.proofs.CompleteTokens.{TypeIs, first_other, in_behind, is_word, no_end, type_at, type_end}
use Rattle.cedar_parser.proofs.TakenSteps.{taken_is, untouched_here}
use Rattle.std.proofs.Common.{◌≡◌, ◌∙◌, false, true, refl, rules, string_bytes, subst}
use Rattle.std.specs.Option.{is_some}
use Rattle.cedar_names.specs.Names.{IsNameOf}
use Rattle.cedar_names.specs.PlainNames.{bare_name}
use Rattle.cedar_terms.specs.Entities.{bare_entity_type}
use Rattle.cedar_parser.proofs.TakenSteps.{end_kept, is_in_step, is_parsed, none_taken, one_taken}
use Rattle.std.proofs.Common.{◌∙◌, ap, max, arith}
use Rattle.cedar_parser.specs.Refused.{greatest, open_start, start_of}
use Rattle.cedar_parser.proofs.Greatest.{greatest_push}
use Rattle.cedar_parser.proofs.InOrder.{first_from, left_from, maybe_taken, taken}
use Rattle.cedar_parser.proofs.parser.Parser.is.Goals as goal

pub parse-requires : goal.parse-requires
parse-requires c =
    let at = max (open_start c.args.self.now) c.args.left.span.start in
    let k = taken at c.args.tokens.now c.expect.new.self c.in_ok-first.first c.requires c.in_ok-first.ensures.gives.1 in
    first_from at 0 c.in_ok-first.first c.expect.new.self (omega arith) k.0

pub returns-clause-goes_on : goal.returns-clause-goes_on
returns-clause-goes_on c =
    let at = max (open_start c.args.self.now) c.args.left.span.start in
    let k = taken at c.args.tokens.now c.expect.new.self c.in_ok-first.first c.requires c.in_ok-first.ensures.gives.1 in
    let path = c.in_ok-path.ensures.goes_on in
    let stop = c.in_ok-path.path.span.stop in
    let new = c.take_if.new.self in
    let l = maybe_taken stop c.parse.new.tokens new c.take_if.result _ path.left.before c.take_if.ensures.gives in
    let e = ap (greatest start_of) c.in_ok-push.ensures.items ∙ greatest_push start_of c.args.self.now.operations.items _ in
    left_from stop _ c.args.tokens.now new (omega (arith, e, k.0.first, path.start, path.piece, c.in_ok-test.ensures.start))
    (record { before = l.before; stop = l.stop ∙ (path.left.stop ∙ k.1) })

pub returns-then-is_none-clause-parses : goal.returns-then-is_none-clause-parses
returns-then-is_none-clause-parses c ts end h =
    let none : is_some c.take_if.result ≡ false = search rules in
    let u = none_taken _ _ c.take_if.result c.take_if.ensures.gives none in
    let same : bare_name c.in_ok-name.field-0 ≡ bare_entity_type c.from-ty.result = search rules in
    let name : IsNameOf (string_bytes c.in_ok-path.path.text) (bare_entity_type c.from-ty.result) =
    subst (IsNameOf (string_bytes c.in_ok-path.path.text)) same c.in_ok-name.ensures.name in (
      is_parsed ts c.args.self.now c.args.left c.in_ok-is.field-0 c.in_ok-first.first c.args.tokens.now c.expect.new.self c.parse.new.tokens c.take_if.new.self
          h.2.0 (string_bytes c.in_ok-path.path.text) (bare_entity_type c.from-ty.result) h.2.1 h.0 h.1 c.in_ok-first.ensures.gives.0
          c.in_ok-first.ensures.gives.1 c.in_ok-path.ensures.parses name c.in_ok-path.ensures.lexemes u c.in_ok-is.ensures.precedence c.in_ok-is.ensures.tree,
      end_kept c.args.tokens.now c.take_if.new.self (u.1 ∙ (c.in_ok-path.ensures.end ∙ c.in_ok-first.ensures.gives.1.1)) end,
    )

pub returns-clause-parses : goal.returns-clause-parses
returns-clause-parses c ts end h =
    let one : is_some c.take_if.result ≡ true = search rules in
    let o = one_taken _ _ c.take_if.result c.take_if.ensures.gives one in
    let same : bare_name c.in_ok-name.field-0 ≡ bare_entity_type c.from-ty.result = search rules in
    let name : IsNameOf (string_bytes c.in_ok-path.path.text) (bare_entity_type c.from-ty.result) =
    subst (IsNameOf (string_bytes c.in_ok-path.path.text)) same c.in_ok-name.ensures.name in (
      is_in_step ts c.args.self.now _ c.args.left c.in_ok-test.test c.in_ok-again.again c.in_ok-first.first o.0 c.args.tokens.now c.expect.new.self
          c.parse.new.tokens c.take_if.new.self
          h.2.0 (string_bytes c.in_ok-path.path.text) (bare_entity_type c.from-ty.result) h.2.1 h.0 h.1 c.in_ok-first.ensures.gives.0
          c.in_ok-first.ensures.gives.1 c.in_ok-path.ensures.parses name c.in_ok-path.ensures.lexemes o.1.0 o.1.1 c.in_ok-test.ensures.tree
          c.in_ok-again.ensures.tree c.in_ok-push.ensures.items refl refl,
      end_kept c.args.tokens.now c.take_if.new.self (o.1.1.1 ∙ (c.in_ok-path.ensures.end ∙ c.in_ok-first.ensures.gives.1.1)) end,
    )

pub returns-in_err-first-clause-complete : goal.returns-in_err-first-clause-complete
returns-in_err-first-clause-complete c w below end b =
    let r = c.args.self.now in
    let word = is_word (open_groups r) (waits r) c.args.tokens.now
    (test_ahead (open_groups r) (waits r) c.args.left.precedence kinds.Is w (here c.args.tokens.now) (inr (inr refl)) below b.goes_on) in
    absurd (search rules)

pub returns-in_err-name-clause-complete : goal.returns-in_err-name-clause-complete
returns-in_err-name-clause-complete c w below end b =
    let r = c.args.self.now in
    let t = test_ahead (open_groups r) (waits r) c.args.left.precedence kinds.Is w (here c.args.tokens.now) (inr (inr refl)) below b.goes_on in
    let k = type_at (open_groups r) (waits r) c.in_ok-first.first (string_bytes c.in_ok-path.path.text) c.args.tokens.now c.expect.new.self c.parse.new.tokens t
    b.lexemes.1 c.in_ok-first.ensures.gives.0 c.in_ok-first.ensures.gives.1 c.in_ok-path.ensures.parses c.in_ok-path.ensures.complete in
    let x = c.in_err-name.field-0.0 in
    let failed : c.from_residual-in_err-name.result ≡ Err x = search rules in
    rw failed (c.in_err-name.ensures.complete k.name k.named k.plain)

pub returns-then-is_none-clause-complete : goal.returns-then-is_none-clause-complete
returns-then-is_none-clause-complete c w below end b =
    let r = c.args.self.now in
    let t = test_ahead (open_groups r) (waits r) c.args.left.precedence kinds.Is w (here c.args.tokens.now) (inr (inr refl)) below b.goes_on in
    let k = type_at (open_groups r) (waits r) c.in_ok-first.first (string_bytes c.in_ok-path.path.text) c.args.tokens.now c.expect.new.self c.parse.new.tokens t
    b.lexemes.1 c.in_ok-first.ensures.gives.0 c.in_ok-first.ensures.gives.1 c.in_ok-path.ensures.parses c.in_ok-path.ensures.complete in
    let t2 = c.parse.new.tokens in
    let t3 = c.take_if.new.self in
    let none : is_some c.take_if.result ≡ false = search rules in
    let u = none_taken _ _ c.take_if.result c.take_if.ensures.gives none in
    let other = first_other kinds.In t2 t3 (λ x. search rules) (no_end kinds.In refl) u in
    let same = untouched_here t2 t3 u in (
      operand_ahead r c.in_ok-is.field-0 precedences.Relation (here t3)
          (record {
            lexemes = subst AreLexemes same k.lexemes;
            goes_on = type_end (open_groups r) (waits r) (here t3) other (subst (TypeIs (open_groups r) (waits r)) same k.left);
          }) c.in_ok-is.ensures.precedence,
      end_kept c.args.tokens.now t3 (u.1 ∙ (c.in_ok-path.ensures.end ∙ c.in_ok-first.ensures.gives.1.1)) end,
    )

pub returns-clause-complete : goal.returns-clause-complete
returns-clause-complete c w below end b =
    let r = c.args.self.now in
    let t = test_ahead (open_groups r) (waits r) c.args.left.precedence kinds.Is w (here c.args.tokens.now) (inr (inr refl)) below b.goes_on in
    let k = type_at (open_groups r) (waits r) c.in_ok-first.first (string_bytes c.in_ok-path.path.text) c.args.tokens.now c.expect.new.self c.parse.new.tokens t
    b.lexemes.1 c.in_ok-first.ensures.gives.0 c.in_ok-first.ensures.gives.1 c.in_ok-path.ensures.parses c.in_ok-path.ensures.complete in
    let t2 = c.parse.new.tokens in
    let t3 = c.take_if.new.self in
    let o = one_taken _ _ c.take_if.result c.take_if.ensures.gives (search rules) in
    let same = taken_is t2 t3 o.0 kinds.In o.1.0 o.1.1 in
    let i = in_behind (open_groups r) (waits r) o.0.text.now (here t3) (subst (TypeIs (open_groups r) (waits r)) same k.left) in (
      pushed_ahead r _ _ (here t3) (subst AreLexemes same k.lexemes).1
          (waits_more (open_groups r) (waits r) (is_of_in (bare_expr c.in_ok-test.test.expr) (bare_expr c.in_ok-again.again)) (here t3) i.1 (i.0, i.2) i.3)
          c.in_ok-push.ensures.items refl,
      end_kept c.args.tokens.now t3 (o.1.1.1 ∙ (c.in_ok-path.ensures.end ∙ c.in_ok-first.ensures.gives.1.1)) end,
    )

pub returns-then-is_none-clause-places : goal.returns-then-is_none-clause-places
returns-then-is_none-clause-places c source h =
    let at = max (open_start c.args.self.now) c.args.left.span.start in
    let old = c.args.tokens.now in
    let mid = c.expect.new.self in
    let new = c.take_if.new.self in
    let n = c.in_ok-first.first in
    let b = next_begins at old mid n c.requires c.in_ok-first.ensures.gives.1 in
    let path = c.in_ok-path.ensures.goes_on in
    let stop = c.in_ok-path.path.span.stop in
    let l = maybe_taken stop c.parse.new.tokens new c.take_if.result _ path.left.before c.take_if.ensures.gives in
    longer_placed source (next_start old) stop (next_start new) c.args.self.now c.args.left c.in_ok-is.field-0 h
    c.in_ok-is.ensures.start c.in_ok-is.ensures.stop c.in_ok-is.ensures.place (omega (arith, b, path.start, path.piece)) l.before.next

pub returns-clause-places : goal.returns-clause-places
returns-clause-places c source h =
    let at = max (open_start c.args.self.now) c.args.left.span.start in
    let old = c.args.tokens.now in
    let mid = c.expect.new.self in
    let new = c.take_if.new.self in
    let n = c.in_ok-first.first in
    let b = next_begins at old mid n c.requires c.in_ok-first.ensures.gives.1 in
    let path = c.in_ok-path.ensures.goes_on in
    let stop = c.in_ok-path.path.span.stop in
    let l = maybe_taken stop c.parse.new.tokens new c.take_if.result _ path.left.before c.take_if.ensures.gives in
    let to = next_start new in
    let left = c.args.left in
    let test = c.in_ok-test.test in
    let again = c.in_ok-again.again in
    let p : IsPlacedUpTo source to c.args.self.now (Some test) =
    longer_placed source (next_start old) stop to c.args.self.now left test h
    c.in_ok-test.ensures.start c.in_ok-test.ensures.stop c.in_ok-test.ensures.place (omega (arith, b, path.start, path.piece)) l.before.next in
    let start = c.in_ok-test.ensures.start in
    let within : IsPlaced source test.span.start to test.expr =
    wider {a = test.span.start} {b = test.span.stop} test.span.start to (omega arith) p.2 p.1 in
    let copy : IsPlaced source left.span.start left.span.stop again =
    copy_placed left.expr again c.in_ok-again.ensures.place c.in_ok-again.ensures.children h.1 in
    let beside : IsPlaced source test.span.start to again =
    wider {a = left.span.start} {b = left.span.stop} test.span.start to (omega (arith, start))
    (omega (arith, h.2, b, path.start, path.piece, l.before.next)) copy in
    wait_placed source to to c.args.self.now _ (operations.IsIn test again)
    (open_later source test.span.start test.span.stop test.span.start to c.args.self.now (omega arith) p.2 p.0) c.in_ok-push.ensures.items refl refl
    (and_placed within (and_placed beside none_placed))
    (omega (arith, start, b, path.start, path.piece, l.before.next, h.2, in_order h.1))
