use Rattle.cedar_parser.proofs.Placed.{longer_placed, open_later, wider}
use Rattle.cedar_parser.proofs.Placed.{next_begins}
use Rattle.cedar_parser.specs.Places.{and_placed, none_placed}
use Rattle.cedar_parser.specs.Places.{ArePlaced}
use Rattle.cedar_parser.specs.Refused.{next_start}
use Rattle.cedar_parser.proofs.InOrder.{taken}
use Rattle.std.proofs.Common.{◌∷◌, ap, refl}
use Rattle.cedar_lexer.specs.declared.token.TokenKind.TheVariants as kinds
use Rattle.cedar_terms.specs.declared.precedence.Precedence.TheVariants as precedences
use Rattle.semantics_grammar.specs.Lexemes.{lexeme}
use Rattle.cedar_parser.specs.Meant.{AreLexemes}
use Rattle.cedar_parser.proofs.AheadSteps.{dot_ahead}
use Rattle.cedar_parser.proofs.CompleteRows.{method_row}
use Rattle.std.proofs.Common.{rules}
use Rattle.cedar_parser.proofs.CompleteSteps.{operand_ahead}
use Rattle.cedar_parser.proofs.CompleteTokens.{attribute_behind, dot_word, first_other, method_behind, no_end}
use Rattle.cedar_parser.proofs.TakenSteps.{taken_is, untouched_here}
use Rattle.std.specs.Rc.{rc_str_bytes}
use Rattle.std.proofs.Common.{◌∙◌, map, subst, sym}
use Rattle.cedar_exprs.specs.BareExpr.{bare_expr}
use Rattle.cedar_parser.specs.Meant.{here, open_groups, waits}
use Rattle.cedar_parser.specs.SoFar.{IsOpenUpTo}
use Rattle.cedar_parser.specs.Waiting.{in_row, method_arguments}
use Rattle.cedar_parser.proofs.TakenSteps.{dot_method, dot_parsed, end_kept, none_taken, one_taken}
use Rattle.std.proofs.Common.{max, arith, ◌≤◌}
use Rattle.cedar_parser.specs.Refused.{open_start}
use Rattle.cedar_parser.proofs.InOrder.{left_from, maybe_taken, skipped, then_left}
use Rattle.cedar_parser.proofs.parser.Parser.dot.Goals as goal

pub item-requires : goal.item-requires
item-requires c =
    let at = max (open_start c.args.self.now) c.args.operand.span.start in
    let mid = c.expect.new.self in
    let l = skipped at c.args.tokens.now mid c.in_ok-name.name c.requires c.in_ok-name.ensures.gives.1 in
    let m = maybe_taken at mid c.take_if.new.self c.take_if.result _ l.before c.take_if.ensures.gives in m.before

pub returns-clause-goes_on : goal.returns-clause-goes_on
returns-clause-goes_on c =
    let at = max (open_start c.args.self.now) c.args.operand.span.start in
    let old = c.args.tokens.now in
    let mid = c.expect.new.self in
    let new = c.take_if.new.self in
    let l = skipped at old mid c.in_ok-name.name c.requires c.in_ok-name.ensures.gives.1 in
    let m = maybe_taken at mid new c.take_if.result _ l.before c.take_if.ensures.gives in
    left_from at (max (open_start c.args.self.now) c.in_ok-get.field-0.span.start) old new (omega (arith, c.in_ok-get.ensures.start))
    (then_left at at old mid new l m)

pub returns-clause-parses : goal.returns-clause-parses
returns-clause-parses c ts end h =
    let u = none_taken _ _ c.take_if.result c.take_if.ensures.gives (sym c.is_some.ensures ∙ c.if-is_some.false) in (
      dot_parsed ts c.args.self.now c.args.operand c.in_ok-get.field-0 c.in_ok-name.name c.args.tokens.now c.expect.new.self c.take_if.new.self h.1.0
          (rc_str_bytes c.in_ok-attr.attr) h.1.1 h.0 c.in_ok-name.ensures.gives.0 c.in_ok-name.ensures.gives.1 u c.in_ok-attr.ensures.ok
          c.in_ok-get.ensures.precedence c.in_ok-get.ensures.tree,
      end_kept c.args.tokens.now c.take_if.new.self (u.1 ∙ c.in_ok-name.ensures.gives.1.1) end,
    )

pub returns-then-is_some-clause-parses : goal.returns-then-is_some-clause-parses
returns-then-is_some-clause-parses c ts end h =
    let o = one_taken _ _ c.take_if.result c.take_if.ensures.gives (sym c.is_some.ensures ∙ c.if-is_some.true) in
    let k = dot_method ts c.args.self.now c.args.operand c.in_ok-name.name o.0 c.args.tokens.now c.expect.new.self c.take_if.new.self h.1.0
    (rc_str_bytes c.in_ok-attr.attr) h.1.1 h.0 c.in_ok-name.ensures.gives.0 c.in_ok-name.ensures.gives.1 o.1.0 o.1.1 c.in_ok-attr.ensures.ok in
    c.item.ensures.parses ts (end_kept c.args.tokens.now c.take_if.new.self (o.1.1.1 ∙ c.in_ok-name.ensures.gives.1.1) end)
    (record {
      no_values = h.1.1.no_values;
      lexemes = k.1;
      so_far = subst (λ es. IsOpenUpTo ts (open_groups c.args.self.now) (waits c.args.self.now)
          (in_row (method_arguments (rc_str_bytes c.in_ok-attr.attr)) (map bare_expr es)) (here c.take_if.new.self)) (sym c.in_ok-args.ensures.items) k.0;
    })

pub returns-in_err-name-clause-complete : goal.returns-in_err-name-clause-complete
returns-in_err-name-clause-complete c w end b =
    let r = c.args.self.now in
    let word = dot_word (open_groups r) (waits r) c.args.tokens.now
    (dot_ahead (open_groups r) (waits r) c.args.operand.precedence w (here c.args.tokens.now) b.lexemes.1 b.goes_on) in
    absurd (search rules)

pub returns-then-is_some-clause-complete : goal.returns-then-is_some-clause-complete
returns-then-is_some-clause-complete c w end b =
    let r = c.args.self.now in
    let t0 = c.args.tokens.now in
    let t1 = c.expect.new.self in
    let t2 = c.take_if.new.self in
    let n = c.in_ok-name.name in
    let d = dot_ahead (open_groups r) (waits r) c.args.operand.precedence w (here t0) b.lexemes.1 b.goes_on in
    let o = one_taken _ _ c.take_if.result c.take_if.ensures.gives (sym c.is_some.ensures ∙ c.if-is_some.true) in
    let same = taken_is t0 t1 n kinds.Word c.in_ok-name.ensures.gives.0 c.in_ok-name.ensures.gives.1
    ∙ ap (λ x. lexeme kinds.Word n.text.now ∷ x) (taken_is t1 t2 o.0 kinds.OpenRound o.1.0 o.1.1) in
    let m = method_behind (open_groups r) (waits r) n.text.now o.0.text.now (here t2) (here t0) d same in
    c.item.ensures.complete (end_kept t0 t2 (o.1.1.1 ∙ c.in_ok-name.ensures.gives.1.1) end)
    (method_row r c.in_ok-attr.attr c.args.operand.expr c.in_ok-args.args.items n.text.now t0 o.0.text.now t2 b.lexemes.1 same c.in_ok-attr.ensures.ok
    c.in_ok-args.ensures.items m)

pub returns-clause-complete : goal.returns-clause-complete
returns-clause-complete c w end b =
    let r = c.args.self.now in
    let t0 = c.args.tokens.now in
    let t1 = c.expect.new.self in
    let t2 = c.take_if.new.self in
    let n = c.in_ok-name.name in
    let d = dot_ahead (open_groups r) (waits r) c.args.operand.precedence w (here t0) b.lexemes.1 b.goes_on in
    let u = none_taken _ _ c.take_if.result c.take_if.ensures.gives (sym c.is_some.ensures ∙ c.if-is_some.false) in
    let same = taken_is t0 t1 n kinds.Word c.in_ok-name.ensures.gives.0 c.in_ok-name.ensures.gives.1
    ∙ ap (λ x. lexeme kinds.Word n.text.now ∷ x) (untouched_here t1 t2 u) in
    let other = first_other kinds.OpenRound t1 t2 (λ x. search rules) (no_end kinds.OpenRound refl) u in (
      operand_ahead r c.in_ok-get.field-0 precedences.Member (here t2)
          (record {
            lexemes = (subst AreLexemes same b.lexemes.1).1;
            goes_on = attribute_behind (open_groups r) (waits r) n.text.now (here t2) (here t0) d same other;
          }) c.in_ok-get.ensures.precedence,
      end_kept t0 t2 (u.1 ∙ c.in_ok-name.ensures.gives.1.1) end,
    )

pub returns-clause-places : goal.returns-clause-places
returns-clause-places c source h =
    let at = max (open_start c.args.self.now) c.args.operand.span.start in
    let old = c.args.tokens.now in
    let mid = c.expect.new.self in
    let new = c.take_if.new.self in
    let n = c.in_ok-name.name in
    let b = next_begins at old mid n c.requires c.in_ok-name.ensures.gives.1 in
    let k = taken at old mid n c.requires c.in_ok-name.ensures.gives.1 in
    let m = maybe_taken n.span.stop mid new c.take_if.result _ k.0.before c.take_if.ensures.gives in
    longer_placed source (next_start old) n.span.stop (next_start new) c.args.self.now c.args.operand c.in_ok-get.field-0 h c.in_ok-get.ensures.start
    c.in_ok-get.ensures.stop c.in_ok-get.ensures.place (omega (arith, b, k.0.piece)) m.before.next

pub returns-then-is_some-clause-places : goal.returns-then-is_some-clause-places
returns-then-is_some-clause-places c source h =
    let at = max (open_start c.args.self.now) c.args.operand.span.start in
    let old = c.args.tokens.now in
    let mid = c.expect.new.self in
    let new = c.take_if.new.self in
    let n = c.in_ok-name.name in
    let b = next_begins at old mid n c.requires c.in_ok-name.ensures.gives.1 in
    let k = taken at old mid n c.requires c.in_ok-name.ensures.gives.1 in
    let m = maybe_taken n.span.stop mid new c.take_if.result _ k.0.before c.take_if.ensures.gives in
    let start = c.args.operand.span.start in
    let stop = c.args.operand.span.stop in
    let to : stop ≤ next_start new = omega (arith, h.2, b, k.0.piece, m.before.next) in
    c.item.ensures.places source (open_later source start stop start (next_start new) c.args.self.now (omega arith) to h.0)
    (subst (ArePlaced source start (next_start new)) (sym c.in_ok-args.ensures.items)
    (and_placed (wider start (next_start new) (omega arith) to h.1) none_placed))
