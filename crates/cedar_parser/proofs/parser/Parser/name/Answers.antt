use Rattle.std.proofs.Common.{Some}
use Rattle.cedar_parser.proofs.Placed.{leaf_placed, open_later, placed_later}
use Rattle.cedar_parser.specs.Places.{ArePlaced, none_placed}
use Rattle.std.proofs.Common.{arith}
use Rattle.cedar_parser.specs.Refused.{next_start}
use Rattle.cedar_parser.proofs.InOrder.{maybe_taken}
use Rattle.std.proofs.Common.{◌≡◌, Err}
use Rattle.std.proofs.Common.{ap, sym, subst, length, rules}
use Rattle.cedar_lexer.specs.declared.token.TokenKind.TheVariants as kinds
use Rattle.cedar_terms.specs.declared.precedence.Precedence.TheVariants as precedences
use Rattle.cedar_parser.specs.Ahead.{Rest, RowGoesOn}
use Rattle.cedar_parser.specs.Meant.{AreLexemes, here, open_groups, waits}
use Rattle.cedar_parser.specs.Waiting.{arguments}
use Rattle.cedar_parser.proofs.CompleteSteps.{operand_ahead}
use Rattle.cedar_parser.proofs.CompleteNames.{entity_next, variable_next}
use Rattle.cedar_parser.proofs.CompleteRows.{WordIs, word_begins}
use Rattle.cedar_parser.proofs.TakenSteps.{end_kept, taken_is, untouched_here}
use Rattle.cedar_parser.proofs.WordSteps.{call_behind}
use Rattle.std.proofs.Common.{◌∙◌, string_bytes, sym}
use Rattle.cedar_names.specs.PlainNames.{bare_name}
use Rattle.cedar_parser.proofs.NameSteps.{entity_step, function_opens, variable_step}
use Rattle.cedar_parser.proofs.TakenSteps.{none_taken, one_taken}
use Rattle.std.proofs.Common.{max, arith}
use Rattle.cedar_parser.specs.Refused.{open_start}
use Rattle.cedar_parser.proofs.InOrder.{earlier, maybe_taken}
use Rattle.cedar_parser.proofs.parser.Parser.name.Goals as goal

pub entity-requires-clause-before : goal.entity-requires-clause-before
entity-requires-clause-before c =
    let path = c.in_ok-path.ensures.goes_on in
    let stop = c.in_ok-path.path.span.stop in
    let l = maybe_taken stop c.parse.new.tokens c.take_if.new.self c.take_if.result _ path.left.before c.take_if.ensures.gives in l.before

pub item-requires : goal.item-requires
item-requires c =
    let path = c.in_ok-path.ensures.goes_on in
    let stop = c.in_ok-path.path.span.stop in
    let mid = c.take_if.new.self in
    let new = c.take_if-2.new.self in
    let l = maybe_taken stop c.parse.new.tokens mid c.take_if.result _ path.left.before c.take_if.ensures.gives in
    let m = maybe_taken stop mid new c.take_if-2.result _ l.before c.take_if-2.ensures.gives in
    earlier stop (max (open_start c.args.self.now) c.in_ok-path.path.span.start) new
    (omega (arith, path.start, path.piece, c.requires.first)) m.before

pub returns-then-is_some-clause-parses : goal.returns-then-is_some-clause-parses
returns-then-is_some-clause-parses c ts end h =
    let o = one_taken _ _ c.take_if.result c.take_if.ensures.gives (sym c.is_some.ensures ∙ c.if-is_some.true) in
    entity_step ts c.args.self.now c.member.result c.args.first o.0 (string_bytes c.in_ok-path.path.text) c.args.tokens.now c.parse.new.tokens
    c.take_if.new.self c.entity.new.tokens c.in_ok-expr.expr end h.1 h.0 c.in_ok-path.ensures.parses c.in_ok-path.ensures.lexemes
    c.in_ok-path.ensures.end o.1.0 o.1.1 c.in_ok-expr.ensures.parses c.member.ensures.precedence c.member.ensures.expr

pub returns-then-is_some-2-clause-parses : goal.returns-then-is_some-2-clause-parses
returns-then-is_some-2-clause-parses c ts end h =
    let u = none_taken _ _ c.take_if.result c.take_if.ensures.gives (sym c.is_some.ensures ∙ c.if-is_some.false) in
    let o = one_taken _ _ c.take_if-2.result c.take_if-2.ensures.gives (sym c.is_some-2.ensures ∙ c.if-is_some-2.true) in
    let k = function_opens ts c.args.self.now c.args.first o.0 (string_bytes c.in_ok-path.path.text) c.args.tokens.now c.parse.new.tokens
    c.take_if.new.self c.take_if-2.new.self (bare_name c.in_ok-name.field-0) c.new.result.items end h.1 h.0 c.in_ok-path.ensures.parses
    c.in_ok-path.ensures.lexemes c.in_ok-path.ensures.end u o.1.0 o.1.1 c.in_ok-name.ensures.name c.new.ensures.items in
    c.item.ensures.parses ts k.2 (record { no_values = h.1.no_values; lexemes = k.1; so_far = k.0 })

pub returns-clause-parses : goal.returns-clause-parses
returns-clause-parses c ts end h =
    let u = none_taken _ _ c.take_if.result c.take_if.ensures.gives (sym c.is_some.ensures ∙ c.if-is_some.false) in
    let v = none_taken _ _ c.take_if-2.result c.take_if-2.ensures.gives (sym c.is_some-2.ensures ∙ c.if-is_some-2.false) in
    variable_step ts c.args.self.now c.member-2.result c.args.first (string_bytes c.in_ok-path.path.text) c.args.tokens.now c.parse.new.tokens
    c.take_if.new.self c.take_if-2.new.self c.in_ok-variable.field-0 end h.1 h.0 c.in_ok-path.ensures.parses c.in_ok-path.ensures.lexemes
    c.in_ok-path.ensures.end u v (c.in_ok-variable.ensures.tree h.1.no_values) c.member-2.ensures.precedence c.member-2.ensures.expr

pub returns-then-is_some-clause-complete : goal.returns-then-is_some-clause-complete
returns-then-is_some-clause-complete c word end a =
    let b = word_begins c.args.self.now c.args.first (string_bytes c.in_ok-path.path.text) c.args.tokens.now c.parse.new.tokens a word
    c.in_ok-path.ensures.parses c.in_ok-path.ensures.complete in
    let o = one_taken _ _ c.take_if.result c.take_if.ensures.gives (sym c.is_some.ensures ∙ c.if-is_some.true) in
    let x = entity_next c.args.self.now (string_bytes c.in_ok-path.path.text) c.parse.new.tokens c.take_if.new.self b o.0 o.1.0 o.1.1 in
    let r = c.args.self.now in
    let same = taken_is c.parse.new.tokens c.take_if.new.self o.0 kinds.Colons o.1.0 o.1.1 in
    let k = c.in_ok-expr.ensures.takes x.0 x.2 x.3 in (
      operand_ahead r c.member.result precedences.Member (here c.entity.new.tokens)
          (record {
            lexemes = subst AreLexemes k.0 (subst AreLexemes x.3 (subst AreLexemes same b.lexemes).1).1;
            goes_on = subst (Rest (open_groups r) (waits r) precedences.Member) k.0 x.5;
          }) c.member.ensures.precedence,
      end_kept c.args.tokens.now c.entity.new.tokens (k.1 ∙ (o.1.1.1 ∙ c.in_ok-path.ensures.end)) end,
    )

pub returns-in_err-expr-clause-complete : goal.returns-in_err-expr-clause-complete
returns-in_err-expr-clause-complete c word end a =
    let b = word_begins c.args.self.now c.args.first (string_bytes c.in_ok-path.path.text) c.args.tokens.now c.parse.new.tokens a word
    c.in_ok-path.ensures.parses c.in_ok-path.ensures.complete in
    let o = one_taken _ _ c.take_if.result c.take_if.ensures.gives (sym c.is_some.ensures ∙ c.if-is_some.true) in
    let x = entity_next c.args.self.now (string_bytes c.in_ok-path.path.text) c.parse.new.tokens c.take_if.new.self b o.0 o.1.0 o.1.1 in
    let e = c.in_err-expr.field-0.0 in
    let failed : c.from_residual-in_err-expr.result ≡ Err e = search rules in
    rw failed (c.in_err-expr.ensures.complete b.name x.1 x.0 x.2 b.named b.plain x.3 x.4)

pub returns-then-is_some-2-clause-complete : goal.returns-then-is_some-2-clause-complete
returns-then-is_some-2-clause-complete c word end a =
    let r = c.args.self.now in
    let path = string_bytes c.in_ok-path.path.text in
    let t2 = c.take_if.new.self in
    let t3 = c.take_if-2.new.self in
    let b = word_begins c.args.self.now c.args.first (string_bytes c.in_ok-path.path.text) c.args.tokens.now c.parse.new.tokens a word
    c.in_ok-path.ensures.parses c.in_ok-path.ensures.complete in
    let u = none_taken _ _ c.take_if.result c.take_if.ensures.gives (sym c.is_some.ensures ∙ c.if-is_some.false) in
    let o = one_taken _ _ c.take_if-2.result c.take_if-2.ensures.gives (sym c.is_some-2.ensures ∙ c.if-is_some-2.true) in
    let same = untouched_here c.parse.new.tokens t2 u ∙ taken_is t2 t3 o.0 kinds.OpenRound o.1.0 o.1.1 in
    let n = bare_name c.in_ok-name.field-0 in
    let x = call_behind (open_groups r) (waits r) path o.0.text.now (here t3) n (subst (WordIs (open_groups r) (waits r) path) same b.goes_on) in
    c.item.ensures.complete (end_kept c.args.tokens.now t3 (o.1.1.1 ∙ (u.1 ∙ c.in_ok-path.ensures.end)) end)
    (record {
      lexemes = (subst AreLexemes same b.lexemes).1;
      goes_on = subst (λ k. RowGoesOn (open_groups r) (waits r) (arguments n) k (here t3)) (sym (ap length c.new.ensures.items)) x;
    })

pub returns-in_err-name-clause-complete : goal.returns-in_err-name-clause-complete
returns-in_err-name-clause-complete c word end a =
    let b = word_begins c.args.self.now c.args.first (string_bytes c.in_ok-path.path.text) c.args.tokens.now c.parse.new.tokens a word
    c.in_ok-path.ensures.parses c.in_ok-path.ensures.complete in
    let e = c.in_err-name.field-0.0 in
    let failed : c.from_residual-in_err-name.result ≡ Err e = search rules in
    rw failed (c.in_err-name.ensures.complete b.name b.named b.plain)

pub returns-clause-complete : goal.returns-clause-complete
returns-clause-complete c word end a =
    let b = word_begins c.args.self.now c.args.first (string_bytes c.in_ok-path.path.text) c.args.tokens.now c.parse.new.tokens a word
    c.in_ok-path.ensures.parses c.in_ok-path.ensures.complete in
    let u = none_taken _ _ c.take_if.result c.take_if.ensures.gives (sym c.is_some.ensures ∙ c.if-is_some.false) in
    let v = none_taken _ _ c.take_if-2.result c.take_if-2.ensures.gives (sym c.is_some-2.ensures ∙ c.if-is_some-2.false) in
    let x = variable_next c.args.self.now (string_bytes c.in_ok-path.path.text) c.parse.new.tokens c.take_if.new.self b c.take_if-2.new.self u v
    (λ x. search rules) (λ x. search rules) in
    let r = c.args.self.now in
    let t2 = c.take_if.new.self in
    let t3 = c.take_if-2.new.self in
    let same = untouched_here t2 t3 v in (
      operand_ahead r c.member-2.result precedences.Member (here t3)
          (record {
            lexemes = subst AreLexemes (untouched_here c.parse.new.tokens t2 u ∙ same) b.lexemes;
            goes_on = subst (Rest (open_groups r) (waits r) precedences.Member) same x.2;
          }) c.member-2.ensures.precedence,
      end_kept c.args.tokens.now t3 (v.1 ∙ (u.1 ∙ c.in_ok-path.ensures.end)) end,
    )

pub returns-in_err-variable-clause-complete : goal.returns-in_err-variable-clause-complete
returns-in_err-variable-clause-complete c word end a =
    let b = word_begins c.args.self.now c.args.first (string_bytes c.in_ok-path.path.text) c.args.tokens.now c.parse.new.tokens a word
    c.in_ok-path.ensures.parses c.in_ok-path.ensures.complete in
    let u = none_taken _ _ c.take_if.result c.take_if.ensures.gives (sym c.is_some.ensures ∙ c.if-is_some.false) in
    let v = none_taken _ _ c.take_if-2.result c.take_if-2.ensures.gives (sym c.is_some-2.ensures ∙ c.if-is_some-2.false) in
    let x = variable_next c.args.self.now (string_bytes c.in_ok-path.path.text) c.parse.new.tokens c.take_if.new.self b c.take_if-2.new.self u v
    (λ x. search rules) (λ x. search rules) in
    let e = c.in_err-variable.field-0.0 in
    let failed : c.from_residual-in_err-variable.result ≡ Err e = search rules in
    rw failed (c.in_err-variable.ensures.complete x.0 x.1)

pub returns-then-is_some-clause-places : goal.returns-then-is_some-clause-places
returns-then-is_some-clause-places c source h =
    let at = c.args.first.span.start in
    let path = c.in_ok-path.ensures.goes_on in
    let span = c.in_ok-expr.span in
    let e = c.in_ok-expr.ensures.goes_on.0 in
    let b = c.in_ok-expr.ensures.behind in
    placed_later source span.stop _ c.args.self.now (Some c.member.result) b.1
    (leaf_placed source at at c.args.self.now c.member.result span c.in_ok-expr.expr h c.member.ensures.span c.member.ensures.expr
    c.in_ok-expr.ensures.place (omega (arith, path.start, e)) (omega (arith, path.start, path.piece, b.0)) (omega (arith, e, path.piece, b.0)))

pub returns-then-is_some-2-clause-places : goal.returns-then-is_some-2-clause-places
returns-then-is_some-2-clause-places c source h =
    let at = c.args.first.span.start in
    let path = c.in_ok-path.ensures.goes_on in
    let start = c.in_ok-path.path.span.start in
    let stop = c.in_ok-path.path.span.stop in
    let t1 = c.take_if.new.self in
    let t2 = c.take_if-2.new.self in
    let l = maybe_taken stop c.parse.new.tokens t1 c.take_if.result _ path.left.before c.take_if.ensures.gives in
    let m = maybe_taken stop t1 t2 c.take_if-2.result _ l.before c.take_if-2.ensures.gives in
    c.item.ensures.places source
    (open_later source at at start (next_start t2) c.args.self.now (omega (arith, path.start)) (omega (arith, path.start, path.piece, m.before.next)) h)
    (subst (ArePlaced source start (next_start t2)) (sym c.new.ensures.items) none_placed)

pub returns-clause-places : goal.returns-clause-places
returns-clause-places c source h =
    let at = c.args.first.span.start in
    let path = c.in_ok-path.ensures.goes_on in
    let span = c.in_ok-path.path.span in
    let t1 = c.take_if.new.self in
    let t2 = c.take_if-2.new.self in
    let l = maybe_taken span.stop c.parse.new.tokens t1 c.take_if.result _ path.left.before c.take_if.ensures.gives in
    let m = maybe_taken span.stop t1 t2 c.take_if-2.result _ l.before c.take_if-2.ensures.gives in
    placed_later source span.stop _ c.args.self.now (Some c.member-2.result) m.before.next
    (leaf_placed source at at c.args.self.now c.member-2.result span c.in_ok-variable.field-0 h c.member-2.ensures.span c.member-2.ensures.expr
    (c.in_ok-variable.ensures.place h.no_values) (omega (arith, path.start)) (omega (arith, path.start, path.piece)) path.piece)
