use Rattle.cedar_parser.proofs.Placed.{leaf_placed, open_later, placed_later, step_later}
use Rattle.cedar_parser.specs.Places.{ArePlaced, none_placed}
use Rattle.std.proofs.Common.{arith, ◌≤◌, Some}
use Rattle.cedar_parser.specs.Refused.{next_start}
use Rattle.std.proofs.Common.{◌≡◌, Err}
use Rattle.std.proofs.Common.{rules, false}
use Rattle.cedar_terms.specs.declared.precedence.Precedence.TheVariants as precedences
use Rattle.cedar_parser.proofs.CompleteRows.{stays_keeps}
use Rattle.cedar_parser.proofs.CompleteLeaves.{brackets_open, false_behind, none_begins_so, record_goes_on, row_goes_on, slot_behind, text_behind, true_behind}
use Rattle.cedar_parser.proofs.CompleteSteps.{operand_ahead}
use Rattle.cedar_parser.proofs.parser.Parser.operand.Goals as goal
use Rattle.std.proofs.Common.{◌∷◌, ◌∙◌, ap, false, map, refl, subst, sym, true}
use Rattle.cedar_builders.specs.BareExpr.{Lit, Slot}
use Rattle.cedar_exprs.specs.BareExpr.{bare_expr}
use Rattle.cedar_terms.specs.Literals.{BoolLit, StringLit}
use Rattle.std.specs.Rc.{rc_str_bytes}
use Rattle.cedar_lexer.specs.Grammar.{IsTokenText}
use Rattle.cedar_parser.proofs.ParserSteps.{literal_parsed}
use Rattle.cedar_lexer.specs.declared.token.TokenKind.TheVariants as kinds
use Rattle.semantics_grammar.specs.Grammar as grammar
use Rattle.semantics_grammar.specs.Lexemes.{lexeme, lexeme_of}
use Rattle.cedar_parser.specs.Meant.{here}
use Rattle.cedar_parser.specs.SoFar.{AreRowItems, no_items}
use Rattle.cedar_parser.specs.Waiting.{members}
use Rattle.cedar_parser.proofs.TakenSteps.{alone_at, if_both, next_kind, opens, primary_at, record_opens}

pub returns-in-Digits-clause-parses : goal.returns-in-Digits-clause-parses
returns-in-Digits-clause-parses c ts end h =
    if_both _ _ c.number.result (c.number.ensures.parses ts (here c.args.tokens.now) h c.in-Digits.is
    (ap (λ t. t.kind) c.first.ensures ∙ next_kind c.args.tokens.now end)) end

pub returns-in-True-clause-parses : goal.returns-in-True-clause-parses
returns-in-True-clause-parses c ts end h =
    let rest = here c.args.tokens.now in
    if_both _ _ c.literal-in-True.result (c.literal-in-True.ensures.parses ts rest h
    (primary_at c.args.token rest kinds.True (Lit (BoolLit true)) c.in-True.is grammar.yes) (alone_at c.args.token rest kinds.True c.in-True.is refl)) end

pub returns-in-False-clause-parses : goal.returns-in-False-clause-parses
returns-in-False-clause-parses c ts end h =
    let rest = here c.args.tokens.now in
    if_both _ _ c.literal-in-False.result (c.literal-in-False.ensures.parses ts rest h
    (primary_at c.args.token rest kinds.False (Lit (BoolLit false)) c.in-False.is grammar.no) (alone_at c.args.token rest kinds.False c.in-False.is refl)) end

pub returns-in-Not-clause-parses : goal.returns-in-Not-clause-parses
returns-in-Not-clause-parses c ts end h =
    if_both _ _ c.prefix.result (c.prefix.ensures.parses ts (here c.args.tokens.now) h c.in-Not.is) end

pub returns-in-Minus-clause-parses : goal.returns-in-Minus-clause-parses
returns-in-Minus-clause-parses c ts end h =
    if_both _ _ c.prefix-in-Minus.result (c.prefix-in-Minus.ensures.parses ts (here c.args.tokens.now) h c.in-Minus.is) end

pub returns-in-If-clause-parses : goal.returns-in-If-clause-parses
returns-in-If-clause-parses c ts end h =
    if_both _ _ c.conditional.result (c.conditional.ensures.parses ts (here c.args.tokens.now) h c.in-If.is) end

pub returns-in-OpenRound-clause-parses : goal.returns-in-OpenRound-clause-parses
returns-in-OpenRound-clause-parses c ts end h =
    let rest = here c.args.tokens.now in
    if_both _ _ c.open.result (c.open.ensures.parses ts rest
    (opens ts rest c.args.self.now c.args.token _ h (c.args.token.text.now, ap (λ k. lexeme k c.args.token.text.now ∷ rest) c.in-OpenRound.is))) end

pub returns-in-OpenSquare-clause-parses : goal.returns-in-OpenSquare-clause-parses
returns-in-OpenSquare-clause-parses c ts end h =
    let rest = here c.args.tokens.now in
    c.item.ensures.parses ts end
    (opens ts rest c.args.self.now c.args.token _ h
    (subst (λ es. AreRowItems (lexeme_of c.args.token ∷ rest) members (map bare_expr es) rest) (sym c.new.ensures.items)
    (c.args.token.text.now, rest, ap (λ k. lexeme k c.args.token.text.now ∷ rest) c.in-OpenSquare.is, no_items)))

pub returns-in-OpenCurly-clause-parses : goal.returns-in-OpenCurly-clause-parses
returns-in-OpenCurly-clause-parses c ts end h =
    c.field.ensures.parses ts end
    (record_opens ts (here c.args.tokens.now) c.args.self.now c.args.token _ h c.in-OpenCurly.is c.new-in-OpenCurly.ensures.items)

pub returns-in_ok-text_of-in-Quoted-clause-parses : goal.returns-in_ok-text_of-in-Quoted-clause-parses
returns-in_ok-text_of-in-Quoted-clause-parses c ts end h =
    let rest = here c.args.tokens.now in
    let text = c.in_ok-text_of-in-Quoted.ensures.text (subst (IsTokenText c.args.token.text.now) c.in-Quoted.is h.lexemes.0) in
    if_both _ _ c.literal.result (c.literal.ensures.parses ts rest h
    (primary_at c.args.token rest kinds.Quoted (Lit (StringLit (rc_str_bytes c.in_ok-text_of-in-Quoted.field-0))) c.in-Quoted.is (grammar.text text))
    (alone_at c.args.token rest kinds.Quoted c.in-Quoted.is refl)) end

pub returns-in_ok-slot-in-Slot-clause-parses : goal.returns-in_ok-slot-in-Slot-clause-parses
returns-in_ok-slot-in-Slot-clause-parses c ts end h =
    let rest = here c.args.tokens.now in
    let s = c.in_ok-slot-in-Slot.ensures.tree in (
      literal_parsed ts rest c.args.self.now c.member.result c.args.token (Slot s.0) h
          (primary_at c.args.token rest kinds.Slot (Slot s.0) c.in-Slot.is (grammar.slot s.1)) (alone_at c.args.token rest kinds.Slot c.in-Slot.is refl)
          c.member.ensures.precedence (ap bare_expr c.member.ensures.expr ∙ s.2),
      end,
    )

pub returns-in-Word-clause-complete : goal.returns-in-Word-clause-complete
returns-in-Word-clause-complete c end a = c.name.ensures.complete c.in-Word.is end a

pub returns-in-Digits-clause-complete : goal.returns-in-Digits-clause-complete
returns-in-Digits-clause-complete c end a =
    let t = c.args.tokens.now in
    stays_keeps c.number.new.self c.number.result t end
    (c.number.ensures.complete (here t) a c.in-Digits.is (ap (λ t. t.kind) c.first.ensures ∙ next_kind t end))

pub returns-in_ok-text_of-in-Quoted-clause-complete : goal.returns-in_ok-text_of-in-Quoted-clause-complete
returns-in_ok-text_of-in-Quoted-clause-complete c end a =
    let t = c.args.tokens.now in
    let x = text_behind c.args.self.now c.args.token (here t) a c.in-Quoted.is in
    stays_keeps c.literal.new.self c.literal.result t end (c.literal.ensures.complete (here t) x.2)

pub returns-in_err-text_of-in-Quoted-clause-complete : goal.returns-in_err-text_of-in-Quoted-clause-complete
returns-in_err-text_of-in-Quoted-clause-complete c end a =
    let x = text_behind c.args.self.now c.args.token (here c.args.tokens.now) a c.in-Quoted.is in
    let e = c.in_err-text_of-in-Quoted.field-0.0 in
    let failed : c.from_residual.result ≡ Err e = search rules in
    rw failed (c.in_err-text_of-in-Quoted.ensures.complete x.0 x.1)

pub returns-in_ok-slot-in-Slot-clause-complete : goal.returns-in_ok-slot-in-Slot-clause-complete
returns-in_ok-slot-in-Slot-clause-complete c end a =
    let x = slot_behind c.args.self.now c.args.token (here c.args.tokens.now) a c.in-Slot.is in
    (operand_ahead c.args.self.now c.member.result precedences.Member (here c.args.tokens.now) x.2 c.member.ensures.precedence, end)

pub returns-in_err-slot-in-Slot-clause-complete : goal.returns-in_err-slot-in-Slot-clause-complete
returns-in_err-slot-in-Slot-clause-complete c end a =
    let x = slot_behind c.args.self.now c.args.token (here c.args.tokens.now) a c.in-Slot.is in
    let e = c.in_err-slot-in-Slot.field-0.0 in
    let failed : c.from_residual-in_err-slot-in-Slot.result ≡ Err e = search rules in
    rw failed (c.in_err-slot-in-Slot.ensures.complete x.0 x.1)

pub returns-in-True-clause-complete : goal.returns-in-True-clause-complete
returns-in-True-clause-complete c end a =
    let t = c.args.tokens.now in
    stays_keeps c.literal-in-True.new.self c.literal-in-True.result t end
    (c.literal-in-True.ensures.complete (here t) (true_behind c.args.self.now c.args.token (here t) a c.in-True.is))

pub returns-in-False-clause-complete : goal.returns-in-False-clause-complete
returns-in-False-clause-complete c end a =
    let t = c.args.tokens.now in
    stays_keeps c.literal-in-False.new.self c.literal-in-False.result t end
    (c.literal-in-False.ensures.complete (here t) (false_behind c.args.self.now c.args.token (here t) a c.in-False.is))

pub returns-in-Not-clause-complete : goal.returns-in-Not-clause-complete
returns-in-Not-clause-complete c end a =
    stays_keeps c.prefix.new.self c.prefix.result c.args.tokens.now end (c.prefix.ensures.complete (here c.args.tokens.now) a c.in-Not.is)

pub returns-in-Minus-clause-complete : goal.returns-in-Minus-clause-complete
returns-in-Minus-clause-complete c end a =
    stays_keeps c.prefix-in-Minus.new.self c.prefix-in-Minus.result c.args.tokens.now end
    (c.prefix-in-Minus.ensures.complete (here c.args.tokens.now) a c.in-Minus.is)

pub returns-in-If-clause-complete : goal.returns-in-If-clause-complete
returns-in-If-clause-complete c end a =
    stays_keeps c.conditional.new.self c.conditional.result c.args.tokens.now end
    (c.conditional.ensures.complete (here c.args.tokens.now) a c.in-If.is)

pub returns-in-OpenRound-clause-complete : goal.returns-in-OpenRound-clause-complete
returns-in-OpenRound-clause-complete c end a =
    let t = c.args.tokens.now in
    stays_keeps c.open.new.self c.open.result t end
    (c.open.ensures.complete (here t) (brackets_open c.args.self.now c.args.token (here t) a c.in-OpenRound.is))

pub returns-in-OpenSquare-clause-complete : goal.returns-in-OpenSquare-clause-complete
returns-in-OpenSquare-clause-complete c end a =
    let t = c.args.tokens.now in
    c.item.ensures.complete end (row_goes_on c.args.self.now c.args.token (here t) c.new.result.items a c.in-OpenSquare.is c.new.ensures.items)

pub returns-in-OpenCurly-clause-complete : goal.returns-in-OpenCurly-clause-complete
returns-in-OpenCurly-clause-complete c end a =
    let t = c.args.tokens.now in
    c.field.ensures.complete end
    (record_goes_on c.args.self.now c.args.token (here t) c.new-in-OpenCurly.result.items a c.in-OpenCurly.is c.new-in-OpenCurly.ensures.items)

pub returns-in_default-clause-complete : goal.returns-in_default-clause-complete
returns-in_default-clause-complete c end a =
    let d = c.in_default in
    absurd (none_begins_so c.args.self.now c.args.token (here c.args.tokens.now) a d.not-Word d.not-Digits d.not-Quoted d.not-Slot d.not-True d.not-False
    d.not-Not d.not-Minus d.not-If d.not-OpenRound d.not-OpenSquare d.not-OpenCurly)

pub returns-in-Digits-clause-places : goal.returns-in-Digits-clause-places
returns-in-Digits-clause-places c source h =
    step_later source c.args.token.span.stop _ c.number.new.self c.number.result c.requires.before.next (c.number.ensures.places c.requires.piece source h)

pub returns-in-True-clause-places : goal.returns-in-True-clause-places
returns-in-True-clause-places c source h =
    step_later source c.args.token.span.stop _ c.literal-in-True.new.self c.literal-in-True.result c.requires.before.next (c.literal-in-True.ensures.places c.requires.piece source h)

pub returns-in-False-clause-places : goal.returns-in-False-clause-places
returns-in-False-clause-places c source h =
    step_later source c.args.token.span.stop _ c.literal-in-False.new.self c.literal-in-False.result c.requires.before.next (c.literal-in-False.ensures.places c.requires.piece source h)

pub returns-in-Not-clause-places : goal.returns-in-Not-clause-places
returns-in-Not-clause-places c source h =
    step_later source c.args.token.span.stop _ c.prefix.new.self c.prefix.result c.requires.before.next (c.prefix.ensures.places c.requires.piece source h)

pub returns-in-Minus-clause-places : goal.returns-in-Minus-clause-places
returns-in-Minus-clause-places c source h =
    step_later source c.args.token.span.stop _ c.prefix-in-Minus.new.self c.prefix-in-Minus.result c.requires.before.next (c.prefix-in-Minus.ensures.places c.requires.piece source h)

pub returns-in-If-clause-places : goal.returns-in-If-clause-places
returns-in-If-clause-places c source h =
    step_later source c.args.token.span.stop _ c.conditional.new.self c.conditional.result c.requires.before.next (c.conditional.ensures.places c.requires.piece source h)

pub returns-in_ok-text_of-in-Quoted-clause-places : goal.returns-in_ok-text_of-in-Quoted-clause-places
returns-in_ok-text_of-in-Quoted-clause-places c source h =
    step_later source c.args.token.span.stop _ c.literal.new.self c.literal.result c.requires.before.next (c.literal.ensures.places c.requires.piece source h)

pub returns-in_ok-slot-in-Slot-clause-places : goal.returns-in_ok-slot-in-Slot-clause-places
returns-in_ok-slot-in-Slot-clause-places c source h =
    let at = c.args.token.span.start in
    let p = c.requires.piece in
    placed_later source c.args.token.span.stop _ c.args.self.now (Some c.member.result) c.requires.before.next
    (leaf_placed source at at c.args.self.now c.member.result c.args.token.span c.in_ok-slot-in-Slot.field-0 h c.member.ensures.span c.member.ensures.expr
    c.in_ok-slot-in-Slot.ensures.place (omega arith) p p)

pub returns-in-OpenRound-clause-places : goal.returns-in-OpenRound-clause-places
returns-in-OpenRound-clause-places c source h =
    let at = c.args.token.span.start in
    let to = next_start c.args.tokens.now in
    let l : at ≤ to = omega (arith, c.requires.piece, c.requires.before.next) in
    c.open.ensures.places source to l (open_later source at at at to c.args.self.now (omega arith) l h) none_placed

pub returns-in-OpenSquare-clause-places : goal.returns-in-OpenSquare-clause-places
returns-in-OpenSquare-clause-places c source h =
    let at = c.args.token.span.start in
    let to = next_start c.args.tokens.now in
    let l : at ≤ to = omega (arith, c.requires.piece, c.requires.before.next) in
    c.item.ensures.places source (open_later source at at at to c.args.self.now (omega arith) l h)
    (subst (ArePlaced source at to) (sym c.new.ensures.items) none_placed)

pub returns-in-OpenCurly-clause-places : goal.returns-in-OpenCurly-clause-places
returns-in-OpenCurly-clause-places c source h =
    let at = c.args.token.span.start in
    let to = next_start c.args.tokens.now in
    let l : at ≤ to = omega (arith, c.requires.piece, c.requires.before.next) in
    c.field.ensures.places source (open_later source at at at to c.args.self.now (omega arith) l h)
    (subst (λ ps. ArePlaced source at to (map (λ p. p.1) ps)) (sym c.new-in-OpenCurly.ensures.items) none_placed)
