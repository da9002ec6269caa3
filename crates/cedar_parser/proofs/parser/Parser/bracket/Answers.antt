use Rattle.cedar_parser.proofs.Placed.{longer_placed, next_begins}
use Rattle.cedar_parser.specs.Refused.{next_start}
use Rattle.cedar_parser.proofs.InOrder.{taken}
use Rattle.std.proofs.Common.{ap, refl, subst, sym}
use Rattle.cedar_lexer.specs.declared.token.TokenKind.TheVariants as kinds
use Rattle.cedar_terms.specs.declared.precedence.Precedence.TheVariants as precedences
use Rattle.cedar_parser.specs.Ahead.{Rest}
use Rattle.cedar_parser.specs.Meant.{AreLexemes, here, open_groups, waits}
use Rattle.semantics_grammar.specs.Written.{IsTextOf}
use Rattle.cedar_parser.proofs.AheadSteps.{index_ahead}
use Rattle.cedar_parser.proofs.CompleteSteps.{operand_ahead}
use Rattle.cedar_parser.proofs.CompleteRows.{rest_taken, text_taken}
use Rattle.cedar_parser.proofs.CompleteTokens.{first_is, no_end}
use Rattle.cedar_parser.specs.Meant.{first_kind}
use Rattle.std.specs.Rc.{rc_str_bytes}
use Rattle.std.proofs.Common.{◌∙◌}
use Rattle.cedar_parser.proofs.TakenSteps.{bracket_parsed, end_kept}
use Rattle.std.proofs.Common.{◌≡◌, Err, max, arith, rules}
use Rattle.cedar_parser.specs.Refused.{open_start, stop_of}
use Rattle.cedar_parser.proofs.InOrder.{left_from, skipped, then_left, wanted, within}
use Rattle.cedar_parser.proofs.parser.Parser.bracket.Goals as goal

pub returns-in_err-last-clause-goes_on : goal.returns-in_err-last-clause-goes_on
returns-in_err-last-clause-goes_on c =
    let at = max (open_start c.args.self.now) c.args.operand.span.start in
    let old = c.args.tokens.now in
    let mid = c.expect.new.self in
    let l = skipped at old mid c.in_ok-token.token c.requires c.in_ok-token.ensures.gives.1 in
    let e = c.in_err-last.field-0.0 in
    let same : c.from_residual-in_err-last.result ≡ Err e = search rules in
    rw same (within (stop_of mid) (stop_of old) e l.stop (wanted at mid _ e l.before c.in_err-last.ensures.gives.0))

pub returns-clause-goes_on : goal.returns-clause-goes_on
returns-clause-goes_on c =
    let at = max (open_start c.args.self.now) c.args.operand.span.start in
    let old = c.args.tokens.now in
    let mid = c.expect.new.self in
    let new = c.expect-2.new.self in
    let l = skipped at old mid c.in_ok-token.token c.requires c.in_ok-token.ensures.gives.1 in
    left_from at (max (open_start c.args.self.now) c.in_ok-get.field-0.span.start) old new (omega (arith, c.in_ok-get.ensures.start))
    (then_left at at old mid new l (skipped at mid new c.in_ok-last.last l.before c.in_ok-last.ensures.gives.1))

pub returns-clause-parses : goal.returns-clause-parses
returns-clause-parses c ts end h = (
  bracket_parsed ts c.args.self.now c.args.operand c.in_ok-get.field-0 c.in_ok-token.token c.in_ok-last.last c.args.tokens.now c.expect.new.self
      c.expect-2.new.self h.1.0 (rc_str_bytes c.in_ok-attr.attr) h.1.1 h.0 c.in_ok-token.ensures.gives.0 c.in_ok-token.ensures.gives.1
      c.in_ok-attr.ensures.text c.in_ok-last.ensures.gives.0 c.in_ok-last.ensures.gives.1 c.in_ok-get.ensures.precedence c.in_ok-get.ensures.tree,
  end_kept c.args.tokens.now c.expect-2.new.self (c.in_ok-last.ensures.gives.1.1 ∙ c.in_ok-token.ensures.gives.1.1) end,
)

pub returns-in_err-token-clause-complete : goal.returns-in_err-token-clause-complete
returns-in_err-token-clause-complete c w end b =
    let r = c.args.self.now in
    let i = index_ahead (open_groups r) (waits r) c.args.operand.precedence w (here c.args.tokens.now) b.goes_on in
    let quoted = first_is kinds.Quoted c.args.tokens.now (ap first_kind i.tokens) (no_end kinds.Quoted refl) in
    absurd (search rules)

pub returns-in_err-attr-clause-complete : goal.returns-in_err-attr-clause-complete
returns-in_err-attr-clause-complete c w end b =
    let r = c.args.self.now in
    let i = index_ahead (open_groups r) (waits r) c.args.operand.precedence w (here c.args.tokens.now) b.goes_on in
    let same = text_taken kinds.Quoted i.quoted _ c.in_ok-token.token c.args.tokens.now c.expect.new.self i.tokens c.in_ok-token.ensures.gives.1 in
    let x = c.in_err-attr.field-0.0 in
    let failed : c.from_residual-in_err-attr.result ≡ Err x = search rules in
    rw failed (c.in_err-attr.ensures.complete i.text (subst (λ q. IsTextOf q i.text) same i.is_text))

pub returns-in_err-last-clause-complete : goal.returns-in_err-last-clause-complete
returns-in_err-last-clause-complete c w end b =
    let r = c.args.self.now in
    let i = index_ahead (open_groups r) (waits r) c.args.operand.precedence w (here c.args.tokens.now) b.goes_on in
    let same = rest_taken kinds.Quoted i.quoted _ c.in_ok-token.token c.args.tokens.now c.expect.new.self i.tokens c.in_ok-token.ensures.gives.1 in
    let close = first_is kinds.CloseSquare c.expect.new.self (sym (ap first_kind same)) (no_end kinds.CloseSquare refl) in
    absurd (search rules)

pub returns-clause-complete : goal.returns-clause-complete
returns-clause-complete c w end b =
    let r = c.args.self.now in
    let t0 = c.args.tokens.now in
    let t1 = c.expect.new.self in
    let t2 = c.expect-2.new.self in
    let i = index_ahead (open_groups r) (waits r) c.args.operand.precedence w (here t0) b.goes_on in
    let one = rest_taken kinds.Quoted i.quoted _ c.in_ok-token.token t0 t1 i.tokens c.in_ok-token.ensures.gives.1 in
    let two = rest_taken kinds.CloseSquare i.close i.behind c.in_ok-last.last t1 t2 (sym one) c.in_ok-last.ensures.gives.1 in (
      operand_ahead r c.in_ok-get.field-0 precedences.Member (here t2)
          (record {
            lexemes = subst AreLexemes two (subst AreLexemes i.tokens b.lexemes.1).1.1;
            goes_on = subst (Rest (open_groups r) (waits r) precedences.Member) two i.goes_on;
          }) c.in_ok-get.ensures.precedence,
      end_kept t0 t2 (c.in_ok-last.ensures.gives.1.1 ∙ c.in_ok-token.ensures.gives.1.1) end,
    )

pub returns-clause-places : goal.returns-clause-places
returns-clause-places c source h =
    let at = max (open_start c.args.self.now) c.args.operand.span.start in
    let old = c.args.tokens.now in
    let mid = c.expect.new.self in
    let new = c.expect-2.new.self in
    let n = c.in_ok-token.token in
    let b = next_begins at old mid n c.requires c.in_ok-token.ensures.gives.1 in
    let k = taken at old mid n c.requires c.in_ok-token.ensures.gives.1 in
    let m = taken n.span.stop mid new c.in_ok-last.last k.0.before c.in_ok-last.ensures.gives.1 in
    longer_placed source (next_start old) c.in_ok-last.last.span.stop (next_start new) c.args.self.now c.args.operand c.in_ok-get.field-0 h
    c.in_ok-get.ensures.start c.in_ok-get.ensures.stop c.in_ok-get.ensures.place (omega (arith, b, k.0.piece, m.0.first, m.0.piece)) m.0.before.next
