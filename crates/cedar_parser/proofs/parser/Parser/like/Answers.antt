use Rattle.cedar_parser.proofs.Placed.{longer_placed, next_begins}
use Rattle.cedar_parser.specs.Refused.{next_start}
use Rattle.cedar_parser.proofs.InOrder.{taken}
use Rattle.std.proofs.Common.{max, arith}
use Rattle.std.proofs.Common.{ap, refl, rules}
use Rattle.cedar_lexer.specs.declared.token.TokenKind.TheVariants as kinds
use Rattle.cedar_terms.specs.declared.precedence.Precedence.TheVariants as precedences
use Rattle.semantics_grammar.specs.Written.{IsPatternOf}
use Rattle.cedar_parser.specs.Ahead.{Rest}
use Rattle.cedar_parser.specs.Meant.{AreLexemes, first_kind, here, open_groups, waits}
use Rattle.cedar_parser.proofs.AheadSteps.{test_ahead}
use Rattle.std.proofs.Common.{inl, inr}
use Rattle.cedar_parser.proofs.CompleteSteps.{operand_ahead}
use Rattle.cedar_parser.proofs.CompleteRows.{rest_taken, text_taken}
use Rattle.cedar_parser.proofs.CompleteTokens.{first_is, like_pattern, no_end}
use Rattle.cedar_parser.proofs.TakenSteps.{end_kept}
use Rattle.cedar_parser.proofs.CompleteTexts.{no_pattern}
use Rattle.std.proofs.Common.{max, arith, subst}
use Rattle.std.specs.Str.{chars}
use Rattle.cedar_lexer.specs.Readings.{IsAnswerOfPattern}
use Rattle.cedar_parser.specs.Refused.{open_start}
use Rattle.cedar_parser.proofs.InOrder.{left_from, skipped}
use Rattle.cedar_parser.proofs.NameSteps.{like_step}
use Rattle.cedar_parser.proofs.TokenTexts.{pattern_meant}
use Rattle.cedar_parser.proofs.parser.Parser.like.Goals as goal

pub returns-in_ok-like-in-Some-clause-goes_on : goal.returns-in_ok-like-in-Some-clause-goes_on
returns-in_ok-like-in-Some-clause-goes_on c =
    let at = max (open_start c.args.self.now) c.args.left.span.start in
    left_from at (max (open_start c.args.self.now) c.in_ok-like-in-Some.field-0.span.start) c.args.tokens.now c.expect.new.self
    (omega (arith, c.in_ok-like-in-Some.ensures.start))
    (skipped at c.args.tokens.now c.expect.new.self c.in_ok-token.token c.requires c.in_ok-token.ensures.gives.1)

pub returns-in_ok-like-in-Some-clause-parses : goal.returns-in_ok-like-in-Some-clause-parses
returns-in_ok-like-in-Some-clause-parses c ts end h =
    like_step ts c.args.self.now c.args.left c.in_ok-like-in-Some.field-0 c.in_ok-token.token c.args.tokens.now c.expect.new.self h.2.0
    c.in-Some.pattern end h.2.1 h.0 h.1 c.in_ok-token.ensures.gives.0 c.in_ok-token.ensures.gives.1
    (λ q. pattern_meant c.in_ok-token.token.text.now c.inside.result.now c.in-Some.pattern c.inside.ensures q
    (subst (IsAnswerOfPattern (chars c.inside.result.now)) c.in-Some.is c.in_ok-pattern.ensures))
    c.in_ok-like-in-Some.ensures.precedence c.in_ok-like-in-Some.ensures.tree

pub returns-in_err-token-clause-complete : goal.returns-in_err-token-clause-complete
returns-in_err-token-clause-complete c w below end b =
    let r = c.args.self.now in
    let i = like_pattern (open_groups r) (waits r) (here c.args.tokens.now)
    (test_ahead (open_groups r) (waits r) c.args.left.precedence kinds.Like w (here c.args.tokens.now) (inr (inl refl)) below b.goes_on) in
    let quoted = first_is kinds.Quoted c.args.tokens.now (ap first_kind i.tokens) (no_end kinds.Quoted refl) in
    absurd (search rules)

pub returns-in-None-clause-complete : goal.returns-in-None-clause-complete
returns-in-None-clause-complete c w below end b =
    let r = c.args.self.now in
    let i = like_pattern (open_groups r) (waits r) (here c.args.tokens.now)
    (test_ahead (open_groups r) (waits r) c.args.left.precedence kinds.Like w (here c.args.tokens.now) (inr (inl refl)) below b.goes_on) in
    let same = text_taken kinds.Quoted i.quoted _ c.in_ok-token.token c.args.tokens.now c.expect.new.self i.tokens c.in_ok-token.ensures.gives.1 in
    absurd (no_pattern c.in_ok-token.token.text.now c.inside.result.now i.pattern c.inside.ensures
    (subst (IsAnswerOfPattern (chars c.inside.result.now)) c.in-None.is c.in_ok-pattern.ensures)
    (subst (λ q. IsPatternOf q i.pattern) same i.is_pattern))

pub returns-in_ok-like-in-Some-clause-complete : goal.returns-in_ok-like-in-Some-clause-complete
returns-in_ok-like-in-Some-clause-complete c w below end b =
    let r = c.args.self.now in
    let t0 = c.args.tokens.now in
    let t1 = c.expect.new.self in
    let i = like_pattern (open_groups r) (waits r) (here t0)
    (test_ahead (open_groups r) (waits r) c.args.left.precedence kinds.Like w (here t0) (inr (inl refl)) below b.goes_on) in
    let one = rest_taken kinds.Quoted i.quoted i.behind c.in_ok-token.token t0 t1 i.tokens c.in_ok-token.ensures.gives.1 in (
      operand_ahead r c.in_ok-like-in-Some.field-0 precedences.Relation (here t1)
          (record {
            lexemes = subst AreLexemes one (subst AreLexemes i.tokens b.lexemes.1).1;
            goes_on = subst (Rest (open_groups r) (waits r) precedences.Relation) one i.goes_on;
          }) c.in_ok-like-in-Some.ensures.precedence,
      end_kept t0 t1 c.in_ok-token.ensures.gives.1.1 end,
    )

pub returns-in_ok-like-in-Some-clause-places : goal.returns-in_ok-like-in-Some-clause-places
returns-in_ok-like-in-Some-clause-places c source h =
    let at = max (open_start c.args.self.now) c.args.left.span.start in
    let old = c.args.tokens.now in
    let new = c.expect.new.self in
    let n = c.in_ok-token.token in
    let b = next_begins at old new n c.requires c.in_ok-token.ensures.gives.1 in
    let k = taken at old new n c.requires c.in_ok-token.ensures.gives.1 in
    longer_placed source (next_start old) n.span.stop (next_start new) c.args.self.now c.args.left c.in_ok-like-in-Some.field-0 h
    c.in_ok-like-in-Some.ensures.start c.in_ok-like-in-Some.ensures.stop c.in_ok-like-in-Some.ensures.place (omega (arith, b, k.0.piece)) k.0.before.next
