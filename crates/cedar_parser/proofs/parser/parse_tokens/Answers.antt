use Rattle.std.proofs.Common.{Err, rules}
use Rattle.std.proofs.Common.{◌≡◌, ◌∙◌, refl, ap, subst, max, arith}
use Rattle.cedar_parser.specs.Meant.{IsParsed, here}
use Rattle.cedar_parser.proofs.Placed.{begun_placed, ended_placed, next_begins, placed_later}
use Rattle.cedar_parser.specs.Refused.{greatest, group_start, next_start, open_start, operand_start, start_of, stop_of}
use Rattle.cedar_parser.proofs.InOrder.{earlier, taken}
use Rattle.cedar_parser.proofs.TakenSteps.{end_kept, taken_here}
use Rattle.cedar_parser.specs.Complete.{IsAhead}
use Rattle.cedar_parser.proofs.CompleteWhole.{ahead_at_end, begun_ahead, if_refused}
use Rattle.cedar_parser.proofs.Whole.{begun, ended_tokens}
use Rattle.cedar_parser.proofs.parser.parse_tokens.Goals as goal

pub step-requires : goal.step-requires
step-requires c =
    let at = max (open_start c.tokens.parser) (operand_start c.tokens.operand) in
    let k = taken at c.tokens.left c.next.new.self c.in-Some.token c.tokens.invariant.before c.in-Some.ensures.gives in k.0

pub tokens-init : goal.tokens-init
tokens-init c =
    let first : greatest start_of c.new.result.items ≡ 0 = ap (greatest start_of) c.new.ensures.items in
    let second : greatest group_start c.new-2.result.items ≡ 0 = ap (greatest group_start) c.new-2.ensures.items in record {
      before = earlier 0 _ c.args.tokens (omega (arith, first, second)) c.requires;
      fits = refl;
      parses = λ none end lex. (begun c.args.tokens _ lex c.new.ensures.items c.new-2.ensures.items none, end);
      complete = λ end lex tree stands. (begun_ahead c.args.tokens _ tree lex c.new.ensures.items c.new-2.ensures.items stands, end);
      places = λ none. begun_placed (next_start c.args.tokens) _ c.new.ensures.items c.new-2.ensures.items none;
    }

pub tokens-preserved : goal.tokens-preserved
tokens-preserved c =
    let at = max (open_start c.tokens.parser) (operand_start c.tokens.operand) in
    let mid = c.next.new.self in
    let t = c.in-Some.token in
    let k = taken at c.tokens.left mid t c.tokens.invariant.before c.in-Some.ensures.gives in
    let left = c.in_ok-operand.ensures.goes_on in
    let first = here c.args.tokens in
    record {
      before = left.before;
      fits = left.stop ∙ (k.1 ∙ c.tokens.invariant.fits);
      parses = λ none end lex.
          (let p = c.tokens.invariant.parses none end lex in
          c.in_ok-operand.ensures.parses first (end_kept c.tokens.left mid c.in-Some.ensures.gives.1 p.1)
          (subst (IsParsed first c.tokens.parser c.tokens.operand) (taken_here c.tokens.left mid t c.in-Some.ensures.gives) p.0));
      complete = λ end lex tree stands.
          (let a = c.tokens.invariant.complete end lex tree stands in
          c.in_ok-operand.ensures.complete (end_kept c.tokens.left mid c.in-Some.ensures.gives.1 a.1)
          (subst (IsAhead c.tokens.parser c.tokens.operand) (taken_here c.tokens.left mid t c.in-Some.ensures.gives) a.0));
      places = λ none.
          c.in_ok-operand.ensures.places _
          (placed_later _ (next_start c.tokens.left) t.span.start c.tokens.parser c.tokens.operand
          (next_begins at c.tokens.left mid t c.tokens.invariant.before c.in-Some.ensures.gives) (c.tokens.invariant.places none));
    }

pub returns-clause-parses : goal.returns-clause-parses
returns-clause-parses c none end lex =
    ended_tokens c.args.tokens c.tokens.left _ c.tokens.operand c.end.result c.in_default.ensures.gives.1
    (c.tokens.invariant.parses none end lex).0 c.end.ensures.parses

pub returns-in_err-operand-clause-complete : goal.returns-in_err-operand-clause-complete
returns-in_err-operand-clause-complete c end lex =
    let e = c.in_err-operand.field-0.0 in
    let mid = c.next.new.self in
    let same : c.from_residual.result ≡ Err e = search rules in
    rw same (λ tree stands.
    (let a = c.tokens.invariant.complete end lex tree stands in
    c.in_err-operand.ensures.complete (end_kept c.tokens.left mid c.in-Some.ensures.gives.1 a.1)
    (subst (IsAhead c.tokens.parser c.tokens.operand) (taken_here c.tokens.left mid c.in-Some.token c.in-Some.ensures.gives) a.0)))

pub returns-clause-complete : goal.returns-clause-complete
returns-clause-complete c end lex =
    if_refused c.end.result _ _ c.end.ensures.complete
    (λ e made tree stands. made
    (ahead_at_end c.tokens.left (IsAhead _ c.tokens.operand) c.in_default.ensures.gives.1 (c.tokens.invariant.complete end lex tree stands).0))

pub returns-clause-places : goal.returns-clause-places
returns-clause-places c none =
    let b = c.tokens.invariant.before in
    ended_placed _ (next_start c.tokens.left) (stop_of c.args.tokens) _ c.tokens.operand c.end.result
    (omega (arith, b.piece, b.fits, c.tokens.invariant.fits)) (c.tokens.invariant.places none) c.end.ensures.places
