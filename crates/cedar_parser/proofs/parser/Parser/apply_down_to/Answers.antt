use Rattle.cedar_parser.specs.Complete.{IsBehind}
use Rattle.cedar_parser.proofs.CompleteSteps.{applied_behind}
use Rattle.cedar_parser.proofs.parser.Parser.apply_down_to.Goals as goal
use Rattle.std.proofs.Common.{Some, arith, subst, sym, ap, ◌∙◌, ◌≤◌}
use Rattle.cedar_parser.specs.Meant.{IsParsed}
use Rattle.cedar_parser.proofs.ParserSteps.{applied_parsed}
use Rattle.cedar_parser.proofs.Placed.{applied_placed}
use Rattle.cedar_parser.specs.Places.{ArePlaced, IsPlaced, IsPlacedUpTo, operands_of, source_of}
use Rattle.cedar_parser.specs.Refused.{start_of}

pub operations-preserved : goal.operations-preserved
operations-preserved c = record {
  opened = omega (arith, c.operations.invariant.opened, c.in-Some.ensures.opened);
  operand = omega (arith, c.in_ok-operand.ensures.start, c.in-Some.ensures.start, c.operations.invariant.opened);
  parses = λ ts rest h. applied_parsed ts rest c.operations.self c.pop_operation.new.self c.in-Some.operation c.operations.operand c.in_ok-operand.operand
      (c.operations.invariant.parses ts rest h) c.in-Some.ensures.pops c.in_ok-operand.ensures.precedence c.in_ok-operand.ensures.tree;
  complete = λ ts own b. applied_behind c.operations.self c.pop_operation.new.self c.in-Some.operation c.operations.operand c.in_ok-operand.operand ts
      c.in-Some.ensures.pops (omega (arith, own, c.in-Some.ensures.tight)) c.in_ok-operand.ensures.precedence (c.operations.invariant.complete ts own b);
  places = λ source to h.
      (let p = c.operations.invariant.places source to h in
      applied_placed source to c.operations.self c.pop_operation.new.self c.in-Some.operation c.operations.operand c.in_ok-operand.operand
      p c.in-Some.ensures.pops c.in_ok-operand.ensures.start c.in_ok-operand.ensures.stop
      (subst (λ s. start_of c.in-Some.operation ≤ c.operations.operand.span.start
      → ArePlaced s (start_of c.in-Some.operation) c.operations.operand.span.stop (operands_of c.in-Some.operation)
      → IsPlaced s c.operations.operand.span.start c.operations.operand.span.stop c.operations.operand.expr
      → IsPlaced s c.in_ok-operand.operand.span.start c.in_ok-operand.operand.span.stop c.in_ok-operand.operand.expr)
      (ap source_of c.in-Some.ensures.pops.2 ∙ p.0.source_is) c.in_ok-operand.ensures.places));
}

pub returns-clause-parses : goal.returns-clause-parses
returns-clause-parses c ts rest h =
    subst (λ s. IsParsed ts s (Some c.operations.operand) rest) (sym c.in_default.ensures.pops.0) (c.operations.invariant.parses ts rest h)

pub returns-clause-complete : goal.returns-clause-complete
returns-clause-complete c ts own b =
    subst (λ s. IsBehind s c.operations.operand.precedence ts) (sym c.in_default.ensures.pops.0) (c.operations.invariant.complete ts own b)

pub returns-clause-places : goal.returns-clause-places
returns-clause-places c source to h =
    subst (λ s. IsPlacedUpTo source to s (Some c.operations.operand)) (sym c.in_default.ensures.pops.0) (c.operations.invariant.places source to h)
