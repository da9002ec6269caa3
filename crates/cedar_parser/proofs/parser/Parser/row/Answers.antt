use Rattle.std.proofs.Common.{arith, ap, subst, sym}
use Rattle.cedar_parser.specs.Places.{ArePlaced, IsPlaced, source_of}
use Rattle.cedar_parser.proofs.Placed.{operand_placed, over}
use Rattle.cedar_parser.proofs.parser.Parser.row.Goals.{in-Set+in_ok-expr-in-Set, in-Function+in_ok-expr-in-Function, in-Method+in_ok-expr-in-Method}
use Rattle.cedar_parser.proofs.parser.Parser.row.Goals as goal

pub returns-clause-places : goal.returns-clause-places
returns-clause-places c source m h items =
    let r = c.args.self.now in
    let span = c.args.span in
    let here = subst (λ s. ArePlaced s span.start span.stop c.args.items.items) (sym h.source_is) items in
    let p : IsPlaced (source_of r.nodes) span.start span.stop c.match-kind.expr = elim c.match-kind.branch [
      | in-Set+in_ok-expr-in-Set w ↦ subst (IsPlaced (source_of r.nodes) span.start span.stop) (sym w.expr-is)
          (over r.nodes span c.args.items.items _ w.in_ok-expr-in-Set.ensures.place m here)
      | in-Function+in_ok-expr-in-Function w ↦ subst (IsPlaced (source_of r.nodes) span.start span.stop) (sym w.expr-is)
          (w.in_ok-expr-in-Function.ensures.places h.no_values m here)
      | in-Method+in_ok-expr-in-Method w ↦ subst (IsPlaced (source_of r.nodes) span.start span.stop) (sym w.expr-is)
          (w.in_ok-expr-in-Method.ensures.places m here)
    ] in
    operand_placed source span.start span.stop r c.member.result span.start span.stop c.match-kind.expr h (ap (λ s. s.start) c.member.ensures.span)
    (ap (λ s. s.stop) c.member.ensures.span) c.member.ensures.expr (omega arith) (omega arith)
    (subst (λ s. IsPlaced s span.start span.stop c.match-kind.expr) h.source_is p)
