use Rattle.std.proofs.Common.{arith, subst, sym}
use Rattle.cedar_parser.specs.Places.{ArePlaced, operands_of, source_of}
use Rattle.cedar_parser.proofs.Placed.{wider}
use Rattle.cedar_parser.proofs.nodes.Nodes.apply.Goals as goal

pub returns-clause-places : goal.returns-clause-places
returns-clause-places c l os b =
    let stop = c.args.last.span.stop in
    c.in_ok-expr.ensures.places
    (subst (λ n. ArePlaced (source_of c.args.self.now) n stop (operands_of c.args.operation)) (sym c.start.ensures) os)
    (wider c.start.result stop (omega (arith, l, c.start.ensures)) (omega arith) b)
