use Rattle.std.proofs.Common.{refl}
use Rattle.cedar_parser.proofs.Placed.{in_order, two_placed, wait_placed}
use Rattle.cedar_parser.specs.declared.operand.Operation.TheVariants as operations
use Rattle.cedar_parser.proofs.parser.Parser.otherwise.Goals as goal

pub returns-clause-places : goal.returns-clause-places
returns-clause-places c source to h test first =
    wait_placed source to to c.args.self.now _ (operations.Else c.args.start c.args.test c.args.«then») h c.in_ok-push.ensures.items refl refl
    (two_placed test first) (in_order test)
