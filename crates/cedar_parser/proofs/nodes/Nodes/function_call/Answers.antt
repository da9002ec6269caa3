use Rattle.std.proofs.Common.{[]}
use Rattle.cedar_parser.specs.Places.{none_placed}
use Rattle.cedar_parser.proofs.Placed.{over}
use Rattle.cedar_parser.proofs.nodes.Nodes.function_call.Goals as goal

pub returns-in_ok-unknown-in-Some-clause-places : goal.returns-in_ok-unknown-in-Some-clause-places
returns-in_ok-unknown-in-Some-clause-places c none m h =
    over c.args.self.now c.args.span [] c.in_ok-unknown-in-Some.field-0 (c.in_ok-unknown-in-Some.ensures.place none) m none_placed

pub returns-in_ok-extension_call-in-None-clause-places : goal.returns-in_ok-extension_call-in-None-clause-places
returns-in_ok-extension_call-in-None-clause-places c none m h =
    over c.args.self.now c.args.span c.args.args.items c.in_ok-extension_call-in-None.field-0 c.in_ok-extension_call-in-None.ensures.place m h
