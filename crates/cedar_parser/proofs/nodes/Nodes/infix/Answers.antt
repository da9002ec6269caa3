use Rattle.std.proofs.Common.{◌∷◌, []}
use Rattle.cedar_parser.specs.Places.{and_placed, none_placed}
use Rattle.cedar_parser.proofs.Placed.{in_order, made_over, over, over_all, two_placed}
use Rattle.cedar_parser.proofs.nodes.Nodes.«infix».Goals as goal

pub returns-in-Or-clause-places : goal.returns-in-Or-clause-places
returns-in-Or-clause-places c a b =
    over_all c.args.self.now c.args.span (c.args.first ∷ c.args.last ∷ []) c.or.result c.or.ensures.place (in_order a) (two_placed a b)

pub returns-in-And-clause-places : goal.returns-in-And-clause-places
returns-in-And-clause-places c a b =
    over_all c.args.self.now c.args.span (c.args.first ∷ c.args.last ∷ []) c.and.result c.and.ensures.place (in_order a) (two_placed a b)

pub returns-in-Plain-clause-places : goal.returns-in-Plain-clause-places
returns-in-Plain-clause-places c a b =
    over_all c.args.self.now c.args.span (c.args.first ∷ c.args.last ∷ []) c.binary.result c.binary.ensures.place (in_order a) (two_placed a b)

pub returns-in_ok-at-in-Negated-clause-places : goal.returns-in_ok-at-in-Negated-clause-places
returns-in_ok-at-in-Negated-clause-places c a b =
    let n = c.args.self.now in
    let span = c.args.span in
    let inner = c.in_ok-inner-in-Negated.inner in
    made_over n span c.in_ok-at-in-Negated.field-0 _ (inner ∷ []) c.unary_app.result c.unary_app.ensures c.in_ok-at-in-Negated.ensures (in_order a)
    (and_placed (over n span (c.args.first ∷ c.args.last ∷ []) inner c.in_ok-inner-in-Negated.ensures.place (in_order a) (two_placed a b)) none_placed)
