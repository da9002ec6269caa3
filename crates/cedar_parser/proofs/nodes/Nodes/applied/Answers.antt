use Rattle.std.proofs.Common.{◌∷◌, [], ap, subst}
use Rattle.cedar_parser.specs.Places.{ArePlaced, and_placed, none_placed, operands_of, source_of}
use Rattle.cedar_parser.proofs.Placed.{first_placed, in_order, made_over, over, over_all, rest_placed, two_placed}
use Rattle.cedar_parser.proofs.nodes.Nodes.applied.Goals as goal

pub returns-in_ok-at-in-Prefix-clause-places : goal.returns-in_ok-at-in-Prefix-clause-places
returns-in_ok-at-in-Prefix-clause-places c os b =
    made_over c.args.self.now c.args.span c.in_ok-at-in-Prefix.field-0 _ (c.args.last ∷ []) c.unary_app.result c.unary_app.ensures
    c.in_ok-at-in-Prefix.ensures (in_order b) (and_placed b none_placed)

pub returns-in_ok-within-in-IsIn-clause-places : goal.returns-in_ok-within-in-IsIn-clause-places
returns-in_ok-within-in-IsIn-clause-places c os b =
    let n = c.args.self.now in
    let span = c.args.span in
    let both = subst (ArePlaced (source_of n) span.start span.stop) (ap operands_of c.in-IsIn.is) os in
    let within = c.in_ok-within-in-IsIn.within in
    let inner = over n span (c.in-IsIn.first ∷ c.args.last ∷ []) within c.in_ok-within-in-IsIn.ensures.place (in_order b)
    (two_placed (first_placed (rest_placed both)) b) in
    over_all n span (c.in-IsIn.is'.expr ∷ within ∷ []) c.and.result c.and.ensures.place (in_order b) (two_placed (first_placed both) inner)

pub returns-in_ok-at-in-Else-clause-places : goal.returns-in_ok-at-in-Else-clause-places
returns-in_ok-at-in-Else-clause-places c os b =
    let n = c.args.self.now in
    let span = c.args.span in
    let both = subst (ArePlaced (source_of n) span.start span.stop) (ap operands_of c.in-Else.is) os in
    made_over n span c.in_ok-at-in-Else.field-0 _ (c.in-Else.test ∷ c.in-Else.«then» ∷ c.args.last ∷ []) c.ite.result c.ite.ensures
    c.in_ok-at-in-Else.ensures (in_order b) (and_placed (first_placed both) (two_placed (first_placed (rest_placed both)) b))
