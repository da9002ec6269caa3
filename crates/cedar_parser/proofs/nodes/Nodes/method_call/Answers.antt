use Rattle.cedar_parser.proofs.Placed.{over, over_all}
use Rattle.std.proofs.Common.{◌∙◌, map, sym}
use Rattle.cedar_names.specs.PlainNames.{bare_name}
use Rattle.cedar_exprs.specs.BareExpr.{bare_expr}
use Rattle.cedar_parser.proofs.CallTrees.{binary_row, call_row, empty_row, if_tree}
use Rattle.cedar_parser.proofs.nodes.Nodes.method_call.Goals as goal

pub returns-then-is_emptiness-clause-tree : goal.returns-then-is_emptiness-clause-tree
returns-then-is_emptiness-clause-tree c =
    if_tree c.is_empty.result _ _ c.is_empty.ensures.tree
    (λ e h. empty_row c.args.method.now (map bare_expr c.args.args.items) (bare_expr e) (sym c.is_emptiness.ensures ∙ c.if-is_emptiness.true) h)

pub returns-in-Some-clause-tree : goal.returns-in-Some-clause-tree
returns-in-Some-clause-tree c =
    if_tree c.binary_method.result _ _ c.binary_method.ensures.tree
    (λ e h. binary_row c.args.method.now c.in-Some.op (map bare_expr c.args.args.items) (bare_expr e) (sym c.is_emptiness.ensures ∙ c.if-is_emptiness.false)
    (sym c.in-Some.ensures) h)

pub returns-in_ok-extension_call-in-None-clause-tree : goal.returns-in_ok-extension_call-in-None-clause-tree
returns-in_ok-extension_call-in-None-clause-tree c =
    call_row c.args.method.now (bare_name c.in_ok-name-in-None.name) (map bare_expr c.args.args.items) (bare_expr c.in_ok-extension_call-in-None.field-0)
    (sym c.is_emptiness.ensures ∙ c.if-is_emptiness.false) (sym c.in-None.ensures) c.in_ok-name-in-None.ensures.name
    c.in_ok-extension_call-in-None.ensures.tree

pub returns-then-is_emptiness-clause-places : goal.returns-then-is_emptiness-clause-places
returns-then-is_emptiness-clause-places c m h =
    over_all c.args.self.now c.args.span c.args.args.items c.is_empty.result c.is_empty.ensures.place m h

pub returns-in-Some-clause-places : goal.returns-in-Some-clause-places
returns-in-Some-clause-places c m h =
    over_all c.args.self.now c.args.span c.args.args.items c.binary_method.result c.binary_method.ensures.place m h

pub returns-in_ok-extension_call-in-None-clause-places : goal.returns-in_ok-extension_call-in-None-clause-places
returns-in_ok-extension_call-in-None-clause-places c m h =
    over c.args.self.now c.args.span c.args.args.items c.in_ok-extension_call-in-None.field-0 c.in_ok-extension_call-in-None.ensures.place m h
