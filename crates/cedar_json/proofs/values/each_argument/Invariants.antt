use Rattle.std.proofs.Common.{map, take}
use Rattle.serde_json.specs.View.{items_of, view}
use Rattle.cedar_exprs.specs.BareExpr.{bare_expr}
use Rattle.cedar_json.specs.Values.{AreEach}
use Rattle.cedar_json.proofs.values.each_argument.Given as goal

-- the items so far stand for what was made
abbrev pub invariant-loop-arg : goal.invariant-loop-arg
invariant-loop-arg g l =
    AreEach g.A.Argument.is_argument (items_of (map view (take l.arg-index l.args))) (map bare_expr l.exprs.items)
