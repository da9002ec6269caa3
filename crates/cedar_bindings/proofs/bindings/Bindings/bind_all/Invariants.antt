use Rattle.std.specs.Vec.Iter.{into_iter_items}
use Rattle.cedar_builders.specs.Keys.{meant_pairs}
use Rattle.cedar_exprs.specs.BareExpr.{bare_expr}
use Rattle.cedar_bindings.specs.Bindings.{AreBound}
use Rattle.cedar_bindings.specs.declared.bindings.Bindings.{Bindings}
use Rattle.cedar_bindings.proofs.bindings.Bindings.bind_all.Given as goal

-- whoever binds the names that are left has bound all
abbrev pub invariant-loop-name : goal.invariant-loop-name
invariant-loop-name l =
    (new : Bindings) → AreBound l.self (meant_pairs bare_expr (into_iter_items l.name-iterator)) new
    → AreBound l.initial.self (meant_pairs bare_expr l.fn.pairs.items) new
