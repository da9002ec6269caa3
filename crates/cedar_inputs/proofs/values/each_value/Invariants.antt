use Rattle.std.proofs.Common.{◌≡◌, ◌++◌}
use Rattle.std.specs.Vec.Iter.{into_iter_items}
use Rattle.cedar_builders.specs.Keys.{keyed, meant_pairs}
use Rattle.cedar_exprs.specs.BareExpr.{bare_expr}
use Rattle.cedar_inputs.specs.Values.{AreValuesOf}
use Rattle.cedar_inputs.proofs.values.each_value.Given as goal

-- those so far
abbrev pub invariant-loop-name : goal.invariant-loop-name
invariant-loop-name l = record {
  whole : l.fn.exprs.items ≡ l.yielded ++ into_iter_items l.name-iterator;
  each : AreValuesOf (meant_pairs bare_expr l.yielded) (keyed l.values.items);
}
