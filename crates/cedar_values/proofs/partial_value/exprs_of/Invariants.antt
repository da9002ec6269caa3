use Rattle.std.specs.List.{AllZip}
use Rattle.cedar_values.specs.PartialValues.{IsExprOf}
use Rattle.cedar_values.proofs.partial_value.exprs_of.Given as goal

-- the items so far have these expressions
abbrev pub invariant-loop-item : goal.invariant-loop-item
invariant-loop-item g l = AllZip (IsExprOf g.X.ExtensionValue.canonical) l.yielded l.exprs.items
