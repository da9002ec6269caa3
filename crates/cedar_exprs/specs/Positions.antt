-- What a walk that takes memory as it goes on still gives.
use Rattle.std.specs.Prelude.{List}
use Rattle.cedar_exprs.specs.Walks.{given_by, referents}
use Rattle.cedar_exprs.specs.declared.expr.Expr.{Expr}
use Rattle.cedar_exprs.specs.declared.walks.positions.Positions.{Positions}

abbrev pub still_given : {T : Type 0} → Positions T → List (Expr T)
still_given w = given_by (referents w.stack.items)
