-- The record that is made of pairs which come in any order.
use Rattle.std.specs.Prelude.{List, map}
use Rattle.std.specs.Global.{Global}
use Rattle.std.specs.declared.rc.RcStr.{RcStr}
use Rattle.cedar_builders.specs.BareExpr.{BareFields, fields_of}
use Rattle.cedar_builders.specs.Keys.{in_key_order, keyed}
use Rattle.cedar_exprs.specs.BareExpr.{bare_expr}
use Rattle.cedar_exprs.specs.declared.expr.Expr.{Expr}

-- the fields of the record
abbrev pub record_fields : {T : Type 0} → List (RcStr Global × Expr T) → BareFields
record_fields ps = fields_of (map (λ p. (p.0, bare_expr p.1)) (in_key_order (keyed ps)))

-- its values, by their keys
abbrev pub record_values : {T : Type 0} → List (RcStr Global × Expr T) → List (Expr T)
record_values ps = map (λ p. p.1) (in_key_order (keyed ps))
