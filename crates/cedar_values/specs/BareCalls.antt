-- Calls of functions without places.
use Rattle.std.specs.Prelude.{map}
use Rattle.std.specs.Global.{Global}
use Rattle.std.specs.declared.vec.Vec.{Vec}
use Rattle.cedar_names.specs.PlainNames.{bare_name}
use Rattle.cedar_names.specs.declared.name.Name.{Name}
use Rattle.cedar_builders.specs.BareExpr.{trees_of}
use Rattle.cedar_exprs.specs.RestrictedExprs.{bare_restricted_expr}
use Rattle.cedar_exprs.specs.declared.restricted_expr.RestrictedExpr.{RestrictedExpr}
use Rattle.semantics_values.specs.BareValue.{BareCall}

-- a function and its arguments
abbrev pub bare_call : Name × Vec RestrictedExpr Global → BareCall
bare_call c = record { func = bare_name c.0; args = trees_of (map bare_restricted_expr c.1.items) }
