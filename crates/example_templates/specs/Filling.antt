-- What stands for the unknowns of a template.
use Rattle.std.specs.Global.{Global}
use Rattle.std.specs.HashMap.{HashMap}
use Rattle.std.specs.declared.rc.RcStr.{RcStr}
use Rattle.cedar_ast.specs.BareExpr.{Lit}
use Rattle.cedar_ast.specs.Environment.{Env}
use Rattle.cedar_ast.specs.Literals.{bare_literal}
use Rattle.cedar_ast.specs.RestrictedExprs.{env_of}
use Rattle.cedar_ast.specs.Types.{literal_type}
use Rattle.cedar_terms.specs.declared.literal.Literal.{Literal}

-- each name that the map has, with the type and the tree of its literal
abbrev pub filled_in : {S : Type 0} → HashMap (RcStr Global) Literal S → Env
filled_in values = env_of (λ l. literal_type (bare_literal l)) (λ l. Lit (bare_literal l)) values
