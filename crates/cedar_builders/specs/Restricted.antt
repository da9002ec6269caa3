-- Restricted trees (`RestrictedExpr` of Cedar's `restricted_expr.rs`): of literals, unknowns, sets, records and calls.
use Rattle.std.specs.Prelude.{◌≡◌, Bool, true, false, IsTrue, Some}
use Rattle.std.specs.List.{list_all}
use Rattle.cedar_terms.specs.Types.{BareType}
use Rattle.cedar_builders.specs.BareExpr.{Text, BareExpr, Lit, Unknown, ExtensionFunctionApp, Set, Record}
use Rattle.cedar_builders.specs.Environment.{Env}
use Rattle.cedar_builders.specs.Walks.{preorder}

-- whether a node is of one of these five kinds
abbrev pub is_restricted_node : BareExpr → Bool
is_restricted_node (Lit l) = true
is_restricted_node (Unknown n t) = true
is_restricted_node (ExtensionFunctionApp n es) = true
is_restricted_node (Set es) = true
is_restricted_node (Record fs) = true
is_restricted_node e = false

-- whether each node is a literal, an unknown, a set, a record or a call
abbrev pub is_restricted : BareExpr → Bool
is_restricted e = list_all is_restricted_node (preorder e)

-- each node is a literal, an unknown, a set, a record or a call
abbrev pub IsRestricted : BareExpr → Type 0
IsRestricted e = IsTrue (is_restricted e)

-- the environment binds names to restricted trees alone
abbrev pub BindsRestricted : Env → Type 0
BindsRestricted env = (n : Text) (r : BareType × BareExpr) → env n ≡ Some r → IsRestricted r.1
