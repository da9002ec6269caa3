-- A request, and what unknowns are bound to, put into conditions.
use Rattle.std.specs.Prelude.{◌≡◌, false, IsTrue, Option, Some, None}
use Rattle.std.specs.declared.cmp.Ordering.{Ordering}
use Rattle.cedar_terms.specs.declared.var.Var.{Var as Variable}
use Rattle.cedar_builders.specs.BareExpr.{BareExpr, Var}
use Rattle.cedar_builders.specs.Environment.{empty, fold}
use Rattle.cedar_builders.specs.Ops.{Ops}
use Rattle.cedar_builders.specs.Trees.{tree_ops, sure}
use Rattle.semantics_values.specs.BareValue.{BareCall, BareValue}
use Rattle.semantics_values.specs.ValueExpr.{value_expr, has_extension}
use Rattle.semantics_values.specs.WellFormed.{is_well_formed}
use Rattle.semantics_request.specs.Requests.{Request, value_of, no_request, Knowledge}

-- each value of the request is well formed, and no extension value is inside
pub record IsPlainRequest {X : Type 0} (R : X → X → Ordering) (q : Request X) : Type 0 where
  pub well_formed :
      (v : Variable) (t : BareValue X) → value_of q v ≡ Some t → IsTrue (is_well_formed R t)
  pub plain : (v : Variable) (t : BareValue X) → value_of q v ≡ Some t → has_extension t ≡ false

-- the same entities, but nothing of the request, and nothing bound
abbrev pub of_entities_alone : {X : Type 0} → Knowledge X → Knowledge X
of_entities_alone k = record k { request = no_request; bindings = empty }

-- the same, with nothing bound
abbrev pub with_none_bound : {X : Type 0} → Knowledge X → Knowledge X
with_none_bound k = record k { bindings = empty }

-- C says the canonical call of an extension value
module _ {X : Type 0} (C : X → BareCall) where
  -- the expression of a value, if it is known, else the tree
  abbrev pub value_or : Option (BareValue X) → BareExpr → BareExpr
  value_or None e = e
  value_or (Some t) e = value_expr C t

  -- the builder of trees, but that a variable becomes its value's expression
  abbrev pub put_ops : Request X → Ops BareExpr ⊥
  put_ops q = record tree_ops { var_of = λ v. value_or (value_of q v) (Var v) }

  -- a condition with the request and the bindings put in
  abbrev pub put : Knowledge X → BareExpr → BareExpr
  put k e = sure (fold (put_ops k.request) k.bindings e)
