-- Values whose expression is being written (`Value::to_expr` of Cedar's `value.rs`): a value inside comes next, and the sets and records around it wait.
use Rattle.std.specs.Prelude.{ℕ, ◌+◌, List, ◌∷◌, ◌++◌, map, Option, IsTrue}
use Rattle.std.specs.Global.{Global}
use Rattle.std.specs.List.{list_all}
use Rattle.std.specs.Option.{option_copied}
use Rattle.std.specs.Rc.{rc_str_bytes}
use Rattle.std.specs.Slice.Iter.{iter_rest}
use Rattle.std.specs.declared.rc.RcStr.{RcStr}
use Rattle.cedar_names.specs.Place.{Place}
use Rattle.cedar_builders.specs.BareExpr.{BareExpr, Set, Record, trees_of, fields_of}
use Rattle.cedar_builders.specs.Keys.{IsAscending, keys_of, meant_pairs}
use Rattle.cedar_builders.specs.Restricted.{is_restricted}
use Rattle.cedar_exprs.specs.BareExpr.{bare_expr, expr_place}
use Rattle.cedar_exprs.specs.declared.expr.Expr.{Expr}
use Rattle.semantics_values.specs.BareValue.{BareCall}
use Rattle.semantics_values.specs.ValueExpr.{value_expr}
use Rattle.cedar_values.specs.BareValues.{bare_value}
use Rattle.cedar_values.specs.Conversions.{bare_pairs}
use Rattle.cedar_values.specs.Counts.{nodes, nodes_of, pair_nodes}
use Rattle.cedar_values.specs.declared.to_expr.SetRow.{SetRow}
use Rattle.cedar_values.specs.declared.to_expr.RecordRow.{RecordRow}
use Rattle.cedar_values.specs.declared.to_expr.Waiting.{Waiting}
use Rattle.cedar_values.specs.declared.to_expr.Waiting.TheVariants.{InSet, InRecord}
use Rattle.cedar_values.specs.declared.to_expr.Step.{Step}
use Rattle.cedar_values.specs.declared.to_expr.Step.TheVariants.{Made, Into}
use Rattle.cedar_values.specs.declared.value.Value.{Value}

-- how many values are left in what waits, after a step
abbrev pub row_left : {X : Type 0} → Waiting X → ℕ
row_left (InSet m) = nodes_of (iter_rest m.rest)
row_left (InRecord m k) = pair_nodes (bare_pairs m.rest)

abbrev pub step_left : {X : Type 0} → Step X → ℕ
step_left (Made e) = 0
step_left (Into w v) = nodes (bare_value v.now) + row_left w

-- where what waits stands, and the expression of a step
abbrev pub row_place : {X : Type 0} → Waiting X → Option Place
row_place (InSet m) = option_copied m.loc
row_place (InRecord m k) = option_copied m.loc

abbrev pub step_place : {X : Type 0} → Step X → Option Place
step_place (Made e) = expr_place e
step_place (Into w v) = row_place w

module _ {X : Type 0} (C : X → BareCall) where
  -- the expression of a value, where C says the canonical representation of an extension value
  abbrev pub written : Value X → BareExpr
  written v = value_expr C (bare_value v)

  -- the expression of a set, of a record, of which some are written and the others come next
  abbrev pub members_tree : SetRow X → BareExpr
  members_tree m = Set (trees_of (map bare_expr m.exprs.items ++ map written (iter_rest m.rest)))

  abbrev pub pairs_tree : RecordRow X → BareExpr
  pairs_tree m = Record (fields_of (meant_pairs bare_expr m.exprs.entries ++ meant_pairs written m.rest))

  -- what waits, with an expression for the value inside that comes next
  abbrev pub filled : Waiting X → BareExpr → BareExpr
  filled (InSet m) t = Set (trees_of (map bare_expr m.exprs.items ++ t ∷ map written (iter_rest m.rest)))
  filled (InRecord m k) t = Record (fields_of (meant_pairs bare_expr m.exprs.entries ++ (rc_str_bytes k, t) ∷ meant_pairs written m.rest))

  -- the expression that a step goes on to
  abbrev pub step_tree : Step X → BareExpr
  step_tree (Made e) = bare_expr e
  step_tree (Into w v) = filled w (written v.now)

-- expressions that are restricted, of members and of pairs
abbrev pub AreRestricted : List (Expr Unit) → Type 0
AreRestricted es = IsTrue (list_all (λ e. is_restricted (bare_expr e)) es)

abbrev pub ArePairsRestricted : List (RcStr Global × Expr Unit) → Type 0
ArePairsRestricted es = IsTrue (list_all (λ e. is_restricted (bare_expr e.1)) es)

-- what is written is restricted, and the keys ascend
abbrev pub IsRow : {X : Type 0} → Waiting X → Type 0
IsRow (InSet m) = AreRestricted m.exprs.items
IsRow (InRecord m k) = ArePairsRestricted m.exprs.entries × IsAscending (keys_of m.exprs.entries ++ rc_str_bytes k ∷ keys_of m.rest)

abbrev pub IsStep : {X : Type 0} → Step X → Type 0
IsStep (Made e) = IsTrue (is_restricted (bare_expr e))
IsStep (Into w v) = IsRow w
