-- Expressions whose value is being read (`Value::try_from_expr` of Cedar's `value.rs`): an expression inside comes next, and the sets and records around it wait.
use Rattle.std.specs.Prelude.{◌≡◌, ℕ, ◌+◌, List, ◌∷◌, ◌++◌, map, IsTrue}
use Rattle.std.specs.BTreeMap.{BTreeMap}
use Rattle.std.specs.Global.{Global}
use Rattle.std.specs.List.{AllZip, list_all}
use Rattle.std.specs.List.Sorted.{IsStrictlySortedBy}
use Rattle.std.specs.Map.{keys_of}
use Rattle.std.specs.Rc.{rc_str_bytes}
use Rattle.std.specs.Slice.Iter.{iter_rest}
use Rattle.std.specs.declared.cmp.Ordering.{Ordering}
use Rattle.std.specs.declared.rc.Rc.{Rc}
use Rattle.std.specs.declared.rc.RcStr.{RcStr}
use Rattle.std.specs.declared.vec.Vec.{Vec}
use Rattle.cedar_builders.specs.Count.{count, total}
use Rattle.cedar_exprs.specs.BareExpr.{bare_expr, expr_place, kind_of}
use Rattle.cedar_exprs.specs.declared.expr.Expr.{Expr}
use Rattle.cedar_exprs.specs.declared.expr.KindOf.TheVariants.{Set, Record}
use Rattle.semantics_values.specs.Reading.{IsValueOf}
use Rattle.cedar_values.specs.BareValues.{bare_value, value_place}
use Rattle.cedar_values.specs.Records.{key_cmp}
use Rattle.cedar_values.specs.WellFormed.{well_formed}
use Rattle.cedar_values.specs.declared.from_expr.Step.{Step}
use Rattle.cedar_values.specs.declared.from_expr.Step.TheVariants.{Read, Into}
use Rattle.cedar_values.specs.declared.from_expr.Waiting.{Waiting}
use Rattle.cedar_values.specs.declared.from_expr.Waiting.TheVariants.{InSet, InRecord}
use Rattle.cedar_values.specs.declared.value.Value.{Value}

-- the nodes of some expressions, and of the values of some pairs
abbrev pub expr_nodes : List (Expr Unit) → ℕ
expr_nodes es = total (map bare_expr es)

abbrev pub pair_nodes : List (RcStr Global × Expr Unit) → ℕ
pair_nodes es = expr_nodes (map (λ e. e.1) es)

-- how many nodes are left in what waits, after a step
abbrev pub row_left : {X : Type 0} → Waiting X → ℕ
row_left (InSet row) = expr_nodes (iter_rest row.rest)
row_left (InRecord row k) = pair_nodes row.rest

abbrev pub step_left : {X : Type 0} → Step X → ℕ
step_left (Read v) = 0
step_left (Into w e) = count (bare_expr e.now) + row_left w

-- the set or the record that waits
abbrev pub row_expr : {X : Type 0} → Waiting X → Expr Unit
row_expr (InSet row) = row.expr.now
row_expr (InRecord row k) = row.expr.now

module _ {X : Type 0} (R : X → X → Ordering) where
  -- the value of an expression, and of a pair
  abbrev pub IsRead : Expr Unit → Value X → Type 0
  IsRead e v = IsValueOf R (bare_expr e) (bare_value v)

  abbrev pub IsReadPair : RcStr Global × Expr Unit → RcStr Global × Value X → Type 0
  IsReadPair e v = (rc_str_bytes v.0 ≡ rc_str_bytes e.0) × IsRead e.1 v.1

  -- the first members of a set are read, and these are left
  pub record IsSetRead (e : Expr Unit) (vs : List (Value X)) (left : List (Expr Unit)) : Type 0 where
    pub all : Rc (Vec (Expr Unit) Global) Global
    pub is_set : kind_of e ≡ Set all
    pub seen : List (Expr Unit)
    pub parts : all.value.items ≡ seen ++ left
    pub read : AllZip IsRead seen vs
    pub kept : IsTrue (list_all (well_formed R) vs)

  -- the first pairs of a record are read, and these are left
  pub record IsRecordRead (e : Expr Unit) (vs : List (RcStr Global × Value X)) (left : List (RcStr Global × Expr Unit)) : Type 0 where
    pub all : Rc (BTreeMap (RcStr Global) (Expr Unit)) Global
    pub is_record : kind_of e ≡ Record all
    pub ascending : IsStrictlySortedBy key_cmp (keys_of all.value.entries)
    pub seen : List (RcStr Global × Expr Unit)
    pub parts : all.value.entries ≡ seen ++ left
    pub read : AllZip IsReadPair seen vs
    pub kept : IsTrue (list_all (λ e. well_formed R e.1) vs)

  -- what waits for the value of an expression
  abbrev pub IsFor : Waiting X → Expr Unit → Type 0
  IsFor (InSet row) e = IsSetRead row.expr.now row.values.items (e ∷ iter_rest row.rest)
  IsFor (InRecord row k) e = (l : RcStr Global) × (rc_str_bytes k ≡ rc_str_bytes l) × IsRecordRead row.expr.now row.values.entries ((l, e) ∷ row.rest)

  -- what waits for a value
  abbrev pub IsNext : Waiting X → Value X → Type 0
  IsNext w v = (e : Expr Unit) × IsFor w e × IsRead e v × IsTrue (well_formed R v)

  -- a step to the value of an expression: that value at its place, or the expression waits
  abbrev pub IsStepFor : Expr Unit → Step X → Type 0
  IsStepFor e (Read v) = IsRead e v × IsTrue (well_formed R v) × (value_place v ≡ expr_place e)
  IsStepFor e (Into w d) = IsFor w d.now × (row_expr w ≡ e)
