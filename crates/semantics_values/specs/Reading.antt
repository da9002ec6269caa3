-- The value of an expression (`Value::try_from_expr` of Cedar's `value.rs`).
use Rattle.std.specs.Prelude.{◌≡◌, ⊤, Bool, true, false, not, List, [], ◌∷◌, IsTrue}
use Rattle.std.specs.List.{list_all}
use Rattle.std.specs.declared.cmp.Ordering.{Ordering}
use Rattle.cedar_sorted_slices.specs.Classes.{IsClassesOf}
use Rattle.cedar_builders.specs.BareExpr.{BareExpr, Lit, Set, Record, BareExprs, no_trees, tree, BareFields, no_fields, field}
use Rattle.cedar_builders.specs.Walks.{preorder}
use Rattle.semantics_values.specs.BareValue.{BareValue, LitValue, SetValue, RecordValue, values_of, BarePairs, no_pairs, pair}
use Rattle.semantics_values.specs.ValueOrder.{value_cmp, value_eq}
use Rattle.semantics_values.specs.ValueExpr.{has_extension}

-- whether a node is a literal, a set or a record
abbrev pub is_readable_node : BareExpr → Bool
is_readable_node (Lit l) = true
is_readable_node (Set es) = true
is_readable_node (Record fs) = true
is_readable_node e = false

-- whether each node is a literal, a set or a record
abbrev pub is_readable : BareExpr → Bool
is_readable e = list_all is_readable_node (preorder e)

abbrev mutual
  -- the value is that of the tree: of a set, the strictly ascending list of its members' values
  pub IsValueOf : {X : Type 0} → (X → X → Ordering) → BareExpr → BareValue X → Type 0
  IsValueOf R (Lit l) t = t ≡ LitValue l
  IsValueOf {X} R (Set es) t =
      (us : List (BareValue X)) × AreValuesOf R es us
      × (ts : List (BareValue X)) × IsClassesOf (value_cmp R) ts us × (t ≡ SetValue (values_of ts))
  IsValueOf {X} R (Record fs) t = (ps : BarePairs X) × ArePairsOf R fs ps × (t ≡ RecordValue ps)
  IsValueOf R e t = ⊥

  -- these are values of expressions, one by one
  pub AreValuesOf : {X : Type 0} → (X → X → Ordering) → BareExprs → List (BareValue X) → Type 0
  AreValuesOf R no_trees [] = ⊤
  AreValuesOf R no_trees (t ∷ ts) = ⊥
  AreValuesOf R (tree e es) [] = ⊥
  AreValuesOf R (tree e es) (t ∷ ts) = IsValueOf R e t × AreValuesOf R es ts

  -- the same keys, with values of their expressions
  pub ArePairsOf : {X : Type 0} → (X → X → Ordering) → BareFields → BarePairs X → Type 0
  ArePairsOf R no_fields no_pairs = ⊤
  ArePairsOf R no_fields (pair l t ps) = ⊥
  ArePairsOf R (field k e fs) no_pairs = ⊥
  ArePairsOf R (field k e fs) (pair l t ps) = (l ≡ k) × IsValueOf R e t × ArePairsOf R fs ps

-- what is read back of the expression e of a value t: something just where no extension value is
-- inside t, and then t itself, as every value that is read there is the same as t
pub record ReadsBack {X : Type 0} (R : X → X → Ordering) (E : X → X → Bool)
    (e : BareExpr) (t : BareValue X) : Type 0 where
  pub readable : is_readable e ≡ not (has_extension t)
  pub gives : has_extension t ≡ false → IsValueOf R e t
  pub only : (u : BareValue X) → IsValueOf R e u → IsTrue (value_eq E u t)
