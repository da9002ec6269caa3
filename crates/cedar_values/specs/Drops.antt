-- Steps of a drop, by the values that they leave.
use Rattle.std.specs.Prelude.{ℕ, ◌+◌, ◌<◌, ◌≤◌, ⊤, Bool, true, false, if◌then◌else◌, List, Option, Some, None, IfSome}
use Rattle.std.specs.Global.{Global}
use Rattle.std.specs.declared.rc.RcStr.{RcStr}
use Rattle.cedar_iterative_drop.specs.Rows as rows
use Rattle.cedar_values.specs.BareValues.{bare_value, kind_of}
use Rattle.cedar_values.specs.Counts.{kind_nodes, nodes}
use Rattle.cedar_values.specs.declared.value.Value.{Value}
use Rattle.cedar_values.specs.declared.value.ValueKind.{ValueKind, out-ValueKind}
use Rattle.cedar_values.specs.declared.value.ValueKind.TheOpen.{ValueKind-F}
use Rattle.cedar_values.specs.declared.dropping.Remaining.{Remaining}
use Rattle.cedar_values.specs.declared.dropping.Step.{Step}
use Rattle.cedar_values.specs.declared.dropping.Step.TheVariants.{Into, On, Row, End}

-- the values that a value has, itself and those inside, and those of a set's members, of a record's entries, of the row that may wait
abbrev pub value_nodes : {X : Type 0} → Value X → ℕ
value_nodes v = nodes (bare_value v)

abbrev pub row_nodes : {X : Type 0} → List (Value X) → ℕ
row_nodes = rows.row_nodes value_nodes

abbrev pub entry_nodes : {X : Type 0} → List (RcStr Global × Value X) → ℕ
entry_nodes = rows.pair_nodes value_nodes

abbrev pub waiting_nodes : {X : Type 0} → Option (ValueKind X) → ℕ
waiting_nodes = rows.waiting_nodes kind_nodes

-- whether a kind has values inside
abbrev pub is_branch : {X K S V : Type 0} → ValueKind-F X K S V → Bool
is_branch (ValueKind-F.Lit l) = false
is_branch (ValueKind-F.Set s) = true
is_branch (ValueKind-F.Record r) = true
is_branch (ValueKind-F.ExtensionValue x) = false

-- the kind, if it has values inside
abbrev pub branch_of_kind : {X : Type 0} → ValueKind X → Option (ValueKind X)
branch_of_kind {X} k = if is_branch (out-ValueKind X k) then Some k else None

-- the kind of a value, if it has values inside
abbrev pub branch_of : {X : Type 0} → Value X → Option (ValueKind X)
branch_of v = branch_of_kind (kind_of v)

-- all that is left
abbrev pub all_nodes : {X : Type 0} → Remaining X → ℕ
all_nodes l = kind_nodes l.kind + waiting_nodes l.waiting

-- from a kind of k values, of n in all: no more values and a smaller kind, or fewer values
abbrev pub IsStep : {X : Type 0} → ℕ → ℕ → Step X → Type 0
IsStep k n (Into left) = (kind_nodes left.kind < k) × (all_nodes left ≤ n)
IsStep k n (On left) = all_nodes left < n
IsStep k n (Row row next) = (kind_nodes row ≤ n) × IfSome next (λ left. all_nodes left < n)
IsStep k n End = ⊤
