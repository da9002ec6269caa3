-- What a kind of values holds.
use Rattle.std.specs.Prelude.{◌≡◌, List}
use Rattle.std.specs.Global.{Global}
use Rattle.std.specs.declared.cmp.Ordering.{Ordering}
use Rattle.std.specs.declared.rc.RcStr.{RcStr}
use Rattle.cedar_terms.specs.Literals.{bare_literal, literal_place}
use Rattle.cedar_values.specs.BareValues.{bare_value, bare_value_kind, kind_of, value_place}
use Rattle.cedar_values.specs.Sets.{members}
use Rattle.cedar_values.specs.WellFormed.{kind_well_formed, well_formed}
use Rattle.cedar_values.specs.declared.set.Set as set
use Rattle.cedar_values.specs.declared.value.Value.{Value}
use Rattle.cedar_values.specs.declared.value.ValueKind.{ValueKind, out-ValueKind}
use Rattle.cedar_values.specs.declared.value.ValueKind.TheOpen.{ValueKind-F}

-- it is a set, of which P holds
abbrev pub is_set_with : {X K : Type 0} → (set.Set X → Type 0) → ValueKind-F X K (set.Set X) (Value X) → Type 0
is_set_with P (ValueKind-F.Lit l) = ⊥
is_set_with P (ValueKind-F.Set s) = P s
is_set_with P (ValueKind-F.Record m) = ⊥
is_set_with P (ValueKind-F.ExtensionValue e) = ⊥

-- the kind is a set of which this holds
abbrev pub IsSetWith : {X : Type 0} → (set.Set X → Type 0) → ValueKind X → Type 0
IsSetWith {X} P k = is_set_with P (out-ValueKind X k)

-- it is a record, of whose keys and values P holds
abbrev pub is_record_with : {X K : Type 0} → (List (RcStr Global × Value X) → Type 0) → ValueKind-F X K (set.Set X) (Value X) → Type 0
is_record_with P (ValueKind-F.Lit l) = ⊥
is_record_with P (ValueKind-F.Set s) = ⊥
is_record_with P (ValueKind-F.Record m) = P m.value.entries
is_record_with P (ValueKind-F.ExtensionValue e) = ⊥

-- the kind is a record whose entries have this
abbrev pub IsRecordWith : {X : Type 0} → (List (RcStr Global × Value X) → Type 0) → ValueKind X → Type 0
IsRecordWith {X} P k = is_record_with P (out-ValueKind X k)

-- the two hold the same, with all places and representations inside
abbrev pub is_copy : {X K : Type 0} → ValueKind-F X K (set.Set X) (Value X) → ValueKind-F X K (set.Set X) (Value X) → Type 0
is_copy (ValueKind-F.Lit l) (ValueKind-F.Lit k) =
    (bare_literal k ≡ bare_literal l) × (literal_place k ≡ literal_place l)
is_copy (ValueKind-F.Set s) (ValueKind-F.Set t) = members t ≡ members s
is_copy (ValueKind-F.Record m) (ValueKind-F.Record n) = n.value.entries ≡ m.value.entries
is_copy (ValueKind-F.ExtensionValue a) (ValueKind-F.ExtensionValue b) = b.value ≡ a.value
is_copy x y = ⊥

-- the second kind is a copy of the first: an equal literal, the same members or entries, the same extension value
abbrev pub IsCopy : {X : Type 0} → ValueKind X → ValueKind X → Type 0
IsCopy {X} k l = is_copy (out-ValueKind X k) (out-ValueKind X l)

-- the second is a copy of the first: the same tree, the same inside, and well formed where the first is
abbrev pub IsKindCopy : {X : Type 0} → ValueKind X → ValueKind X → Type 0
IsKindCopy {X} k copy =
    (bare_value_kind copy ≡ bare_value_kind k) × IsCopy k copy
    × ((R : X → X → Ordering) → kind_well_formed R copy ≡ kind_well_formed R k)

-- the same of values, at one place
abbrev pub IsValueCopy : {X : Type 0} → Value X → Value X → Type 0
IsValueCopy {X} v copy =
    (bare_value copy ≡ bare_value v) × (value_place copy ≡ value_place v)
    × IsCopy (kind_of v) (kind_of copy)
    × ((R : X → X → Ordering) → well_formed R copy ≡ well_formed R v)
