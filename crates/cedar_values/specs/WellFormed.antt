-- Well formed values and sets: the list of each set inside ascends strictly, and its literals are kept
-- by hash exactly where all its members are literals.
use Rattle.std.specs.Prelude.{Bool, true, ◌&&◌, map, option_map}
use Rattle.std.specs.List.{list_all}
use Rattle.std.specs.declared.cmp.Ordering.{Ordering}
use Rattle.semantics_values.specs.BareValue.{SetValue}
use Rattle.semantics_values.specs.WellFormed.{is_well_formed}
use Rattle.cedar_values.specs.BareValues.{bare_value, bare_value_kind, bare_set}
use Rattle.cedar_values.specs.HashForms.{is_hash_form, literals_of}
use Rattle.cedar_values.specs.declared.value.Value.{Value, para-Value}
use Rattle.cedar_values.specs.declared.value.ValueKind.{ValueKind, para-ValueKind}
use Rattle.cedar_values.specs.declared.value.ValueKind.TheOpen.{ValueKind-F, Value-F, Set-F}
use Rattle.cedar_values.specs.declared.set.Set.{Set, para-Set}

-- one level of a value: the hash form of a set, where each value inside comes with whether all sets
-- in it have theirs
abbrev pub kind_hashed : {X : Type 0} → ValueKind-F X (ValueKind X × Bool) (Set X × Bool) (Value X × Bool) → Bool
kind_hashed (ValueKind-F.Lit l) = true
kind_hashed (ValueKind-F.Set s) = s.1
kind_hashed (ValueKind-F.Record m) = list_all (λ e. e.1.1) m.value.entries
kind_hashed (ValueKind-F.ExtensionValue e) = true

abbrev pub set_hashed : {X : Type 0} → Set-F X (ValueKind X × Bool) (Set X × Bool) (Value X × Bool) → Bool
set_hashed s =
    is_hash_form (map bare_value (map (λ e. e.0) s.authoritative.value.items)) (option_map (λ h. literals_of h.value) s.fast)
    && list_all (λ e. e.1) s.authoritative.value.items

abbrev pub value_hashed : {X : Type 0} → Value-F X (ValueKind X × Bool) (Set X × Bool) (Value X × Bool) → Bool
value_hashed v = v.value.1

-- whether each set inside a kind, a set itself or a value has its hash form
unfoldable pub is_kind_hashed : {X : Type 0} → ValueKind X → Bool
is_kind_hashed {X} = para-ValueKind X Bool Bool Bool kind_hashed set_hashed value_hashed

unfoldable pub is_set_hashed : {X : Type 0} → Set X → Bool
is_set_hashed {X} = para-Set X Bool Bool Bool kind_hashed set_hashed value_hashed

unfoldable pub is_hashed : {X : Type 0} → Value X → Bool
is_hashed {X} = para-Value X Bool Bool Bool kind_hashed set_hashed value_hashed

-- whether a value is well formed
unfoldable pub well_formed : {X : Type 0} → (X → X → Ordering) → Value X → Bool
well_formed R v = is_well_formed R (bare_value v) && is_hashed v

-- whether a kind is well formed
unfoldable pub kind_well_formed : {X : Type 0} → (X → X → Ordering) → ValueKind X → Bool
kind_well_formed R k = is_well_formed R (bare_value_kind k) && is_kind_hashed k

-- whether a set is well formed
unfoldable pub set_well_formed : {X : Type 0} → (X → X → Ordering) → Set X → Bool
set_well_formed R s = is_well_formed R (SetValue (bare_set s)) && is_set_hashed s
