-- Values at their places.
use Rattle.std.specs.Prelude.{◌≡◌, List, map, Bool, true, false, Option, Some, None, if◌then◌else◌}
use Rattle.std.specs.List.{list_all}
use Rattle.cedar_names.specs.Place.{Place}
use Rattle.cedar_terms.specs.Literals.{BareLiteral}
use Rattle.cedar_terms.specs.declared.literal.Literal.{Literal}
use Rattle.semantics_values.specs.BareValue.{BareValue, LitValue, SetValue, RecordValue, ExtensionValue}
use Rattle.cedar_values.specs.BareValues.{bare_value, kind_of}
use Rattle.cedar_values.specs.declared.value.Value.{Value, roll-Value}
use Rattle.cedar_values.specs.declared.value.ValueKind.{ValueKind}
use Rattle.cedar_values.specs.declared.value.ValueKind.TheVariants.{Lit}

-- a value of this kind at this place, if any
abbrev pub value_at : {X : Type 0} → ValueKind X → Option Place → Value X
value_at {X} k p = roll-Value X (record { value = k; loc = p })

-- the same value at no place; the places inside stay
abbrev pub unplaced : {X : Type 0} → Value X → Value X
unplaced v = value_at (kind_of v) None

-- a literal as a value at no place
abbrev pub literal_value : {X : Type 0} → Literal → Value X
literal_value l = value_at (Lit l) None

-- a kind, a value at no place, that is a literal which C says of what is converted
abbrev pub IsLiteralKindFrom : {X L : Type 0} → (L → Literal → Type 0) → L → ValueKind X → Type 0
IsLiteralKindFrom C l k = (literal : Literal) × C l literal × (k ≡ Lit literal)

abbrev pub IsLiteralFrom : {X L : Type 0} → (L → Literal → Type 0) → L → Value X → Type 0
IsLiteralFrom C l v = (literal : Literal) × C l literal × (v ≡ literal_value literal)

-- whether a value is a literal
abbrev pub is_lit_value : {X : Type 0} → BareValue X → Bool
is_lit_value (LitValue l) = true
is_lit_value (SetValue ts) = false
is_lit_value (RecordValue ps) = false
is_lit_value (ExtensionValue x g) = false

-- the literal that a value is, if it is one
abbrev pub literal_of : {X : Type 0} → BareValue X → Option BareLiteral
literal_of (LitValue l) = Some l
literal_of (SetValue ts) = None
literal_of (RecordValue ps) = None
literal_of (ExtensionValue x g) = None

-- literals alone lose their places; any other values stay as they are
abbrev pub gathered : {X : Type 0} → List (Value X) → List (Value X)
gathered vs = if list_all (λ v. is_lit_value (bare_value v)) vs then map unplaced vs else vs
