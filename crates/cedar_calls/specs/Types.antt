-- Of which types the answers of a function are (`ExtensionFunction` of Cedar's `extension.rs`).
use Rattle.std.specs.Prelude.{◌≡◌, ⊤, Bool, true, false, Option, Some, None, List, [], ◌∷◌, Ok, Err}
use Rattle.std.specs.Coded.{Unit-prop}
use Rattle.cedar_names.specs.Names.{BareName}
use Rattle.cedar_terms.specs.declared.schema_type.SchemaType.{SchemaType}
use Rattle.cedar_terms.specs.SchemaTypes as schema
use Rattle.cedar_terms.specs.SchemaTypes.{BareSchemaType, SchemaString, SchemaExtension, bare_schema_type}
use Rattle.cedar_terms.specs.Types.{BareType}
use Rattle.semantics_values.specs.ValueTypes.{value_type}
use Rattle.cedar_values.specs.BareValues.{bare_value}
use Rattle.cedar_values.specs.declared.partial_value.PartialValue.{PartialValue}
use Rattle.cedar_values.specs.declared.partial_value.PartialValue.TheVariants as partials
use Rattle.cedar_calls.specs.BareTypes.{BareType-set}
use Rattle.cedar_calls.specs.OutputValues.{Answer}
use Rattle.cedar_calls.specs.declared.output_value.ExtensionOutputValue.TheVariants.{Known, Unknown}

-- the type that values of the declared type have at run time
abbrev pub declared : Option SchemaType → Option BareType
declared None = None
declared (Some t) = Some (schema.value_type (bare_schema_type t))

-- an answer that is a value has this type, where N says the name of an extension value's type; with
-- no type given, no answer is a value
abbrev pub Keeps : {X : Type 0} → (X → BareName) → Option BareType → Answer X → Type 0
Keeps N (Some ty) (Ok (Known v)) = value_type N (bare_value v) ≡ ty
Keeps N None (Ok (Known v)) = ⊥
Keeps N (Some ty) (Ok (Unknown u)) = ⊤
Keeps N None (Ok (Unknown u)) = ⊤
Keeps N (Some ty) (Err e) = ⊤
Keeps N None (Err e) = ⊤

-- that it does so has one proof at most
pub Keeps-prop : {X : Type 0} (N : X → BareName) (ty : Option BareType) (r : Answer X)
    → IsProp (Keeps N ty r)
Keeps-prop N (Some ty) (Ok (Known v)) = BareType-set _ _
Keeps-prop N None (Ok (Known v)) = hlevel
Keeps-prop N (Some ty) (Ok (Unknown u)) = Unit-prop
Keeps-prop N None (Ok (Unknown u)) = Unit-prop
Keeps-prop N (Some ty) (Err e) = Unit-prop
Keeps-prop N None (Err e) = Unit-prop

-- an answer that is no value may be declared of each type
pub no_value_keeps : {X : Type 0} (N : X → BareName) (ty : Option BareType) (r : Answer X)
    → Keeps N None r → Keeps N ty r
no_value_keeps N None r h = h
no_value_keeps N (Some ty) (Ok (Known v)) h = absurd h
no_value_keeps N (Some ty) (Ok (Unknown u)) h = tt
no_value_keeps N (Some ty) (Err e) h = tt

-- the same of what a call answers: with no type given, it is a residual
abbrev pub IsOfType : {X : Type 0} → (X → BareName) → Option BareType → PartialValue X → Type 0
IsOfType N (Some ty) (partials.Value v) = value_type N (bare_value v) ≡ ty
IsOfType N None (partials.Value v) = ⊥
IsOfType N ty (partials.Residual e) = ⊤

-- an extension value is made of one text
abbrev pub makes_of_text : Option BareSchemaType → List BareSchemaType → Bool
makes_of_text (Some (SchemaExtension n)) (SchemaString ∷ []) = true
makes_of_text ty types = false
