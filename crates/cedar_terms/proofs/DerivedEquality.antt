-- The derived comparison of schema types goes level by level.
use Rattle.std.proofs.Common.{◌≡◌, Bool, refl, ◌∙◌}
use Rattle.std.specs.Bool.{Decides}
use Rattle.cedar_terms.specs.SchemaTypes.{bare_schema_type}
use Rattle.cedar_terms.specs.declared.schema_type.SchemaType.{SchemaType, out-SchemaType}
use Rattle.cedar_terms.specs.declared.schema_type.SchemaType.TheVariants as variant
use Rattle.cedar_terms.specs.contracts.schema_type.SchemaTypePartialEq.TheImpl as derived_eq
use Rattle.cedar_terms.specs.contracts.schema_type.SchemaTypePartialEq.TheImpl.Laws as derived_laws
use Rattle.cedar_terms.proofs.SchemaEquality.{layer_eq, decides_same}

abbrev schema_same : SchemaType → SchemaType → Bool
schema_same = (derived_eq.ghosts).eq

layers : (s t : SchemaType) → derived_laws.unfolded s t ≡ layer_eq schema_same (out-SchemaType s) (out-SchemaType t)
unfolding out-SchemaType denote.Hole.Carrier.out
layers variant.Bool variant.Bool = refl
layers variant.Long variant.Long = refl
layers variant.String variant.String = refl
layers variant.EmptySet variant.EmptySet = refl
layers (variant.Entity _) (variant.Entity _) = refl
layers (variant.Extension _) (variant.Extension _) = refl
layers (variant.Set' _ _) (variant.Set' _ _) = refl
layers (variant.Record' _ _) (variant.Record' _ _) = refl
layers s t = refl

levels : (s t : SchemaType) → schema_same s t ≡ layer_eq schema_same (out-SchemaType s) (out-SchemaType t)
levels s t = derived_laws.is s t ∙ layers s t

pub schema_eq_decides : (s t : SchemaType) → Decides (schema_same s t) (bare_schema_type s ≡ bare_schema_type t)
schema_eq_decides = decides_same schema_same levels
