-- What a store answers.
use Rattle.std.specs.Prelude.{Bool, false}
use Rattle.cedar_terms.specs.Entities.{BareEntityUID}
use Rattle.semantics_values.specs.BareValue.{BarePairs}
use Rattle.semantics_request.specs.Entities as meant
use Rattle.cedar_request.specs.declared.store.Dereference.{Dereference}
use Rattle.cedar_request.specs.declared.store.Dereference.TheVariants.{NotKnown, NoSuchEntity, Data}

-- what is known of an entity, where its data say its attributes and its tags, and a test says which
-- entities are its ancestors
abbrev pub dereferenced :
    {E X : Type 0} → (E → BarePairs X) → (E → BarePairs X) → (BareEntityUID → Bool)
    → Dereference E → meant.Dereference X
dereferenced attributes tags above NotKnown = meant.NotKnown
dereferenced attributes tags above NoSuchEntity = meant.NoSuchEntity
dereferenced attributes tags above (Data e) =
    meant.Data (record {
      attributes = attributes e.now;
      tags = tags e.now;
      is_descendant_of = above;
    })

-- whether an entity is a descendant of another: one that is not known or not there is of none
abbrev pub is_descendant_in : {X : Type 0} → meant.Dereference X → BareEntityUID → Bool
is_descendant_in (meant.Data d) v = d.is_descendant_of v
is_descendant_in f v = false
