-- Errors of stores of entities, and those of stores of any entries.
use Rattle.cedar_ancestors.specs.declared.store.StoreError.{StoreError}
use Rattle.cedar_ancestors.specs.declared.store.StoreError.TheVariants as store
use Rattle.cedar_terms.specs.declared.entity.EntityUID.{EntityUID}
use Rattle.cedar_entities.specs.declared.entities_error.EntitiesError.{EntitiesError}
use Rattle.cedar_entities.specs.declared.entities_error.EntitiesError.TheVariants as entities

-- the error that says the same
abbrev pub error_of : StoreError EntityUID → EntitiesError
error_of (store.Duplicate u) = entities.Duplicate u
error_of (store.Cycle u) = entities.Cycle u
error_of (store.MissingParent u) = entities.MissingParent u
error_of store.Memory = entities.Memory

-- and back
abbrev pub store_error : EntitiesError → StoreError EntityUID
store_error (entities.Duplicate u) = store.Duplicate u
store_error (entities.Cycle u) = store.Cycle u
store_error (entities.MissingParent u) = store.MissingParent u
store_error entities.Memory = store.Memory
