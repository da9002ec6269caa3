-- Stores of the entities that JSON lists.
use Rattle.std.specs.Prelude.{◌≡◌, ℕ, Bool, false, List, [], ◌∷◌, map, Some, ⊤}
use Rattle.std.specs.Ordering.{on}
use Rattle.std.specs.declared.cmp.Ord as Ord
use Rattle.std.specs.declared.cmp.PartialEq as PartialEq
use Rattle.std.specs.declared.cmp.PartialOrd as PartialOrd
use Rattle.serde_json.specs.Data.{Data, Items}
use Rattle.serde_json.specs.Find.{as_array}
use Rattle.serde_json.specs.Read.{read}
use Rattle.cedar_sorted_slices.specs.Classes.{IsClassesOf}
use Rattle.cedar_ancestors.specs.Hierarchies.{HasNoCycle}
use Rattle.cedar_ancestors.specs.Stores.{HasMore}
use Rattle.cedar_terms.specs.Entities.{bare_entity_uid}
use Rattle.cedar_terms.specs.EntityOrder.{entity_uid_cmp}
use Rattle.cedar_builders.specs.Keys.{meant_pairs}
use Rattle.cedar_exprs.specs.BareExpr.{bare_expr}
use Rattle.cedar_values.specs.declared.well_formed.WellFormedValue.{WellFormedValue}
use Rattle.cedar_entities.specs.Parts.{attributes_of, parents_of, tags_of, uid_of}
use Rattle.cedar_entities.specs.Stores.{entities_of, is_part}
use Rattle.cedar_entities.specs.declared.entities.Entities.{Entities}
use Rattle.cedar_entities.specs.declared.entity.Entity.{Entity}
use Rattle.cedar_functions.specs.declared.extension.BuiltinExtension.{BuiltinExtension}
use Rattle.cedar_json.specs.Entities.{AreEntities, parts_of}
use Rattle.cedar_json.specs.declared.entities.EntityJson.{EntityJson}
use Rattle.cedar_inputs.specs.Values.{AreNamedValues}

-- o, e and p are the comparisons of extension values
module _ {o : Ord.Ghosts BuiltinExtension} {e : PartialEq.Ghosts BuiltinExtension}
    {p : PartialOrd.Ghosts BuiltinExtension} where
  -- an entity has what JSON gives it: its attributes and its tags have the values of the expressions
  pub record IsEntityOf
      (j : EntityJson) (x : Entity (WellFormedValue BuiltinExtension o e p)) : Type 0 where
    pub uid : uid_of x ≡ j.uid
    pub attributes : AreNamedValues (meant_pairs bare_expr j.attributes.items) (attributes_of x)
    pub tags : AreNamedValues (meant_pairs bare_expr j.tags.items) (tags_of x)
    pub parents : IsClassesOf (on bare_entity_uid entity_uid_cmp) (parents_of x) j.parents.items

  -- so has each of these
  abbrev pub AreEntitiesOf :
      List EntityJson → List (Entity (WellFormedValue BuiltinExtension o e p)) → Type 0
  AreEntitiesOf [] [] = ⊤
  AreEntitiesOf [] (x ∷ xs) = ⊥
  AreEntitiesOf (j ∷ js) [] = ⊥
  AreEntitiesOf (j ∷ js) (x ∷ xs) = IsEntityOf j x × AreEntitiesOf js xs

  -- a store has the entities that are listed, where F is the equality of entities
  pub record HasListed
      (F : Entity (WellFormedValue BuiltinExtension o e p)
      → Entity (WellFormedValue BuiltinExtension o e p) → Bool)
      (js : List EntityJson) (s : Entities (WellFormedValue BuiltinExtension o e p)) :
      Type 0 where
    pub entities : List (Entity (WellFormedValue BuiltinExtension o e p))
    pub each : AreEntitiesOf js entities
    pub added :
        HasMore (on bare_entity_uid entity_uid_cmp) F uid_of [] (entities_of s) entities
    pub whole : is_part s ≡ false
    pub acyclic : HasNoCycle (on bare_entity_uid entity_uid_cmp) parents_of (entities_of s)

  -- it has those that a JSON text lists
  pub record IsStoreOf
      (F : Entity (WellFormedValue BuiltinExtension o e p)
      → Entity (WellFormedValue BuiltinExtension o e p) → Bool)
      (text : List ℕ) (s : Entities (WellFormedValue BuiltinExtension o e p)) : Type 0 where
    pub json : Data
    pub parsed : read text ≡ Some json
    pub items : Items
    pub array : as_array json ≡ Some items
    pub listed : List EntityJson
    pub stand : AreEntities items (map parts_of listed)
    pub has : HasListed F listed s
