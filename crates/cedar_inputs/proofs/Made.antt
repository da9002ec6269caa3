-- Values, entities, stores and requests, part by part.
use Rattle.std.proofs.Common.{◌≡◌, ℕ, Bool, false, List, [], map, Some, sym, subst}
use Rattle.std.specs.Global.{Global}
use Rattle.std.specs.Ordering.{on}
use Rattle.std.specs.declared.cmp.Ord as Ord
use Rattle.std.specs.declared.cmp.PartialEq as PartialEq
use Rattle.std.specs.declared.cmp.PartialOrd as PartialOrd
use Rattle.std.specs.declared.rc.RcStr.{RcStr}
use Rattle.serde_json.specs.Data.{Data, Items}
use Rattle.serde_json.specs.Find.{as_array}
use Rattle.serde_json.specs.Read.{read}
use Rattle.cedar_sorted_slices.specs.Classes.{IsClassesOf}
use Rattle.cedar_ancestors.specs.Hierarchies.{HasNoCycle}
use Rattle.cedar_ancestors.specs.Stores.{HasMore}
use Rattle.cedar_terms.specs.Entities.{bare_entity_uid}
use Rattle.cedar_terms.specs.EntityOrder.{entity_uid_cmp}
use Rattle.cedar_builders.specs.BareExpr.{Text, BareExpr}
use Rattle.cedar_builders.specs.Keys.{in_key_order, keyed, meant_pairs}
use Rattle.cedar_exprs.specs.BareExpr.{bare_expr}
use Rattle.cedar_values.specs.declared.well_formed.WellFormedValue.{WellFormedValue}
use Rattle.cedar_entities.specs.Parts.{Named, attributes_of, parents_of, tags_of, uid_of}
use Rattle.cedar_entities.specs.Stores.{entities_of, is_part}
use Rattle.cedar_entities.specs.declared.entities.Entities.{Entities}
use Rattle.cedar_entities.specs.declared.entity.Entity.{Entity}
use Rattle.cedar_functions.specs.declared.extension.BuiltinExtension.{BuiltinExtension}
use Rattle.cedar_json.specs.Entities.{AreEntities, parts_of}
use Rattle.cedar_json.specs.declared.entities.EntityJson.{EntityJson}
use Rattle.cedar_inputs.specs.Entities.{AreEntitiesOf, HasListed, IsEntityOf, IsStoreOf}
use Rattle.cedar_inputs.specs.Values.{AreNamedValues, AreValuesOf}

module _ {o : Ord.Ghosts BuiltinExtension} {e : PartialEq.Ghosts BuiltinExtension}
    {p : PartialOrd.Ghosts BuiltinExtension} where
  -- values by name
  pub named : (ts : List (Text × BareExpr))
      (vs : List (RcStr Global × WellFormedValue BuiltinExtension o e p))
      (m : Named (WellFormedValue BuiltinExtension o e p))
      → AreValuesOf ts (keyed vs) → keyed m.entries ≡ in_key_order (keyed vs)
      → AreNamedValues ts m
  named ts vs m each ordered = record { values = keyed vs; each = each; ordered = ordered }

  -- an entity
  pub entity_made : (j : EntityJson) (x : Entity (WellFormedValue BuiltinExtension o e p))
      (attrs ts : Named (WellFormedValue BuiltinExtension o e p))
      → uid_of x ≡ j.uid → attributes_of x ≡ attrs → tags_of x ≡ ts
      → IsClassesOf (on bare_entity_uid entity_uid_cmp) (parents_of x) j.parents.items
      → AreNamedValues (meant_pairs bare_expr j.attributes.items) attrs
      → AreNamedValues (meant_pairs bare_expr j.tags.items) ts → IsEntityOf j x
  entity_made j x attrs ts uid is_as is_ts parents attributes tags = record {
    uid = uid;
    attributes =
        subst (AreNamedValues (meant_pairs bare_expr j.attributes.items)) (sym is_as) attributes;
    tags = subst (AreNamedValues (meant_pairs bare_expr j.tags.items)) (sym is_ts) tags;
    parents = parents;
  }

  module _ (F : Entity (WellFormedValue BuiltinExtension o e p)
      → Entity (WellFormedValue BuiltinExtension o e p) → Bool) where
    -- a store
    pub store_made : (js : List EntityJson)
        (xs : List (Entity (WellFormedValue BuiltinExtension o e p)))
        (s : Entities (WellFormedValue BuiltinExtension o e p)) → AreEntitiesOf js xs
        → HasMore (on bare_entity_uid entity_uid_cmp) F uid_of [] (entities_of s) xs
        → is_part s ≡ false
        → HasNoCycle (on bare_entity_uid entity_uid_cmp) parents_of (entities_of s)
        → HasListed F js s
    store_made js xs s each added whole acyclic = record {
      entities = xs;
      each = each;
      added = added;
      whole = whole;
      acyclic = acyclic;
    }

    -- the store of a text
    pub stored : (text : List ℕ) (d : Data) (ds : Items) (js : List EntityJson)
        (s : Entities (WellFormedValue BuiltinExtension o e p)) → read text ≡ Some d
        → as_array d ≡ Some ds → AreEntities ds (map parts_of js) → HasListed F js s
        → IsStoreOf F text s
    stored text d ds js s parsed array stand has = record {
      json = d;
      parsed = parsed;
      items = ds;
      array = array;
      listed = js;
      stand = stand;
      has = has;
    }
