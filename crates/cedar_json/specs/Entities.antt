-- What JSON stands for where entities are wanted (Cedar's `entities/json/entities.rs`).
use Rattle.std.specs.Prelude.{◌≡◌, ◌&&◌, ◌||◌, Bool, true, List, [], map, codes, Option, Some, None, option_map, unwrap_or}
use Rattle.std.specs.Str.{bytes_eq}
use Rattle.serde_json.specs.Data.{Data, null, boolean, number, string, array, object, Items, Members, no_members, member}
use Rattle.serde_json.specs.Find.{as_object, get}
use Rattle.cedar_terms.specs.Entities.{BareEntityUID, bare_entity_uid}
use Rattle.cedar_builders.specs.BareExpr.{Text, BareExpr}
use Rattle.cedar_builders.specs.Keys.{meant_pairs}
use Rattle.cedar_exprs.specs.BareExpr.{bare_expr}
use Rattle.cedar_json.specs.Values.{AreEach, AreFields, IsEntity}
use Rattle.cedar_json.specs.declared.entities.EntityJson.{EntityJson}

-- an entity as it is given: what it is called, its attributes, its parents and its tags
pub record EntityParts : Type 0 where
  pub uid : BareEntityUID
  pub attributes : List (Text × BareExpr)
  pub parents : List BareEntityUID
  pub tags : List (Text × BareExpr)

-- what the code holds of it
abbrev pub parts_of : EntityJson → EntityParts
parts_of e = record {
  uid = bare_entity_uid e.uid;
  attributes = meant_pairs bare_expr e.attributes.items;
  parents = map bare_entity_uid e.parents.items;
  tags = meant_pairs bare_expr e.tags.items;
}

-- `{"type": T, "id": I}`, with or without `__entity` around it
abbrev pub IsUid : Data → BareEntityUID → Type 0
IsUid d u = IsEntity (unwrap_or (get (codes "__entity") d) d) u

-- an object stands for attributes, or for tags, of which each value is an expression
abbrev pub AreAttributes : Data → List (Text × BareExpr) → Type 0
AreAttributes null ps = ⊥
AreAttributes (boolean b) ps = ⊥
AreAttributes (number n) ps = ⊥
AreAttributes (string s) ps = ⊥
AreAttributes (array ds) ps = ⊥
AreAttributes (object ms) ps = AreFields ms ps

-- each item is an entity
abbrev pub AreUids : Items → List BareEntityUID → Type 0
AreUids ds us = AreEach IsUid ds us

-- an array stands for parents
abbrev pub AreParents : Data → List BareEntityUID → Type 0
AreParents null us = ⊥
AreParents (boolean b) us = ⊥
AreParents (number n) us = ⊥
AreParents (string s) us = ⊥
AreParents (array ds) us = AreUids ds us
AreParents (object ms) us = ⊥

-- a member that has to be there stands for something
abbrev pub Has : {A : Type 0} → (Data → A → Type 0) → Option Data → A → Type 0
Has P None a = ⊥
Has P (Some d) a = P d a

-- tags may be left out
abbrev pub MayHave : {A : Type 0} → (Data → List A → Type 0) → Option Data → List A → Type 0
MayHave P None xs = xs ≡ []
MayHave P (Some d) xs = P d xs

-- whether an entity has a member of this name
abbrev pub is_member_name : Text → Bool
is_member_name k =
    bytes_eq k (codes "uid") || bytes_eq k (codes "attrs")
    || bytes_eq k (codes "parents") || bytes_eq k (codes "tags")

-- whether it has all these members
abbrev pub are_named : Members → Bool
are_named no_members = true
are_named (member k d ms) = is_member_name k && are_named ms

-- `{"uid": U, "attrs": {..}, "parents": [..], "tags": {..}}` is an entity
pub record IsEntityJson (d : Data) (e : EntityParts) : Type 0 where
  pub named : option_map are_named (as_object d) ≡ Some true
  pub uid : Has IsUid (get (codes "uid") d) e.uid
  pub attributes : Has AreAttributes (get (codes "attrs") d) e.attributes
  pub parents : Has AreParents (get (codes "parents") d) e.parents
  pub tags : MayHave AreAttributes (get (codes "tags") d) e.tags

-- each item is one
abbrev pub AreEntities : Items → List EntityParts → Type 0
AreEntities ds es = AreEach IsEntityJson ds es
