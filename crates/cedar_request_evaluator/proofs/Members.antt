-- What `in` asks of a value: an entity, or a set of entities.
use Rattle.std.proofs.Common.{◌≡◌, Bool, true, false, ◌||◌, ◌&&◌, List, [], ◌∷◌, map, Some, None, option_map, Ok, Err, refl, ap, sym, subst, ◌∙◌}
use Rattle.std.specs.List.{list_all, list_any}
use Rattle.cedar_terms.specs.Entities.{BareEntityUID}
use Rattle.cedar_terms.specs.Literals.{EntityLit}
use Rattle.semantics_values.specs.BareValue.{BareValue, LitValue, SetValue, BareValues, value, values_of, list_of, values_of_list}
use Rattle.semantics_eval.specs.Outcomes.{WrongType, Open, By, truth}
use Rattle.semantics_request.specs.Entities.{Entity, Dereference, NotKnown, NoSuchEntity, Data, Entities, entities_in, is_under_listed, member_entities, under}
use Rattle.cedar_terms.specs.EntityOrder.{entity_uid_eq}
use Rattle.cedar_evaluator.specs.Kinds.{entity_of, members_of}
use Rattle.cedar_request_evaluator.specs.Membership.{is_entity, is_entity_with}
use Rattle.cedar_request.specs.Stores.{is_descendant_in}

module _ {X : Type 0} where
  -- the entities that a value lists
  pub entities_of_one : (w : BareValue X) (v : BareEntityUID) → entity_of w ≡ Some v
      → entities_in w ≡ Some (v ∷ [])
  entities_of_one (LitValue (EntityLit u)) v is =
      let same : u ≡ v = cc in ap (λ x. Some (x ∷ [])) same
  entities_of_one w v is = cc

  pub entities_of_set : (w : BareValue X) (ts : List (BareValue X)) → members_of w ≡ Some ts
      → entities_in w ≡ member_entities (values_of ts)
  entities_of_set (SetValue us) ts is =
      let same : list_of us ≡ ts = cc in
      ap member_entities (values_of_list us ∙ ap values_of same)
  entities_of_set w ts is = cc

  pub entities_of_other : (w : BareValue X) → entity_of w ≡ None → members_of w ≡ None
      → entities_in w ≡ None
  entities_of_other (LitValue (EntityLit u)) is none = cc
  entities_of_other (SetValue us) is none = cc
  entities_of_other w is none = refl

  -- members that are all entities: these, and what some of them pass
  pub record AreEntities (any : (BareEntityUID → Bool) → Bool) (ts : BareValues X) : Type 0 where
    pub uids : List BareEntityUID
    pub are : member_entities ts ≡ Some uids
    pub some : (p : BareEntityUID → Bool) → list_any p uids ≡ any p

  next : (t : BareValue X) (ts : BareValues X) (b : Bool) (any : (BareEntityUID → Bool) → Bool)
      → (b ≡ true → AreEntities any ts) → (is_entity t && b) ≡ true
      → AreEntities (λ p. is_entity_with p t || any p) (value t ts)
  next (LitValue (EntityLit u)) ts b any h g =
      let r = h g in
      record {
        uids = u ∷ r.uids;
        are = ap (option_map (λ us. u ∷ us)) r.are;
        some = λ p. ap (λ c. p u || c) (r.some p);
      }
  next t ts b any h g = cc

  not_next : (t : BareValue X) (ts : BareValues X) (b : Bool)
      → (b ≡ false → member_entities ts ≡ None) → (is_entity t && b) ≡ false
      → member_entities (value t ts) ≡ None
  not_next (LitValue (EntityLit u)) ts b h g = ap (option_map (λ us. u ∷ us)) (h g)
  not_next t ts b h g = refl

  module _ {A : Type 0} (tree : A → BareValue X) where
    are_entities : (xs : List A) → list_all (λ x. is_entity (tree x)) xs ≡ true
        → AreEntities (λ p. list_any (λ x. is_entity_with p (tree x)) xs)
        (values_of (map tree xs))
    are_entities [] h = record { uids = []; are = refl; some = λ p. refl }
    are_entities (x ∷ xs) h =
        next (tree x) (values_of (map tree xs)) (list_all (λ x. is_entity (tree x)) xs)
        (λ p. list_any (λ x. is_entity_with p (tree x)) xs) (are_entities xs) h

    not_entities : (xs : List A) → list_all (λ x. is_entity (tree x)) xs ≡ false
        → member_entities (values_of (map tree xs)) ≡ None
    not_entities [] h = cc
    not_entities (x ∷ xs) h =
        not_next (tree x) (values_of (map tree xs)) (list_all (λ x. is_entity (tree x)) xs)
        (not_entities xs) h

    -- whether an entity is under some of these, where not all are entities, or all are
    module _ (u : BareEntityUID) (f : Dereference X) (xs : List A) where
      pub under_others : list_all (λ x. is_entity (tree x)) xs ≡ false
          → is_under_listed u f (member_entities (values_of (map tree xs))) ≡ Err (By WrongType)
      under_others h = ap (is_under_listed u f) (not_entities xs h)

      -- nothing is known of it
      pub under_not_known : f ≡ NotKnown → list_all (λ x. is_entity (tree x)) xs ≡ true
          → is_under_listed u f (member_entities (values_of (map tree xs))) ≡ Err Open
      under_not_known is h =
          (λ i. is_under_listed u (is i) ((are_entities xs h).are i))

      -- it is not there
      pub under_absent : f ≡ NoSuchEntity → list_all (λ x. is_entity (tree x)) xs ≡ true
          → is_under_listed u f (member_entities (values_of (map tree xs)))
          ≡ Ok (truth (list_any (λ x. is_entity_with (entity_uid_eq u) (tree x)) xs))
      under_absent is h =
          let r = are_entities xs h in
          (λ i. is_under_listed u (is i) (r.are i))
          ∙ ap (λ b. Ok (truth b)) (r.some (entity_uid_eq u))

      -- it is there
      pub under_data : (d : Entity X) → f ≡ Data d → list_all (λ x. is_entity (tree x)) xs ≡ true
          → is_under_listed u f (member_entities (values_of (map tree xs)))
          ≡ Ok (truth (list_any (λ x. is_entity_with
          (λ v. entity_uid_eq u v || is_descendant_in f v) (tree x)) xs))
      under_data d is h =
          let r = are_entities xs h in
          let P : Dereference X → Type 0 = λ g.
          is_under_listed u g (member_entities (values_of (map tree xs)))
          ≡ Ok (truth (list_any (λ x. is_entity_with
          (λ v. entity_uid_eq u v || is_descendant_in g v) (tree x)) xs)) in
          subst P (sym is)
          (ap (is_under_listed u (Data d)) r.are
          ∙ ap (λ b. Ok (truth b)) (r.some (λ v. entity_uid_eq u v || d.is_descendant_of v)))

  -- an entity by itself
  pub under_of_entity : (s : Entities X) (t w : BareValue X) (u : BareEntityUID)
      → entity_of t ≡ Some u → under s t w ≡ is_under_listed u (s u) (entities_in w)
  under_of_entity s (LitValue (EntityLit v)) w u is =
      let same : v ≡ u = cc in ap (λ x. is_under_listed x (s x) (entities_in w)) same
  under_of_entity s t w u is = cc

  pub under_of_other : (s : Entities X) (t w : BareValue X) → entity_of t ≡ None
      → under s t w ≡ Err (By WrongType)
  under_of_other s (LitValue (EntityLit v)) w is = cc
  under_of_other s t w is = refl

pub ruleset in_laws = (under_of_entity, under_of_other)

pub ruleset listed_laws = (entities_of_one, entities_of_set, entities_of_other)

pub ruleset some_laws = (under_others, under_not_known, under_absent, under_data)
