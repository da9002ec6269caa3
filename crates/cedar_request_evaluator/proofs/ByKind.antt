-- What the store answers of a value, by the value's kind.
use Rattle.std.proofs.Common.{◌≡◌, is_some, Some, None, Err, refl, ap}
use Rattle.cedar_terms.specs.Entities.{BareEntityUID}
use Rattle.cedar_terms.specs.Literals.{StringLit, EntityLit}
use Rattle.cedar_builders.specs.BareExpr.{Text}
use Rattle.cedar_builders.specs.Fold.{on_one}
use Rattle.semantics_values.specs.BareValue.{BareValue, LitValue, RecordValue}
use Rattle.semantics_eval.specs.Attributes.{get_in}
use Rattle.semantics_eval.specs.Outcomes.{WrongType, By, settled, truth}
use Rattle.semantics_request.specs.Entities.{Dereference, NotKnown, NoSuchEntity, Data, Entities, found_at, is_found_at, attribute, has_attribute, tag, has_tag}
use Rattle.cedar_evaluator.specs.Kinds.{entity_of, text_of, found_in}
use Rattle.cedar_request_evaluator.specs.Attributes.{found_by, found_of}

module _ {X : Type 0} (s : Entities X) where
  -- attributes of an entity, and of any other value
  pub attribute_of_entity : (k : Text) (t : BareValue X) (u : BareEntityUID) → entity_of t ≡ Some u
      → attribute s k t ≡ found_at (λ d. d.attributes) k (s u)
  attribute_of_entity k (LitValue (EntityLit v)) u is =
      let same : v ≡ u = cc in ap (λ w. found_at (λ d. d.attributes) k (s w)) same
  attribute_of_entity k t u is = cc

  pub attribute_of_other : (k : Text) (t : BareValue X) → entity_of t ≡ None
      → attribute s k t ≡ settled (get_in k t)
  attribute_of_other k (LitValue (EntityLit v)) is = cc
  attribute_of_other k t is = refl

  pub found_of_entity : (k : Text) (t : BareValue X) (u : BareEntityUID) → entity_of t ≡ Some u
      → found_by s k t ≡ found_of k (s u)
  found_of_entity k (LitValue (EntityLit v)) u is =
      let same : v ≡ u = cc in ap (λ w. found_of k (s w)) same
  found_of_entity k t u is = cc

  pub found_of_other : (k : Text) (t : BareValue X) → entity_of t ≡ None
      → found_by s k t ≡ found_in k t
  found_of_other k (LitValue (EntityLit v)) is = cc
  found_of_other k t is = refl

  -- tags, of an entity by a text alone
  pub tag_of_entity : (t w : BareValue X) (u : BareEntityUID) (k : Text) → entity_of t ≡ Some u
      → text_of w ≡ Some k → tag s t w ≡ found_at (λ d. d.tags) k (s u)
  tag_of_entity (LitValue (EntityLit v)) (LitValue (StringLit j)) u k is has =
      let same : v ≡ u = cc in
      let text : j ≡ k = cc in
      λ i. found_at (λ d. d.tags) (text i) (s (same i))
  tag_of_entity (LitValue (EntityLit v)) w u k is has = cc
  tag_of_entity t w u k is has = cc

  pub tag_of_other : (t w : BareValue X) → entity_of t ≡ None → tag s t w ≡ Err (By WrongType)
  tag_of_other (LitValue (EntityLit v)) w is = cc
  tag_of_other t w is = refl

  pub tag_by_other : (t w : BareValue X) → text_of w ≡ None → tag s t w ≡ Err (By WrongType)
  tag_by_other (LitValue (EntityLit v)) (LitValue (StringLit j)) is = cc
  tag_by_other (LitValue (EntityLit v)) w is = refl
  tag_by_other t w is = refl

  pub has_tag_of_entity : (t w : BareValue X) (u : BareEntityUID) (k : Text)
      → entity_of t ≡ Some u → text_of w ≡ Some k
      → has_tag s t w ≡ is_found_at (λ d. d.tags) k (s u)
  has_tag_of_entity (LitValue (EntityLit v)) (LitValue (StringLit j)) u k is has =
      let same : v ≡ u = cc in
      let text : j ≡ k = cc in
      λ i. is_found_at (λ d. d.tags) (text i) (s (same i))
  has_tag_of_entity (LitValue (EntityLit v)) w u k is has = cc
  has_tag_of_entity t w u k is has = cc

  pub has_tag_of_other : (t w : BareValue X) → entity_of t ≡ None
      → has_tag s t w ≡ Err (By WrongType)
  has_tag_of_other (LitValue (EntityLit v)) w is = cc
  has_tag_of_other t w is = refl

  pub has_tag_by_other : (t w : BareValue X) → text_of w ≡ None
      → has_tag s t w ≡ Err (By WrongType)
  has_tag_by_other (LitValue (EntityLit v)) (LitValue (StringLit j)) is = cc
  has_tag_by_other (LitValue (EntityLit v)) w is = refl
  has_tag_by_other t w is = refl

  -- whether an attribute is there, and its value, by what is found
  has_found_of : (k : Text) (f : Dereference X)
      → is_found_at (λ d. d.attributes) k f ≡ on_one (λ o. truth (is_some o)) (found_of k f)
  has_found_of k NotKnown = refl
  has_found_of k NoSuchEntity = refl
  has_found_of k (Data d) = refl

  pub has_found : (k : Text) (t : BareValue X)
      → has_attribute s k t ≡ on_one (λ o. truth (is_some o)) (found_by s k t)
  has_found k (LitValue (EntityLit u)) = has_found_of k (s u)
  has_found k (RecordValue ps) = refl
  has_found k t = refl

pub ruleset attribute_laws = (attribute_of_entity, attribute_of_other)

pub ruleset found_laws = (found_of_entity, found_of_other)

pub ruleset tag_laws = (tag_of_entity, tag_of_other, tag_by_other)

pub ruleset has_tag_laws = (has_tag_of_entity, has_tag_of_other, has_tag_by_other)
