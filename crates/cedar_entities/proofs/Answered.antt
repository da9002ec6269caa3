-- What a store answers to the evaluator.
use Rattle.std.proofs.Common.{◌≡◌, Bool, true, false, Bor, Option, Some, None, option_map, Result, Ok, Err, IfOk, refl, sym, ap, ◌∙◌}
use Rattle.std.specs.Option.{option_copied}
use Rattle.cedar_ancestors.specs.PathsFound.{starts}
use Rattle.cedar_builders.specs.BareExpr.{Text}
use Rattle.cedar_terms.specs.Entities.{BareEntityUID}
use Rattle.cedar_terms.specs.EntityOrder.{entity_uid_cmp_total}
use Rattle.semantics_values.specs.BareValue.{BareValue}
use Rattle.semantics_eval.specs.Attributes.{value_at}
use Rattle.semantics_request.specs.Entities as meant
use Rattle.cedar_request.specs.Stores.{is_descendant_in}
use Rattle.cedar_entities.specs.Listings.{Listing, entity_at, is_ancestor_in, known_as, known_by}
use Rattle.cedar_entities.specs.Parts.{Named, attributes_of, tags_of, bare_parents, named_pairs, value_named}
use Rattle.cedar_entities.specs.Stores.{known_of_others}
use Rattle.cedar_entities.specs.declared.entity.Entity.{Entity}
use Rattle.cedar_entities.proofs.Named.{tree_named}
use Rattle.cedar_entities.proofs.Parts.{ancestors_are_reached}

copied_map : {A B : Type 0} (f : A → B) (o : Option (Bor A))
    → option_map (λ b. f b.now) o ≡ option_map f (option_copied o)
copied_map f None = refl
copied_map f (Some b) = refl

module _ {V X : Type 0} (tree : V → BareValue X) where
  -- the tree of an attribute or a tag
  pub tree_got : (k : Text) (m : Named V) (o : Option (Bor V)) → option_copied o ≡ value_named k m
      → option_map (λ v. tree v.now) o ≡ value_at k (named_pairs tree m)
  tree_got k m o is =
      copied_map tree o ∙ ap (option_map tree) is ∙ tree_named k tree m.entries

  module _ (ls : Listing V) (others : meant.Dereference X) (u : BareEntityUID) where
    abbrev answer : Entity V → (BareEntityUID → Bool) → meant.Dereference X
    answer e above = meant.Data (record {
      attributes = named_pairs tree (attributes_of e);
      tags = named_pairs tree (tags_of e);
      is_descendant_of = above;
    })

    by_entry : (e : Entity V) (o : Option (Entity V)) → Some e ≡ o
        → answer e (is_descendant_in (known_as tree ls others u o)) ≡ known_as tree ls others u o
    by_entry e None h = cc
    by_entry e (Some d) h =
        let same : e ≡ d = cc in ap (λ x. answer x (is_ancestor_in ls u)) same

    -- of an entity that is there
    pub of_entity : (e : Entity V) → Some e ≡ entity_at ls u
        → answer e (is_descendant_in (known_by tree ls others u)) ≡ known_by tree ls others u
    of_entity e h = by_entry e (entity_at ls u) h

    -- of one that is not there
    pub of_other : None ≡ entity_at ls u → others ≡ known_by tree ls others u
    of_other h = ap (known_as tree ls others u) h

no_entry : {V : Type 0} (ls : Listing V) (u : BareEntityUID) → entity_at ls u ≡ None
    → (v : BareEntityUID) (b : Bool) → is_ancestor_in ls u v ≡ b → b ≡ false
no_entry ls u h v true is =
    let e = starts entity_uid_cmp_total bare_parents ls ((ancestors_are_reached ls u v).0 is) in
    let no : None ≡ Some e.0 = sym h ∙ e.1 in cc
no_entry ls u h v false is = refl

none_of_others : (X : Type 0) (part : Bool) (v : BareEntityUID)
    → is_descendant_in (known_of_others {X = X} part) v ≡ false
none_of_others X true v = refl
none_of_others X false v = refl

module _ {V X : Type 0} (tree : V → BareValue X) (ls : Listing V) (part : Bool)
    (u v : BareEntityUID) where
  tested : (o : Option (Entity V)) → entity_at ls u ≡ o
      → is_ancestor_in ls u v ≡ is_descendant_in (known_as tree ls (known_of_others part) u o) v
  tested None is =
      no_entry ls u is v (is_ancestor_in ls u v) refl ∙ sym (none_of_others X part v)
  tested (Some e) is = refl

  -- a question about ancestors
  pub if_descends : {E : Type 0} (r : Result Bool E) → IfOk r (λ b. b ≡ is_ancestor_in ls u v)
      → IfOk r (λ b. b ≡ is_descendant_in (known_by tree ls (known_of_others part) u) v)
  if_descends (Ok b) h = h ∙ tested (entity_at ls u) refl
  if_descends (Err e) h = tt
