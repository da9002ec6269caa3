use Rattle.cedar_terms.specs.Entities.{bare_entity_uid}
use Rattle.cedar_request.specs.Values.{tree_of}
use Rattle.cedar_entities.specs.Stores.{is_part, listing}
use Rattle.cedar_entities.proofs.Answered.{if_descends}
use Rattle.cedar_entities.proofs.entity_store.EntitiesWellFormedValueEntityStore.is_descendant_of.Goals as goal

pub returns : goal.returns
returns g c =
    if_descends (tree_of {X = g.row.X.Denot} {o = g.X.Ord} {e = g.X.PartialEq} {p = g.X.PartialOrd})
    (listing c.args.self.now) (is_part c.args.self.now) (bare_entity_uid c.args.uid.now)
    (bare_entity_uid c.args.ancestor.now) c.is_descendant_of.result c.is_descendant_of.ensures
