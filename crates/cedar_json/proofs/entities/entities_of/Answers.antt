use Rattle.std.proofs.Common.{◌≡◌, None, Some, map, rules, subst, sym, ◌∙◌}
use Rattle.std.proofs.lemmas.Option.{none-some, same_Some}
use Rattle.serde_json.specs.Find.{as_array}
use Rattle.serde_json.specs.View.{items_view, view}
use Rattle.cedar_json.specs.Entities.{AreEntities, parts_of}
use Rattle.cedar_json.proofs.Nothing.{given}
use Rattle.cedar_json.proofs.Once.{one_entities}
use Rattle.cedar_json.proofs.entities.entities_of.Goals as goal

pub returns-in-Some-clause-complete : goal.returns-in-Some-clause-complete
returns-in-Some-clause-complete c = λ ds es is stand.
    let all = items_view c.deref.result.now in
    let found : as_array (view c.args.json.now) ≡ Some all = search rules in
    given (AreEntities all) (λ made. map parts_of made.items) (one_entities c.name_texts_differ.ensures all)
    c.each_entity.result c.each_entity.ensures es
    (subst (λ xs. AreEntities xs es) (same_Some ds all (sym is ∙ found)) stand)

pub returns-in-None-clause-complete : goal.returns-in-None-clause-complete
returns-in-None-clause-complete c = λ ds es is stand.
    let none : as_array (view c.args.json.now) ≡ None = search rules in
    absurd (none-some ds (sym none ∙ is))
