use Rattle.cedar_terms.specs.Entities.{bare_entity_type}
use Rattle.cedar_policy_parser.proofs.Paths.{path_given}
use Rattle.cedar_policy_parser.proofs.scope.entity_type.Goals as goal

pub returns-clause-complete : goal.returns-clause-complete
returns-clause-complete c n rest h =
    let parsed = c.parse_entity_type.ensures in
    path_given bare_entity_type n rest c.args.tokens.now c.parse_entity_type.new.tokens c.parse_entity_type.result
    c.name_texts_differ.ensures parsed.parses
    (parsed.complete c.requires.lexemes n rest h.0 h.1) h
