use Rattle.cedar_names.specs.NameOrder.{name_eq_decides}
use Rattle.cedar_terms.specs.Entities.{bare_entity_type, bare_entity_uid}
use Rattle.cedar_terms.specs.EntityOrder.{entity_uid_eq_decides}
use Rattle.cedar_terms.specs.Literals.{bare_literal}
use Rattle.cedar_terms.specs.LiteralOrder.{literal_eq_decides}
use Rattle.cedar_terms.specs.PatternOrder.{pattern_eq_decides}
use Rattle.cedar_terms.specs.Types.{bare_type}
use Rattle.cedar_terms.specs.TypeOrder.{type_eq_decides}
use Rattle.cedar_terms.specs.Unknowns.{bare_unknown, unknown_eq_decides}
use Rattle.cedar_terms.proofs.DerivedEquality.{schema_eq_decides}
use Rattle.cedar_terms.proofs.laws.equal_terms.Goals as goal

pub returns-clause-entity_types : goal.returns-clause-entity_types
returns-clause-entity_types c = λ s t. name_eq_decides (bare_entity_type s) (bare_entity_type t)

pub returns-clause-entities : goal.returns-clause-entities
returns-clause-entities c = λ u v. entity_uid_eq_decides (bare_entity_uid u) (bare_entity_uid v)

pub returns-clause-literals : goal.returns-clause-literals
returns-clause-literals c = λ x y. literal_eq_decides (bare_literal x) (bare_literal y)

pub returns-clause-types : goal.returns-clause-types
returns-clause-types c = λ s t. type_eq_decides (bare_type s) (bare_type t)

pub returns-clause-unknowns : goal.returns-clause-unknowns
returns-clause-unknowns c = λ u v. unknown_eq_decides (bare_unknown u) (bare_unknown v)

pub returns-clause-patterns : goal.returns-clause-patterns
returns-clause-patterns c = pattern_eq_decides

pub returns-clause-schema_types : goal.returns-clause-schema_types
returns-clause-schema_types c = schema_eq_decides
