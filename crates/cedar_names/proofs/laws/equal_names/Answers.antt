use Rattle.cedar_names.specs.NameOrder.{name_eq_decides}
use Rattle.cedar_names.specs.InternalNames.{bare_internal_name}
use Rattle.cedar_names.specs.PlainNames.{bare_name}
use Rattle.cedar_names.specs.RawNames.{bare_raw_name}
use Rattle.cedar_names.proofs.SameReference.{references_decide}
use Rattle.cedar_names.proofs.laws.equal_names.Goals as goal

pub returns-clause-internal_names : goal.returns-clause-internal_names
returns-clause-internal_names c = λ m n. name_eq_decides (bare_internal_name m) (bare_internal_name n)

pub returns-clause-names : goal.returns-clause-names
returns-clause-names c = λ m n. name_eq_decides (bare_name m) (bare_name n)

pub returns-clause-raw_names : goal.returns-clause-raw_names
returns-clause-raw_names c = λ m n. name_eq_decides (bare_raw_name m) (bare_raw_name n)

pub returns-clause-conditional_names : goal.returns-clause-conditional_names
returns-clause-conditional_names c = λ a b. references_decide a b
