-- The meaning of an outcome that is handed on in little room.
use Rattle.std.specs.Prelude.{Ok}
use Rattle.cedar_terms.specs.Literals.{BoolLit, LongLit}
use Rattle.cedar_values.specs.BareValues.{bare_value_kind}
use Rattle.cedar_values.specs.Holders.{NoExtension}
use Rattle.cedar_values.specs.declared.value.ValueKind.TheVariants as kinds
use Rattle.semantics_values.specs.BareValue.{LitValue}
use Rattle.semantics_eval.specs.Outcomes as meant
use Rattle.cedar_evaluator.specs.Outcomes.{meaning_of}
use Rattle.cedar_evaluator.specs.declared.compact.CompactOutcome.{CompactOutcome}
use Rattle.cedar_evaluator.specs.declared.compact.CompactOutcome.TheVariants.{Bool, Long, Record, Whole}

-- what a compact outcome means
abbrev pub compact_meaning : CompactOutcome → meant.Outcome NoExtension
compact_meaning (Bool b) = Ok (LitValue (BoolLit b))
compact_meaning (Long n) = Ok (LitValue (LongLit n))
compact_meaning (Record f) = Ok (bare_value_kind (kinds.Record f.pairs))
compact_meaning (Whole m) = meaning_of m.value
