-- The texts of outcomes.
use Rattle.std.specs.Prelude.{None, [], Ok, Err, codes}
use Rattle.cedar_builders.specs.BareExpr.{Text}
use Rattle.cedar_values.specs.BoundedTexts.{bounded_text}
use Rattle.cedar_values.specs.Holders.{NoExtension}
use Rattle.semantics_eval.specs.Outcomes.{Fault, Outcome, Open, By, WrongType, Overflow, Missing, Store}

-- the text of a fault
abbrev pub fault_text : Fault → Text
fault_text Open = codes "fault: open"
fault_text (By WrongType) = codes "fault: type"
fault_text (By Overflow) = codes "fault: overflow"
fault_text (By Missing) = codes "fault: missing"
fault_text (By Store) = codes "fault: store"

-- the text of an outcome: the whole text of its value, where W says that of an extension value, or
-- the fault
abbrev pub outcome_text_by : {X : Type 0} → (X → Text) → Outcome X → Text
outcome_text_by W (Ok t) = bounded_text W None t
outcome_text_by W (Err e) = fault_text e

-- the same, where there are no extension values
abbrev pub outcome_text : Outcome NoExtension → Text
outcome_text m = outcome_text_by (λ x. []) m
