-- Sets and records of outcomes.
use Rattle.std.specs.Prelude.{List, [], ◌∷◌, Result, Ok}
use Rattle.std.specs.BTreeSet.{insert_key}
use Rattle.std.specs.declared.cmp.Ordering.{Ordering}
use Rattle.cedar_builders.specs.BareExpr.{Text}
use Rattle.cedar_builders.specs.Fold.{on_one, on_two}
use Rattle.semantics_values.specs.BareValue.{BareValue, SetValue, RecordValue, values_of, pairs_of}
use Rattle.semantics_values.specs.ValueOrder.{value_cmp}
use Rattle.semantics_eval.specs.Outcomes.{Fault, Outcome}

-- the values of a list of outcomes, or the first fault
abbrev pub all_values : {X : Type 0} → List (Outcome X) → Result (List (BareValue X)) Fault
all_values [] = Ok []
all_values (m ∷ ms) = on_two (λ t ts. t ∷ ts) m (all_values ms)

-- the pairs of a list of keys with outcomes, or the first fault
abbrev pub all_pairs :
    {X : Type 0} → List (Text × Outcome X) → Result (List (Text × BareValue X)) Fault
all_pairs [] = Ok []
all_pairs (p ∷ ps) = on_two (λ t qs. (p.0, t) ∷ qs) p.1 (all_pairs ps)

-- the strictly ascending list of the classes of some items: each is put to its place, unless its class
-- is there
abbrev pub ascending_list : {K : Type 0} → (K → K → Ordering) → List K → List K
ascending_list R [] = []
ascending_list R (x ∷ xs) = insert_key R (ascending_list R xs) x

-- the set of some values
abbrev pub set_value : {X : Type 0} → (X → X → Ordering) → List (BareValue X) → BareValue X
set_value R ts = SetValue (values_of (ascending_list (value_cmp R) ts))

-- a set: that of its members' values
abbrev pub set_outcome : {X : Type 0} → (X → X → Ordering) → List (Outcome X) → Outcome X
set_outcome R ms = on_one (set_value R) (all_values ms)

-- a record: that of its values
abbrev pub record_outcome : {X : Type 0} → List (Text × Outcome X) → Outcome X
record_outcome ps = on_one (λ qs. RecordValue (pairs_of qs)) (all_pairs ps)
