-- Values by their trees.
use Rattle.std.specs.Prelude.{Bool, is_some, Option, Some, None}
use Rattle.std.specs.declared.cmp.Ord as Ord
use Rattle.std.specs.declared.cmp.PartialEq as PartialEq
use Rattle.std.specs.declared.cmp.PartialOrd as PartialOrd
use Rattle.semantics_values.specs.BareValue.{BareValue, RecordValue, BarePairs}
use Rattle.cedar_values.specs.BareValues.{bare_value}
use Rattle.cedar_values.specs.WellFormedValues.{value_of}
use Rattle.cedar_values.specs.declared.well_formed.WellFormedValue.{WellFormedValue}

-- the tree of a value that is known to be well formed, by the comparisons o, e and p
abbrev pub tree_of :
    {X : Type 0} {o : Ord.Ghosts X} {e : PartialEq.Ghosts X} {p : PartialOrd.Ghosts X}
    → WellFormedValue X o e p → BareValue X
tree_of w = bare_value (value_of w)

-- the pairs of the record that a value is, if it is one
abbrev pub record_in : {X : Type 0} → BareValue X → Option (BarePairs X)
record_in (RecordValue ps) = Some ps
record_in t = None

-- whether a value is a record
abbrev pub is_record : {X : Type 0} → BareValue X → Bool
is_record t = is_some (record_in t)
