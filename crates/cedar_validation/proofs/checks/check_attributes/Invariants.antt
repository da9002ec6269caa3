use Rattle.std.proofs.Common.{◌≡◌, map}
use Rattle.std.specs.Rc.{rc_str_bytes}
use Rattle.cedar_names.specs.NonEmpty.{list_of, rest_of}
use Rattle.cedar_validation.specs.Faults.{attribute_fault}
use Rattle.cedar_validation.proofs.checks.check_attributes.Given as goal

-- the attributes that are left have the first fault of all
abbrev pub invariant-loop-attr : goal.invariant-loop-attr
invariant-loop-attr l =
    (goal.iterator-loop-attr).can_next l.attr-iterator
    × (goal.iterator-loop-attr).is_finite l.attr-iterator
    × (attribute_fault (map rc_str_bytes (rest_of l.attr-iterator)) ≡ attribute_fault (map rc_str_bytes (list_of l.attrs)))
