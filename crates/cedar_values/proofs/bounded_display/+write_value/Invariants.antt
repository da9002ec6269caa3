use Rattle.std.proofs.Common.{◌++◌, drop, map, codes}
use Rattle.semantics_values.specs.BareValue as bare
use Rattle.cedar_values.specs.BareValues.{bare_set}
use Rattle.cedar_values.specs.BoundedTexts.{bounded_text}
use Rattle.cedar_values.specs.Conversions.{bare_pairs}
use Rattle.cedar_values.proofs.BoundedRests.{Completes, pair_text, rest, value_text}
use Rattle.cedar_values.proofs.bounded_display.+write_value.Given as goal

-- the text of what is left, and the sign behind it, complete the text of the set
abbrev pub invariant-write_members-loop-member : goal.invariant-write_members-loop-member
invariant-write_members-loop-member g l =
    let T = g.X.ExtensionValue.text_of in
    Completes g.W.Write.write_str_gives l.fn.f (bounded_text T l.fn.n (bare.SetValue (bare_set l.set))) l.f
    (rest l.is_first l.room (map (value_text T l.fn.n) (drop l.member-index l.members)) ++ codes "]")

-- likewise of the record
abbrev pub invariant-write_pairs-loop-key : goal.invariant-write_pairs-loop-key
invariant-write_pairs-loop-key g l =
    let T = g.X.ExtensionValue.text_of in
    Completes g.W.Write.write_str_gives l.fn.f (bounded_text T l.fn.n (bare.RecordValue (bare_pairs l.pairs.entries))) l.f
    (rest l.is_first l.room (map (pair_text T l.fn.n) l.key-iterator) ++ codes "}")
