use Rattle.std.proofs.Common.{◌≡◌, ◌++◌, map}
use Rattle.std.specs.Vec.Iter.{into_iter_items}
use Rattle.cedar_builders.specs.Keys.{meant_pairs}
use Rattle.semantics_printing.specs.Phrases.{field_of}
use Rattle.cedar_printer.specs.Phrases.{rope_phrase}
use Rattle.cedar_printer.proofs.phrase.make_fields.Given as goal

-- what is made, and then the rest
abbrev pub invariant-loop-key : goal.invariant-loop-key
invariant-loop-key l =
    map rope_phrase l.fields.items ++ map field_of (meant_pairs rope_phrase (into_iter_items l.key-iterator)) ≡ map field_of (meant_pairs rope_phrase l.fn.pairs.items)
