use Rattle.std.proofs.Common.{◌≡◌, ◌++◌, map}
use Rattle.std.specs.Vec.Iter.{into_iter_items}
use Rattle.cedar_builders.specs.Ropes.{text_of}
use Rattle.semantics_printing.specs.Phrases.{others_text}
use Rattle.cedar_printer.specs.Phrases.{rope_phrase}
use Rattle.cedar_printer.proofs.phrase.push_others.Given as goal

-- what is written, and then the rest
abbrev pub invariant-loop-phrase : goal.invariant-loop-phrase
invariant-loop-phrase l =
    text_of l.row ++ others_text (map rope_phrase (into_iter_items l.phrase-iterator))
    ≡ text_of l.fn.text ++ others_text (map rope_phrase (into_iter_items l.fn.phrases))
