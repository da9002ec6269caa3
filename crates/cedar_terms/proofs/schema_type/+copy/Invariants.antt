use Rattle.std.proofs.Common.{◌≡◌, List, ◌++◌}
use Rattle.cedar_terms.proofs.AttributeLemmas.{Entry, rows}
use Rattle.cedar_terms.proofs.schema_type.+copy.Given as goal

abbrev pub invariant-clone_attributes-loop-key : goal.invariant-clone_attributes-loop-key
invariant-clone_attributes-loop-key l =
    (done : List Entry) × (l.attrs.entries ≡ done ++ l.key-iterator) × (rows l.copy.entries ≡ rows done)
