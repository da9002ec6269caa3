use Rattle.std.proofs.Common.{◌≡◌, ◌∷◌, take}
use Rattle.std.specs.String.{string_bytes}
use Rattle.cedar_names.specs.Names.{joined_text}
use Rattle.cedar_names.proofs.internal_name.join.Given as goal

abbrev pub invariant-loop-id : goal.invariant-loop-id
invariant-loop-id l = string_bytes l.text ≡ joined_text (l.first ∷ take l.id-index l.further)
