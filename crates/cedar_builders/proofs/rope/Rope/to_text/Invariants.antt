use Rattle.std.proofs.Common.{◌≡◌, ◌++◌, string_bytes}
use Rattle.std.specs.List.{flat_map}
use Rattle.cedar_builders.proofs.rope.Rope.to_text.Given as goal

-- what was written, and then the rest
abbrev pub invariant-loop-piece : goal.invariant-loop-piece
invariant-loop-piece l =
    string_bytes l.text ++ flat_map string_bytes l.piece-iterator ≡ flat_map string_bytes l.self.before
