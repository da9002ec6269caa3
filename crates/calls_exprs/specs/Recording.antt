-- What a hasher that records keeps of a write.
use Rattle.std.specs.Prelude.{ℕ, ◌+◌, ◌%◌, ◌^◌, List, [], ◌∷◌, length, Option, Some, None}
use Rattle.calls_exprs.specs.declared.recorder.Recorder.{Recorder}

-- the first byte of all writes
abbrev pub first_byte : Option ℕ → List ℕ → Option ℕ
first_byte (Some b) bytes = Some b
first_byte None [] = None
first_byte None (b ∷ bytes) = Some b

abbrev pub recorded : Recorder → List ℕ → Recorder
recorded s bytes = record {
  first = first_byte s.first bytes;
  count = (s.count + length bytes) % 2 ^ 64;
}
