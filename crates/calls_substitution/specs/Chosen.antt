-- Functions as bits.
use Rattle.std.specs.Prelude.{ℕ, List, codes, if◌then◌else◌}
use Rattle.std.specs.Str.{bytes_eq}

-- a bit for each function that recorded calls have refused; all others have one bit
abbrev pub bit_of : List ℕ → ℕ
bit_of text =
    if bytes_eq text (codes "f") then 1 else
    if bytes_eq text (codes "ip") then 2 else
    if bytes_eq text (codes "A::B") then 4 else
    if bytes_eq text (codes "lng") then 8 else
    if bytes_eq text (codes "noret") then 16 else
    if bytes_eq text (codes "isIpv4") then 32 else 128
