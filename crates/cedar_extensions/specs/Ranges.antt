-- Addresses and ranges of addresses, as numbers.
use Rattle.std.specs.Prelude.{◌≡◌, ℕ, ◌-◌, ◌/◌, ◌^◌, ◌<◌, Bool, false, ◌&&◌, ◌==◌, List, length, nat_le, slice_index}
use Rattle.std.specs.List.{list_any}
use Rattle.std.specs.Net.Addr.{ipv4_bits, ipv6_bits}
use Rattle.std.specs.Net.Grammar.{IsIpText}
use Rattle.std.specs.declared.net.ip_addr.IpAddr.{IpAddr}
use Rattle.std.specs.declared.net.ip_addr.IpAddr.TheVariants.{V4, V6}

-- how many bits an address has
abbrev pub width_of : IpAddr → ℕ
width_of (V4 a) = 32
width_of (V6 a) = 128

-- its number
abbrev pub bits_of : IpAddr → ℕ
bits_of (V4 a) = ipv4_bits a
bits_of (V6 a) = ipv6_bits a

-- two numbers of this width have the same first bits, so many
abbrev pub SharesPrefix : ℕ → ℕ → ℕ → ℕ → Type 0
SharesPrefix width prefix m n = m / 2 ^ (width - prefix) ≡ n / 2 ^ (width - prefix)

-- each number of this width that begins with the first p bits of a begins with the first q bits of b
abbrev pub IsWithin : ℕ → ℕ → ℕ → ℕ → ℕ → Type 0
IsWithin width a p b q = (x : ℕ) → x < 2 ^ width → SharesPrefix width p x a → SharesPrefix width q x b

-- whether it does, by its first bits
abbrev pub is_within : ℕ → ℕ → ℕ → ℕ → ℕ → Bool
is_within width a p b q = nat_le q p && (a / 2 ^ (width - q) == b / 2 ^ (width - q))

-- an IPv4 address stands in the text of an IPv6 address
abbrev pub is_mixed : List ℕ → Bool
is_mixed text = list_any (λ c. c == 58) text && list_any (λ c. c == 46) text

-- the text writes the address, with no IPv4 address in an IPv6 address
pub record IsAddressText (text : List ℕ) (address : IpAddr) : Type 0 where
  pub written : IsIpText text address
  pub plain : is_mixed text ≡ false

-- a zero stands in front of other digits
abbrev pub HasLeadingZero : List ℕ → Type 0
HasLeadingZero text = (slice_index text 0 ≡ 48) × (1 < length text)
