-- What text stands for which range of IP addresses, and what is asked of ranges.
use Rattle.std.specs.Prelude.{◌≡◌, ℕ, ◌+◌, ◌*◌, ◌^◌, ◌<◌, ◌≤◌, Bool, true, false, List, ◌∷◌, ◌++◌, Option, Some, None, Result, MatchResult, codes, decimal}
use Rattle.std.specs.Net.Addr.{MatchIp, ipv4_bits, ipv4_octets, ipv6_bits, ipv6_segments}
use Rattle.std.specs.Net.Text.{hex_groups_text, ipv4_text}
use Rattle.std.specs.declared.net.ip_addr.IpAddr.{IpAddr as Address}
use Rattle.std.specs.declared.net.ip_addr.IpAddr.TheVariants.{V4, V6}
use Rattle.cedar_extensions.specs.Slashes.{IsPrefixText, IsSplit}
use Rattle.cedar_extensions.specs.Ranges.{IsAddressText, IsWithin, bits_of, is_mixed, width_of}
use Rattle.cedar_extensions.specs.declared.ip_addr.IpAddr.{IpAddr}
use Rattle.cedar_extensions.specs.declared.ip_addr.IpAddrError.{IpAddrError}
use Rattle.cedar_extensions.specs.declared.ip_addr.IpAddrError.TheVariants.{Malformed, EmbeddedIpv4, Prefix}

-- the address of a range
abbrev pub address_of : IpAddr → Address
address_of r = r.address

-- how many of its first bits the addresses of a range share
abbrev pub prefix_of : IpAddr → ℕ
prefix_of r = r.prefix

-- the text stands for the range of this address with this prefix
pub record StandsFor (text : List ℕ) (address : Address) (n : ℕ) : Type 0 where
  pub front : List ℕ
  pub back : Option (List ℕ)
  pub split : IsSplit text front back
  pub address_part : IsAddressText front address
  pub prefix_part : IsPrefixText back (width_of address) n

-- the text stands for the range
abbrev pub IsIpAddrText : List ℕ → IpAddr → Type 0
IsIpAddrText text r = StandsFor text (address_of r) (prefix_of r)

-- why a text stands for none: no address stands in front, or one in another, or no prefix behind the slash
abbrev pub IsRefusedFor : List ℕ → IpAddrError → Type 0
IsRefusedFor text Malformed = (front : List ℕ) (back : Option (List ℕ)) (address : Address) → IsSplit text front back → ¬ (IsAddressText front address)
IsRefusedFor text EmbeddedIpv4 = (front : List ℕ) × (back : Option (List ℕ)) × IsSplit text front back × (is_mixed front ≡ true)
IsRefusedFor text Prefix = (front : List ℕ) × (back : Option (List ℕ)) × (address : Address) × IsSplit text front back × IsAddressText front address × ((n : ℕ) → ¬ (IsPrefixText back (width_of address) n))

-- the text is read as the range that it stands for, and refused exactly if it stands for none
abbrev pub Reads : List ℕ → Result IpAddr IpAddrError → Type 0
Reads text r = MatchResult r (IsIpAddrText text) (λ e. IsRefusedFor text e × ((s : IpAddr) → ¬ (IsIpAddrText text s)))

-- each address of the one range is one of the other
abbrev pub IsRangeWithin : IpAddr → IpAddr → Type 0
IsRangeWithin r s = (width_of (address_of r) ≡ width_of (address_of s)) × IsWithin (width_of (address_of r)) (bits_of (address_of r)) (prefix_of r) (bits_of (address_of s)) (prefix_of s)

-- each address of the range is in 127.0.0.0/8, or is ::1
abbrev pub IsLoopback : IpAddr → Type 0
IsLoopback r = MatchIp (address_of r) (λ a. IsWithin 32 (ipv4_bits a) (prefix_of r) (127 * 2 ^ 24) 8) (λ a. IsWithin 128 (ipv6_bits a) (prefix_of r) 1 128)

-- each address of the range is in 224.0.0.0/4, or in ff00::/8
abbrev pub IsMulticast : IpAddr → Type 0
IsMulticast r = MatchIp (address_of r) (λ a. IsWithin 32 (ipv4_bits a) (prefix_of r) (224 * 2 ^ 24) 4) (λ a. IsWithin 128 (ipv6_bits a) (prefix_of r) (255 * 2 ^ 120) 8)

-- the text of an address, without an IPv4 address in an IPv6 address
abbrev pub address_text : Address → List ℕ
address_text (V4 a) = ipv4_text (ipv4_octets a)
address_text (V6 a) = hex_groups_text (ipv6_segments a)

-- the text of a range: its address, a slash and its prefix
abbrev pub ip_addr_text : IpAddr → List ℕ
ip_addr_text r = address_text (address_of r) ++ codes "/" ++ decimal (prefix_of r)

-- the result is the range of this address with the prefix that the digits behind the slash write, or an error if they write none
abbrev pub IsPrefixed : Address → List ℕ → Result IpAddr IpAddrError → Type 0
IsPrefixed a digits r = MatchResult r (λ s. (address_of s ≡ a) × IsPrefixText (Some digits) (width_of a) (prefix_of s)) (λ e. (e ≡ Prefix) × ((n : ℕ) → ¬ (IsPrefixText (Some digits) (width_of a) n)))
