-- Why a text writes no address.
use Rattle.std.specs.Prelude.{◌≡◌, ℕ, true, List}
use Rattle.std.specs.declared.net.ip_addr.IpAddr.{IpAddr}
use Rattle.cedar_extensions.specs.Ranges.{IsAddressText, is_mixed}
use Rattle.cedar_extensions.specs.declared.ip_addr.IpAddrError.{IpAddrError}
use Rattle.cedar_extensions.specs.declared.ip_addr.IpAddrError.TheVariants.{Malformed, EmbeddedIpv4, Prefix}

-- the error says why the text writes no address
abbrev pub IsNoAddress : List ℕ → IpAddrError → Type 0
IsNoAddress text Malformed = (a : IpAddr) → ¬ (IsAddressText text a)
IsNoAddress text EmbeddedIpv4 = is_mixed text ≡ true
IsNoAddress text Prefix = ⊥
