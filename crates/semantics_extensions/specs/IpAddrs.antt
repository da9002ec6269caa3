-- What a text is read as as a range of IP addresses.
use Rattle.std.specs.Prelude.{◌≡◌, ℕ, Bool, true, false, ◌&&◌, List, [], ◌∷◌, ◌==◌, nat_le, Option, Some, None, option_map, option_and_then, decimal, if◌then◌else◌, refl}
use Rattle.std.specs.List.{list_all}
use Rattle.std.specs.Net.Reader.{read_ipv4, read_ipv6, whole_value}
use Rattle.std.specs.Option.{option_or}
use Rattle.std.specs.Str.{bytes_eq}
use Rattle.std.specs.declared.net.ip_addr.IpAddr.{IpAddr as Address}
use Rattle.std.specs.declared.net.ip_addr.IpAddr.TheVariants.{V4, V6}
use Rattle.std.proofs.lemmas.Bool.{leb-true}
use Rattle.cedar_extensions.specs.Numbers.{number_of}
use Rattle.cedar_extensions.specs.Ranges.{is_mixed, width_of}
use Rattle.cedar_extensions.specs.Slashes.{is_no_slash}
use Rattle.cedar_extensions.specs.declared.ip_addr.IpAddr.{IpAddr}
use Rattle.semantics_extensions.specs.Searches.{first_cut}

-- the address that a text writes, with no IPv4 address in an IPv6 address
unfoldable pub address_in : List ℕ → Option Address
address_in text =
    if is_mixed text then None else
    option_or (option_map (λ ds. V4 (record { octets = ds })) (whole_value (read_ipv4 text)))
    (option_map (λ ds. V6 (record { segments = ds })) (whole_value (read_ipv6 text)))

-- the number of bits that stands behind a slash, which is at most this width; without a slash it is
-- the width
abbrev pub prefix_in : ℕ → Option (List ℕ) → Option ℕ
prefix_in width None = Some width
prefix_in width (Some digits) =
    if bytes_eq digits (decimal (number_of digits)) && nat_le (number_of digits) width
    then Some (number_of digits) else None

-- the range of an address with a prefix, if the address has so many bits
abbrev pub range_if : (a : Address) (n : ℕ) (b : Bool) → nat_le n (width_of a) ≡ b → Option IpAddr
range_if a n true h =
    Some (record { address = a; prefix = n; within = leb-true n (width_of a) h })
range_if a n false h = None

abbrev pub range_of : Address → ℕ → Option IpAddr
range_of a n = range_if a n (nat_le n (width_of a)) refl

-- the range of the address in front of a slash and the prefix behind it
abbrev pub range_in : List ℕ → Option (List ℕ) → Option IpAddr
range_in front back =
    option_and_then (λ a. option_and_then (range_of a) (prefix_in (width_of a) back))
    (address_in front)

-- the same where a text is cut in front of its first slash, or at its end
abbrev pub range_at : List ℕ → List ℕ → Option IpAddr
range_at front [] = if list_all is_no_slash front then range_in front None else None
range_at front (c ∷ back) =
    if c == 47 && list_all is_no_slash front then range_in front (Some back) else None

-- an address, and a slash and a prefix or none
unfoldable pub ip_addr_in : List ℕ → Option IpAddr
ip_addr_in text = first_cut range_at text
