-- What is asked of ranges of IP addresses, as tests.
use Rattle.std.specs.Prelude.{ℕ, ◌*◌, ◌^◌, Bool, ◌&&◌, ◌==◌}
use Rattle.std.specs.Net.Addr.{ipv4_bits, ipv6_bits}
use Rattle.std.specs.declared.net.ip_addr.IpAddr.{IpAddr as Address}
use Rattle.std.specs.declared.net.ip_addr.IpAddr.TheVariants.{V4, V6}
use Rattle.cedar_extensions.specs.IpAddrs.{address_of, prefix_of}
use Rattle.cedar_extensions.specs.Ranges.{bits_of, is_within, width_of}
use Rattle.cedar_extensions.specs.declared.ip_addr.IpAddr.{IpAddr}

-- whether the addresses that share so many first bits with an address are loopback addresses: in
-- 127.0.0.0/8, or ::1
abbrev pub are_loopback : Address → ℕ → Bool
are_loopback (V4 a) n = is_within 32 (ipv4_bits a) n (127 * 2 ^ 24) 8
are_loopback (V6 a) n = is_within 128 (ipv6_bits a) n 1 128

-- whether they are multicast addresses: in 224.0.0.0/4, or in ff00::/8
abbrev pub are_multicast : Address → ℕ → Bool
are_multicast (V4 a) n = is_within 32 (ipv4_bits a) n (224 * 2 ^ 24) 4
are_multicast (V6 a) n = is_within 128 (ipv6_bits a) n (255 * 2 ^ 120) 8

-- whether all addresses of a range are
abbrev pub is_loopback : IpAddr → Bool
is_loopback r = are_loopback (address_of r) (prefix_of r)

abbrev pub is_multicast : IpAddr → Bool
is_multicast r = are_multicast (address_of r) (prefix_of r)

-- whether all addresses of a range are in another
abbrev pub is_in_range : IpAddr → IpAddr → Bool
is_in_range r s =
    (width_of (address_of r) == width_of (address_of s))
    && is_within (width_of (address_of r)) (bits_of (address_of r)) (prefix_of r)
    (bits_of (address_of s)) (prefix_of s)
