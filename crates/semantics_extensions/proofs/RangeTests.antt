-- The tests of ranges answer what is asked of them.
use Rattle.std.proofs.Common.{◌≡◌, ◌↔◌, ℕ, ◌*◌, ◌<◌, ◌≤◌, ◌^◌, ◌==◌, true, sym, subst, lit≤, eqb-true, eq-eqb}
use Rattle.std.proofs.lemmas.Bool.{and_from, and_parts}
use Rattle.std.specs.declared.net.ip_addr.IpAddr.{IpAddr as Address}
use Rattle.std.specs.declared.net.ip_addr.IpAddr.TheVariants.{V4, V6}
use Rattle.std.specs.Net.Addr.{MatchIp, ipv4_bits, ipv6_bits}
use Rattle.cedar_extensions.specs.IpAddrs.{IsLoopback, IsMulticast, IsRangeWithin, address_of, prefix_of}
use Rattle.cedar_extensions.specs.Ranges.{IsWithin, bits_of, is_within, width_of}
use Rattle.cedar_extensions.specs.declared.ip_addr.IpAddr.{IpAddr}
use Rattle.semantics_extensions.specs.Tests.{are_loopback, are_multicast, is_in_range, is_loopback, is_multicast}

-- a range is within another by their first bits
module _ (by_bits : (w a p b q : ℕ) → p ≤ w → q ≤ w → a < 2 ^ w → (is_within w a p b q ≡ true) ↔ IsWithin w a p b q) where
  loopback_at : (a : Address) (n : ℕ) → n ≤ width_of a → bits_of a < 2 ^ width_of a → (are_loopback a n ≡ true) ↔ MatchIp a (λ x. IsWithin 32 (ipv4_bits x) n (127 * 2 ^ 24) 8) (λ x. IsWithin 128 (ipv6_bits x) n 1 128)
  loopback_at (V4 a) n h k = by_bits 32 (ipv4_bits a) n (127 * 2 ^ 24) 8 h (lit≤ tt) k
  loopback_at (V6 a) n h k = by_bits 128 (ipv6_bits a) n 1 128 h (lit≤ tt) k

  multicast_at : (a : Address) (n : ℕ) → n ≤ width_of a → bits_of a < 2 ^ width_of a → (are_multicast a n ≡ true) ↔ MatchIp a (λ x. IsWithin 32 (ipv4_bits x) n (224 * 2 ^ 24) 4) (λ x. IsWithin 128 (ipv6_bits x) n (255 * 2 ^ 120) 8)
  multicast_at (V4 a) n h k = by_bits 32 (ipv4_bits a) n (224 * 2 ^ 24) 4 h (lit≤ tt) k
  multicast_at (V6 a) n h k = by_bits 128 (ipv6_bits a) n (255 * 2 ^ 120) 8 h (lit≤ tt) k

  pub loopback : (r : IpAddr) → bits_of (address_of r) < 2 ^ width_of (address_of r) → (is_loopback r ≡ true) ↔ IsLoopback r
  loopback r k = loopback_at r.address r.prefix r.within k

  pub multicast : (r : IpAddr) → bits_of (address_of r) < 2 ^ width_of (address_of r) → (is_multicast r ≡ true) ↔ IsMulticast r
  multicast r k = multicast_at r.address r.prefix r.within k

  pub in_range : (r s : IpAddr) → bits_of (address_of r) < 2 ^ width_of (address_of r) → (is_in_range r s ≡ true) ↔ IsRangeWithin r s
  in_range r s k =
      let w = width_of (address_of r) in
      let v = width_of (address_of s) in
      let within = is_within w (bits_of (address_of r)) (prefix_of r) (bits_of (address_of s)) (prefix_of s) in
      let decided = λ (same : w ≡ v). by_bits w (bits_of (address_of r)) (prefix_of r) (bits_of (address_of s)) (prefix_of s) r.within (subst (λ x. prefix_of s ≤ x) (sym same) s.within) k in (
        λ e. let both = and_parts (w == v) within e in let same = eqb-true w v both.0 in (same, (decided same).0 both.1),
        λ h. and_from (w == v) within (eq-eqb w v h.0) ((decided h.0).1 h.1),
      )
