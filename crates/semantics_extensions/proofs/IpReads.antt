-- A text is read as the range of addresses that it stands for.
use Rattle.std.proofs.Common.{◌≡◌, ◌↔◌, ℕ, ◌≤◌, ◌<◌, ◌==◌, ◌^◌, Bool, true, false, ◌&&◌, List, [], ◌∷◌, ◌++◌, length, nat_le, Option, Some, None, option_map, option_and_then, decimal, refl, sym, ap, subst, ◌∙◌, arith, lit≤, eqb-true, append-nil}
use Rattle.std.proofs.lemmas.Bool.{and_parts, le-leb, leb-true}
use Rattle.std.proofs.lemmas.Fmt.{digits_value-decimal}
use Rattle.std.proofs.lemmas.Option.{none-some, same_Some}
use Rattle.std.proofs.lemmas.Slice.Eq.{bytes_eq-Decides}
use Rattle.std.proofs.NetLemmas.Ipv4.{read_ipv4_complete, read_ipv4_sound}
use Rattle.std.proofs.NetLemmas.Ipv6.{EndsGroups-nil, read_ipv6_complete, read_ipv6_sound}
use Rattle.std.proofs.NetLemmas.Options.{and_then_some, cond_none, cond_some, map_some}
use Rattle.std.proofs.NetLemmas.Theorems.{IsIpText_unique}
use Rattle.std.proofs.lemmas.Str.Parse.{numerals_by_value, tells_digits}
use Rattle.std.specs.Coded.{le_prop}
use Rattle.std.specs.List.{list_all}
use Rattle.std.specs.Net.Grammar.{IsColonHex, IsDotted, IsIpText}
use Rattle.std.specs.Net.Reader.{Read, read_ipv4, read_ipv6, whole_value}
use Rattle.std.specs.Option.{option_or}
use Rattle.std.specs.Str.{bytes_eq}
use Rattle.std.specs.declared.net.ip_addr.IpAddr.{IpAddr as Address}
use Rattle.std.specs.declared.net.ip_addr.IpAddr.TheVariants.{V4, V6}
use Rattle.cedar_extensions.specs.IpAddrs.{IsIpAddrText, StandsFor, address_of, prefix_of}
use Rattle.cedar_extensions.specs.Numbers.{number_of}
use Rattle.cedar_extensions.specs.Ranges.{IsAddressText, is_mixed, width_of}
use Rattle.cedar_extensions.specs.Slashes.{IsPrefixText, IsSplit, is_no_slash}
use Rattle.cedar_extensions.specs.declared.ip_addr.IpAddr.{IpAddr}
use Rattle.semantics_extensions.specs.IpAddrs.{address_in, ip_addr_in, prefix_in, range_at, range_if, range_in, range_of}
use Rattle.semantics_extensions.specs.Searches.{first_cut}
use Rattle.semantics_extensions.proofs.Cuts.{Found, cut_found, cut_sound, exact, if_some, map_found, or_first, or_second, or_sound}

-- a whole value leaves no text
whole_pair : {A : Type 0} (y : A) (rest : List ℕ) (x : A) → whole_value (Some (y, rest)) ≡ Some x → (y ≡ x) × (rest ≡ [])
whole_pair y [] x e = (same_Some y x e, refl)
whole_pair y (c ∷ cs) x e =
    let none = eqb-true (length (c ∷ cs)) 0 (cond_some (length (c ∷ cs) == 0) y x e).0 in
    absurd (omega (arith, none))

ipv4_sound : (t ds : List ℕ) → whole_value (read_ipv4 t) ≡ Some ds → IsDotted t ds
ipv4_sound t ds e = at (read_ipv4 t) refl e
  where
    at : (r : Read (List ℕ)) → read_ipv4 t ≡ r → whole_value r ≡ Some ds → IsDotted t ds
    at None s h = absurd (none-some ds h)
    at (Some p) s h =
        let w = whole_pair p.0 p.1 ds h in
        let r = read_ipv4_sound t p.0 p.1 s in
        subst (λ x. IsDotted x ds) (sym (r.1 ∙ ap (λ x. r.0 ++ x) w.1 ∙ append-nil r.0)) (subst (IsDotted r.0) w.0 r.2)

ipv6_sound : (t ds : List ℕ) → whole_value (read_ipv6 t) ≡ Some ds → IsColonHex t ds
ipv6_sound t ds e = at (read_ipv6 t) refl e
  where
    at : (r : Read (List ℕ)) → read_ipv6 t ≡ r → whole_value r ≡ Some ds → IsColonHex t ds
    at None s h = absurd (none-some ds h)
    at (Some p) s h =
        let w = whole_pair p.0 p.1 ds h in
        let r = read_ipv6_sound t p.0 p.1 s in
        subst (λ x. IsColonHex x ds) (sym (r.1 ∙ ap (λ x. r.0 ++ x) w.1 ∙ append-nil r.0)) (subst (IsColonHex r.0) w.0 r.2)

ipv4_complete : (t ds : List ℕ) → IsDotted t ds → whole_value (read_ipv4 t) ≡ Some ds
ipv4_complete t ds h = ap whole_value (ap read_ipv4 (sym (append-nil t)) ∙ read_ipv4_complete t ds [] h (lit≤ tt))

ipv6_complete : (t ds : List ℕ) → IsColonHex t ds → whole_value (read_ipv6 t) ≡ Some ds
ipv6_complete t ds h = ap whole_value (ap read_ipv6 (sym (append-nil t)) ∙ read_ipv6_complete t ds [] h EndsGroups-nil)

address_sound : (t : List ℕ) (a : Address) → address_in t ≡ Some a → IsAddressText t a
unfolding address_in
address_sound t a e =
    let four = option_map (λ ds. V4 (record { octets = ds })) (whole_value (read_ipv4 t)) in
    let six = option_map (λ ds. V6 (record { segments = ds })) (whole_value (read_ipv6 t)) in
    let both = cond_none (is_mixed t) (option_or four six) a e in
    or_sound four six a both.1
    (λ h. map_some (λ ds. V4 (record { octets = ds })) (whole_value (read_ipv4 t)) a h λ ds r v. record { written = subst (IsIpText t) v (ipv4_sound t ds r); plain = both.0 })
    (λ h. map_some (λ ds. V6 (record { segments = ds })) (whole_value (read_ipv6 t)) a h λ ds r v. record { written = subst (IsIpText t) v (ipv6_sound t ds r); plain = both.0 })

address_found : (t : List ℕ) (a : Address) → IsAddressText t a → Found (address_in t)
unfolding address_in
address_found t (V4 a) h =
    rw h.plain
    (or_first (option_map (λ ds. V4 (record { octets = ds })) (whole_value (read_ipv4 t))) (option_map (λ ds. V6 (record { segments = ds })) (whole_value (read_ipv6 t)))
    (map_found (λ ds. V4 (record { octets = ds })) (whole_value (read_ipv4 t)) (a.octets, ipv4_complete t a.octets h.written)))
address_found t (V6 a) h =
    rw h.plain
    (or_second (option_map (λ ds. V4 (record { octets = ds })) (whole_value (read_ipv4 t))) (option_map (λ ds. V6 (record { segments = ds })) (whole_value (read_ipv6 t)))
    (map_found (λ ds. V6 (record { segments = ds })) (whole_value (read_ipv6 t)) (a.segments, ipv6_complete t a.segments h.written)))

address_complete : (t : List ℕ) (a : Address) → IsAddressText t a → address_in t ≡ Some a
address_complete t a h = exact (IsAddressText t) (address_in t) (address_sound t) (address_found t) (λ x y p q. IsIpText_unique t x y p.written q.written) a h

prefix_sound : (width : ℕ) (back : Option (List ℕ)) (n : ℕ) → prefix_in width back ≡ Some n → IsPrefixText back width n
prefix_sound width None n e = sym (same_Some width n e)
prefix_sound width (Some ds) n e =
    let both = cond_some (bytes_eq ds (decimal (number_of ds)) && nat_le (number_of ds) width) (number_of ds) n e in
    let parts = and_parts (bytes_eq ds (decimal (number_of ds))) (nat_le (number_of ds) width) both.0 in
    subst (λ m. (ds ≡ decimal m) × (m ≤ width)) both.1 ((bytes_eq-Decides ds (decimal (number_of ds))).0 parts.0, leb-true (number_of ds) width parts.1)

small : (a : Address) (n : ℕ) → n ≤ width_of a → n < 2 ^ 64
small (V4 a) n h = omega (arith, h)
small (V6 a) n h = omega (arith, h)

decimal_number : (n : ℕ) → n < 2 ^ 64 → number_of (decimal n) ≡ n
decimal_number n h = digits_value-decimal (numerals_by_value _ tells_digits) n h

prefix_complete : (a : Address) (back : Option (List ℕ)) (n : ℕ) → IsPrefixText back (width_of a) n → prefix_in (width_of a) back ≡ Some n
prefix_complete a None n h = ap Some (sym h)
prefix_complete a (Some ds) n h =
    let value : number_of ds ≡ n = ap number_of h.0 ∙ decimal_number n (small a n h.1) in
    rw (value, (bytes_eq-Decides ds (decimal n)).1 h.0, le-leb n (width_of a) h.1) refl

range_if_sound : (a : Address) (n : ℕ) (b : Bool) (h : nat_le n (width_of a) ≡ b) (r : IpAddr) → range_if a n b h ≡ Some r → (a ≡ address_of r) × (n ≡ prefix_of r)
range_if_sound a n true h r e = let same = same_Some _ r e in (ap address_of same, ap prefix_of same)
range_if_sound a n false h r e = absurd (none-some r e)

range_if_found : (a : Address) (n : ℕ) (b : Bool) (h : nat_le n (width_of a) ≡ b) → n ≤ width_of a → Found (range_if a n b h)
range_if_found a n true h k = (_, refl)
range_if_found a n false h k = let t : true ≡ false = sym (le-leb n (width_of a) k) ∙ h in cc

range_in_sound : (front : List ℕ) (back : Option (List ℕ)) (r : IpAddr) → range_in front back ≡ Some r → IsAddressText front (address_of r) × IsPrefixText back (width_of (address_of r)) (prefix_of r)
range_in_sound front back r e =
    and_then_some (λ a. option_and_then (range_of a) (prefix_in (width_of a) back)) (address_in front) r e λ a s g.
    and_then_some (range_of a) (prefix_in (width_of a) back) r g λ n p q.
    let same = range_if_sound a n (nat_le n (width_of a)) refl r q in (
      subst (IsAddressText front) same.0 (address_sound front a s),
      subst (λ x. IsPrefixText back (width_of x) (prefix_of r)) same.0 (subst (IsPrefixText back (width_of a)) same.1 (prefix_sound (width_of a) back n p)),
    )

range_in_found : (front : List ℕ) (back : Option (List ℕ)) (a : Address) (n : ℕ) → IsAddressText front a → IsPrefixText back (width_of a) n → n ≤ width_of a → Found (range_in front back)
range_in_found front back a n h p k =
    rw (address_complete front a h, prefix_complete a back n p) (range_if_found a n (nat_le n (width_of a)) refl k)

at_sound : (front rest : List ℕ) (r : IpAddr) → range_at front rest ≡ Some r → IsIpAddrText (front ++ rest) r
at_sound front [] r e =
    let both = if_some (list_all is_no_slash front) (range_in front None) r e in
    let parts = range_in_sound front None r both.1 in
    record { front = front; back = None; split = (append-nil front, both.0); address_part = parts.0; prefix_part = parts.1 }
at_sound front (c ∷ back) r e =
    let both = if_some (c == 47 && list_all is_no_slash front) (range_in front (Some back)) r e in
    let tests = and_parts (c == 47) (list_all is_no_slash front) both.0 in
    let parts = range_in_sound front (Some back) r both.1 in
    record {
      front = front;
      back = Some back;
      split = (ap (λ x. front ++ x ∷ back) (eqb-true c 47 tests.0), tests.1);
      address_part = parts.0;
      prefix_part = parts.1;
    }

sound : (t : List ℕ) (r : IpAddr) → ip_addr_in t ≡ Some r → IsIpAddrText t r
unfolding ip_addr_in
sound t r e = cut_sound range_at t r e λ front rest s g. subst (λ x. IsIpAddrText x r) (sym s) (at_sound front rest r g)

cut_there : (t front : List ℕ) (back : Option (List ℕ)) → IsSplit t front back → Found (range_in front back) → Found (first_cut range_at t)
cut_there t front None h some =
    subst (λ x. Found (first_cut range_at x)) (append-nil front ∙ sym h.0) (cut_found range_at front [] (rw h.1 some))
cut_there t front (Some back) h some =
    subst (λ x. Found (first_cut range_at x)) (sym h.0) (cut_found range_at front (47 ∷ back) (rw h.1 some))

found : (t : List ℕ) (r : IpAddr) → IsIpAddrText t r → Found (ip_addr_in t)
unfolding ip_addr_in
found t r h = cut_there t h.front h.back h.split (range_in_found h.front h.back r.address r.prefix h.address_part h.prefix_part r.within)

abbrev made : (a : Address) (n : ℕ) → n ≤ width_of a → IpAddr
made a n h = record { address = a; prefix = n; within = h }

same_made : (a : Address) (m : ℕ) (h : m ≤ width_of a) (b : Address) (n : ℕ) (k : n ≤ width_of b) → a ≡ b → m ≡ n → made a m h ≡ made b n k
same_made a m h b n k p q =
    subst (λ x. (w : n ≤ width_of x) → made a m h ≡ made x n w) p
    (λ w. subst (λ y. (v : y ≤ width_of a) → made a m h ≡ made a y v) q (λ v. ap (made a m) (le_prop h v)) w) k

pub ip_addr_exact : ((t : List ℕ) (a b : Address) (m n : ℕ) → StandsFor t a m → StandsFor t b n → (a ≡ b) × (m ≡ n)) → (t : List ℕ) (r : IpAddr) → (ip_addr_in t ≡ Some r) ↔ IsIpAddrText t r
ip_addr_exact unique t r = (
  sound t r,
  exact (IsIpAddrText t) (ip_addr_in t) (sound t) (found t)
      (λ x y p q. let same = unique t (address_of x) (address_of y) (prefix_of x) (prefix_of y) p q in same_made x.address x.prefix x.within y.address y.prefix y.within same.0 same.1)
      r,
)
