-- A text is a range of addresses in one way.
use Rattle.std.proofs.Common.{◌≡◌, ℕ, ◌<◌, ◌≤◌, ◌^◌, ◌==◌, Bool, true, false, not, List, [], ◌∷◌, ◌++◌, length, Option, Some, None, Result, Ok, Err, decimal, refl, sym, ap, subst, ◌∙◌, arith, lit<}
use Rattle.std.proofs.lemmas.Bool.{eqb-true, not-false}
use Rattle.std.proofs.lemmas.Fmt.{decimal_injective}
use Rattle.std.specs.declared.net.ip_addr.IpAddr.TheVariants.{V4, V6}
use Rattle.std.proofs.NetLemmas.Theorems.{IsIpText_unique}
use Rattle.std.specs.List.{list_all}
use Rattle.std.specs.declared.net.ip_addr.IpAddr.{IpAddr as Address}
use Rattle.cedar_extensions.specs.Numbers.{begins_with}
use Rattle.cedar_extensions.specs.Slashes.{IsPrefixText, IsSplit, is_no_slash}
use Rattle.cedar_extensions.specs.Ranges.{IsAddressText, is_mixed, width_of}
use Rattle.cedar_extensions.specs.AddressReads.{IsNoAddress}
use Rattle.cedar_extensions.specs.IpAddrs.{IsIpAddrText, IsPrefixed, IsRefusedFor, Reads, StandsFor}
use Rattle.cedar_extensions.specs.declared.ip_addr.IpAddr.{IpAddr}
use Rattle.cedar_extensions.specs.declared.ip_addr.IpAddrError.{IpAddrError}
use Rattle.cedar_extensions.specs.declared.ip_addr.IpAddrError.TheVariants.{Malformed, EmbeddedIpv4, Prefix}
use Rattle.cedar_extensions.proofs.Splits.{append_nil, same_split}

empty : (xs : List ℕ) → length xs ≡ 0 → xs ≡ []
empty [] h = refl
empty (x ∷ xs) h = absurd (omega arith)

-- what follows the part in front of the slash
abbrev behind : Option (List ℕ) → List ℕ
behind None = []
behind (Some back) = 47 ∷ back

split_text : (t a : List ℕ) (p : Option (List ℕ)) → IsSplit t a p → (t ≡ a ++ behind p) × (list_all is_no_slash a ≡ true) × (begins_with is_no_slash (behind p) ≡ false)
split_text t a None h = (h.0 ∙ sym (append_nil a), h.1, refl)
split_text t a (Some back) h = (h.0, h.1, refl)

same_behind : (p q : Option (List ℕ)) → behind p ≡ behind q → p ≡ q
same_behind None None e = refl
same_behind None (Some b) e = cc
same_behind (Some a) None e = cc
same_behind (Some a) (Some b) e = let same : a ≡ b = cc in ap Some same

-- two ways to split a text at its first slash are one
pub same_parts : (t a b : List ℕ) (p q : Option (List ℕ)) → IsSplit t a p → IsSplit t b q → (a ≡ b) × (p ≡ q)
same_parts t a b p q h k =
    let m = split_text t a p h in
    let n = split_text t b q k in
    let s = same_split is_no_slash a b (behind p) (behind q) m.1 n.1 m.2 n.2 (sym m.0 ∙ n.0) in
    (s.0, same_behind p q s.1)

abbrev IsRefused : List ℕ → IpAddrError → Type 0
IsRefused t e = IsRefusedFor t e × ((s : IpAddr) → IsIpAddrText t s → ⊥)

not_mixed : (t : List ℕ) (a : Address) → is_mixed t ≡ true → IsAddressText t a → ⊥
not_mixed t a m h = let p = h.plain in cc

-- what is no address in front of the slash is no range
pub no_address : (t a : List ℕ) (p : Option (List ℕ)) (e : IpAddrError) → IsSplit t a p → IsNoAddress a e → IsRefused t e
no_address t a p Malformed h nowhere =
    let none : (b : List ℕ) (q : Option (List ℕ)) (x : Address) → IsSplit t b q → IsAddressText b x → ⊥ = λ b q x k w. nowhere x (subst (λ y. IsAddressText y x) (same_parts t b a q p k h).0 w) in
    (none, λ s stands. none stands.front stands.back s.address stands.split stands.address_part)
no_address t a p EmbeddedIpv4 h mixed =
    ((a, p, h, mixed), λ s stands. not_mixed a s.address mixed (subst (λ y. IsAddressText y s.address) (same_parts t stands.front a stands.back p stands.split h).0 stands.address_part))
no_address t a p Prefix h never = absurd never

same_address : (t : List ℕ) (a b : Address) → IsAddressText t a → IsAddressText t b → a ≡ b
same_address t a b h k = IsIpText_unique t a b h.written k.written

-- without a prefix behind its slash it is none
pub no_prefix : (t a : List ℕ) (back : Option (List ℕ)) (x : Address) → IsSplit t a back → IsAddressText a x → ((n : ℕ) → IsPrefixText back (width_of x) n → ⊥) → IsRefused t Prefix
no_prefix t a back x h w none = (
  (a, back, x, h, w, none),
  λ s stands.
      let same = same_parts t stands.front a stands.back back stands.split h in
      let e : s.address ≡ x = same_address a s.address x (subst (λ y. IsAddressText y s.address) same.0 stands.address_part) w in
      let q : IsPrefixText back (width_of s.address) s.prefix = subst (λ o. IsPrefixText o (width_of s.address) s.prefix) same.1 stands.prefix_part in
      none s.prefix (subst (λ y. IsPrefixText back (width_of y) s.prefix) e q),
)

slash : (x : ℕ) → is_no_slash x ≡ false → x ≡ 47
slash x h = eqb-true x 47 (not-false (x == 47) h)

-- a byte behind what stands in front of the slash is the slash
pub split_there : (t front r back : List ℕ) {x : ℕ} → t ≡ front ++ r → list_all is_no_slash front ≡ true → begins_with is_no_slash r ≡ false → r ≡ x ∷ back → IsSplit t front (Some back)
split_there t front r back {x} e h ends rest =
    let first : is_no_slash x ≡ false = sym (ap (begins_with is_no_slash) rest) ∙ ends in
    (e ∙ ap (λ y. front ++ y) (rest ∙ ap (λ c. c ∷ back) (slash x first)), h)

-- without one there is no slash
pub split_nowhere : (t front r : List ℕ) → t ≡ front ++ r → list_all is_no_slash front ≡ true → length r ≡ 0 → IsSplit t front None
split_nowhere t front r e h none = (e ∙ ap (λ y. front ++ y) (empty r none) ∙ append_nil front, h)

decimals_differ : (m n k : ℕ) → m ≤ k → n ≤ k → k < 2 ^ 64 → decimal m ≡ decimal n → m ≡ n
decimals_differ m n k hm hn small e = decimal_injective m n (omega arith) (omega arith) e

width_fits : (a : Address) → width_of a < 2 ^ 64
width_fits (V4 a) = lit< tt
width_fits (V6 a) = lit< tt

same_prefix : (p : Option (List ℕ)) (a : Address) (m n : ℕ) → IsPrefixText p (width_of a) m → IsPrefixText p (width_of a) n → m ≡ n
same_prefix None a m n h k = h ∙ sym k
same_prefix (Some ds) a m n h k = decimals_differ m n (width_of a) h.1 k.1 (width_fits a) (sym h.0 ∙ k.0)

-- a text stands for one range at most
pub unique : (t : List ℕ) (a b : Address) (m n : ℕ) → StandsFor t a m → StandsFor t b n → (a ≡ b) × (m ≡ n)
unique t a b m n h k =
    let parts = same_parts t h.front k.front h.back k.back h.split k.split in
    let same : a ≡ b = same_address k.front a b (subst (λ x. IsAddressText x a) parts.0 h.address_part) k.address_part in
    let there : IsPrefixText k.back (width_of b) m = subst (λ x. IsPrefixText k.back (width_of x) m) same (subst (λ o. IsPrefixText o (width_of a) m) parts.1 h.prefix_part) in
    (same, same_prefix k.back b m n there k.prefix_part)

-- the result that the prefix behind the slash gives is that of the text
pub read_with_prefix : (t a back : List ℕ) (x : Address) (r : Result IpAddr IpAddrError) → IsSplit t a (Some back) → IsAddressText a x → IsPrefixed x back r → Reads t r
read_with_prefix t a back x (Ok s) h w k =
    record { front = a; back = Some back; split = h; address_part = subst (IsAddressText a) (sym k.0) w; prefix_part = subst (λ y. IsPrefixText (Some back) (width_of y) s.prefix) (sym k.0) k.1 }
read_with_prefix t a back x (Err e) h w k = subst (IsRefused t) (sym k.0) (no_prefix t a (Some back) x h w k.1)
