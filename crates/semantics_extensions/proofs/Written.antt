-- The text of a value stands for it.
use Rattle.std.proofs.Common.{◌≡◌, ℕ, ℤ, pos, negsuc, suc, ◌+◌, ◌*◌, ◌/◌, ◌%◌, ◌^◌, ◌<◌, ◌==◌, FitsSigned, w64, unsigned_abs, int_lt, Bool, true, false, ◌&&◌, List, [], ◌∷◌, ◌++◌, length, codes, decimal, length-append, append_assoc, refl, sym, ap, subst, ◌∙◌, inl, inr, ⊎_elim, get_or, Some, arith}
use Rattle.std.proofs.lemmas.Bool.{and_from, and_parts}
use Rattle.std.proofs.lemmas.Bool.Decides.{nat_tests}
use Rattle.std.proofs.lemmas.Fmt.{decimal_digit, decimal_nonempty, digits_decimal, digits_value-decimal}
use Rattle.std.proofs.lemmas.Int.{ints}
use Rattle.std.proofs.lemmas.Str.{digit_value_digit}
use Rattle.std.proofs.lemmas.Str.Parse.{IsDigitsTest, IsNumeralModel, numerals_by_value}
use Rattle.std.specs.Char.{digit_value, is_ascii_digit}
use Rattle.std.specs.Int.{IsInRange}
use Rattle.std.specs.List.{AllByRecursion, list_all, list_any}
use Rattle.std.specs.Net.Addr.{IsIpv4Addr, IsIpv6Addr, MatchIp}
use Rattle.std.specs.Net.Text.{hex_groups_text, ipv4_text}
use Rattle.std.specs.declared.net.ip_addr.IpAddr.{IpAddr as Address}
use Rattle.std.specs.declared.net.ip_addr.IpAddr.TheVariants.{V4, V6}
use Rattle.std.proofs.lemmas.List.Elements.{recursion_from_All}
use Rattle.std.proofs.NetLemmas.Alphabet.{All-hex_groups_text, All-ipv4_text, IsDigitOrDot, IsHexOrColon}
use Rattle.std.proofs.NetLemmas.Texts.{AllSegments, IsColonHex-hex_groups_text, IsDotted-ipv4_text}
use Rattle.cedar_extensions.specs.Amounts.{IsAmounts, all_units}
use Rattle.cedar_extensions.specs.Decimals as decimals
use Rattle.cedar_extensions.specs.Durations as durations
use Rattle.cedar_extensions.specs.IpAddrs.{IsIpAddrText, address_of, address_text, ip_addr_text, prefix_of}
use Rattle.cedar_extensions.specs.Numbers.{IsDigits, number_of, signed, with_sign}
use Rattle.cedar_extensions.specs.Parts.{ten_thousandths_of}
use Rattle.cedar_extensions.specs.Ranges.{IsAddressText}
use Rattle.cedar_extensions.specs.Slashes.{is_no_slash}
use Rattle.cedar_extensions.specs.declared.ip_addr.IpAddr.{IpAddr}

digit_range : (c : ℕ) → is_ascii_digit c ≡ true → IsInRange 48 57 c
digit_range c h = (grind (arith, nat_tests), grind (arith, nat_tests))

range_digit : (c : ℕ) → IsInRange 48 57 c → is_ascii_digit c ≡ true
range_digit c h = grind (arith, nat_tests)

own_digits : IsDigitsTest (λ ds. list_all is_ascii_digit ds ≡ true)
own_digits = record {
  empty = refl;
  parts = λ c cs h. let both = and_parts (is_ascii_digit c) (list_all is_ascii_digit cs) h in (digit_range c both.0, both.1);
  more = λ c cs h k. and_from (is_ascii_digit c) (list_all is_ascii_digit cs) (range_digit c h) k;
}

own : IsNumeralModel (λ ds. list_all is_ascii_digit ds ≡ true) number_of
own = numerals_by_value _ own_digits

are_digits : (n : ℕ) → n < 2 ^ 64 → IsDigits (decimal n)
are_digits n h = (decimal_nonempty n h, digits_decimal own n h)

number : (n : ℕ) → n < 2 ^ 64 → number_of (decimal n) ≡ n
number n h = digits_value-decimal own n h

no_more : (n : ℕ) → n ≡ n * 1 + 0
no_more n = omega arith

-- milliseconds as the amounts of a duration
amounts : (n : ℕ) → n < 2 ^ 64 → IsAmounts all_units (decimal n ++ codes "ms") n
amounts n h =
    inl (inl (inl (inl (inr (record {
      digits = decimal n;
      rest = [];
      others = 0;
      spelled = refl;
      digit_part = are_digits n h;
      others_part = (refl, refl);
      value = no_more n ∙ ap (λ m. m * 1 + 0) (sym (number n h));
    })))))

some : (n : ℕ) → n < 2 ^ 64 → 0 < length (decimal n ++ codes "ms")
some n h = omega (arith, decimal_nonempty n h, length-append (decimal n) (codes "ms"))

below : (n : ℕ) → FitsSigned w64 (pos n) → n < 2 ^ 64
below n h = omega (arith, ints)

below_negative : (n : ℕ) → FitsSigned w64 (negsuc n) → suc n < 2 ^ 64
below_negative n h = omega (arith, ints)

pub duration_stands : (z : ℤ) → FitsSigned w64 z → durations.StandsFor (durations.duration_text z) z
duration_stands (pos n) h = record {
  is_negative = false;
  amounts = decimal n ++ codes "ms";
  size = n;
  spelled = refl;
  some = some n (below n h);
  counted = amounts n (below n h);
  value = refl;
}
duration_stands (negsuc n) h = record {
  is_negative = true;
  amounts = decimal (suc n) ++ codes "ms";
  size = suc n;
  spelled = refl;
  some = some (suc n) (below_negative n h);
  counted = amounts (suc n) (below_negative n h);
  value = refl;
}

-- four digits behind a point
digit_at : (d : ℕ) → d < 10 → is_ascii_digit (48 + d) ≡ true
digit_at d h = grind (arith, nat_tests)

value_at : (d : ℕ) → d < 10 → digit_value (48 + d) ≡ d
value_at d h = let v = digit_value_digit (48 + d) (omega arith, omega arith) in omega (arith, v)

abbrev glyphs : ℕ → ℕ → ℕ → ℕ → List ℕ
glyphs a b c d = (48 + a) ∷ (48 + b) ∷ (48 + c) ∷ (48 + d) ∷ []

glyphs_are : (k : ℕ) → k < 10000 → decimals.four_digits k ≡ glyphs (k / 1000) (k / 100 % 10) (k / 10 % 10) (k % 10)
glyphs_are k h = rw (decimal_digit (k / 1000) (omega arith), decimal_digit (k / 100 % 10) (omega arith), decimal_digit (k / 10 % 10) (omega arith), decimal_digit (k % 10) (omega arith)) refl

glyphs_pass : (a b c d : ℕ) → a < 10 → b < 10 → c < 10 → d < 10 → list_all is_ascii_digit (glyphs a b c d) ≡ true
glyphs_pass a b c d ha hb hc hd = rw (digit_at a ha, digit_at b hb, digit_at c hc, digit_at d hd) refl

glyphs_number : (a b c d : ℕ) → a < 10 → b < 10 → c < 10 → d < 10 → number_of (glyphs a b c d) ≡ ((a * 10 + b) * 10 + c) * 10 + d
glyphs_number a b c d ha hb hc hd = rw (value_at a ha, value_at b hb, value_at c hc, value_at d hd) (omega arith)

fraction_digits : (k : ℕ) → k < 10000 → IsDigits (decimals.four_digits k)
fraction_digits k h = subst IsDigits (sym (glyphs_are k h)) (omega arith, glyphs_pass (k / 1000) (k / 100 % 10) (k / 10 % 10) (k % 10) (omega arith) (omega arith) (omega arith) (omega arith))

fraction_length : (k : ℕ) → k < 10000 → length (decimals.four_digits k) ≡ 4
fraction_length k h = ap length (glyphs_are k h)

fraction_number : (k : ℕ) → k < 10000 → number_of (decimals.four_digits k) ≡ k
fraction_number k h = ap number_of (glyphs_are k h) ∙ glyphs_number (k / 1000) (k / 100 % 10) (k / 10 % 10) (k % 10) (omega arith) (omega arith) (omega arith) (omega arith) ∙ omega arith

whole_number : (m : ℕ) → m < 2 ^ 64 → ten_thousandths_of (decimal (m / 10000)) (decimals.four_digits (m % 10000)) ≡ m
whole_number m h =
    rw (number (m / 10000) (omega arith), fraction_number (m % 10000) (omega arith), fraction_length (m % 10000) (omega arith)) (omega arith)

not_negative : (n : ℕ) → int_lt (pos n) (pos 0) ≡ false
not_negative n = grind (arith, ints)

with_number : (z : ℤ) → z ≡ signed (int_lt z (pos 0)) (unsigned_abs z)
with_number (pos n) = rw (not_negative n) refl
with_number (negsuc n) = refl

size_below : (z : ℤ) → FitsSigned w64 z → unsigned_abs z < 2 ^ 64
size_below (pos n) h = below n h
size_below (negsuc n) h = below_negative n h

pub decimal_stands : (z : ℤ) → FitsSigned w64 z → decimals.StandsFor (decimals.decimal_text z) z
decimal_stands z h =
    let m = unsigned_abs z in
    let small = size_below z h in
    record {
      is_negative = int_lt z (pos 0);
      whole = decimal (m / 10000);
      fraction = decimals.four_digits (m % 10000);
      parts = record {
        spelled = ap (with_sign (int_lt z (pos 0))) (append_assoc (decimal (m / 10000)) (codes ".") (decimals.four_digits (m % 10000)));
        whole_part = are_digits (m / 10000) (omega arith);
        fraction_part = fraction_digits (m % 10000) (omega arith);
      };
      at_most_four = omega (arith, fraction_length (m % 10000) (omega arith));
      value = with_number z ∙ ap (signed (int_lt z (pos 0))) (sym (whole_number m small));
    }

-- ranges of addresses
module _ {P : ℕ → Type 0} (p : ℕ → Bool) where
  passes : ((c : ℕ) → P c → p c ≡ true) → (xs : List ℕ) → AllByRecursion P xs → list_all p xs ≡ true
  passes h [] k = refl
  passes h (x ∷ xs) k = and_from (p x) (list_all p xs) (h x k.0) (passes h xs k.1)

  fails : ((c : ℕ) → P c → p c ≡ false) → (xs : List ℕ) → AllByRecursion P xs → list_any p xs ≡ false
  fails h [] k = refl
  fails h (x ∷ xs) k = rw (h x k.0) (fails h xs k.1)

dotted : (o : List ℕ) → ((k : ℕ) → get_or o k 0 < 2 ^ 8) → AllByRecursion IsDigitOrDot (ipv4_text o)
dotted o fits = recursion_from_All IsDigitOrDot (ipv4_text o) (All-ipv4_text o fits)

grouped : (xs : List ℕ) → AllSegments xs → AllByRecursion IsHexOrColon (hex_groups_text xs)
grouped xs fits = recursion_from_All IsHexOrColon (hex_groups_text xs) (All-hex_groups_text xs fits)

dotted_no_slash : (c : ℕ) → IsDigitOrDot c → is_no_slash c ≡ true
dotted_no_slash c h = ⊎_elim (λ (r : IsInRange 48 57 c). grind (arith, nat_tests)) (λ (e : c ≡ 46). grind (arith, nat_tests)) h

dotted_no_colon : (c : ℕ) → IsDigitOrDot c → (c == 58) ≡ false
dotted_no_colon c h = ⊎_elim (λ (r : IsInRange 48 57 c). grind (arith, nat_tests)) (λ (e : c ≡ 46). grind (arith, nat_tests)) h

grouped_no_slash : (c : ℕ) → IsHexOrColon c → is_no_slash c ≡ true
grouped_no_slash c h = ⊎_elim (λ (r : IsInRange 48 58 c). grind (arith, nat_tests)) (λ (r : IsInRange 97 102 c). grind (arith, nat_tests)) h

grouped_no_dot : (c : ℕ) → IsHexOrColon c → (c == 46) ≡ false
grouped_no_dot c h = ⊎_elim (λ (r : IsInRange 48 58 c). grind (arith, nat_tests)) (λ (r : IsInRange 97 102 c). grind (arith, nat_tests)) h

not_both : (a : Bool) → (a && false) ≡ false
not_both true = refl
not_both false = refl

no_slash : (a : Address) → MatchIp a IsIpv4Addr IsIpv6Addr → list_all is_no_slash (address_text a) ≡ true
no_slash (V4 a) h = passes is_no_slash dotted_no_slash (ipv4_text a.octets) (dotted a.octets h.1)
no_slash (V6 a) h = passes is_no_slash grouped_no_slash (hex_groups_text a.segments) (grouped a.segments h.1)

address_stands : (a : Address) → MatchIp a IsIpv4Addr IsIpv6Addr → IsAddressText (address_text a) a
address_stands (V4 a) h = record {
  written = IsDotted-ipv4_text a.octets h.0 h.1;
  plain = rw (fails (λ c. c == 58) dotted_no_colon (ipv4_text a.octets) (dotted a.octets h.1)) refl;
}
address_stands (V6 a) h = record {
  written = IsColonHex-hex_groups_text a.segments h.0 h.1;
  plain =
      rw (fails (λ c. c == 46) grouped_no_dot (hex_groups_text a.segments) (grouped a.segments h.1))
      (not_both (list_any (λ c. c == 58) (hex_groups_text a.segments)));
}

pub ip_addr_stands : (r : IpAddr) → MatchIp (address_of r) IsIpv4Addr IsIpv6Addr → IsIpAddrText (ip_addr_text r) r
ip_addr_stands r h = record {
  front = address_text (address_of r);
  back = Some (decimal (prefix_of r));
  split = (append_assoc (address_text (address_of r)) (codes "/") (decimal (prefix_of r)), no_slash (address_of r) h);
  address_part = address_stands (address_of r) h;
  prefix_part = (refl, r.within);
}
