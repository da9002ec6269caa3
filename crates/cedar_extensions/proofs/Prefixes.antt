-- When each number with these first bits has those.
use Rattle.std.proofs.Common.{◌≡◌, ℕ, ◌+◌, ◌-◌, ◌*◌, ◌/◌, ◌^◌, ◌<◌, ◌≤◌, ◌==◌, ◌↔◌, Bool, true, false, ◌&&◌, nat_le, refl, sym, ap, subst, ◌∙◌, ⊎_elim, arith, eqb-true, eq-eqb}
use Rattle.std.proofs.lemmas.Bool.{and_from, and_parts, cases_lt, le-leb, leb-true}
use Rattle.std.proofs.lemmas.Nat.{div-mul-add, div_below, mul-add-lt, pow-add, pow_below, pow_pos, shl-shr, shr-shr}
use Rattle.cedar_extensions.specs.Ranges.{IsWithin, is_within}

-- the first bits of the first bits
shorter : (w p q n : ℕ) → p ≤ w → q ≤ p → n / 2 ^ (w - p) / 2 ^ (p - q) ≡ n / 2 ^ (w - q)
shorter w p q n pw qp = let sum : (w - p) + (p - q) ≡ w - q = omega arith in shr-shr n (w - p) (p - q) ∙ ap (λ k. n / 2 ^ k) sum

within_if : (w a p b q : ℕ) → p ≤ w → q ≤ p → a / 2 ^ (w - q) ≡ b / 2 ^ (w - q) → IsWithin w a p b q
within_if w a p b q pw qp e = λ x fits same. sym (shorter w p q x pw qp) ∙ ap (λ n. n / 2 ^ (p - q)) same ∙ shorter w p q a pw qp ∙ e

regroup : (n d k : ℕ) → n * (d * k) + k ≡ (n * d + 1) * k
regroup n d k = omega arith

regroup_first : (n d k : ℕ) → n * (d * k) ≡ n * d * k
regroup_first n d k = omega arith

-- the first number of a block of 2 ^ j and the number 2 ^ k after it lie in two blocks of 2 ^ k, if k is less than j
differ : (n j k : ℕ) → k < j → n * 2 ^ j / 2 ^ k ≡ (n * 2 ^ j + 2 ^ k) / 2 ^ k → ⊥
differ n j k lt e =
    let sum : (j - k) + k ≡ j = omega arith in
    let power : 2 ^ j ≡ 2 ^ (j - k) * 2 ^ k = sym (ap (λ i. 2 ^ i) sum) ∙ pow-add 2 (j - k) k in
    let first : n * 2 ^ j / 2 ^ k ≡ n * 2 ^ (j - k) = ap (λ m. m / 2 ^ k) (ap (λ m. n * m) power ∙ regroup_first n (2 ^ (j - k)) (2 ^ k)) ∙ shl-shr (n * 2 ^ (j - k)) k in
    let second : (n * 2 ^ j + 2 ^ k) / 2 ^ k ≡ n * 2 ^ (j - k) + 1 = ap (λ m. m / 2 ^ k) (ap (λ m. n * m + 2 ^ k) power ∙ regroup n (2 ^ (j - k)) (2 ^ k)) ∙ shl-shr (n * 2 ^ (j - k) + 1) k in
    absurd (omega arith)

prefix_is_longer : (w a p b q : ℕ) → p ≤ w → q ≤ w → p < q → a < 2 ^ w → IsWithin w a p b q → ⊥
prefix_is_longer w a p b q pw qw lt fits h =
    let kj : w - q < w - p = omega arith in
    let sum : p + (w - p) ≡ w = omega arith in
    let power : 2 ^ w ≡ 2 ^ p * 2 ^ (w - p) = sym (ap (λ i. 2 ^ i) sum) ∙ pow-add 2 p (w - p) in
    let below : a / 2 ^ (w - p) < 2 ^ p = div_below a (2 ^ (w - p)) (2 ^ p) (pow_pos (w - p)) (subst (λ m. a < m) power fits) in
    let small : 2 ^ (w - q) < 2 ^ (w - p) = pow_below (w - q) (w - p) kj in
    let turned : 2 ^ (w - p) * 2 ^ p ≡ 2 ^ w = omega (arith, power) in
    let second_fits : a / 2 ^ (w - p) * 2 ^ (w - p) + 2 ^ (w - q) < 2 ^ w = subst (λ m. a / 2 ^ (w - p) * 2 ^ (w - p) + 2 ^ (w - q) < m) turned (mul-add-lt (a / 2 ^ (w - p)) (2 ^ (w - p)) (2 ^ (w - q)) (2 ^ p) below small) in
    let first_fits : a / 2 ^ (w - p) * 2 ^ (w - p) < 2 ^ w = omega arith in
    let first = h (a / 2 ^ (w - p) * 2 ^ (w - p)) first_fits (shl-shr (a / 2 ^ (w - p)) (w - p)) in
    let second = h (a / 2 ^ (w - p) * 2 ^ (w - p) + 2 ^ (w - q)) second_fits (div-mul-add (a / 2 ^ (w - p)) (2 ^ (w - p)) (2 ^ (w - q)) small) in
    differ (a / 2 ^ (w - p)) (w - p) (w - q) kj (first ∙ sym second)

never : false ≡ true → ⊥
never e = cc

pub not_within : (w a p b q : ℕ) → p ≤ w → q ≤ w → p < q → a < 2 ^ w → (false ≡ true) ↔ IsWithin w a p b q
not_within w a p b q pw qw lt fits = (λ e. absurd (never e), λ h. absurd (prefix_is_longer w a p b q pw qw lt fits h))

pub within_by_bits : (w a p b q m n : ℕ) (r : Bool) → p ≤ w → q ≤ p → a < 2 ^ w → m ≡ a / 2 ^ (w - q) → n ≡ b / 2 ^ (w - q) → r ≡ (m == n) → (r ≡ true) ↔ IsWithin w a p b q
within_by_bits w a p b q m n r pw qp fits em en er =
    (λ e. within_if w a p b q pw qp (sym em ∙ eqb-true m n (sym er ∙ e) ∙ en), λ h. er ∙ eq-eqb m n (em ∙ h a fits refl ∙ sym en))

-- a number is within a range by its first bits
pub by_bits : (w a p b q : ℕ) → p ≤ w → q ≤ w → a < 2 ^ w → (is_within w a p b q ≡ true) ↔ IsWithin w a p b q
by_bits w a p b q pw qw fits = (
  λ e.
      let both = and_parts (nat_le q p) (a / 2 ^ (w - q) == b / 2 ^ (w - q)) e in
      within_if w a p b q pw (leb-true q p both.0) (eqb-true (a / 2 ^ (w - q)) (b / 2 ^ (w - q)) both.1),
  λ h.
      ⊎_elim
      (λ (lt : p < q). absurd (prefix_is_longer w a p b q pw qw lt fits h))
      (λ (le : q ≤ p). and_from (nat_le q p) (a / 2 ^ (w - q) == b / 2 ^ (w - q)) (le-leb q p le) (eq-eqb (a / 2 ^ (w - q)) (b / 2 ^ (w - q)) (h a fits refl)))
      (cases_lt p q),
)
