-- Six hexadecimal digits fit 32 bits.
use Rattle.std.proofs.Common.{◌≡◌, ℕ, suc, zero, ◌+◌, ◌-◌, ◌*◌, ◌^◌, ◌<◌, ◌≤◌, arith, subst, ap, sym}
use Rattle.std.proofs.Math.Nat.{mul-le-mul_right}
use native.Mathlib.Numerals.{unary_clauses}

power_above : (m : ℕ) → 0 < 16 ^ m
power_above zero = omega arith
power_above (suc m) = let h = power_above m in simp unary_clauses (omega (arith, h))

power_more : (m : ℕ) → 16 ^ suc m ≡ 16 ^ m * 16
power_more m = simp unary_clauses (omega arith)

room : (v d m : ℕ) → (v + 1) * 16 ^ suc m ≤ 16777216 → d < 16 → (v * 16 + d + 1) * 16 ^ m ≤ 16777216
room v d m h k =
    let p = 16 ^ m in
    let small : (v * 16 + d + 1) ≤ (v + 1) * 16 = omega arith in
    let le : (v * 16 + d + 1) * 16 ^ m ≤ ((v + 1) * 16) * 16 ^ m = mul-le-mul_right (16 ^ m) small in
    let e : (v + 1) * 16 ^ suc m ≡ (v + 1) * (16 ^ m * 16) = ap (λ q. (v + 1) * q) (power_more m) in
    omega (arith, le, e, h)

-- one digit more
pub more : (v d left : ℕ) → (v + 1) * 16 ^ left ≤ 16 ^ 6 → d < 16 → 0 < left → (v * 16 + d + 1) * 16 ^ (left - 1) ≤ 16 ^ 6
more v d zero h k n = absurd (omega arith)
more v d (suc m) h k n = let e : suc m - 1 ≡ m = omega arith in subst (λ l. (v * 16 + d + 1) * 16 ^ l ≤ 16777216) (sym e) (room v d m h k)

-- its value
pub value_room : (v d left : ℕ) → (v + 1) * 16 ^ left ≤ 16 ^ 6 → d < 16 → 0 < left → v * 16 + d < 2 ^ 32
value_room v d zero h k n = absurd (omega arith)
value_room v d (suc m) h k n =
    let r = room v d m h k in
    let p = power_above m in
    let le : (v * 16 + d + 1) * 1 ≤ (v * 16 + d + 1) * 16 ^ m = mul_bound (v * 16 + d + 1) (16 ^ m) p in
    omega (arith, r, le)
  where
    mul_bound : (x q : ℕ) → 0 < q → x * 1 ≤ x * q
    mul_bound x q h = grind arith
