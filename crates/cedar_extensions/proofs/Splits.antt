-- A text falls apart in one way where a run of bytes that pass a test ends.
use Rattle.std.proofs.Common.{◌≡◌, ℕ, ◌+◌, ◌<◌, ◌==◌, Bool, true, false, ◌&&◌, cond, List, [], ◌∷◌, ◌++◌, length, take, drop, refl, sym, ap, ◌∙◌, subst, arith}
use Rattle.std.proofs.Math.Numerals.{one-add}
use Rattle.std.specs.Char.{is_ascii_digit}
use Rattle.std.specs.List.{list_all, prefix_len}
use Rattle.cedar_extensions.specs.Numbers.{IsDigits, begins_with, with_sign}

pub and_left : (a b : Bool) → (a && b) ≡ true → a ≡ true
and_left true b h = refl
and_left false b h = h

pub and_right : (a b : Bool) → (a && b) ≡ true → b ≡ true
and_right true b h = h
and_right false b h = cc

pub and_both : (a b : Bool) → a ≡ true → b ≡ true → (a && b) ≡ true
and_both true b h k = k
and_both false b h k = h

-- a byte behind a run is none of it
run_ends : (p : ℕ → Bool) (y : ℕ) (ys r : List ℕ) → r ≡ y ∷ ys → begins_with p r ≡ false → p y ≡ true → ⊥
run_ends p y ys r e h t = let b : begins_with p r ≡ p y = ap (begins_with p) e in cc

pub append_nil : (xs : List ℕ) → xs ++ [] ≡ xs
append_nil [] = refl
append_nil (x ∷ xs) = ap (◌∷◌ x) (append_nil xs)

-- a text that begins with no digit does not begin with one
run_begins : (s : List ℕ) (c : ℕ) (r : List ℕ) → c ∷ r ≡ s → begins_with is_ascii_digit s ≡ true → is_ascii_digit c ≡ true
run_begins s c r e h = ap (begins_with is_ascii_digit) e ∙ h

-- two runs with which one text begins are one
pub same_split : (p : ℕ → Bool) (xs ys r s : List ℕ) → list_all p xs ≡ true → list_all p ys ≡ true → begins_with p r ≡ false → begins_with p s ≡ false → xs ++ r ≡ ys ++ s → (xs ≡ ys) × (r ≡ s)
same_split p [] [] r s hx hy hr hs e = (refl, e)
same_split p [] (y ∷ ys) r s hx hy hr hs e = absurd (run_ends p y (ys ++ s) r e hr (and_left (p y) (list_all p ys) hy))
same_split p (x ∷ xs) [] r s hx hy hr hs e = absurd (run_ends p x (xs ++ r) s (sym e) hs (and_left (p x) (list_all p xs) hx))
same_split p (x ∷ xs) (y ∷ ys) r s hx hy hr hs e =
    let first : x ≡ y = cc in
    let rest : xs ++ r ≡ ys ++ s = cc in
    let both = same_split p xs ys r s (and_right (p x) (list_all p xs) hx) (and_right (p y) (list_all p ys) hy) hr hs rest in
    (let h : xs ≡ ys = both.0 in cc, both.1)

-- a run is a whole text if nothing follows it
pub whole_run : (p : ℕ → Bool) (xs ys s : List ℕ) → list_all p xs ≡ true → list_all p ys ≡ true → begins_with p s ≡ false → xs ≡ ys ++ s → (xs ≡ ys) × (s ≡ [])
whole_run p xs ys s hx hy hs e =
    let both = same_split p xs ys [] s hx hy refl hs (append_nil xs ∙ e) in
    (both.0, sym both.1)

where_it_ends : (p : ℕ → Bool) (x : ℕ) (xs : List ℕ) (b : Bool) → p x ≡ b → list_all p (take (prefix_len p xs) xs) ≡ true → list_all p (take (cond b (1 + prefix_len p xs) 0) (x ∷ xs)) ≡ true
where_it_ends p x xs true e h = rw one-add (and_both (p x) (list_all p (take (prefix_len p xs) xs)) e h)
where_it_ends p x xs false e h = refl

-- the longest run passes
pub run_passes : (p : ℕ → Bool) (xs : List ℕ) → list_all p (take (prefix_len p xs) xs) ≡ true
run_passes p [] = refl
run_passes p (x ∷ xs) = where_it_ends p x xs (p x) refl (run_passes p xs)

where_it_stops : (p : ℕ → Bool) (x : ℕ) (xs : List ℕ) (b : Bool) → p x ≡ b → begins_with p (drop (prefix_len p xs) xs) ≡ false → begins_with p (drop (cond b (1 + prefix_len p xs) 0) (x ∷ xs)) ≡ false
where_it_stops p x xs true e h = rw one-add h
where_it_stops p x xs false e h = e

-- and what follows it does not go on
pub run_stops : (p : ℕ → Bool) (xs : List ℕ) → begins_with p (drop (prefix_len p xs) xs) ≡ false
run_stops p [] = refl
run_stops p (x ∷ xs) = where_it_stops p x xs (p x) refl (run_stops p xs)

-- two signs in front of digits are one
pub same_sign : (a b : Bool) (r s : List ℕ) → with_sign a r ≡ with_sign b s → (a ≡ false → begins_with (λ c. c == 45) r ≡ false) → begins_with is_ascii_digit s ≡ true → (a ≡ b) × (r ≡ s)
same_sign true true r s e plain h = (refl, let t : r ≡ s = cc in t)
same_sign true false r s e plain h = (let t : false ≡ true = run_begins s 45 r e h in cc)
same_sign false true r s e plain h = absurd (run_ends (λ c. c == 45) 45 s r e (plain refl) refl)
same_sign false false r s e plain h = (refl, e)

-- digits begin with a digit
pub digits_begin : (ds r : List ℕ) → IsDigits ds → begins_with is_ascii_digit (ds ++ r) ≡ true
digits_begin [] r h = absurd (omega (arith, h.0))
digits_begin (d ∷ ds) r h = and_left (is_ascii_digit d) (list_all is_ascii_digit ds) h.1
