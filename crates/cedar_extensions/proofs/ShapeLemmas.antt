-- How shapes are compared byte by byte, and what a field reads.
use Rattle.std.proofs.Common.{◌≡◌, ℕ, ◌+◌, ◌-◌, ◌^◌, ◌<◌, ◌≤◌, ◌==◌, Bool, true, false, ◌&&◌, List, [], ◌∷◌, length, get_or, take, drop, Option, Some, None, unwrap_or, refl, sym, ap, subst, ◌∙◌, arith, length-take, ne_eqb}
use Rattle.std.proofs.lemmas.List.{take_all}
use Rattle.std.proofs.lemmas.Str.Parse.{digits_value_short}
use Rattle.std.specs.Char.{is_ascii_digit}
use Rattle.std.specs.List.{list_all}
use Rattle.std.specs.Option.{SomeIff}
use Rattle.cedar_extensions.specs.Numbers.{number_of}
use Rattle.cedar_extensions.specs.Shapes.{HasDigits, field, has_shape, is_like}
use Rattle.cedar_extensions.proofs.PrefixTexts.{own}

pub shape_end : (ps cs : List ℕ) → length ps ≡ 0 → has_shape ps cs ≡ (length cs == 0)
unfolding has_shape
shape_end [] [] h = refl
shape_end [] (c ∷ cs) h = sym (ne_eqb (length (c ∷ cs)) 0 (λ (e : length (c ∷ cs) ≡ 0). absurd (omega arith)))
shape_end (p ∷ ps) cs h = absurd (omega arith)

pub shape_past : (ps cs : List ℕ) → 0 < length ps → length cs ≡ 0 → has_shape ps cs ≡ false
unfolding has_shape
shape_past [] cs h k = absurd (omega arith)
shape_past (p ∷ ps) [] h k = refl
shape_past (p ∷ ps) (c ∷ cs) h k = absurd (omega arith)

rest_is : (x : ℕ) (xs : List ℕ) → take (length (x ∷ xs) - 1) xs ≡ xs
rest_is x xs = take_all (length (x ∷ xs) - 1) xs (omega arith)

pub shape_step : (ps cs : List ℕ) → 0 < length ps → 0 < length cs → has_shape ps cs ≡ (is_like (get_or ps 0 0) (get_or cs 0 0) && has_shape (take (length ps - 1) (drop 1 ps)) (take (length cs - 1) (drop 1 cs)))
unfolding has_shape
shape_step [] cs h k = absurd (omega arith)
shape_step (p ∷ ps) [] h k = absurd (omega arith)
shape_step (p ∷ ps) (c ∷ cs) h k =
    ap (λ xs. is_like p c && has_shape xs cs) (sym (rest_is p ps)) ∙ ap (λ xs. is_like p c && has_shape (take (length (p ∷ ps) - 1) ps) xs) (sym (rest_is c cs))

field_value : (xs : List ℕ) (count : ℕ) (o : Option ℕ) (r : ℕ) → list_all is_ascii_digit xs ≡ true → length xs ≤ count → count ≤ 4 → SomeIff o (number_of xs < 2 ^ 64) (number_of xs) → r ≡ unwrap_or o 0 → (r ≡ number_of xs) × (r < 10 ^ count)
field_value xs count None r h l few some is = absurd (some (omega (arith, digits_value_short own xs 4 h (omega arith))))
field_value xs count (Some x) r h l few some is =
    let value : r ≡ number_of xs = is ∙ some.1 in
    (value, subst (λ y. y < 10 ^ count) (sym value) (digits_value_short own xs count h l))

-- a field is the number of its digits
pub field_read : (text : List ℕ) (start count n : ℕ) (o : Option ℕ) (r : ℕ) → n ≡ count → HasDigits text start count → count ≤ 4 → SomeIff o (number_of (take n (drop start text)) < 2 ^ 64) (number_of (take n (drop start text))) → r ≡ unwrap_or o 0 → (r ≡ field text start count) × (r < 10 ^ count)
unfolding field
field_read text start count n o r e h few some is =
    let short : length (take count (drop start text)) ≤ count = simp length-take (omega arith) in
    field_value (take count (drop start text)) count o r h.1 short few (subst (λ k. SomeIff o (number_of (take k (drop start text)) < 2 ^ 64) (number_of (take k (drop start text)))) e some) is
