-- The first line of a text, and the last one.
use Rattle.std.proofs.Common.{◌≡◌, ◌≢◌, ℕ, ◌+◌, ◌-◌, ◌<◌, ◌≤◌, true, false, not, Some, None, List, length, length-drop, get_or, take, drop, sym, ◌∙◌, ap, arith}
use Rattle.std.specs.List.{suffix_len}
use Rattle.std.specs.Str.Pattern.{RFindsChar}
use Rattle.std.specs.Str.{NoCharPasses}
use Rattle.std.proofs.lemmas.Bool.Decides.{nat_tests}
use Rattle.std.proofs.lemmas.List.{get_or-drop}
use Rattle.std.proofs.lemmas.List.Sums.{suffix_len_is}
use Rattle.std.proofs.lemmas.Str.Pattern.{NoCharPasses-char}
use Rattle.cedar_lexer.specs.Places.{is_feed, last_line_of}

no_feed : (b : ℕ) → b ≢ 10 → not (is_feed b) ≡ true
no_feed b h = grind (arith, nat_tests)

a_feed : (b : ℕ) → b ≡ 10 → not (is_feed b) ≡ false
a_feed b h = grind (arith, nat_tests)

-- what stands behind a line feed, and has none
behind_feed : (text : List ℕ) (j : ℕ) → j ≤ length text → NoCharPasses (λ c. is_feed c) (drop j text)
    → (0 < j → get_or text (j - 1) 0 ≡ 10) → drop j text ≡ last_line_of text
behind_feed text j fits none here =
    let later : (k : ℕ) → j ≤ k → k < length text → not (is_feed (get_or text k 0)) ≡ true =
    λ k h l. no_feed (get_or text k 0) (λ q.
    let e : j + (k - j) ≡ k = omega arith in
    NoCharPasses-char 10 (drop j text) (k - j) none (omega arith) (omega (arith, length-drop j text))
    (get_or-drop j text (k - j) 0 ∙ (ap (λ n. get_or text n 0) e ∙ q))) in
    let s = suffix_len_is (λ b. not (is_feed b)) text j 0 fits later (λ h. a_feed (get_or text (j - 1) 0) (here h)) in
    let n : length text - suffix_len (λ b. not (is_feed b)) text ≡ j = omega (arith, s) in
    ap (λ k. drop k text) (sym n)

pub last_found : (text front line : List ℕ)
    → (i : ℕ) × (j : ℕ) × RFindsChar 10 text (Some (i, j)) × (front ≡ take i text) × (line ≡ drop j text)
    × (i ≤ j) × (length front ≡ i) × (length line + j ≡ length text)
    → line ≡ last_line_of text
last_found text front line h =
    h.4 ∙ behind_feed text h.1 (omega arith) h.2.0
    (λ p. let e : h.1 - 1 ≡ h.0 = omega (arith, h.2.1.ends) in ap (λ n. get_or text n 0) e ∙ h.2.1.byte (omega arith))

pub no_last_found : (text : List ℕ) → RFindsChar 10 text None → text ≡ last_line_of text
no_last_found text h = behind_feed text 0 (omega arith) h (λ p. absurd (omega arith))
