-- What stays true at each passage of the matching loop.
use Rattle.std.proofs.Common.{◌≡◌, ℕ, suc, ◌+◌, ◌*◌, ◌<◌, ◌≤◌, ◌^◌, List, [], ◌∷◌, ◌++◌, ◌-◌, length, Bool, true, false, cond, Fits, ◌||◌, refl, sym, ◌∙◌, ap, arith}
use Rattle.std.proofs.lemmas.List.{length-append, append_assoc}
use Rattle.std.proofs.Math.Nat.{mul-le-mul, mul-le-mul_right}
use Rattle.std.specs.Bool.{◌==◌}
use Rattle.std.proofs.lemmas.Bool.{false≢true}
use Rattle.std.proofs.lemmas.Bool.Decides.{nat_tests}
use Rattle.std.specs.Int.{w128}
use Rattle.std.specs.List.{list_all}
use Rattle.std.specs.Str.{chars, IsUtf8}
use Rattle.std.proofs.lemmas.Str.{length-le-encodes, encodes-chars}
use Rattle.cedar_terms.specs.declared.pattern.PatternElem.{PatternElem}
use Rattle.cedar_terms.specs.declared.pattern.PatternElem.TheVariants.{Char, Wildcard}
use Rattle.cedar_terms.specs.Patterns.{is_wildcard, matches, some_end}
use Rattle.cedar_terms.proofs.LatestWildcard.{literal, matches-literal, next_wildcard, at_end, some_end-nil}

-- The pattern p and the text t are asked for. The latest beginning is rp at rt: behind the latest wildcard where one was seen,
-- else the whole pattern at the whole text. From there the characters `passed` were matched, and q and u are left.
pub record IsAttempt (p : List PatternElem) (t : List ℕ) (seen : Bool) (rp : List PatternElem) (rt : List ℕ) (q : List PatternElem) (u : List ℕ) : Type 0 where
  pub passed : List ℕ
  pub pattern_passed : rp ≡ literal passed ++ q
  pub text_passed : rt ≡ passed ++ u
  pub answer : cond seen (some_end (matches rp) rt) (matches rp rt) ≡ matches p t

literal-push : (s : List ℕ) (c : ℕ) (q : List PatternElem) → literal s ++ (Char c ∷ q) ≡ literal (s ++ (c ∷ [])) ++ q
literal-push [] c q = refl
literal-push (d ∷ s) c q = ap (λ x. Char d ∷ x) (literal-push s c q)

wildcard : {p : List PatternElem} {t : List ℕ} {rp : List PatternElem} {rt : List ℕ} {u : List ℕ} {seen : Bool} {q : List PatternElem} → IsAttempt p t seen rp rt (Wildcard ∷ q) u → IsAttempt p t true q u q u
wildcard {u = u} {seen = true} {q = q} a = record {
  passed = [];
  pattern_passed = refl;
  text_passed = refl;
  answer = sym (next_wildcard a.passed q u) ∙ rw (a.pattern_passed, a.text_passed) at a.answer;
}
wildcard {u = u} {seen = false} {q = q} a = record {
  passed = [];
  pattern_passed = refl;
  text_passed = refl;
  answer = sym (matches-literal a.passed (Wildcard ∷ q) u) ∙ rw (a.pattern_passed, a.text_passed) at a.answer;
}

length-literal : (s : List ℕ) → length (literal s) ≡ length s
length-literal [] = refl
length-literal (c ∷ s) = ap suc (length-literal s)

not_same : (c d : ℕ) → (c ≡ d → ⊥) → (c == d) ≡ false
not_same c d n = grind (arith, nat_tests)

length-nil : {A : Type 0} → (s : List A) → length s ≡ 0 → s ≡ []
length-nil [] e = refl
length-nil (x ∷ s) e = absurd (omega arith)

-- the first characters differ
pub matches-other : (q : List PatternElem) (u : List ℕ) (e : PatternElem) (q' : List PatternElem) (c d : ℕ) (u' : List ℕ) → q ≡ e ∷ q' → e ≡ Char c → u ≡ d ∷ u' → (c ≡ d → ⊥) → matches q u ≡ false
matches-other q u e q' c d u' h w g n = rw (h, w, g, not_same c d n) refl

-- the pattern is empty and the text is not
pub matches-none : (q : List PatternElem) (u : List ℕ) (d : ℕ) (u' : List ℕ) → length q ≡ 0 → u ≡ d ∷ u' → matches q u ≡ false
matches-none q u d u' n g = rw (length-nil q n, g) refl

module _ {p : List PatternElem} {t : List ℕ} {rp : List PatternElem} {rt : List ℕ} {q : List PatternElem} {u : List ℕ} where
  -- a wildcard comes next
  pub IsAttempt-wildcard : {seen : Bool} → IsAttempt p t seen rp rt q u → (e : PatternElem) (q' : List PatternElem) → q ≡ e ∷ q' → e ≡ Wildcard → IsAttempt p t true q' u q' u
  IsAttempt-wildcard {seen = seen} a e q' h w = wildcard (let r : q ≡ Wildcard ∷ q' = h ∙ ap (λ x. x ∷ q') w in rw r at a)

  -- a character comes next, and the text begins with it
  pub IsAttempt-char : {seen : Bool} → IsAttempt p t seen rp rt q u → (e : PatternElem) (q' : List PatternElem) (c d : ℕ) (u' : List ℕ) → q ≡ e ∷ q' → e ≡ Char c → u ≡ d ∷ u' → d ≡ c → IsAttempt p t seen rp rt q' u'
  IsAttempt-char a e q' c d u' h w g same = record {
    passed = a.passed ++ (c ∷ []);
    pattern_passed = a.pattern_passed ∙ (ap (λ x. literal a.passed ++ x) (h ∙ ap (λ x. x ∷ q') w) ∙ literal-push a.passed c q');
    text_passed = a.text_passed ∙ (ap (λ x. a.passed ++ x) (g ∙ ap (λ x. x ∷ u') same) ∙ sym (append_assoc a.passed (c ∷ []) u'));
    answer = a.answer;
  }

  -- what is left does not match, so the latest beginning is moved on by one character
  pub IsAttempt-retry : {seen : Bool} → IsAttempt p t seen rp rt q u → seen ≡ true → (d : ℕ) (rt' : List ℕ) → rt ≡ d ∷ rt' → matches q u ≡ false → IsAttempt p t seen rp rt' rp rt'
  IsAttempt-retry {seen = false} a s d rt' h m = absurd (false≢true s)
  IsAttempt-retry {seen = true} a s d rt' h m = record {
    passed = [];
    pattern_passed = refl;
    text_passed = refl;
    answer =
        let f : matches rp (d ∷ rt') ≡ false = ap (matches rp) (sym h) ∙ (rw (a.pattern_passed, a.text_passed) (matches-literal a.passed q u) ∙ m) in
        let g : some_end (matches rp) (d ∷ rt') ≡ some_end (matches rp) rt' = ap (λ x. x || some_end (matches rp) rt') f in
        sym g ∙ (ap (some_end (matches rp)) (sym h) ∙ a.answer);
  }

  -- what is left does not match, and no wildcard was seen
  pub answer-none : {seen : Bool} → IsAttempt p t seen rp rt q u → seen ≡ false → matches q u ≡ false → matches p t ≡ false
  answer-none {seen = true} a s m = absurd (false≢true (sym s))
  answer-none {seen = false} a s m = sym a.answer ∙ (rw (a.pattern_passed, a.text_passed) (matches-literal a.passed q u) ∙ m)

  -- the text ends
  pub answer-at_end : {seen : Bool} → IsAttempt p t seen rp rt q u → u ≡ [] → matches p t ≡ matches q []
  answer-at_end {seen = true} a e = sym a.answer ∙ rw (a.pattern_passed, a.text_passed, e) (at_end a.passed q)
  answer-at_end {seen = false} a e = sym a.answer ∙ rw (a.pattern_passed, a.text_passed, e) (matches-literal a.passed q [])

  -- nothing stands behind the latest wildcard
  pub answer-open : {seen : Bool} → IsAttempt p t seen rp rt q u → seen ≡ true → length rp ≡ 0 → matches p t ≡ true
  answer-open {seen = false} a s n = absurd (false≢true s)
  answer-open {seen = true} a s n = sym a.answer ∙ (ap (λ x. some_end (matches x) rt) (length-nil rp n) ∙ some_end-nil rt)

  -- the place reached is no earlier than the latest beginning
  pub lengths : {seen : Bool} → IsAttempt p t seen rp rt q u → (length u ≤ length rt) × (length q ≤ length rp) × (length rt + length q ≡ length rp + length u)
  lengths a =
      let x = ap length a.pattern_passed ∙ (length-append (literal a.passed) q ∙ ap (λ n. n + length q) (length-literal a.passed)) in
      let y = ap length a.text_passed ∙ length-append a.passed u in
      (omega arith, omega arith, omega arith)

-- The turns so far, with those that a beginning at each place that is left may still take, are at most n * (m + 1) + m.
pub spent-wildcard : (turns n m rt u q r : ℕ) → turns + rt * (m + 1) + r ≤ n * (m + 1) + m → q + 1 ≤ r → u ≤ rt → turns + 1 + u * (m + 1) + q ≤ n * (m + 1) + m
spent-wildcard turns n m rt u q r h g k = omega (arith, mul-le-mul_right (m + 1) k)

pub spent-retry : (turns n m rt r q p : ℕ) → turns + rt * (m + 1) + q ≤ n * (m + 1) + m → rt ≡ r + 1 → p ≤ m → turns + 1 + r * (m + 1) + p ≤ n * (m + 1) + m
spent-retry turns n m rt r q p h e k = let g : turns + (r + 1) * (m + 1) + q ≤ n * (m + 1) + m = rw e at h in omega arith

pub one-more : (turns n m rt q : ℕ) → turns + rt * (m + 1) + q ≤ n * (m + 1) + m → 1 ≤ rt → turns + 1 ≤ n * (m + 1)
one-more turns n m rt q h k = omega (arith, mul-le-mul_right (m + 1) k)

pub fits-turns : (turns n m : ℕ) → turns ≤ n * (m + 1) → n < 2 ^ 64 → m < 2 ^ 64 → Fits w128 turns
fits-turns turns n m h a b =
    let x : n ≤ 2 ^ 64 - 1 = omega arith in
    let y : m + 1 ≤ 2 ^ 64 = omega arith in
    omega (arith, mul-le-mul x y)

pub length-chars : (bs : List ℕ) → IsUtf8 bs → length (chars bs) ≤ length bs
length-chars bs u = let h = length-le-encodes (chars bs) in rw (encodes-chars bs u) at h

pub matches-nil : (p : List PatternElem) → list_all is_wildcard p ≡ matches p []
matches-nil [] = refl
matches-nil (Wildcard ∷ p) = matches-nil p
matches-nil (Char c ∷ p) = refl

pub is_none : (n : ℕ) → true ≡ (n == 0) → n ≡ 0
is_none n e = grind (arith, nat_tests)
