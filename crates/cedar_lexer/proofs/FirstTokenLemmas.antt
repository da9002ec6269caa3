-- The token that a text begins with is the longest one.
use Rattle.std.proofs.Common.{◌≡◌, ◌≢◌, ℕ, zero, suc, ◌+◌, ◌-◌, ◌<◌, ◌≤◌, Bool, true, false, not, List, [], ◌∷◌, ◌++◌, Some, None, length, length-append, length-drop, length-take, get_or, get_or-take, take, drop, refl, sym, ◌∙◌, ap, subst, arith, append_assoc, nat_lt, inl, inr, ⊎_elim}
use Rattle.std.specs.Bool.{◌==◌}
use Rattle.std.specs.Prelude.{◌&&◌, ◌⊎◌, Option, cond, if◌then◌else◌, nat_le}
use Rattle.std.specs.Char.{is_ascii_digit}
use Rattle.std.specs.List.{list_all, prefix_len}
use Rattle.std.specs.Option.{option_map}
use Rattle.std.specs.Str.{IsCharBoundary, IsUtf8}
use Rattle.std.proofs.lemmas.Bool.{eqb-true, false≢true}
use Rattle.std.proofs.lemmas.Bool.Decides.{nat_tests}
use Rattle.std.proofs.lemmas.List.{nil_from_length, take-append-drop}
use Rattle.std.proofs.lemmas.List.Sums.{prefix_len-le-length, prefix_len_passes}
use Rattle.std.proofs.lemmas.Option.{none-some, same_Some, some_pair_parts}
use Rattle.std.proofs.lemmas.Str.{IsCharBoundary-after_ascii}
use Rattle.std.proofs.Math.Seq.{drop-cons, get_or-append_seam, take-append_seam}
use Rattle.std.specs.Cmp.Derive.{both_true}
use Rattle.cedar_lexer.proofs.FirstPieceLemmas.{both}
use Rattle.cedar_lexer.proofs.Signs.{begins_sign, is_sign, sign_fits, sign_kept}
use Rattle.cedar_lexer.specs.FirstTokens.{full_kind, lexeme_at, longest_sign, or_else, quoted_len, sign_of}
use Rattle.cedar_lexer.specs.Grammar.{HasNoToken, IsBetweenQuotes, IsLongestIn, IsTokenText, begins_word, goes_on, nothing, plain, escaped, word, digits, slot, quoted, sign}
use Rattle.cedar_lexer.specs.TokenKinds.{sign_kind_of}
use Rattle.cedar_lexer.specs.TokenPlaces.{IsTokenAt}
use Rattle.cedar_lexer.specs.declared.token.TokenKind.{TokenKind}
use Rattle.cedar_lexer.specs.declared.token.TokenKind.TheVariants as kinds
use Rattle.cedar_lexer.specs.declared.token.Token.{Token}

nat_le_true : (a b : ℕ) → a ≤ b → nat_le a b ≡ true
nat_le_true a b h = grind (arith, nat_tests)

nat_le_fits : (a b : ℕ) → nat_le a b ≡ true → a ≤ b
nat_le_fits a b h = grind (arith, nat_tests)

differs : (c k : ℕ) → (c == k) ≡ false → c ≢ k
differs c k e h = grind (arith, nat_tests)

-- ---- words

-- a word goes on as far as its letters do
prefix_covers : (p : ℕ → Bool) (bs rest : List ℕ) → list_all p bs ≡ true → length bs ≤ prefix_len p (bs ++ rest)
prefix_covers p [] rest h = omega arith
prefix_covers p (b ∷ bs) rest h =
    let hs = both (p b) (list_all p bs) h in
    let covers = prefix_covers p bs rest hs.1 in rw hs.0 (omega arith)

prefix_passes : (p : ℕ → Bool) (bs : List ℕ) → list_all p (take (prefix_len p bs) bs) ≡ true
prefix_passes p [] = refl
prefix_passes p (b ∷ bs) = elim (p b) as (λ v. p b ≡ v → list_all p (take (cond v (1 + prefix_len p bs) 0) (b ∷ bs)) ≡ true) [
  | true ↦ λ e.
      let n : 1 + prefix_len p bs ≡ suc (prefix_len p bs) = omega arith in
      subst (λ m. list_all p (take m (b ∷ bs)) ≡ true) (sym n) (both_true e (prefix_passes p bs))
  | false ↦ λ e. refl
] refl

word_ascii : (b : ℕ) → goes_on b ≡ true → b < 128
word_ascii b h = grind (arith, nat_tests)

letter_ascii : (b : ℕ) → begins_word b ≡ true → b < 128
letter_ascii b h = grind (arith, nat_tests)

digit_ascii : (b : ℕ) → is_ascii_digit b ≡ true → b < 128
digit_ascii b h = grind (arith, nat_tests)

-- what goes on with ASCII is ASCII
module _ (p : ℕ → Bool) (ascii : (b : ℕ) → p b ≡ true → b < 128) where
  in_ascii : (b : ℕ) (bs : List ℕ) → b < 128 → (k : ℕ) → k ≤ prefix_len p bs → get_or (b ∷ bs) k 0 < 128
  in_ascii b bs h zero l = h
  in_ascii b bs h (suc k) l = ascii (get_or bs k 0) (prefix_len_passes p bs k 0 (omega arith))

-- ---- texts between quotes

-- one byte more
one_more : (o : Option ℕ) (m n : ℕ) → o ≡ Some m → n ≡ m + 1 → option_map (λ k. k + 1) o ≡ Some n
one_more o m n e f = ap (option_map (λ k. k + 1)) e ∙ ap (λ k. Some k) (sym f)

closing_found : {inside : List ℕ} → IsBetweenQuotes inside → (rest : List ℕ) → quoted_len false (inside ++ (34 ∷ rest)) ≡ Some (length inside + 1)
unfolding quoted_len
closing_found nothing rest = refl
closing_found (plain b bs q s h) rest =
    let e : (b == 34) ≡ false = grind (arith, nat_tests) in
    let f : (b == 92) ≡ false = grind (arith, nat_tests) in
    rw (e, f) (one_more (quoted_len false (bs ++ (34 ∷ rest))) (length bs + 1) (suc (length bs) + 1) (closing_found h rest) (omega arith))
closing_found (escaped b bs h) rest =
    let o = quoted_len false (bs ++ (34 ∷ rest)) in
    one_more (option_map (λ k. k + 1) o) (length bs + 2) (suc (suc (length bs)) + 1)
    (one_more o (length bs + 1) (length bs + 2) (closing_found h rest) (omega arith)) (omega arith)

-- what stands between quotes behind what may be a backslash
abbrev IsInsideBehind : Bool → List ℕ → Type 0
IsInsideBehind true inside = IsBetweenQuotes (92 ∷ inside)
IsInsideBehind false inside = IsBetweenQuotes inside

abbrev HasInside : Bool → List ℕ → ℕ → Type 0
HasInside behind bs n = (inside : List ℕ) × (rest : List ℕ) × (bs ≡ inside ++ (34 ∷ rest)) × (n ≡ length inside + 1) × IsInsideBehind behind inside

-- a byte before it
inside_more : (behind later : Bool) (b m n : ℕ) (bs : List ℕ) → HasInside later bs m → n ≡ m + 1
    → ((inside : List ℕ) → IsInsideBehind later inside → IsInsideBehind behind (b ∷ inside)) → HasInside behind (b ∷ bs) n
inside_more behind later b m n bs h e go = (b ∷ h.0, h.1, ap (λ t. b ∷ t) h.2, omega (arith, h.3), go h.0 h.4)

-- what one byte more was added to
one_less : (o : Option ℕ) (n : ℕ) → option_map (λ k. k + 1) o ≡ Some n → (m : ℕ) × (o ≡ Some m) × (n ≡ m + 1)
one_less None n e = absurd (none-some n e)
one_less (Some m) n e = (m, refl, sym (same_Some (m + 1) n e))

closing_sound : (behind : Bool) (bs : List ℕ) (n : ℕ) → quoted_len behind bs ≡ Some n → HasInside behind bs n
unfolding quoted_len
closing_sound behind [] n e = absurd (none-some n e)
closing_sound true (b ∷ bs) n e =
    let m = one_less (quoted_len false bs) n e in
    inside_more true false b m.0 n bs (closing_sound false bs m.0 m.1) m.2 (λ inside h. escaped b inside h)
closing_sound false (b ∷ bs) n e = elim (b == 34) as (λ v. (b == 34) ≡ v
    → (if v then Some 1 else option_map (λ k. k + 1) (quoted_len (b == 92) bs)) ≡ Some n → HasInside false (b ∷ bs) n) [
      | true ↦ λ q f. ([], bs, ap (λ c. c ∷ bs) (eqb-true b 34 q), sym (same_Some 1 n f), nothing)
      | false ↦ λ q f. elim (b == 92) as (λ v. (b == 92) ≡ v → option_map (λ k. k + 1) (quoted_len v bs) ≡ Some n → HasInside false (b ∷ bs) n) [
        | true ↦ λ s g.
            let m = one_less (quoted_len true bs) n g in
            inside_more false true b m.0 n bs (closing_sound true bs m.0 m.1) m.2
            (λ inside h. subst (λ c. IsBetweenQuotes (c ∷ inside)) (sym (eqb-true b 92 s)) h)
        | false ↦ λ s g.
            let m = one_less (quoted_len false bs) n g in
            inside_more false false b m.0 n bs (closing_sound false bs m.0 m.1) m.2
            (λ inside h. plain b inside (differs b 34 q) (differs b 92 s) h)
      ] refl f
    ] refl e

-- ---- the loop that looks for the closing quote

fused : (o : Option ℕ) (at : ℕ) → option_map (λ n. at + n) (option_map (λ n. n + 1) o) ≡ option_map (λ n. (at + 1) + n) o
fused None at = refl
fused (Some n) at = let e : at + (n + 1) ≡ (at + 1) + n = omega arith in ap (λ k. Some k) e

abbrev pub IsSoughtFrom : List ℕ → ℕ → Bool → Type 0
IsSoughtFrom bytes at behind = quoted_len false bytes ≡ option_map (λ n. at + n) (quoted_len behind (drop at bytes))

pub sought_first : (bytes : List ℕ) → IsSoughtFrom bytes 0 false
sought_first bytes = zero_added (quoted_len false bytes)
  where
    zero_added : (o : Option ℕ) → o ≡ option_map (λ n. 0 + n) o
    zero_added None = refl
    zero_added (Some n) = let e : n ≡ 0 + n = omega arith in ap (λ k. Some k) e

pub sought_later : (bytes : List ℕ) (at : ℕ) (behind : Bool) → at < length bytes → (not behind && get_or bytes at 0 == 34) ≡ false
    → IsSoughtFrom bytes at behind → IsSoughtFrom bytes (at + 1) (not behind && get_or bytes at 0 == 92)
unfolding quoted_len
sought_later bytes at behind l t h =
    let later = drop (at + 1) bytes in
    let n : suc at ≡ at + 1 = omega arith in
    let d : drop at bytes ≡ get_or bytes at 0 ∷ later = drop-cons bytes at 0 l ∙ ap (λ k. get_or bytes at 0 ∷ drop k bytes) n in
    let o = quoted_len (not behind && get_or bytes at 0 == 92) later in
    let e : quoted_len behind (get_or bytes at 0 ∷ later) ≡ option_map (λ n. n + 1) o = rw t refl in
    h ∙ (ap (λ bs. option_map (λ n. at + n) (quoted_len behind bs)) d ∙ (ap (option_map (λ n. at + n)) e ∙ fused o at))

pub sought_here : (bytes : List ℕ) (at : ℕ) (behind : Bool) → at < length bytes → (not behind && get_or bytes at 0 == 34) ≡ true
    → IsSoughtFrom bytes at behind → quoted_len false bytes ≡ Some (at + 1)
unfolding quoted_len
sought_here bytes at behind l t h =
    let d = drop-cons bytes at 0 l in
    let e : quoted_len behind (get_or bytes at 0 ∷ drop (suc at) bytes) ≡ Some 1 = rw t refl in
    h ∙ (ap (λ bs. option_map (λ n. at + n) (quoted_len behind bs)) d ∙ ap (option_map (λ n. at + n)) e)

pub sought_nowhere : (bytes : List ℕ) (at : ℕ) (behind : Bool) → length bytes ≤ at → IsSoughtFrom bytes at behind → quoted_len false bytes ≡ None
unfolding quoted_len
sought_nowhere bytes at behind l h =
    let d : drop at bytes ≡ [] = nil_from_length (drop at bytes) (omega (arith, length-drop at bytes)) in
    h ∙ ap (λ bs. option_map (λ n. at + n) (quoted_len behind bs)) d

-- ---- signs

sign_ascii : (b : ℕ) → begins_sign b ≡ true → b < 128
sign_ascii b h = grind (arith, nat_tests)

pub sign_there : (n : ℕ) (v text rest : List ℕ) (kind : TokenKind) → text ≡ v ++ rest → length v ≡ n → sign_kind_of v ≡ Some kind
    → sign_of n text ≡ Some (kind, n)
sign_there n v text rest kind e l s =
    let fits : nat_le n (length text) ≡ true = nat_le_true n (length text) (let k = ap length e ∙ length-append v rest in omega arith) in
    let t : take n text ≡ v = ap (take n) e ∙ (ap (λ k. take k (v ++ rest)) (sym l) ∙ take-append_seam v rest) in
    rw fits (ap (λ w. option_map (λ k. (k, n)) (sign_kind_of w)) t ∙ ap (option_map (λ k. (k, n))) s)

sign_of_sound : (w : ℕ) (text : List ℕ) (k : TokenKind) (n : ℕ) → sign_of w text ≡ Some (k, n)
    → (n ≡ w) × (w ≤ length text) × (sign_kind_of (take w text) ≡ Some k)
sign_of_sound w text k n e = elim (nat_le w (length text)) as (λ v. nat_le w (length text) ≡ v
    → ◌≡◌ {A = Option (TokenKind × ℕ)} (if v then option_map (λ k. (k, w)) (sign_kind_of (take w text)) else None) (Some (k, n))
    → (n ≡ w) × (w ≤ length text) × (sign_kind_of (take w text) ≡ Some k)) [
      | true ↦ λ q f. elim (sign_kind_of (take w text)) as (λ (o : Option TokenKind). sign_kind_of (take w text) ≡ o → ◌≡◌ {A = Option (TokenKind × ℕ)} (option_map (λ k. (k, w)) o) (Some (k, n))
          → (n ≡ w) × (w ≤ length text) × (o ≡ Some k)) [
            | None ↦ λ r g. absurd (none-some (k, n) g)
            | Some x ↦ λ r g. let p = some_pair_parts x k w n g in (sym p.1, nat_le_fits w (length text) q, ap (λ y. Some y) p.0)
          ] refl f
      | false ↦ λ q f. absurd (none-some (k, n) f)
    ] refl e

longest_sound : (text : List ℕ) (k : TokenKind) (n : ℕ) → longest_sign text ≡ Some (k, n)
    → (n ≤ length text) × (sign_kind_of (take n text) ≡ Some k)
longest_sound text k n e = elim (sign_of 2 text) as (λ o. sign_of 2 text ≡ o → or_else o (sign_of 1 text) ≡ Some (k, n)
    → (n ≤ length text) × (sign_kind_of (take n text) ≡ Some k)) [
      | None ↦ λ q f. same_width 1 (sign_of_sound 1 text k n f)
      | Some x ↦ λ q f. same_width 2 (sign_of_sound 2 text k n (q ∙ f))
    ] refl e
  where
    same_width : (w : ℕ) → (n ≡ w) × (w ≤ length text) × (sign_kind_of (take w text) ≡ Some k)
        → (n ≤ length text) × (sign_kind_of (take n text) ≡ Some k)
    same_width w h = (omega (arith, h.0, h.1), subst (λ m. sign_kind_of (take m text) ≡ Some k) (sym h.0) h.2)

sign_last : (w : List ℕ) → is_sign w ≡ true → (0 < length w) × (get_or w (length w - 1) 0 < 128)
sign_last [] h = absurd (false≢true h)
sign_last (a ∷ []) h = (omega arith, sign_ascii a h)
sign_last (a ∷ b ∷ []) h = let hs = both (begins_sign a) (nat_lt b 128) h in (omega arith, below b hs.1)
  where
    below : (b : ℕ) → nat_lt b 128 ≡ true → b < 128
    below b h = grind (arith, nat_tests)
sign_last (a ∷ b ∷ c ∷ s) h = absurd (false≢true h)

-- ---- where a token ends

length_take_le : (n : ℕ) (text : List ℕ) → n ≤ length text → length (take n text) ≡ n
length_take_le n text h = omega (arith, length-take n text)

-- the last byte of so many is one of ASCII
abbrev pub EndsInAscii : List ℕ → ℕ → Type 0
EndsInAscii text n = (i : ℕ) × (n ≡ i + 1) × (i < length text) × (get_or text i 0 < 128)

pub ascii_cut : (text : List ℕ) (n : ℕ) → IsUtf8 text → EndsInAscii text n → IsCharBoundary text n
ascii_cut text n u h = subst (λ m. IsCharBoundary text m) (sym h.1) (IsCharBoundary-after_ascii text h.0 u h.2 h.3)

sign_end : (text : List ℕ) (n : ℕ) (k : TokenKind) → n ≤ length text → sign_kind_of (take n text) ≡ Some k → EndsInAscii text n
sign_end text n k l e =
    let w = take n text in
    let m : length w ≡ n = length_take_le n text l in
    let last = sign_last w (sign_fits w k e).0 in
    let some : 0 < n = omega (arith, m, last.0) in
    let i : length w - 1 ≡ n - 1 = omega (arith, m) in
    let g : get_or w (length w - 1) 0 ≡ get_or text (n - 1) 0 =
    ap (λ j. get_or w j 0) i ∙ get_or-take n text (n - 1) 0 (omega arith) in
    (n - 1, omega arith, omega arith, subst (λ b. b < 128) g last.1)

pub sign_not_cut : (text : List ℕ) (n : ℕ) → IsUtf8 text → (IsCharBoundary text n → ⊥) → None ≡ sign_of n text
sign_not_cut text n u h = elim (sign_of n text) as (λ o. sign_of n text ≡ o → None ≡ o) [
  | None ↦ λ e. refl
  | Some x ↦ λ e.
      let s = sign_of_sound n text x.0 x.1 e in
      absurd (h (ascii_cut text n u (sign_end text n x.0 s.1 s.2)))
] refl

-- ---- what is found is a token

-- so many bytes of the text are a token of this kind
abbrev pub IsFirst : List ℕ → TokenKind → ℕ → Type 0
IsFirst text k n = (n ≤ length text) × EndsInAscii text n × IsTokenText (take n text) (full_kind k (take n text))

prefix_first : (p : ℕ → Bool) → ((b : ℕ) → p b ≡ true → b < 128) → (k : TokenKind) (b : ℕ) (bs : List ℕ) → b < 128
    → IsTokenText (b ∷ take (prefix_len p bs) bs) (full_kind k (b ∷ take (prefix_len p bs) bs))
    → IsFirst (b ∷ bs) k (prefix_len p bs + 1)
prefix_first p ascii k b bs h t =
    let i = prefix_len p bs in
    let l : i ≤ length bs = prefix_len-le-length p bs in
    let n : suc i ≡ i + 1 = omega arith in (
      omega arith,
      (i, refl, omega arith, in_ascii p ascii b bs h i (omega arith)),
      subst (λ m. IsTokenText (take m (b ∷ bs)) (full_kind k (take m (b ∷ bs)))) n t,
    )

word_first : (k : TokenKind) (b : ℕ) (bs : List ℕ) → b < 128
    → IsTokenText (b ∷ take (prefix_len goes_on bs) bs) (full_kind k (b ∷ take (prefix_len goes_on bs) bs))
    → IsFirst (b ∷ bs) k (prefix_len goes_on bs + 1)
word_first = prefix_first goes_on word_ascii

quoted_first : (bs : List ℕ) (m : ℕ) → quoted_len false bs ≡ Some m → IsFirst (34 ∷ bs) kinds.Quoted (m + 1)
quoted_first bs m e =
    let h = closing_sound false bs m e in
    let inside = h.0 in
    let rest = h.1 in
    let n : suc m ≡ m + 1 = omega arith in
    let l : length bs ≡ length inside + suc (length rest) = ap length h.2 ∙ length-append inside (34 ∷ rest) in
    let w : length (inside ++ (34 ∷ [])) ≡ m = omega (arith, length-append inside (34 ∷ []), h.3) in
    let split : bs ≡ (inside ++ (34 ∷ [])) ++ rest = h.2 ∙ sym (seam inside rest) in
    let front : take m bs ≡ inside ++ (34 ∷ []) =
    ap (take m) split ∙ (ap (λ k. take k ((inside ++ (34 ∷ [])) ++ rest)) (sym w) ∙ take-append_seam (inside ++ (34 ∷ [])) rest) in
    let last : get_or (34 ∷ bs) m 0 ≡ 34 =
    ap (λ k. get_or (34 ∷ bs) k 0) h.3 ∙ (ap (λ k. get_or (34 ∷ bs) k 0) (suc_of (length inside))
    ∙ (ap (λ t. get_or t (length inside) 0) h.2 ∙ get_or-append_seam inside 34 rest 0)) in
    let small : (b : ℕ) → b ≡ 34 → b < 128 = λ b q. omega arith in (
      omega (arith, h.3),
      (m, refl, omega (arith, h.3), small (get_or (34 ∷ bs) m 0) last),
      subst (λ k. IsTokenText (take k (34 ∷ bs)) kinds.Quoted) n
          (subst (λ t. IsTokenText (34 ∷ t) kinds.Quoted) (sym front) (quoted inside h.4)),
    )
  where
    seam : (xs ys : List ℕ) → (xs ++ (34 ∷ [])) ++ ys ≡ xs ++ (34 ∷ ys)
    seam xs ys = simp append_assoc

    suc_of : (k : ℕ) → k + 1 ≡ suc k
    suc_of k = omega arith

sign_first : (text : List ℕ) (k : TokenKind) (n : ℕ) → longest_sign text ≡ Some (k, n) → IsFirst text k n
sign_first text k n e =
    let h = longest_sound text k n e in
    let w = take n text in
    let f : full_kind k w ≡ k = sign_kept k w (sign_fits w k h.1).1 in
    (h.0, sign_end text n k h.0 h.1, subst (λ j. IsTokenText w j) (sym f) (sign w k h.1))

-- a choice that gives something gives it by one of both
chosen : {A P : Type 0} (c : Bool) (x y z : A) → (if c then x else y) ≡ z → (c ≡ true → x ≡ z → P) → (c ≡ false → y ≡ z → P) → P
chosen true x y z e f g = f refl e
chosen false x y z e f g = g refl e

-- what is given by length and kind
given : (text : List ℕ) (j k : TokenKind) (m n : ℕ) → IsFirst text j m → ◌≡◌ {A = Option (TokenKind × ℕ)} (Some (j, m)) (Some (k, n)) → IsFirst text k n
given text j k m n h e =
    let p = some_pair_parts j k m n e in
    subst (λ i. IsFirst text i n) p.0 (subst (λ i. IsFirst text j i) p.1 h)

pub lexeme_first : (text : List ℕ) (k : TokenKind) (n : ℕ) → lexeme_at text ≡ Some (k, n) → IsFirst text k n
unfolding lexeme_at
lexeme_first [] k n e = absurd (none-some (k, n) e)
lexeme_first (b ∷ bs) k n e =
    let p = prefix_len goes_on bs in
    chosen (b == 34) _ _ _ e (λ q f.
    let at_quote : (o : Option ℕ) → quoted_len false bs ≡ o → ◌≡◌ {A = Option (TokenKind × ℕ)} (option_map (λ m. (kinds.Quoted, m + 1)) o) (Some (k, n)) → IsFirst (34 ∷ bs) k n =
    λ o. elim o as (λ o. quoted_len false bs ≡ o → ◌≡◌ {A = Option (TokenKind × ℕ)} (option_map (λ m. (kinds.Quoted, m + 1)) o) (Some (k, n)) → IsFirst (34 ∷ bs) k n) [
      | None ↦ λ r g. absurd (none-some (k, n) g)
      | Some m ↦ λ r g. given (34 ∷ bs) kinds.Quoted k (m + 1) n (quoted_first bs m r) g
    ] in
    subst (λ c. IsFirst (c ∷ bs) k n) (sym (eqb-true b 34 q)) (at_quote (quoted_len false bs) refl f)) (λ _ e.
    chosen (b == 63) _ _ _ e (λ q f.
    subst (λ c. IsFirst (c ∷ bs) k n) (sym (eqb-true b 63 q))
    (given (63 ∷ bs) kinds.Slot k (p + 1) n (word_first kinds.Slot 63 bs (omega arith) (slot (take p bs) (prefix_passes goes_on bs))) f)) (λ _ e.
    chosen (is_ascii_digit b) _ _ _ e (λ q f.
    let d = prefix_len is_ascii_digit bs in
    given (b ∷ bs) kinds.Digits k (d + 1) n
    (prefix_first is_ascii_digit digit_ascii kinds.Digits b bs (digit_ascii b q) (digits b (take d bs) q (prefix_passes is_ascii_digit bs))) f) (λ _ e.
    chosen (begins_word b) _ _ _ e (λ q f.
    given (b ∷ bs) kinds.Word k (p + 1) n (word_first kinds.Word b bs (letter_ascii b q) (word b (take p bs) q (prefix_passes goes_on bs))) f)
    (λ _ e. sign_first (b ∷ bs) k n e))))

-- ---- each token is found, or a longer one

abbrev IsFoundFrom : List ℕ → ℕ → Type 0
IsFoundFrom text n = (k : TokenKind) × (m : ℕ) × (lexeme_at text ≡ Some (k, m)) × (n ≤ m)

pub at_digit : (b : ℕ) (bs : List ℕ) → is_ascii_digit b ≡ true → lexeme_at (b ∷ bs) ≡ Some (kinds.Digits, prefix_len is_ascii_digit bs + 1)
unfolding lexeme_at
at_digit b bs h =
    let q : (b == 34) ≡ false = grind (arith, nat_tests) in
    let s : (b == 63) ≡ false = grind (arith, nat_tests) in rw (q, s, h) refl

pub at_letter : (b : ℕ) (bs : List ℕ) → begins_word b ≡ true → lexeme_at (b ∷ bs) ≡ Some (kinds.Word, prefix_len goes_on bs + 1)
unfolding lexeme_at
at_letter b bs h =
    let q : (b == 34) ≡ false = grind (arith, nat_tests) in
    let s : (b == 63) ≡ false = grind (arith, nat_tests) in
    let d : is_ascii_digit b ≡ false = grind (arith, nat_tests) in rw (q, s, d, h) refl

pub at_sign : (b : ℕ) (bs : List ℕ) → begins_sign b ≡ true → lexeme_at (b ∷ bs) ≡ longest_sign (b ∷ bs)
unfolding lexeme_at
at_sign b bs h =
    let q : (b == 34) ≡ false = grind (arith, nat_tests) in
    let s : (b == 63) ≡ false = grind (arith, nat_tests) in
    let d : is_ascii_digit b ≡ false = grind (arith, nat_tests) in
    let w : begins_word b ≡ false = grind (arith, nat_tests) in rw (q, s, d, w) refl

pub at_quote : (inside rest : List ℕ) → IsBetweenQuotes inside
    → lexeme_at (34 ∷ (inside ++ (34 ∷ rest))) ≡ Some (kinds.Quoted, (length inside + 1) + 1)
unfolding lexeme_at
at_quote inside rest h = ap (option_map (λ n. (kinds.Quoted, n + 1))) (closing_found h rest)

pub at_slot : (bs : List ℕ) → lexeme_at (63 ∷ bs) ≡ Some (kinds.Slot, prefix_len goes_on bs + 1)
unfolding lexeme_at
at_slot bs = refl

-- a sign, or one that it begins
longest_found : (n : ℕ) (text : List ℕ) (k : TokenKind) → sign_of n text ≡ Some (k, n) → (n ≡ 1) ⊎ (n ≡ 2)
    → (j : TokenKind) × (m : ℕ) × (longest_sign text ≡ Some (j, m)) × (n ≤ m)
longest_found n text k e c = elim (sign_of 2 text) as (λ o. sign_of 2 text ≡ o → (j : TokenKind) × (m : ℕ) × (or_else o (sign_of 1 text) ≡ Some (j, m)) × (n ≤ m)) [
  | None ↦ λ q. ⊎_elim
      (λ h. (k, n, subst (λ w. sign_of w text ≡ Some (k, n)) h e, omega arith))
      (λ h. absurd (none-some (k, n) (sym q ∙ subst (λ w. sign_of w text ≡ Some (k, n)) h e))) c
  | Some x ↦ λ q.
      let h = sign_of_sound 2 text x.0 x.1 q in
      (x.0, x.1, refl, ⊎_elim (λ l. omega (arith, h.0)) (λ l. omega (arith, h.0)) c)
] refl

sign_found : (s : List ℕ) (text rest : List ℕ) (k : TokenKind) → sign_kind_of s ≡ Some k → is_sign s ≡ true → text ≡ s ++ rest → IsFoundFrom text (length s)
sign_found [] text rest k e h split = absurd (false≢true h)
sign_found (a ∷ []) text rest k e h split =
    let f = longest_found 1 text k (sign_there 1 (a ∷ []) text rest k split refl e) (inl refl) in
    (f.0, f.1, ap lexeme_at split ∙ (at_sign a rest h ∙ (ap longest_sign (sym split) ∙ f.2)), f.3)
sign_found (a ∷ b ∷ []) text rest k e h split =
    let f = longest_found 2 text k (sign_there 2 (a ∷ b ∷ []) text rest k split refl e) (inr refl) in
    (f.0, f.1, ap lexeme_at split ∙ (at_sign a (b ∷ rest) (both (begins_sign a) (nat_lt b 128) h).0 ∙ (ap longest_sign (sym split) ∙ f.2)), f.3)
sign_found (a ∷ b ∷ c ∷ s) text rest k e h split = absurd (false≢true h)

token_found : {v : List ℕ} {kind : TokenKind} → IsTokenText v kind → (text rest : List ℕ) → text ≡ v ++ rest → IsFoundFrom text (length v)
token_found (word b bs h all) text rest e =
    let covers = prefix_covers goes_on bs rest all in
    (kinds.Word, prefix_len goes_on (bs ++ rest) + 1, ap lexeme_at e ∙ at_letter b (bs ++ rest) h, omega arith)
token_found (digits b bs h all) text rest e =
    let covers = prefix_covers is_ascii_digit bs rest all in
    (kinds.Digits, prefix_len is_ascii_digit (bs ++ rest) + 1, ap lexeme_at e ∙ at_digit b (bs ++ rest) h, omega arith)
token_found (slot bs all) text rest e =
    let covers = prefix_covers goes_on bs rest all in
    (kinds.Slot, prefix_len goes_on (bs ++ rest) + 1, ap lexeme_at e ∙ at_slot (bs ++ rest), omega arith)
token_found (quoted inside h) text rest e = (
  kinds.Quoted,
  (length inside + 1) + 1,
  ap lexeme_at (e ∙ seam inside rest) ∙ at_quote inside rest h,
  omega (arith, length-append inside (34 ∷ [])),
)
  where
    seam : (xs ys : List ℕ) → 34 ∷ ((xs ++ (34 ∷ [])) ++ ys) ≡ 34 ∷ (xs ++ (34 ∷ ys))
    seam xs ys = simp append_assoc
token_found (sign s kind e) text rest split = sign_found s text rest kind e (sign_fits s kind e).0 split

pub no_lexeme : (text : List ℕ) → lexeme_at text ≡ None → HasNoToken text
no_lexeme text e v rest kind t split =
    let f = token_found t text rest split in absurd (none-some (f.0, f.1) (sym e ∙ f.2))

pub lexeme_longest : (text : List ℕ) (k : TokenKind) (n : ℕ) → lexeme_at text ≡ Some (k, n) → IsLongestIn text (take n text)
lexeme_longest text k n e v rest kind t split =
    let f = token_found t text rest split in
    let same = some_pair_parts f.0 k f.1 n (sym f.2 ∙ e) in
    let l = length_take_le n text (lexeme_first text k n e).0 in omega (arith, f.3, same.1, l)

pub lexeme_cut : (text : List ℕ) (k : TokenKind) (n : ℕ) → IsUtf8 text → lexeme_at text ≡ Some (k, n) → IsCharBoundary text n
lexeme_cut text k n u e = ascii_cut text n u (lexeme_first text k n e).1

-- the token of a text
pub token_at : (start : ℕ) (text later : List ℕ) (k : TokenKind) (n : ℕ) (t : Token) → lexeme_at text ≡ Some (k, n) → t.text.now ≡ take n text
    → later ≡ drop n text → t.kind ≡ full_kind k t.text.now → t.span.start ≡ start → t.span.stop ≡ start + length t.text.now
    → IsTokenAt start text t later
token_at start text later k n t e w r kind from to =
    let first = lexeme_first text k n e in
    let l = length_take_le n text first.0 in (
      from,
      to,
      omega (arith, l, ap length w, first.1.1),
      sym (take-append-drop n text) ∙ (ap (λ x. x ++ drop n text) (sym w) ∙ ap (λ x. t.text.now ++ x) (sym r)),
      subst (λ j. IsTokenText t.text.now j) (sym kind)
          (subst (λ x. IsTokenText x (full_kind k x)) (sym w) first.2),
      subst (λ x. IsLongestIn text x) (sym w) (lexeme_longest text k n e),
    )
