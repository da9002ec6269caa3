-- The piece that a text begins with is the one that is written there.
use Rattle.std.proofs.Common.{◌≡◌, ◌≢◌, ℕ, ◌+◌, ◌-◌, ◌*◌, ◌<◌, ◌≤◌, Bool, true, false, List, [], ◌∷◌, ◌++◌, Option, Some, None, length, refl, sym, ◌∙◌, ap, subst, arith, nat_lt, inl, inr, ⊎_elim}
use Rattle.std.specs.Bool.{◌==◌}
use Rattle.std.specs.Prelude.{◌⊎◌, ◌&&◌, if◌then◌else◌, option_and_then}
use Rattle.std.specs.Option.{option_map}
use Rattle.std.specs.Char.{digit_value, is_digit, IsScalar}
use Rattle.std.specs.Str.Parse.{AllDigits, digits_value, digits_value_after}
use Rattle.std.proofs.lemmas.Bool.{eqb-true, false≢true}
use Rattle.std.specs.Option.{is_some, unwrap_or}
use Rattle.std.proofs.lemmas.Bool.Decides.{nat_tests}
use lib.Utf8.{scalar}
use Rattle.cedar_lexer.specs.Escapes.{letter_escape, IsPieceText, Writes, itself, by_letter, by_two_digits, by_code}
use Rattle.cedar_lexer.specs.FirstPieces.{code_at, digit_at, digits_at, escape_at, piece_at, two_digits_at}
use Rattle.cedar_lexer.specs.declared.escapes.Piece.{Piece}
use Rattle.cedar_lexer.specs.declared.escapes.Piece.TheVariants.{Char, Star}

-- what was read, and what follows it
abbrev pub found : {A : Type 0} → A → List ℕ → Option (A × List ℕ)
found a r = Some (a, r)

-- the value of digits that begin with d
first_value : (d : ℕ) (ds : List ℕ) → digits_value 16 (d ∷ ds) ≡ digits_value_after 16 (digit_value d) ds
first_value d ds = ap (λ n. digits_value_after 16 n ds) (zero_of (digit_value d))
  where
    zero_of : (n : ℕ) → 0 * 16 + n ≡ n
    zero_of n = omega arith

-- ---- each way to write a character is read

itself_read : (c : ℕ) (r : List ℕ) → c ≢ 13 → c ≢ 92 → piece_at (c ∷ r) ≡ Some (Char c, r)
unfolding piece_at
itself_read c r m n =
    let e : (c == 92) ≡ false = grind (arith, nat_tests) in
    let k : (c == 13) ≡ false = grind (arith, nat_tests) in
    rw (e, k) refl

-- a letter with no escape is none that has one
no_letter : (k l c : ℕ) → letter_escape k ≡ None → letter_escape l ≡ Some c → (l == k) ≡ false
no_letter k l c none some = elim (l == k) as (λ v. (l == k) ≡ v → v ≡ false) [
  | true ↦ λ e. let h : None ≡ Some c = sym none ∙ (ap letter_escape (sym (eqb-true l k e)) ∙ some) in cc
  | false ↦ λ e. refl
] refl

letter_read : (l c : ℕ) (r : List ℕ) → letter_escape l ≡ Some c → piece_at (92 ∷ l ∷ r) ≡ Some (Char c, r)
unfolding piece_at escape_at
letter_read l c r h =
    let s : (l == 42) ≡ false = no_letter 42 l c refl h in
    let x : (l == 120) ≡ false = no_letter 120 l c refl h in
    let u : (l == 117) ≡ false = no_letter 117 l c refl h in
    rw (s, x, u) (ap (option_map (λ d. (Char d, r))) h)

digit_read : (c : ℕ) (r : List ℕ) → digit_value c < 16 → digit_at (c ∷ r) ≡ Some (digit_value c, r)
unfolding digit_at
digit_read c r h = let e : is_digit c 16 ≡ true = grind (arith, nat_tests) in rw e refl

two_digits_read : (h l : ℕ) (r : List ℕ) → digit_value h < 8 → digit_value l < 16 → two_digits_at (h ∷ l ∷ r) ≡ Some (digit_value h * 16 + digit_value l, r)
unfolding two_digits_at
two_digits_read h l r a b =
    let e : nat_lt (digit_value h) 8 ≡ true = grind (arith, nat_tests) in
    rw (digit_read h (l ∷ r) (omega arith), digit_read l r b, e) refl

digits_read : (ds : List ℕ) (v left : ℕ) (r : List ℕ) → AllDigits 16 ds → length ds ≤ left → IsScalar (digits_value_after 16 v ds)
    → digits_at ((ds ++ (125 ∷ [])) ++ r) v left ≡ Some (digits_value_after 16 v ds, r)
unfolding digits_at
digits_read [] v left r all fits ok = rw ok refl
digits_read (d ∷ ds) v left r all fits ok =
    let n : (d == 125) ≡ false = no_bracket d all.0 in
    let a : nat_lt 0 left ≡ true = grind (arith, nat_tests) in
    let b : is_digit d 16 ≡ true = is_digit_true d all.0 in
    rw (n, a, b) (digits_read ds (v * 16 + digit_value d) (left - 1) r all.1 (omega arith) ok)
  where
    no_bracket : (d : ℕ) → digit_value d < 16 → (d == 125) ≡ false
    no_bracket d h = grind (arith, nat_tests)

    is_digit_true : (d : ℕ) → digit_value d < 16 → is_digit d 16 ≡ true
    is_digit_true d h = grind (arith, nat_tests)

code_read : (ds r : List ℕ) → 0 < length ds → length ds ≤ 6 → AllDigits 16 ds → IsScalar (digits_value 16 ds)
    → code_at (123 ∷ ((ds ++ (125 ∷ [])) ++ r)) ≡ Some (digits_value 16 ds, r)
unfolding code_at
code_read [] r some few all ok = absurd (omega arith)
code_read (d ∷ ds) r some few all ok =
    let v = first_value d ds in
    rw (digit_read d ((ds ++ (125 ∷ [])) ++ r) all.0)
    (digits_read ds (digit_value d) 5 r all.1 (omega arith) (subst IsScalar v ok) ∙ ap (λ n. found n r) (sym v))

char_read : (w : List ℕ) (c : ℕ) (r : List ℕ) → Writes w c → piece_at (w ++ r) ≡ Some (Char c, r)
unfolding piece_at escape_at
char_read w c r (itself m n) = itself_read c r m n
char_read w c r (by_letter {l} h) = letter_read l c r h
char_read w c r (by_two_digits {h} {l} a b) = ap (option_map (λ x. (Char x.0, x.1))) (two_digits_read h l r a b)
char_read w c r (by_code ds some few all ok) = ap (option_map (λ x. (Char x.0, x.1))) (code_read ds r some few all ok)

pub piece_read : (w : List ℕ) (p : Piece) (r : List ℕ) → IsPieceText w p → piece_at (w ++ r) ≡ Some (p, r)
unfolding piece_at escape_at
piece_read w (Char c) r h = char_read w c r h
piece_read w Star r h = subst (λ t. piece_at (t ++ r) ≡ Some (Star, r)) (sym h) refl

-- ---- what is read is written there

pub none_some : {A : Type 0} (x : A) → None ≡ Some x → ⊥
none_some x h = absurd (false≢true (ap is_some h))

pub same_pair : {A : Type 0} (a c : A) (b d : List ℕ) → found a b ≡ found c d → (a ≡ c) × (b ≡ d)
same_pair {A} a c b d e = (ap (λ o. (unwrap_or {T = A × List ℕ} o (a, b)).0) e, ap (λ o. (unwrap_or {T = A × List ℕ} o (a, b)).1) e)

guarded : {A : Type 0} (b : Bool) (o : Option A) (z : A) → (if b then o else None) ≡ Some z → (b ≡ true) × (o ≡ Some z)
guarded true o z h = (refl, h)
guarded false o z h = absurd (none_some z h)

chosen : {A : Type 0} (b : Bool) (o p : Option A) (z : A) → (if b then o else p) ≡ Some z
    → ((b ≡ true) × (o ≡ Some z)) ⊎ ((b ≡ false) × (p ≡ Some z))
chosen true o p z h = inl (refl, h)
chosen false o p z h = inr (refl, h)

bound : {A B : Type 0} (f : A → Option B) (o : Option A) (z : B) → option_and_then f o ≡ Some z → (a : A) × (o ≡ Some a) × (f a ≡ Some z)
bound f None z h = absurd (none_some z h)
bound f (Some a) z h = (a, refl, h)

mapped : {A B : Type 0} (f : A → B) (o : Option A) (z : B) → option_map f o ≡ Some z → (a : A) × (o ≡ Some a) × (Some (f a) ≡ Some z)
mapped f None z h = absurd (none_some z h)
mapped f (Some a) z h = (a, refl, h)

pub both : (a b : Bool) → (a && b) ≡ true → (a ≡ true) × (b ≡ true)
both true b h = (refl, h)
both false b h = absurd (false≢true h)

is_below : (m n : ℕ) → nat_lt m n ≡ true → m < n
is_below m n h = grind (arith, nat_tests)

abbrev IsDigit : List ℕ → ℕ → List ℕ → Type 0
IsDigit cs d r = (c : ℕ) × (cs ≡ c ∷ r) × (digit_value c ≡ d) × (digit_value c < 16)

digit_sound : (cs : List ℕ) (d : ℕ) (r : List ℕ) → digit_at cs ≡ Some (d, r) → IsDigit cs d r
unfolding digit_at
digit_sound [] d r h = absurd (none_some (d, r) h)
digit_sound (c ∷ cs) d r h =
    let g = guarded (is_digit c 16) (Some (digit_value c, cs)) (d, r) h in
    let s = same_pair (digit_value c) d cs r g.1 in
    (c, ap (λ t. c ∷ t) s.1, s.0, is_below (digit_value c) 16 g.0)

abbrev AreTwoDigits : List ℕ → ℕ → List ℕ → Type 0
AreTwoDigits cs x r =
    (h : ℕ) × (l : ℕ) × (cs ≡ h ∷ l ∷ r) × (digit_value h < 8) × (digit_value l < 16) × (digit_value h * 16 + digit_value l ≡ x)

two_digits_sound : (cs : List ℕ) (x : ℕ) (r : List ℕ) → two_digits_at cs ≡ Some (x, r) → AreTwoDigits cs x r
unfolding two_digits_at
two_digits_sound cs x r k =
    let first = bound (λ h. option_and_then (λ l. if nat_lt h.0 8 then Some (h.0 * 16 + l.0, l.1) else None) (digit_at h.1)) (digit_at cs) (x, r) k in
    let h : ℕ × List ℕ = first.0 in
    let second = bound (λ l. if nat_lt h.0 8 then Some (h.0 * 16 + l.0, l.1) else None) (digit_at h.1) (x, r) first.2 in
    let l : ℕ × List ℕ = second.0 in
    let g = guarded (nat_lt h.0 8) (Some (h.0 * 16 + l.0, l.1)) (x, r) second.2 in
    let s = same_pair (h.0 * 16 + l.0) x l.1 r g.1 in
    let a = digit_sound cs h.0 h.1 first.1 in
    let b = digit_sound h.1 l.0 l.1 second.1 in (
      a.0,
      b.0,
      a.1 ∙ ap (λ t. a.0 ∷ t) (b.1 ∙ ap (λ t. b.0 ∷ t) s.1),
      subst (λ n. n < 8) (sym a.2) (is_below h.0 8 g.0),
      b.3,
      ap (λ n. n * 16 + digit_value b.0) a.2 ∙ (ap (λ n. h.0 * 16 + n) b.2 ∙ s.0),
    )

abbrev AreDigits : List ℕ → ℕ → ℕ → ℕ → List ℕ → Type 0
AreDigits cs v left x r =
    (ds : List ℕ) × (cs ≡ (ds ++ (125 ∷ [])) ++ r) × (length ds ≤ left) × AllDigits 16 ds × (digits_value_after 16 v ds ≡ x) × IsScalar x

no_more_digits : (c : ℕ) (cs : List ℕ) (v left x : ℕ) (r : List ℕ) → (c == 125) ≡ true
    → (if scalar v then found v cs else None) ≡ Some (x, r) → AreDigits (c ∷ cs) v left x r
no_more_digits c cs v left x r e h =
    let g = guarded (scalar v) (Some (v, cs)) (x, r) h in
    let s = same_pair v x cs r g.1 in
    ([], ap (λ d. d ∷ cs) (eqb-true c 125 e) ∙ ap (λ t. 125 ∷ t) s.1, omega arith, tt, s.0, subst IsScalar s.0 g.0)

one_more_digit : (c : ℕ) (cs : List ℕ) (v left x : ℕ) (r : List ℕ) → nat_lt 0 left ≡ true → is_digit c 16 ≡ true
    → AreDigits cs (v * 16 + digit_value c) (left - 1) x r → AreDigits (c ∷ cs) v left x r
one_more_digit c cs v left x r some d h =
    let n : 0 < left = is_below 0 left some in
    let k : length h.0 ≤ left - 1 = h.2 in
    (c ∷ h.0, ap (λ t. c ∷ t) h.1, omega arith, (is_below (digit_value c) 16 d, h.3), h.4, h.5)

digits_sound : (cs : List ℕ) (v left x : ℕ) (r : List ℕ) → digits_at cs v left ≡ Some (x, r) → AreDigits cs v left x r
unfolding digits_at
digits_sound [] v left x r h = absurd (none_some (x, r) h)
digits_sound (c ∷ cs) v left x r h =
    ⊎_elim (λ k. no_more_digits c cs v left x r k.0 k.1)
    (λ k.
    let g = guarded (nat_lt 0 left && is_digit c 16) (digits_at cs (v * 16 + digit_value c) (left - 1)) (x, r) k.1 in
    let b = both (nat_lt 0 left) (is_digit c 16) g.0 in
    one_more_digit c cs v left x r b.0 b.1 (digits_sound cs (v * 16 + digit_value c) (left - 1) x r g.1))
    (chosen (c == 125) (if scalar v then found v cs else None)
    (if nat_lt 0 left && is_digit c 16 then digits_at cs (v * 16 + digit_value c) (left - 1) else None) (x, r) h)

-- what stands behind a backslash
abbrev IsEscape : List ℕ → Piece → List ℕ → Type 0
IsEscape cs p r = (w : List ℕ) × (cs ≡ w ++ r) × IsPieceText (92 ∷ w) p

code_text : (d : ℕ) (ds : List ℕ) (x : ℕ) → digit_value d < 16 → length ds ≤ 5 → AllDigits 16 ds
    → digits_value_after 16 (digit_value d) ds ≡ x → IsScalar x → Writes (92 ∷ 117 ∷ 123 ∷ ((d ∷ ds) ++ (125 ∷ []))) x
code_text d ds x one few all value ok =
    let v = first_value d ds ∙ value in
    subst (λ c. Writes (92 ∷ 117 ∷ 123 ∷ ((d ∷ ds) ++ (125 ∷ []))) c) v
    (by_code (d ∷ ds) (omega arith) (omega arith) (one, all) (subst IsScalar (sym v) ok))

code_sound : (cs : List ℕ) (x : ℕ) (r : List ℕ) → code_at cs ≡ Some (x, r)
    → (w : List ℕ) × (cs ≡ w ++ r) × Writes (92 ∷ 117 ∷ w) x
unfolding code_at
code_sound [] x r h = absurd (none_some (x, r) h)
code_sound (c ∷ cs) x r h =
    let g = guarded (c == 123) (option_and_then (λ d. digits_at d.1 d.0 5) (digit_at cs)) (x, r) h in
    let first = bound (λ d. digits_at d.1 d.0 5) (digit_at cs) (x, r) g.1 in
    let d : ℕ × List ℕ = first.0 in
    let one = digit_sound cs d.0 d.1 first.1 in
    let more = digits_sound d.1 d.0 5 x r first.2 in (
      123 ∷ ((one.0 ∷ more.0) ++ (125 ∷ [])),
      ap (λ b. b ∷ cs) (eqb-true c 123 g.0) ∙ ap (λ t. 123 ∷ t) (one.1 ∙ ap (λ t. one.0 ∷ t) more.1),
      code_text one.0 more.0 x one.3 more.2 more.3 (ap (λ v. digits_value_after 16 v more.0) one.2 ∙ more.4) more.5,
    )

letter_sound : (l : ℕ) (cs : List ℕ) (p : Piece) (r : List ℕ) → option_map {U = Piece × List ℕ} (λ c. (Char c, cs)) (letter_escape l) ≡ Some (p, r) → IsEscape (l ∷ cs) p r
letter_sound l cs p r h =
    let m = mapped {B = Piece × List ℕ} (λ c. (Char c, cs)) (letter_escape l) (p, r) h in
    let s = same_pair (Char m.0) p cs r m.2 in
    (l ∷ [], ap (λ t. l ∷ t) s.1, subst (λ q. IsPieceText (92 ∷ l ∷ []) q) s.0 (by_letter m.1))

two_digits_escape : (l : ℕ) (cs : List ℕ) (p : Piece) (r : List ℕ) → (l == 120) ≡ true
    → option_map {U = Piece × List ℕ} (λ x. (Char x.0, x.1)) (two_digits_at cs) ≡ Some (p, r) → IsEscape (l ∷ cs) p r
two_digits_escape l cs p r e h =
    let m = mapped {B = Piece × List ℕ} (λ x. (Char x.0, x.1)) (two_digits_at cs) (p, r) h in
    let x : ℕ × List ℕ = m.0 in
    let s = same_pair (Char x.0) p x.1 r m.2 in
    let t = two_digits_sound cs x.0 x.1 m.1 in (
      120 ∷ t.0 ∷ t.1 ∷ [],
      ap (λ b. b ∷ cs) (eqb-true l 120 e) ∙ ap (λ u. 120 ∷ u) (t.2 ∙ ap (λ u. t.0 ∷ t.1 ∷ u) s.1),
      subst (λ q. IsPieceText (92 ∷ 120 ∷ t.0 ∷ t.1 ∷ []) q) (ap (λ c. Char c) t.5 ∙ s.0) (by_two_digits t.3 t.4),
    )

code_escape : (l : ℕ) (cs : List ℕ) (p : Piece) (r : List ℕ) → (l == 117) ≡ true
    → option_map {U = Piece × List ℕ} (λ x. (Char x.0, x.1)) (code_at cs) ≡ Some (p, r) → IsEscape (l ∷ cs) p r
code_escape l cs p r e h =
    let m = mapped {B = Piece × List ℕ} (λ x. (Char x.0, x.1)) (code_at cs) (p, r) h in
    let x : ℕ × List ℕ = m.0 in
    let s = same_pair (Char x.0) p x.1 r m.2 in
    let t = code_sound cs x.0 x.1 m.1 in (
      117 ∷ t.0,
      ap (λ b. b ∷ cs) (eqb-true l 117 e) ∙ ap (λ u. 117 ∷ u) (t.1 ∙ ap (λ u. t.0 ++ u) s.1),
      subst (λ q. IsPieceText (92 ∷ 117 ∷ t.0) q) s.0 t.2,
    )

star_escape : (l : ℕ) (cs : List ℕ) (p : Piece) (r : List ℕ) → (l == 42) ≡ true → found Star cs ≡ Some (p, r) → IsEscape (l ∷ cs) p r
star_escape l cs p r e h =
    let s = same_pair Star p cs r h in
    (42 ∷ [], ap (λ b. b ∷ cs) (eqb-true l 42 e) ∙ ap (λ u. 42 ∷ u) s.1, subst (λ q. IsPieceText (92 ∷ 42 ∷ []) q) s.0 refl)

escape_sound : (cs : List ℕ) (p : Piece) (r : List ℕ) → escape_at cs ≡ Some (p, r) → IsEscape cs p r
unfolding escape_at
escape_sound [] p r h = absurd (none_some (p, r) h)
escape_sound (l ∷ cs) p r h =
    ⊎_elim (λ k. star_escape l cs p r k.0 k.1)
    (λ k. ⊎_elim (λ m. two_digits_escape l cs p r m.0 m.1)
    (λ m. ⊎_elim (λ n. code_escape l cs p r n.0 n.1) (λ n. letter_sound l cs p r n.1) (chosen (l == 117) _ _ (p, r) m.1))
    (chosen (l == 120) _ _ (p, r) k.1))
    (chosen (l == 42) _ _ (p, r) h)

itself_sound : (c : ℕ) (cs : List ℕ) (p : Piece) (r : List ℕ) → (c == 92) ≡ false → (c == 13) ≡ false → found (Char c) cs ≡ Some (p, r)
    → (w : List ℕ) × (c ∷ cs ≡ w ++ r) × IsPieceText w p
itself_sound c cs p r e k h =
    let s = same_pair (Char c) p cs r h in
    let n : c ≢ 92 = grind (arith, nat_tests) in
    let m : c ≢ 13 = grind (arith, nat_tests) in
    (c ∷ [], ap (λ t. c ∷ t) s.1, subst (λ q. IsPieceText (c ∷ []) q) s.0 (itself m n))

pub piece_sound : (cs : List ℕ) (p : Piece) (r : List ℕ) → piece_at cs ≡ Some (p, r) → (w : List ℕ) × (cs ≡ w ++ r) × IsPieceText w p
unfolding piece_at
piece_sound [] p r h = absurd (none_some (p, r) h)
piece_sound (c ∷ cs) p r h =
    ⊎_elim (λ k.
    let e = escape_sound cs p r k.1 in
    (92 ∷ e.0, ap (λ b. b ∷ cs) (eqb-true c 92 k.0) ∙ ap (λ t. 92 ∷ t) e.1, e.2))
    (λ k. ⊎_elim (λ m. absurd (none_some (p, r) m.1)) (λ m. itself_sound c cs p r k.0 m.0 m.1)
    (chosen (c == 13) None (Some (Char c, cs)) (p, r) k.1))
    (chosen (c == 92) (escape_at cs) (if c == 13 then None else Some (Char c, cs)) (p, r) h)
