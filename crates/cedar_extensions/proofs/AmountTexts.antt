-- A text is amounts of time in one way.
use Rattle.std.proofs.Common.{◌≡◌, ℕ, ◌+◌, ◌*◌, ◌^◌, ◌<◌, ◌≤◌, ◌==◌, nat_eq, ◌⊎◌, Bool, true, false, not, cond, List, [], ◌∷◌, ◌++◌, length, Option, Some, None, Result, Ok, Err, MatchResult, MatchOption, refl, sym, ap, subst, ◌∙◌, inl, inr, ⊎_elim, arith}
use Rattle.std.specs.Cmp.Lexicographic.{bytes_decides, pointwise}
use Rattle.std.specs.Char.{is_ascii_digit}
use Rattle.std.specs.List.{list_all}
use Rattle.cedar_extensions.specs.Numbers.{IsDigits, begins_with, is_no_digit, number_of}
use Rattle.cedar_extensions.specs.Amounts.{AddsAmount, IsAmounts, unit_name, unit_size}
use Rattle.cedar_extensions.specs.AmountReads.{AddsUp, Descends, IsAmount, IsLargerThan, IsNotRead}
use Rattle.cedar_extensions.specs.declared.duration.Unit.{Unit}
use Rattle.cedar_extensions.specs.declared.duration.Unit.TheVariants.{Day, Hour, Minute, Second, Millisecond}
use Rattle.cedar_extensions.specs.declared.duration.DurationError.{DurationError}
use Rattle.cedar_extensions.specs.declared.duration.DurationError.TheVariants.{Malformed, Overflow}
use Rattle.cedar_extensions.proofs.Splits.{and_left, digits_begin, same_split}

-- a unit's name has no digit
pub name_is_word : (u : Unit) → list_all is_no_digit (unit_name u) ≡ true
name_is_word Day = refl
name_is_word Hour = refl
name_is_word Minute = refl
name_is_word Second = refl
name_is_word Millisecond = refl

pub name_begins : (u : Unit) (r : List ℕ) → begins_with is_ascii_digit (unit_name u ++ r) ≡ false
name_begins Day r = refl
name_begins Hour r = refl
name_begins Minute r = refl
name_begins Second r = refl
name_begins Millisecond r = refl

-- the milliseconds of the unit with this name
abbrev size_named : List ℕ → ℕ
size_named [] = 0
size_named (c ∷ []) = cond (c == 100) 86400000 (cond (c == 104) 3600000 (cond (c == 109) 60000 1000))
size_named (c ∷ d ∷ r) = 1

size_is : (u : Unit) → size_named (unit_name u) ≡ unit_size u
size_is Day = refl
size_is Hour = refl
size_is Minute = refl
size_is Second = refl
size_is Millisecond = refl

-- two amounts with which one text begins are one
same_amount : (u v : Unit) (t ds es r s : List ℕ) → IsAmount t ds (unit_name u) r → IsAmount t es (unit_name v) s → (ds ≡ es) × (unit_size u ≡ unit_size v) × (r ≡ s)
same_amount u v t ds es r s h k =
    let d = same_split is_ascii_digit ds es (unit_name u ++ r) (unit_name v ++ s) h.digit_part.1 k.digit_part.1 (name_begins u r) (name_begins v s) (sym h.spelled ∙ k.spelled) in
    let w = same_split is_no_digit (unit_name u) (unit_name v) r s (name_is_word u) (name_is_word v) h.ends k.ends d.1 in
    (d.0, sym (size_is u) ∙ ap size_named w.0 ∙ size_is v, w.1)

digits_no_word : (ds r : List ℕ) → IsDigits ds → begins_with is_no_digit (ds ++ r) ≡ false
digits_no_word [] r h = absurd (omega (arith, h.0))
digits_no_word (d ∷ ds) r h = ap not (and_left (is_ascii_digit d) (list_all is_ascii_digit ds) h.1)

-- amounts begin with a digit, or are no text
pub amounts_end : (us : List Unit) (t : List ℕ) (n : ℕ) → IsAmounts us t n → begins_with is_no_digit t ≡ false
amounts_end [] t n h = ap (begins_with is_no_digit) h.0
amounts_end (u ∷ us) t n h = ⊎_elim (amounts_end us t n) (λ (a : AddsAmount u (λ rest m. IsAmounts us rest m) t n). ap (begins_with is_no_digit) a.spelled ∙ digits_no_word a.digits (unit_name u ++ a.rest) a.digit_part) h

turned : (b : Bool) → not b ≡ false → b ≡ true
turned true h = refl
turned false h = cc

digit_or_not : (t : List ℕ) → 0 < length t → begins_with is_no_digit t ≡ false → begins_with is_ascii_digit t ≡ true
digit_or_not [] some h = absurd (omega arith)
digit_or_not (c ∷ t) some h = turned (is_ascii_digit c) h

pub amounts_begin : (us : List Unit) (t : List ℕ) (n : ℕ) → 0 < length t → IsAmounts us t n → begins_with is_ascii_digit t ≡ true
amounts_begin us t n some h = digit_or_not t some (amounts_end us t n h)

amount_of : (u : Unit) (us : List Unit) (t : List ℕ) (n : ℕ) (a : AddsAmount u (λ rest m. IsAmounts us rest m) t n) → IsAmount t a.digits (unit_name u) a.rest
amount_of u us t n a = record { spelled = a.spelled; digit_part = a.digit_part; ends = amounts_end us a.rest a.others a.others_part }

-- what begins with an amount is not amounts of smaller units
exclusive : (u : Unit) (us : List Unit) (t ds r : List ℕ) (n : ℕ) → IsLargerThan u us → IsAmount t ds (unit_name u) r → IsAmounts us t n → ⊥
exclusive u [] t ds r n below h k =
    let b : begins_with is_ascii_digit t ≡ true = ap (begins_with is_ascii_digit) h.spelled ∙ digits_begin ds (unit_name u ++ r) h.digit_part in
    let e : begins_with is_ascii_digit t ≡ false = ap (begins_with is_ascii_digit) k.0 in
    cc
exclusive u (v ∷ vs) t ds r n below h k =
    ⊎_elim (exclusive u vs t ds r n below.1 h)
    (λ (a : AddsAmount v (λ rest m. IsAmounts vs rest m) t n). let s = same_amount u v t ds a.digits r a.rest h (amount_of v vs t n a) in absurd (omega (arith, below.0, s.1))) k

added_once : (u : Unit) (us : List Unit) (t : List ℕ) (m n : ℕ) → ((r : List ℕ) (x y : ℕ) → IsAmounts us r x → IsAmounts us r y → x ≡ y) → AddsAmount u (λ rest k. IsAmounts us rest k) t m → AddsAmount u (λ rest k. IsAmounts us rest k) t n → m ≡ n
added_once u us t m n once a b =
    let s = same_amount u u t a.digits b.digits a.rest b.rest (amount_of u us t m a) (amount_of u us t n b) in
    let others = once b.rest a.others b.others (subst (λ r. IsAmounts us r a.others) s.2 a.others_part) b.others_part in
    a.value ∙ ap (λ x. number_of x * unit_size u + a.others) s.0 ∙ ap (λ x. number_of b.digits * unit_size u + x) others ∙ sym b.value

-- the milliseconds of amounts are determined
pub same_size : (us : List Unit) (t : List ℕ) (m n : ℕ) → Descends us → IsAmounts us t m → IsAmounts us t n → m ≡ n
same_size [] t m n down h k = h.1 ∙ sym k.1
same_size (u ∷ us) t m n down h k =
    ⊎_elim
    (λ h'. ⊎_elim (same_size us t m n down.1 h') (λ (b : AddsAmount u (λ rest x. IsAmounts us rest x) t n). absurd (exclusive u us t b.digits b.rest m down.0 (amount_of u us t n b) h')) k)
    (λ (a : AddsAmount u (λ rest x. IsAmounts us rest x) t m). ⊎_elim (λ k'. absurd (exclusive u us t a.digits a.rest n down.0 (amount_of u us t m a) k')) (added_once u us t m n (λ r x y. same_size us r x y down.1) a) k) h

-- if no amount of the unit stands first, what the later units make is all
pub passed_over : (u : Unit) (us : List Unit) (t : List ℕ) (r : Result ℕ DurationError) → ((ds s : List ℕ) → IsAmount t ds (unit_name u) s → ⊥) → MatchResult r (IsAmounts us t) (IsNotRead us t) → MatchResult r (IsAmounts (u ∷ us) t) (IsNotRead (u ∷ us) t)
passed_over u us t (Ok n) none h = inl h
passed_over u us t (Err Malformed) none h = λ n k. ⊎_elim (h n) (λ (a : AddsAmount u (λ rest m. IsAmounts us rest m) t n). none a.digits a.rest (amount_of u us t n a)) k
passed_over u us t (Err Overflow) none h = (h.0, inl h.1, h.2)

-- if one does, what follows it tells whether the whole is refused
pub added_to_none : (u : Unit) (us : List Unit) (t ds s : List ℕ) (e : DurationError) → Descends (u ∷ us) → IsAmount t ds (unit_name u) s → IsNotRead us s e → IsNotRead (u ∷ us) t e
added_to_none u us t ds s Malformed down h k = λ n x.
    ⊎_elim (exclusive u us t ds s n down.0 h)
    (λ (a : AddsAmount u (λ rest m. IsAmounts us rest m) t n). let same = same_amount u u t a.digits ds a.rest s (amount_of u us t n a) h in k a.others (subst (λ r. IsAmounts us r a.others) same.2 a.others_part)) x
added_to_none u us t ds s Overflow down h k =
    let sum = number_of ds * unit_size u + k.0 in
    (sum, inr (record { digits = ds; rest = s; others = k.0; spelled = h.spelled; digit_part = h.digit_part; others_part = k.1; value = refl }), omega (arith, k.2))

-- and adds to it
pub added : (u : Unit) (us : List Unit) (t ds s : List ℕ) (m : ℕ) → IsAmount t ds (unit_name u) s → IsAmounts us s m → IsAmounts (u ∷ us) t (number_of ds * unit_size u + m)
added u us t ds s m h k = inr (record { digits = ds; rest = s; others = m; spelled = h.spelled; digit_part = h.digit_part; others_part = k; value = refl })

-- what a text that begins with an amount begins with
pub digits_read : (u : Unit) (t ds r es s : List ℕ) → t ≡ ds ++ r → list_all is_ascii_digit ds ≡ true → begins_with is_ascii_digit r ≡ false → IsAmount t es (unit_name u) s → (ds ≡ es) × (r ≡ unit_name u ++ s) × (0 < length ds)
digits_read u t ds r es s e h ends a =
    let d = same_split is_ascii_digit ds es r (unit_name u ++ s) h a.digit_part.1 ends (name_begins u s) (sym e ∙ a.spelled) in
    (d.0, d.1, subst (λ xs. 0 < length xs) (sym d.0) a.digit_part.0)

pub word_read : (u : Unit) (t ds r w q es s : List ℕ) → t ≡ ds ++ r → list_all is_ascii_digit ds ≡ true → begins_with is_ascii_digit r ≡ false → r ≡ w ++ q → list_all is_no_digit w ≡ true → begins_with is_no_digit q ≡ false → IsAmount t es (unit_name u) s → w ≡ unit_name u
word_read u t ds r w q es s e h ends f k stops a =
    (same_split is_no_digit w (unit_name u) q s k (name_is_word u) stops a.ends (sym f ∙ (digits_read u t ds r es s e h ends a).1)).0

-- the word is the unit's name, or another
pub other_word : (xs ys zs : List ℕ) → xs ≡ ys → zs ≡ ys → false ≡ pointwise nat_eq xs zs → ⊥
other_word xs ys zs e f h = let t = (bytes_decides xs zs).1 (e ∙ sym f) in cc

-- what the later units make, where the list of units is known by its parts
pub passed : (all : List Unit) (u : Unit) (us : List Unit) (t : List ℕ) (r : Result ℕ DurationError) → all ≡ u ∷ us → ((ds s : List ℕ) → IsAmount t ds (unit_name u) s → ⊥) → MatchResult r (IsAmounts us t) (IsNotRead us t) → MatchResult r (IsAmounts all t) (IsNotRead all t)
passed all u us t r e none h = subst (λ l. MatchResult r (IsAmounts l t) (IsNotRead l t)) (sym e) (passed_over u us t r none h)

adds_up : (u : Unit) (us : List Unit) (t ds s : List ℕ) (others r : Result ℕ DurationError) → Descends (u ∷ us) → IsAmount t ds (unit_name u) s → MatchResult others (IsAmounts us s) (IsNotRead us s) → AddsUp u ds others r → MatchResult r (IsAmounts (u ∷ us) t) (IsNotRead (u ∷ us) t)
adds_up u us t ds s (Ok m) (Ok n) down h k sum = subst (IsAmounts (u ∷ us) t) (sym sum) (added u us t ds s m h k)
adds_up u us t ds s (Ok m) (Err Overflow) down h k sum = (number_of ds * unit_size u + m, added u us t ds s m h k, sum.1)
adds_up u us t ds s (Ok m) (Err Malformed) down h k sum = let e : ◌≡◌ {A = DurationError} Malformed Overflow = sum.0 in cc
adds_up u us t ds s (Err e) r down h k same = subst (λ x. MatchResult x (IsAmounts (u ∷ us) t) (IsNotRead (u ∷ us) t)) (sym same) (added_to_none u us t ds s e down h k)

pub added_up : (all : List Unit) (u : Unit) (us : List Unit) (t ds s : List ℕ) (others r : Result ℕ DurationError) → all ≡ u ∷ us → Descends all → IsAmount t ds (unit_name u) s → MatchResult others (IsAmounts us s) (IsNotRead us s) → AddsUp u ds others r → MatchResult r (IsAmounts all t) (IsNotRead all t)
added_up all u us t ds s others r e down h k sum =
    subst (λ l. MatchResult r (IsAmounts l t) (IsNotRead l t)) (sym e) (adds_up u us t ds s others r (subst Descends e down) h k sum)

-- the later units descend too
pub later_descend : (all : List Unit) (u : Unit) (us : List Unit) → all ≡ u ∷ us → Descends all → Descends us
later_descend all u us e down = let both : Descends (u ∷ us) = subst Descends e down in both.1
