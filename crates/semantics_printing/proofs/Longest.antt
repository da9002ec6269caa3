-- Where a token ends: no token with which the text begins is longer, as long as what follows does not go on with it.
use Rattle.std.proofs.Common.{◌≡◌, ◌≢◌, ℕ, ◌≤◌, Bool, true, false, ◌&&◌, List, [], ◌∷◌, ◌++◌, Some, None, length, length-append, refl, sym, ◌∙◌, ap, subst, arith, append_assoc}
use Rattle.std.specs.Bool.{◌==◌}
use Rattle.std.specs.Prelude.{⊤, if◌then◌else◌}
use Rattle.std.specs.Char.{is_ascii_digit}
use Rattle.std.specs.List.{list_all}
use Rattle.std.specs.Str.{bytes_eq}
use Rattle.std.proofs.lemmas.Bool.{eqb-true, false≢true}
use Rattle.std.proofs.lemmas.Bool.Decides.{nat_tests}
use Rattle.std.proofs.lemmas.Option.{none-some}
use Rattle.std.proofs.lemmas.Slice.Eq.{bytes_eq-Decides}
use Rattle.cedar_lexer.specs.Grammar.{IsBetweenQuotes, IsLongestIn, IsTokenText, begins_word, goes_on, nothing, plain, escaped, word, digits, slot, quoted, sign}
use Rattle.cedar_lexer.specs.TokenKinds.{looked_up, sign_kind_of, signs}
use Rattle.cedar_lexer.specs.declared.token.TokenKind.{TokenKind}

pub both : (a b : Bool) → (a && b) ≡ true → (a ≡ true) × (b ≡ true)
both true b h = (refl, h)
both false b h = absurd (false≢true h)

-- the first byte, or 0
abbrev head : List ℕ → ℕ
head [] = 0
head (x ∷ xs) = x

abbrev tail : List ℕ → List ℕ
tail [] = []
tail (x ∷ xs) = xs

-- ---- what a token begins with tells what it is: 0 a text, 1 a slot, 2 digits, 3 a word, 4 a sign

class : ℕ → ℕ
class b = if b == 34 then 0 else (if b == 63 then 1 else (if is_ascii_digit b then 2 else (if begins_word b then 3 else 4)))

quote_class : class 34 ≡ 0
unfolding class
quote_class = refl

slot_class : class 63 ≡ 1
unfolding class
slot_class = refl

digit_class : (b : ℕ) → is_ascii_digit b ≡ true → class b ≡ 2
unfolding class
digit_class b h =
    let q : (b == 34) ≡ false = grind (arith, nat_tests) in
    let s : (b == 63) ≡ false = grind (arith, nat_tests) in rw (q, s, h) refl

word_class : (b : ℕ) → begins_word b ≡ true → class b ≡ 3
unfolding class
word_class b h =
    let q : (b == 34) ≡ false = grind (arith, nat_tests) in
    let s : (b == 63) ≡ false = grind (arith, nat_tests) in
    let d : is_ascii_digit b ≡ false = grind (arith, nat_tests) in rw (q, s, d, h) refl

-- one or two bytes, of which the first begins nothing else
is_sign : List ℕ → Bool
is_sign [] = false
is_sign (a ∷ []) = class a == 4
is_sign (a ∷ b ∷ []) = class a == 4
is_sign (a ∷ b ∷ c ∷ s) = false

-- what passes in each row of a table does for what is looked up
found_passes : (p : List ℕ → Bool) (s : List ℕ) (kind : TokenKind) (es : List (List ℕ × TokenKind)) → list_all (λ e. p e.0) es ≡ true
    → looked_up s es ≡ Some kind → p s ≡ true
found_passes p s kind [] h e = absurd (none-some kind e)
found_passes p s kind (x ∷ es) h e =
    let hs = both (p x.0) (list_all (λ e. p e.0) es) h in
    elim (bytes_eq s x.0) as (λ v. bytes_eq s x.0 ≡ v → (if v then Some x.1 else looked_up s es) ≡ Some kind → p s ≡ true) [
      | true ↦ λ q f. subst (λ t. p t ≡ true) (sym ((bytes_eq-Decides s x.0).0 q)) hs.0
      | false ↦ λ q f. found_passes p s kind es hs.1 f
    ] refl e

sign_is : (s : List ℕ) (kind : TokenKind) → sign_kind_of s ≡ Some kind → is_sign s ≡ true
unfolding class is_sign
sign_is s kind e = found_passes is_sign s kind signs refl e

sign_class : (a : ℕ) (s : List ℕ) → is_sign (a ∷ s) ≡ true → class a ≡ 4
unfolding is_sign
sign_class a [] h = eqb-true (class a) 4 h
sign_class a (b ∷ []) h = eqb-true (class a) 4 h
sign_class a (b ∷ c ∷ s) h = absurd (false≢true h)

sign_short : (s : List ℕ) → is_sign s ≡ true → length s ≤ 2
unfolding is_sign
sign_short [] h = absurd (false≢true h)
sign_short (a ∷ []) h = omega arith
sign_short (a ∷ b ∷ []) h = omega arith
sign_short (a ∷ b ∷ c ∷ s) h = absurd (false≢true h)

no_sign : is_sign [] ≡ true → ⊥
unfolding is_sign
no_sign h = false≢true h

-- tokens of two classes do not begin alike
apart : {n m : ℕ} (t u : List ℕ) → class (head t) ≡ n → class (head u) ≡ m → n ≢ m → t ≡ u → ⊥
apart t u h k d e = d (sym h ∙ (ap (λ x. class (head x)) e ∙ k))

-- ---- bytes that pass a test

-- the text begins with none that passes
abbrev pub StopsAt : (ℕ → Bool) → List ℕ → Type 0
StopsAt p [] = ⊤
StopsAt p (b ∷ t) = p b ≡ false

ends_there : (p : ℕ → Bool) (bs t xs rest : List ℕ) → list_all p xs ≡ true → StopsAt p t → bs ++ t ≡ xs ++ rest → length xs ≤ length bs
ends_there p bs t [] rest h s e = omega arith
ends_there p [] [] (x ∷ xs) rest h s e = absurd (omega (arith, ap length e))
ends_there p [] (b ∷ t) (x ∷ xs) rest h s e =
    absurd (false≢true (sym s ∙ (ap p (ap head e) ∙ (both (p x) (list_all p xs) h).0)))
ends_there p (b ∷ bs) t (x ∷ xs) rest h s e =
    let l = ends_there p bs t xs rest (both (p x) (list_all p xs) h).1 s (ap tail e) in omega arith

digits_stop : (t : List ℕ) → StopsAt goes_on t → StopsAt is_ascii_digit t
digits_stop [] h = tt
digits_stop (b ∷ t) h = no_digit b h
  where
    no_digit : (b : ℕ) → goes_on b ≡ false → is_ascii_digit b ≡ false
    no_digit b h = grind (arith, nat_tests)

-- ---- texts between quotes

same_inside : {xs ys : List ℕ} → IsBetweenQuotes xs → IsBetweenQuotes ys → (t r : List ℕ) → xs ++ (34 ∷ t) ≡ ys ++ (34 ∷ r) → length ys ≤ length xs
same_inside h nothing t r e = omega arith
same_inside nothing (plain b bs q s k) t r e = absurd (q (sym (ap head e)))
same_inside nothing (escaped b bs k) t r e = absurd (omega (arith, ap head e))
same_inside (plain b bs q s h) (plain c cs q2 s2 k) t r e = let l = same_inside h k t r (ap tail e) in omega arith
same_inside (plain b bs q s h) (escaped c cs k) t r e = absurd (s (ap head e))
same_inside (escaped b bs h) (plain c cs q s k) t r e = absurd (s (sym (ap head e)))
same_inside (escaped b bs h) (escaped c cs k) t r e = let l = same_inside h k t r (ap (λ x. tail (tail x)) e) in omega arith

seam : (xs ys : List ℕ) → (xs ++ (34 ∷ [])) ++ ys ≡ xs ++ (34 ∷ ys)
seam xs ys = append_assoc xs (34 ∷ []) ys

-- ---- each kind of token ends where it is to

word_ends : {v : List ℕ} {kind : TokenKind} (b : ℕ) (bs t : List ℕ) → begins_word b ≡ true → StopsAt goes_on t → IsTokenText v kind → (rest : List ℕ) → b ∷ (bs ++ t) ≡ v ++ rest → length v ≤ (length (b ∷ bs))
word_ends b bs t w s (word c cs h all) rest e = let l = ends_there goes_on bs t cs rest all s (ap tail e) in omega arith
word_ends b bs t w s (digits c cs h all) rest e = absurd (apart _ _ (word_class b w) (digit_class c h) (λ n. omega (arith, n)) e)
word_ends b bs t w s (slot cs all) rest e = absurd (apart _ _ (word_class b w) slot_class (λ n. omega (arith, n)) e)
word_ends b bs t w s (quoted inside h) rest e = absurd (apart _ _ (word_class b w) quote_class (λ n. omega (arith, n)) e)
word_ends b bs t w s (sign [] kind h) rest e = absurd (no_sign (sign_is [] kind h))
word_ends b bs t w s (sign (c ∷ cs) kind h) rest e = absurd (apart _ _ (word_class b w) (sign_class c cs (sign_is (c ∷ cs) kind h)) (λ n. omega (arith, n)) e)

digits_end : {v : List ℕ} {kind : TokenKind} (b : ℕ) (bs t : List ℕ) → is_ascii_digit b ≡ true → StopsAt is_ascii_digit t → IsTokenText v kind → (rest : List ℕ) → b ∷ (bs ++ t) ≡ v ++ rest → length v ≤ (length (b ∷ bs))
digits_end b bs t w s (word c cs h all) rest e = absurd (apart _ _ (digit_class b w) (word_class c h) (λ n. omega (arith, n)) e)
digits_end b bs t w s (digits c cs h all) rest e = let l = ends_there is_ascii_digit bs t cs rest all s (ap tail e) in omega arith
digits_end b bs t w s (slot cs all) rest e = absurd (apart _ _ (digit_class b w) slot_class (λ n. omega (arith, n)) e)
digits_end b bs t w s (quoted inside h) rest e = absurd (apart _ _ (digit_class b w) quote_class (λ n. omega (arith, n)) e)
digits_end b bs t w s (sign [] kind h) rest e = absurd (no_sign (sign_is [] kind h))
digits_end b bs t w s (sign (c ∷ cs) kind h) rest e = absurd (apart _ _ (digit_class b w) (sign_class c cs (sign_is (c ∷ cs) kind h)) (λ n. omega (arith, n)) e)

slot_ends : {v : List ℕ} {kind : TokenKind} (bs t : List ℕ) → StopsAt goes_on t → IsTokenText v kind → (rest : List ℕ) → 63 ∷ (bs ++ t) ≡ v ++ rest → length v ≤ (length (63 ∷ bs))
slot_ends bs t s (word c cs h all) rest e = absurd (apart _ _ slot_class (word_class c h) (λ n. omega (arith, n)) e)
slot_ends bs t s (digits c cs h all) rest e = absurd (apart _ _ slot_class (digit_class c h) (λ n. omega (arith, n)) e)
slot_ends bs t s (slot cs all) rest e = let l = ends_there goes_on bs t cs rest all s (ap tail e) in omega arith
slot_ends bs t s (quoted inside h) rest e = absurd (apart _ _ slot_class quote_class (λ n. omega (arith, n)) e)
slot_ends bs t s (sign [] kind h) rest e = absurd (no_sign (sign_is [] kind h))
slot_ends bs t s (sign (c ∷ cs) kind h) rest e = absurd (apart _ _ slot_class (sign_class c cs (sign_is (c ∷ cs) kind h)) (λ n. omega (arith, n)) e)

quoted_ends : {v : List ℕ} {kind : TokenKind} (inside t : List ℕ) → IsBetweenQuotes inside → IsTokenText v kind → (rest : List ℕ) → 34 ∷ ((inside ++ (34 ∷ [])) ++ t) ≡ v ++ rest → length v ≤ (length (34 ∷ (inside ++ (34 ∷ []))))
quoted_ends inside t q (word c cs h all) rest e = absurd (apart _ _ quote_class (word_class c h) (λ n. omega (arith, n)) e)
quoted_ends inside t q (digits c cs h all) rest e = absurd (apart _ _ quote_class (digit_class c h) (λ n. omega (arith, n)) e)
quoted_ends inside t q (slot cs all) rest e = absurd (apart _ _ quote_class slot_class (λ n. omega (arith, n)) e)
quoted_ends inside t q (quoted other h) rest e =
    let l = same_inside q h t rest (sym (seam inside t) ∙ (ap tail e ∙ seam other rest)) in
    omega (arith, length-append inside (34 ∷ []), length-append other (34 ∷ []))
quoted_ends inside t q (sign [] kind h) rest e = absurd (no_sign (sign_is [] kind h))
quoted_ends inside t q (sign (c ∷ cs) kind h) rest e = absurd (apart _ _ quote_class (sign_class c cs (sign_is (c ∷ cs) kind h)) (λ n. omega (arith, n)) e)

-- the byte makes no sign with the one behind it
abbrev pub NoPair : ℕ → List ℕ → Type 0
NoPair b [] = ⊤
NoPair b (c ∷ t) = sign_kind_of (b ∷ c ∷ []) ≡ None

one_sign : (b : ℕ) (t s rest : List ℕ) (kind : TokenKind) → NoPair b t → sign_kind_of s ≡ Some kind → b ∷ t ≡ s ++ rest → length s ≤ 1
one_sign b t [] rest kind n h e = omega arith
one_sign b t (c ∷ []) rest kind n h e = omega arith
one_sign b [] (c ∷ d ∷ s) rest kind n h e = absurd (omega (arith, ap length e))
one_sign b (x ∷ t) (c ∷ d ∷ []) rest kind n h e =
    let k : sign_kind_of (c ∷ d ∷ []) ≡ None =
    subst (λ y. sign_kind_of (y ∷ d ∷ []) ≡ None) (ap head e) (subst (λ y. sign_kind_of (b ∷ y ∷ []) ≡ None) (ap (λ z. head (tail z)) e) n) in
    absurd (none-some kind (sym k ∙ h))
one_sign b (x ∷ t) (c ∷ d ∷ f ∷ s) rest kind n h e = absurd (omega (arith, sign_short (c ∷ d ∷ f ∷ s) (sign_is (c ∷ d ∷ f ∷ s) kind h)))

one_ends : {v : List ℕ} {kind : TokenKind} (b : ℕ) (t : List ℕ) → class b ≡ 4 → NoPair b t → IsTokenText v kind → (rest : List ℕ) → b ∷ t ≡ v ++ rest → length v ≤ 1
one_ends b t w s (word c cs h all) rest e = absurd (apart _ _ w (word_class c h) (λ n. omega (arith, n)) e)
one_ends b t w s (digits c cs h all) rest e = absurd (apart _ _ w (digit_class c h) (λ n. omega (arith, n)) e)
one_ends b t w s (slot cs all) rest e = absurd (apart _ _ w slot_class (λ n. omega (arith, n)) e)
one_ends b t w s (quoted inside h) rest e = absurd (apart _ _ w quote_class (λ n. omega (arith, n)) e)
one_ends b t w s (sign v kind h) rest e = one_sign b t v rest kind s h e

two_end : {v : List ℕ} {kind : TokenKind} (b c : ℕ) (t : List ℕ) → class b ≡ 4 → IsTokenText v kind → (rest : List ℕ) → b ∷ c ∷ t ≡ v ++ rest → length v ≤ 2
two_end b c t w (word d cs h all) rest e = absurd (apart _ _ w (word_class d h) (λ n. omega (arith, n)) e)
two_end b c t w (digits d cs h all) rest e = absurd (apart _ _ w (digit_class d h) (λ n. omega (arith, n)) e)
two_end b c t w (slot cs all) rest e = absurd (apart _ _ w slot_class (λ n. omega (arith, n)) e)
two_end b c t w (quoted inside h) rest e = absurd (apart _ _ w quote_class (λ n. omega (arith, n)) e)
two_end b c t w (sign v kind h) rest e = sign_short v (sign_is v kind h)

-- ---- the same in the words of the lexer

pub longest_word : (b : ℕ) (bs t : List ℕ) → begins_word b ≡ true → StopsAt goes_on t → IsLongestIn ((b ∷ bs) ++ t) (b ∷ bs)
longest_word b bs t w s v rest kind is e = word_ends b bs t w s is rest e

pub longest_digits : (b : ℕ) (bs t : List ℕ) → is_ascii_digit b ≡ true → StopsAt goes_on t → IsLongestIn ((b ∷ bs) ++ t) (b ∷ bs)
longest_digits b bs t w s v rest kind is e = digits_end b bs t w (digits_stop t s) is rest e

pub longest_slot : (bs t : List ℕ) → StopsAt goes_on t → IsLongestIn ((63 ∷ bs) ++ t) (63 ∷ bs)
longest_slot bs t s v rest kind is e = slot_ends bs t s is rest e

pub longest_quoted : (inside t : List ℕ) → IsBetweenQuotes inside → IsLongestIn ((34 ∷ (inside ++ (34 ∷ []))) ++ t) (34 ∷ (inside ++ (34 ∷ [])))
longest_quoted inside t q v rest kind is e = quoted_ends inside t q is rest e

pub longest_one : (b : ℕ) (t : List ℕ) (k : TokenKind) → sign_kind_of (b ∷ []) ≡ Some k → NoPair b t → IsLongestIn ((b ∷ []) ++ t) (b ∷ [])
longest_one b t k f s v rest kind is e = one_ends b t (sign_class b [] (sign_is (b ∷ []) k f)) s is rest e

pub longest_two : (b c : ℕ) (t : List ℕ) (k : TokenKind) → sign_kind_of (b ∷ c ∷ []) ≡ Some k → IsLongestIn ((b ∷ c ∷ []) ++ t) (b ∷ c ∷ [])
longest_two b c t k f v rest kind is e = two_end b c t (sign_class b (c ∷ []) (sign_is (b ∷ c ∷ []) k f)) is rest e
