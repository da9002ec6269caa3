-- What tokens in quotes, calls and names have to be, so that they are not refused.
use Rattle.std.proofs.Common.{◌≡◌, ◌<◌, ◌≤◌, ◌-◌, ℕ, Bool, true, false, List, [], ◌∷◌, ◌++◌, Some, None, map, refl, sym, ◌∙◌, ap, subst, arith}
use Rattle.std.specs.Prelude.{IsTrue, ◌&&◌, nat_le, ◌==◌, ◌^◌, codes, if◌then◌else◌, not, chars}
use Rattle.std.specs.Str.{bytes_eq}
use Rattle.std.specs.Global.{Global}
use Rattle.std.specs.Rc.{rc_str_bytes}
use Rattle.std.specs.declared.rc.RcStr.{RcStr}
use Rattle.std.proofs.lemmas.Bool.{eqb-true, false≢true, leb-true}
use Rattle.std.proofs.lemmas.Str.{digit_value_digit}
use Rattle.std.proofs.lemmas.Str.Parse.{without_leading_plus_none}
use Rattle.std.specs.Char.{digit_value, is_ascii_digit}
use Rattle.std.specs.Int.{IsInRange}
use Rattle.std.specs.List.{list_all}
use Rattle.std.specs.Str.Parse.{AllDigits, IsNumeral, digits_value, without_leading_plus}
use Rattle.cedar_lexer.specs.Grammar.{IsTokenText, word, digits, slot, quoted, sign}
use Rattle.cedar_lexer.specs.TokenKinds.{signs}
use Rattle.cedar_lexer.specs.declared.token.TokenKind.{TokenKind}
use Rattle.cedar_lexer.specs.declared.token.TokenKind.TheVariants as kinds
use Rattle.cedar_parser.proofs.TokenTexts.{is_quoted, is_value, no_plus, no_value, number_meant, sign_kind, word_kind}
use Rattle.cedar_names.specs.Names.{BareName, IsNameOf, IsNameText, has_reserved, name_text, IsNameOfIds}
use Rattle.cedar_names.specs.Readers.{IsReservedName, OnReadError, refused_name}
use Rattle.cedar_names.specs.declared.err.ParseErrors.{ParseErrors}
use Rattle.cedar_names.specs.declared.err.ParseErrors.TheVariants as errors
use Rattle.cedar_terms.specs.declared.ops.BinaryOp.{BinaryOp}
use Rattle.cedar_terms.specs.declared.pattern.PatternElem.{PatternElem}
use Rattle.cedar_builders.specs.Errors.{OnDuplicateKey}
use Rattle.cedar_builders.specs.Keys.{HasRepeat, are_distinct, keys_of, meant_pairs}
use Rattle.cedar_builders.specs.declared.expression_construction_errors.ExpressionConstructionError.{ExpressionConstructionError}
use Rattle.cedar_builders.specs.declared.expression_construction_errors.ExpressionConstructionError.TheVariants as build_errors
use Rattle.cedar_lexer.specs.Escapes.{IsInsideOfPattern, IsInsideOfText}
use Rattle.cedar_lexer.specs.Readings.{IsAnswerOfPattern, IsAnswerOfText}
use Rattle.semantics_grammar.specs.Written.{IsPatternOf, IsTextOf, method_op}
use Rattle.cedar_parser.specs.Ahead.{RowTakes, one_or_any}
use Rattle.cedar_parser.specs.Waiting.{method_arguments}
use Rattle.cedar_parser.proofs.Operators.{none_some, some_one}

-- where nothing is answered, a token in quotes stands for no pattern
pub no_pattern : (w inside : List ℕ) (p : List PatternElem) → ((i : List ℕ) → w ≡ 34 ∷ (i ++ (34 ∷ [])) → inside ≡ i)
    → IsAnswerOfPattern (chars inside) None → IsPatternOf w p → ⊥
no_pattern w inside p cut answer h =
    none_some ((answer p).0 (subst (λ i. IsInsideOfPattern (chars i) p) (sym (cut h.inside h.quotes)) h.reads))

-- nor for a text
pub no_text : (w inside t : List ℕ) → ((i : List ℕ) → w ≡ 34 ∷ (i ++ (34 ∷ [])) → inside ≡ i) → IsAnswerOfText (chars inside) None → IsTextOf w t → ⊥
no_text w inside t cut answer h =
    none_some ((answer h.characters).0 (subst (λ i. IsInsideOfText (chars i) h.characters) (sym (cut h.inside h.quotes)) h.reads))

-- what is answered is the only text
pub only_text : (w inside t u : List ℕ) → ((i : List ℕ) → w ≡ 34 ∷ (i ++ (34 ∷ [])) → inside ≡ i) → IsAnswerOfText (chars inside) (Some t) → IsTextOf w u
    → t ≡ u
only_text w inside t u cut answer h =
    some_one ((answer h.characters).0 (subst (λ i. IsInsideOfText (chars i) h.characters) (sym (cut h.inside h.quotes)) h.reads)) ∙ sym h.bytes

-- ---- numbers

both_of : (a b : Bool) → (a && b) ≡ true → (a ≡ true) × (b ≡ true)
both_of true b h = (refl, h)
both_of false b h = absurd (false≢true h)

digit_small : (c : ℕ) → is_ascii_digit c ≡ true → digit_value c < 10
digit_small c h =
    let p = both_of (nat_le 48 c) (nat_le c 57) h in
    let r : IsInRange 48 57 c = (leb-true 48 c p.0, leb-true c 57 p.1) in
    let e = digit_value_digit c r in omega (arith, e, r)

all_digits : (bs : List ℕ) → list_all is_ascii_digit bs ≡ true → AllDigits 10 bs
all_digits [] h = tt
all_digits (b ∷ bs) h = let p = both_of (is_ascii_digit b) (list_all is_ascii_digit bs) h in (digit_small b p.0, all_digits bs p.1)

-- digits are a number
numeral_of : {w : List ℕ} {k : TokenKind} → IsTokenText w k → k ≡ kinds.Digits → IsNumeral 10 w
numeral_of (word b bs h l) e = absurd (false≢true (sym (word_kind (b ∷ bs)) ∙ ap is_value e))
numeral_of (digits b bs h l) e = (omega arith, (digit_small b h, all_digits bs l))
numeral_of (slot bs l) e = absurd (false≢true (ap is_value e))
numeral_of (quoted i h) e = absurd (false≢true (sym (ap is_quoted e)))
numeral_of (sign s kind h) e = absurd (false≢true (sym (sign_kind s kind signs no_value h) ∙ ap is_value e))

-- digits of 64 bits are read
pub digits_read : (w : List ℕ) → IsTokenText w kinds.Digits → digits_value 10 w ≤ 2 ^ 63
    → IsNumeral 10 (without_leading_plus w) × (digits_value 10 (without_leading_plus w) < 2 ^ 64)
digits_read w text small =
    let same : w ≡ without_leading_plus w = sym (without_leading_plus_none w (no_plus text refl)) in
    (subst (IsNumeral 10) same (numeral_of text refl), subst (λ v. digits_value 10 v < 2 ^ 64) same (omega (arith, small)))

-- and are an integer, unless it is too large
pub integer_read : (b : Bool) (w : List ℕ) (n : ℕ) → IsTokenText w kinds.Digits → IsNumeral 10 (without_leading_plus w)
    → n ≡ digits_value 10 (without_leading_plus w) → (b ≡ false → digits_value 10 w < 2 ^ 63) → digits_value 10 w ≤ 2 ^ 63
    → (b ≡ false → n < 2 ^ 63 → ⊥) → (b ≡ true → n ≤ 2 ^ 63 → ⊥) → ⊥
integer_read false w n text numeral is small large positive negative =
    let m = number_meant w n (no_plus text refl) numeral is in positive refl (subst (λ k. k < 2 ^ 63) (sym m.0) (small refl))
integer_read true w n text numeral is small large positive negative =
    let m = number_meant w n (no_plus text refl) numeral is in negative refl (subst (λ k. k ≤ 2 ^ 63) (sym m.0) large)

-- ---- the number of arguments

pub empty_takes : (m : List ℕ) (n : ℕ) → bytes_eq m (codes "isEmpty") ≡ true → RowTakes (method_arguments m) n → n ≡ 1
empty_takes m n e h =
    let t : IsTrue (n - 1 == 0) = subst (λ b. IsTrue (if b then (n - 1 == 0) else one_or_any (method_op m) (n - 1))) e h.4 in
    let k = eqb-true (n - 1) 0 t in omega (arith, k, h.3)

pub binary_takes : (m : List ℕ) (n : ℕ) (op : BinaryOp) → bytes_eq m (codes "isEmpty") ≡ false → method_op m ≡ Some op → RowTakes (method_arguments m) n
    → n ≡ 2
binary_takes m n op e o h =
    let t : IsTrue (one_or_any (method_op m) (n - 1)) = subst (λ b. IsTrue (if b then (n - 1 == 0) else one_or_any (method_op m) (n - 1))) e h.4 in
    let u : IsTrue (n - 1 == 1) = subst (λ p. IsTrue (one_or_any p (n - 1))) o t in
    let k = eqb-true (n - 1) 1 u in omega (arith, k)

-- ---- names

-- a name that is not reserved is refused only where memory runs out
pub name_accepted : ((m n : BareName) → IsNameOfIds m → IsNameOfIds n → name_text m ≡ name_text n → m ≡ n) → (text : List ℕ) (e : ParseErrors) (kind : List ℕ)
    → OnReadError e kind (IsNameText text → ⊥) (IsReservedName text) → (n : BareName) → IsNameOf text n → has_reserved n ≡ false → e ≡ errors.Memory
name_accepted one text (errors.NotNormalized k) kind h n named plain = absurd (h.0 (n, named.0, named.1))
name_accepted one text (errors.Reserved x) kind h n named plain =
    let same = one (refused_name x) n h.0.0 named.0 (h.0.1 ∙ sym named.1) in
    absurd (false≢true (sym plain ∙ (ap has_reserved (sym same) ∙ h.1)))
name_accepted one text errors.Memory kind h n named plain = refl

-- ---- records

meant_keys : {A M : Type 0} (f : A → M) (ps : List (RcStr Global × A)) → keys_of ps ≡ map (λ p. p.0) (meant_pairs f ps)
meant_keys f [] = refl
meant_keys f (p ∷ ps) = ap (λ ks. rc_str_bytes p.0 ∷ ks) (meant_keys f ps)

-- keys that stand once are not refused
no_repeat : {A M : Type 0} (f : A → M) (ps : List (RcStr Global × A)) → IsTrue (are_distinct (map (λ p. p.0) (meant_pairs f ps)))
    → IsTrue (not (are_distinct (keys_of ps))) → ⊥
no_repeat f ps d h =
    let e : are_distinct (keys_of ps) ≡ true = ap are_distinct (meant_keys f ps) ∙ d in
    false≢true (ap not (sym e) ∙ h)

pub distinct_accepted : {A M : Type 0} (f : A → M) (ps : List (RcStr Global × A)) (e : ExpressionConstructionError)
    → OnDuplicateKey (λ _. HasRepeat (keys_of ps)) e → IsTrue (are_distinct (map (λ p. p.0) (meant_pairs f ps))) → e ≡ build_errors.Memory
distinct_accepted f ps (build_errors.DuplicateKey e) h d = absurd (no_repeat f ps d h)
distinct_accepted f ps build_errors.Memory h d = refl
