-- Words are identifiers that are not reserved, and so are the names of paths.
use Rattle.std.proofs.Common.{◌≡◌, ℕ, Bool, true, false, List, [], ◌∷◌, ◌++◌, append_assoc, refl, sym, ◌∙◌, ap, subst}
use Rattle.std.specs.Prelude.{◌||◌, ◌&&◌, IsTrue, Some, codes, if◌then◌else◌, not, ⊤}
use Rattle.std.specs.Str.{bytes_eq}
use Rattle.std.specs.List.{list_all, list_any}
use Rattle.std.proofs.lemmas.Bool.{false≢true}
use Rattle.std.proofs.lemmas.Option.{none-some, same_Some}
use Rattle.cedar_names.specs.Grammar.{is_id, is_keyword, is_reserved}
use Rattle.cedar_names.specs.Names.{BareName, IsNameOf, has_reserved, path_text, unqualified}
use Rattle.cedar_lexer.specs.Grammar.{IsTokenText, begins_word, goes_on, word, digits, slot, quoted, sign}
use Rattle.cedar_lexer.specs.TokenKinds.{looked_up, sign_kind_of, signs, word_kind_of}
use Rattle.cedar_lexer.specs.declared.token.TokenKind.{TokenKind}
use Rattle.cedar_lexer.specs.declared.token.TokenKind.TheVariants as kinds

-- whether it is a word
abbrev pub is_word : TokenKind → Bool
is_word kinds.Word = true
is_word k = false

-- what is a word is none of the grammar's
other : (b : Bool) (x y : TokenKind) → is_word x ≡ false → is_word (if b then x else y) ≡ true → (b ≡ false) × (is_word y ≡ true)
other true x y h k = absurd (false≢true (sym h ∙ k))
other false x y h k = (refl, k)

neither : (a b : Bool) → a ≡ false → b ≡ false → (a || b) ≡ false
neither true b h k = h
neither false b h k = k

-- a word is no keyword, and not reserved
plain_word : (w : List ℕ) → is_word (word_kind_of w) ≡ true → (is_keyword w ≡ false) × (is_reserved w ≡ false)
plain_word w h =
    let a = other (bytes_eq w (codes "true")) kinds.True _ refl h in
    let b = other (bytes_eq w (codes "false")) kinds.False _ refl a.1 in
    let c = other (bytes_eq w (codes "if")) kinds.If _ refl b.1 in
    let d = other (bytes_eq w (codes "then")) kinds.Then _ refl c.1 in
    let e = other (bytes_eq w (codes "else")) kinds.Else _ refl d.1 in
    let f = other (bytes_eq w (codes "in")) kinds.In _ refl e.1 in
    let g = other (bytes_eq w (codes "is")) kinds.Is _ refl f.1 in
    let i = other (bytes_eq w (codes "like")) kinds.Like _ refl g.1 in
    let j = other (bytes_eq w (codes "has")) kinds.Has _ refl i.1 in
    let k = other (bytes_eq w (codes "__cedar")) kinds.Reserved kinds.Word refl j.1 in
    (neither _ _ (neither _ _ (neither _ _ (neither _ _ (neither _ _ (neither _ _ (neither _ _ (neither _ _ a.0 b.0) c.0) d.0) e.0) f.0) g.0) i.0) j.0, k.0)

all_true : (a b c : Bool) → a ≡ true → b ≡ true → c ≡ false → IsTrue ((a && b) && not c)
all_true a b c h k l = subst (λ x. IsTrue ((x && b) && not c)) (sym h) (subst (λ x. IsTrue ((true && x) && not c)) (sym k)
    (subst (λ x. IsTrue ((true && true) && not x)) (sym l) refl))

-- no kind of a list of signs passes a test
abbrev pub NonePasses : (TokenKind → Bool) → List (List ℕ × TokenKind) → Type 0
NonePasses test [] = ⊤
NonePasses test (e ∷ es) = (test e.1 ≡ false) × NonePasses test es

looked_up_kind : (test : TokenKind → Bool) (s : List ℕ) (k : TokenKind) (es : List (List ℕ × TokenKind)) → NonePasses test es
    → looked_up s es ≡ Some k → test k ≡ false
looked_up_kind test s k [] n e = absurd (none-some k e)
looked_up_kind test s k (x ∷ es) n e =
    elim (bytes_eq s x.0) as (λ v. (if v then Some x.1 else looked_up s es) ≡ Some k → test k ≡ false) [
      | true ↦ λ f. ap test (sym (same_Some x.1 k f)) ∙ n.0
      | false ↦ λ f. looked_up_kind test s k es n.1 f
    ] e

pub kind_of_sign : (test : TokenKind → Bool) (s : List ℕ) (k : TokenKind) → sign_kind_of s ≡ Some k → NonePasses test signs → test k ≡ false
kind_of_sign test s k e n = looked_up_kind test s k signs n e

-- nor does the kind of a word
pub kind_of_word : (test : TokenKind → Bool) (w : List ℕ) → test kinds.True ≡ false → test kinds.False ≡ false → test kinds.If ≡ false
    → test kinds.Then ≡ false → test kinds.Else ≡ false → test kinds.In ≡ false → test kinds.Is ≡ false → test kinds.Like ≡ false
    → test kinds.Has ≡ false → test kinds.Reserved ≡ false → test kinds.Word ≡ false → test (word_kind_of w) ≡ false
kind_of_word test w a b c d e f g h i j k =
    either (bytes_eq w (codes "true")) a (either (bytes_eq w (codes "false")) b (either (bytes_eq w (codes "if")) c
    (either (bytes_eq w (codes "then")) d (either (bytes_eq w (codes "else")) e (either (bytes_eq w (codes "in")) f
    (either (bytes_eq w (codes "is")) g (either (bytes_eq w (codes "like")) h (either (bytes_eq w (codes "has")) i
    (either (bytes_eq w (codes "__cedar")) j k)))))))))
  where
    either : (v : Bool) {x y : TokenKind} → test x ≡ false → test y ≡ false → test (if v then x else y) ≡ false
    either true p q = p
    either false p q = q

-- the text of a word is an identifier
pub word_is : {w : List ℕ} {k : TokenKind} → IsTokenText w k → is_word k ≡ true → IsTrue (is_id w) × (is_reserved w ≡ false)
word_is (word b bs h l) e =
    let p = plain_word (b ∷ bs) e in
    (all_true (begins_word b) (list_all goes_on bs) (is_keyword (b ∷ bs)) h l p.0, p.1)
word_is (digits b bs h l) e = absurd (false≢true e)
word_is (slot bs l) e = absurd (false≢true e)
word_is (quoted i h) e = absurd (false≢true e)
word_is (sign s k h) e = absurd (false≢true (sym (kind_of_sign is_word s k h (refl, (refl, (refl, (refl, (refl, (refl, (refl, (refl, (refl, (refl, (refl, (refl, (refl, (refl, (refl, (refl, (refl, (refl, (refl, (refl, (refl, (refl, (refl, (refl, tt))))))))))))))))))))))))) ∙ e))

both_true : (a b : Bool) → IsTrue a → IsTrue b → IsTrue (a && b)
both_true true b h k = k
both_true false b h k = h

-- a name within a namespace
abbrev pub within : List ℕ → BareName → BareName
within w n = record { path = w ∷ n.path; basename = n.basename }

-- a word, `::` and the text of a name that is not reserved are the text of one
pub within_named : (w t : List ℕ) (n : BareName) → IsTokenText w kinds.Word → IsNameOf t n → has_reserved n ≡ false
    → IsNameOf (w ++ (codes "::" ++ t)) (within w n) × (has_reserved (within w n) ≡ false)
within_named w t n l named plain =
    let p = word_is l refl in (
      (
        (both_true (is_id w) (list_all is_id n.path) p.0 named.0.0, named.0.1),
        append_assoc (w ++ codes "::") (path_text n.path) n.basename
            ∙ (ap (λ s. (w ++ codes "::") ++ s) named.1 ∙ append_assoc w (codes "::") t),
      ),
      ap (λ b. (b || list_any is_reserved n.path) || is_reserved n.basename) p.1 ∙ plain,
    )

-- a word is the text of a name without a path, which is not reserved
pub word_named : (w : List ℕ) → IsTokenText w kinds.Word → IsNameOf w (unqualified w) × (has_reserved (unqualified w) ≡ false)
word_named w l = let p = word_is l refl in (((refl, p.0), refl), p.1)
