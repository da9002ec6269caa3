-- What a line asks for, by its words.
use Rattle.std.proofs.Common.{◌≡◌, ◌≢◌, ℕ, zero, suc, ◌<◌, Bool, true, false, not, List, [], ◌∷◌, length, get_or, Some, refl, sym, ◌∙◌, ap, subst, arith}
use Rattle.std.specs.Bool.{◌==◌}
use Rattle.std.specs.Prelude.{◌||◌, IsTrue, cond}
use Rattle.std.specs.List.{All, list_any, onto_first}
use Rattle.std.proofs.lemmas.Bool.{true≢false}
use Rattle.std.proofs.lemmas.Bool.Decides.{nat_tests}
use Rattle.std.proofs.lemmas.Grind.{common_steps}
use Rattle.std.proofs.lemmas.List.Splits.{slice_split_at, slice_split_none}
use Rattle.std.proofs.lemmas.Str.Pattern.{IsSplitOnceResult, split_parts}
use Rattle.std.specs.Borrow.{Bor}
use Rattle.cedar_builders.specs.BareExpr.{Text}
use Rattle.cedar_script.specs.CommandWords.{Alone, Reads, Spells, words_of}
use Rattle.cedar_script.specs.declared.line.Command.{Command}
use Rattle.cedar_script.specs.declared.line.Command.TheVariants.{String, Like}

-- no byte is a space
abbrev pub HasNoSpace : Text → Type 0
HasNoSpace text = (i : ℕ) → i < length text → get_or text i 0 ≢ 32

none_is : (text : Text) → HasNoSpace text → All (λ b. (b == 32) ≡ false) text
none_is text h = λ k d l. let n = h k l in grind (arith, nat_tests, common_steps)

or_false : (a b : Bool) → (a || b) ≡ false → (a ≡ false) × (b ≡ false)
or_false true b h = absurd (true≢false h)
or_false false b h = (refl, h)

no_space_found : (text : Text) → list_any (λ b. b == 32) text ≡ false → HasNoSpace text
no_space_found [] h i l = absurd (omega arith)
no_space_found (x ∷ xs) h zero l = let n = (or_false (x == 32) (list_any (λ b. b == 32) xs) h).0 in grind (arith, nat_tests)
no_space_found (x ∷ xs) h (suc i) l = no_space_found xs (or_false (x == 32) (list_any (λ b. b == 32) xs) h).1 i (omega arith)

pub no_space_in : (text : Text) (r : Bool) → r ≡ list_any (λ b. b == 32) text → IsTrue (not r) → HasNoSpace text
no_space_in text true is h = absurd (true≢false (sym h))
no_space_in text false is h = no_space_found text (sym is)

-- ---- the words of a text

pub one_word : (text : Text) → HasNoSpace text → words_of text ≡ text ∷ []
one_word text h = slice_split_none (λ b. b == 32) text (none_is text h)

-- what `split_once` says of a space: it stands behind the first word
pub first_word : (text : Text) (x : Bor Text × Bor Text) → IsSplitOnceResult 32 text (Some x) → words_of text ≡ x.0.now ∷ words_of x.1.now
first_word text x h =
    let parts = split_parts 32 text (Some x) h (omega arith) in
    ap words_of parts.0 ∙ slice_split_at (λ b. b == 32) x.0.now 32 x.1.now (none_is x.0.now parts.1) refl

-- ---- what they ask for

-- there is a word in any text
some_words : (text : Text) → words_of text ≡ [] → ⊥
some_words [] h = cc
some_words (b ∷ text) h = none (b == 32) (words_of text) h
  where
    none : (v : Bool) (ws : List Text) → cond v ([] ∷ ws) (onto_first b ws) ≡ [] → ⊥
    none true ws h = cc
    none false [] h = cc
    none false (w ∷ ws) h = cc

-- two words are more than one
not_alone : (asked first : Text) (ws : List Text) → (ws ≡ [] → ⊥) → Alone asked (first ∷ ws) → ⊥
not_alone asked first [] some h = some refl
not_alone asked first (w ∷ ws) some h = h

pub asked_by_words : (text first rest : Text) (c : Command) → words_of text ≡ first ∷ words_of rest → Spells c (words_of text) → Reads text c
asked_by_words text first rest (String s) is h =
    absurd (not_alone _ first (words_of rest) (some_words rest) (subst (Alone _) is h.0))
asked_by_words text first rest (Like p) is h =
    absurd (not_alone _ first (words_of rest) (some_words rest) (subst (Alone _) is h.0))
asked_by_words text first rest c is h = h

pub asked_with_one : (text first rest : Text) (c : Command) → words_of text ≡ first ∷ words_of rest → words_of rest ≡ rest ∷ [] → Spells c (first ∷ rest ∷ []) → Reads text c
asked_with_one text first rest c is one h =
    asked_by_words text first rest c is (subst (λ ws. Spells c ws) (sym (is ∙ ap (λ ws. first ∷ ws) one)) h)
