-- A token in quotes stands for one text, and for one pattern.
use Rattle.std.proofs.Common.{◌≡◌, ℕ, List, [], ◌∷◌, ◌++◌, refl, sym, ◌∙◌, ap, subst}
use Rattle.std.specs.Str.{chars, encode_utf8_all}
use Rattle.cedar_terms.specs.declared.pattern.PatternElem.{PatternElem}
use Rattle.cedar_builders.specs.BareExpr.{Text}
use Rattle.cedar_lexer.specs.Escapes.{IsInsideOfText, IsInsideOfPattern}
use Rattle.semantics_grammar.specs.Written.{IsTextOf, IsPatternOf}

-- what `cedar_lexer::laws::texts_are_unique` says
pub record OneReading : Type 0 where
  pub texts : (inside cs ds : List ℕ) → IsInsideOfText inside cs → IsInsideOfText inside ds → cs ≡ ds
  pub patterns : (inside : List ℕ) (es fs : List PatternElem) → IsInsideOfPattern inside es → IsInsideOfPattern inside fs → es ≡ fs

-- all but the last
abbrev front : List ℕ → List ℕ
front [] = []
front (x ∷ []) = []
front (x ∷ y ∷ ys) = x ∷ front (y ∷ ys)

front_is : (xs : List ℕ) (x : ℕ) → front (xs ++ (x ∷ [])) ≡ xs
front_is [] x = refl
front_is (y ∷ []) x = refl
front_is (y ∷ z ∷ zs) x = ap (λ xs. y ∷ xs) (front_is (z ∷ zs) x)

abbrev inside_of : List ℕ → List ℕ
inside_of [] = []
inside_of (q ∷ w) = front w

same_inside : (w a b : List ℕ) → w ≡ 34 ∷ (a ++ (34 ∷ [])) → w ≡ 34 ∷ (b ++ (34 ∷ [])) → a ≡ b
same_inside w a b h k = sym (front_is a 34) ∙ (ap inside_of (sym h ∙ k) ∙ front_is b 34)

pub one_text : OneReading → (w : List ℕ) (t u : Text) → IsTextOf w t → IsTextOf w u → t ≡ u
one_text laws w t u h k =
    let e = same_inside w h.inside k.inside h.quotes k.quotes in
    h.bytes ∙ (ap encode_utf8_all (laws.texts (chars h.inside) h.characters k.characters h.reads
    (subst (λ i. IsInsideOfText (chars i) k.characters) (sym e) k.reads)) ∙ sym k.bytes)

pub one_pattern : OneReading → (w : List ℕ) (p q : List PatternElem) → IsPatternOf w p → IsPatternOf w q → p ≡ q
one_pattern laws w p q h k =
    let e = same_inside w h.inside k.inside h.quotes k.quotes in
    laws.patterns (chars h.inside) p q h.reads (subst (λ i. IsInsideOfPattern (chars i) q) (sym e) k.reads)
