-- What is printed stands for the tree.
use Rattle.std.proofs.Common.{◌≡◌, ℕ, List, [], ◌∷◌, refl, sym, ◌∙◌, ap, subst, append-nil, IsUtf8, IsTrue}
use Rattle.std.specs.Str.{chars, encode_utf8_all}
use Rattle.cedar_terms.specs.Escape.{escaped}
use Rattle.cedar_terms.specs.Patterns.{pattern_text}
use Rattle.cedar_terms.specs.declared.pattern.PatternElem.{PatternElem}
use Rattle.cedar_builders.specs.BareExpr.{BareExpr}
use Rattle.cedar_lexer.specs.Escapes.{IsInsideOfText, IsInsideOfPattern, has_scalars}
use Rattle.cedar_lexer.specs.TokenPlaces.{AreSame}
use Rattle.cedar_lexer.specs.declared.token.Token.{Token}
use Rattle.cedar_lexer.specs.declared.token.TokenKind.{TokenKind}
use Rattle.semantics_grammar.specs.Grammar.{Stands}
use Rattle.semantics_grammar.specs.Lexemes.{Lexeme, lexeme, lexemes_of}
use Rattle.semantics_printing.specs.Texts.{IsTextOfTree}
use Rattle.semantics_printing.specs.Writable.{IsWritable}
use Rattle.semantics_printing.proofs.Lexed.{lexes, printed}
use Rattle.semantics_printing.proofs.Lexing.{Lexes, ends, tokens_of}
use Rattle.semantics_printing.proofs.Read.{reads, written}
use Rattle.semantics_printing.proofs.Readings.{to_conditional}

pub stands : ((t : List ℕ) → IsUtf8 t → IsInsideOfText (chars (escaped t)) (chars t))
    → ((es : List PatternElem) → IsTrue (has_scalars es) → IsInsideOfPattern (chars (encode_utf8_all (pattern_text es))) es)
    → (e : BareExpr) → IsWritable e → IsTextOfTree (printed e).0 e
stands texts patterns e h =
    let text = (printed e).0 in
    let ls = (written e).0 [] in
    let cut : Lexes text ls = subst (λ t. Lexes t ls) (append-nil text) ((lexes e h).lexed [] [] tt ends) in
    let tokens = tokens_of cut 0 in
    (tokens.0, tokens.1, subst (λ xs. Stands xs e) (sym tokens.2) (to_conditional (written e).1 (reads texts patterns e h [])))

-- the same tokens are the same but for where they stand
both_same : (k l : TokenKind) (v w : List ℕ) (xs ys : List Lexeme) → k ≡ l → v ≡ w → xs ≡ ys → lexeme k v ∷ xs ≡ lexeme l w ∷ ys
both_same k l v w xs ys a b c = ap (λ x. lexeme x v ∷ xs) a ∙ (ap (λ x. lexeme l x ∷ xs) b ∙ ap (λ x. lexeme l w ∷ x) c)

pub same_lexemes : (ts us : List Token) → AreSame ts us → lexemes_of ts ≡ lexemes_of us
same_lexemes [] [] h = refl
same_lexemes [] (u ∷ us) h = absurd h
same_lexemes (t ∷ ts) [] h = absurd h
same_lexemes (t ∷ ts) (u ∷ us) h = both_same t.kind u.kind t.text.now u.text.now (lexemes_of ts) (lexemes_of us) h.0.0 h.0.1 (same_lexemes ts us h.1)
