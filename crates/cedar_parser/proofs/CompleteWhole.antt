-- The text as a whole: where its tokens stand for a tree, they go on from the beginning.
use Rattle.std.proofs.Common.{◌≡◌, ℕ, List, [], ◌∷◌, length, IfErr, None, Result, Ok, Err, map, refl, sym, ◌∙◌, ap, subst, arith}
use Rattle.cedar_builders.specs.BareExpr.{BareExpr}
use Rattle.cedar_lexer.specs.Told.{IsToldOf}
use Rattle.cedar_lexer.specs.declared.error.ParseError.{ParseError}
use Rattle.cedar_lexer.specs.declared.error.ParseError.TheVariants as told
use Rattle.cedar_lexer.specs.declared.parse_failure.ParseFailure.{ParseFailure}
use Rattle.cedar_lexer.specs.declared.parse_failure.ParseFailure.TheVariants as failure
use Rattle.cedar_lexer.specs.TokenPlaces.{AreSame, AreTokens}
use Rattle.cedar_lexer.specs.TokenStreams.{rest_of, tokens_left}
use Rattle.cedar_lexer.specs.declared.token.Token.{Token}
use Rattle.cedar_lexer.specs.declared.token.TokenKind.{TokenKind}
use Rattle.cedar_lexer.specs.declared.token_stream.TokenStream.{TokenStream}
use Rattle.semantics_grammar.specs.Grammar.{Stands}
use Rattle.semantics_grammar.specs.Lexemes.{Lexeme, lexeme, lexemes_of}
use Rattle.cedar_parser.specs.Ahead.{GoesOnAfter, stays}
use Rattle.cedar_parser.specs.Complete.{IsAhead}
use Rattle.cedar_parser.specs.Meant.{AreLexemes, IsParse, here, open_group, open_groups, waiting}
use Rattle.cedar_parser.specs.declared.parser.Parser.{Parser}

-- nothing is open yet
pub begun_ahead : (t : TokenStream) (r : Parser) (tree : BareExpr) → AreLexemes (here t) → r.operations.items ≡ [] → r.groups.items ≡ []
    → Stands (here t) tree → IsAhead r None (here t)
begun_ahead t r tree lex ops groups stands =
    let h : GoesOnAfter [] [] None (here t) = ([], (tree, stands), ([], stays (omega arith), refl)) in
    record {
      lexemes = lex;
      goes_on = subst (λ ws. GoesOnAfter (open_groups r) ws None (here t)) (sym (ap (map waiting) ops))
          (subst (λ gs. GoesOnAfter gs [] None (here t)) (sym (ap (map open_group) groups)) h);
    }

-- nothing is left
pub ahead_at_end : (t : TokenStream) (P : List Lexeme → Type 0) → tokens_left t ≡ 0 → P (here t) → P []
ahead_at_end t P e h = subst P (none_left (rest_of t) e) h
  where
    none_left : (ts : List Token) → length ts ≡ 0 → lexemes_of ts ≡ []
    none_left [] e = refl
    none_left (t ∷ ts) e = absurd (omega (arith, e))

-- the same tokens are the same to the grammar
pub same_lexemes : (ts us : List Token) → AreSame ts us → lexemes_of ts ≡ lexemes_of us
same_lexemes [] [] h = refl
same_lexemes [] (u ∷ us) h = absurd h
same_lexemes (t ∷ ts) [] h = absurd h
same_lexemes (t ∷ ts) (u ∷ us) h = heads (lexemes_of ts) (lexemes_of us) t.kind u.kind t.text.now u.text.now h.0.0 h.0.1 (same_lexemes ts us h.1)
  where
    heads : (xs ys : List Lexeme) (k l : TokenKind) (v w : List ℕ) → k ≡ l → v ≡ w → xs ≡ ys → lexeme k v ∷ xs ≡ lexeme l w ∷ ys
    heads xs ys k l v w a b c = ap (λ x. lexeme x v ∷ xs) a ∙ (ap (λ x. lexeme l x ∷ xs) b ∙ ap (λ x. lexeme l w ∷ x) c)

-- what a text stands for, its tokens do
pub text_stands : (text : List ℕ) (found : List Token) (t : TokenStream) (tree : BareExpr)
    → ((text : List ℕ) (ts us : List Token) → AreTokens text ts → AreTokens text us → AreSame ts us) → AreTokens text found → rest_of t ≡ found
    → IsParse text tree → Stands (here t) tree
text_stands text found t tree one are same p =
    subst (λ ts. Stands ts tree) (same_lexemes p.0 found (one text p.0 found p.1 are) ∙ ap lexemes_of (sym same)) p.2

-- what holds of a refusal holds in other words too
pub if_refused : {A E : Type 0} (res : Result A E) (P Q : E → Type 0) → IfErr res P → ((e : E) → P e → Q e) → IfErr res Q
if_refused (Ok a) P Q h f = tt
if_refused (Err e) P Q h f = f e h

-- where memory ran out, that is told
pub told_memory : (f : ParseFailure) (text : List ℕ) (e : ParseError) → IsToldOf f text e → f ≡ failure.Memory → e ≡ told.Memory
told_memory f text e h same = memory_told e (subst (λ g. IsToldOf g text e) same h)
  where
    memory_told : (e : ParseError) → IsToldOf failure.Memory text e → e ≡ told.Memory
    memory_told told.Memory h = refl
    memory_told (told.Syntax s) h = absurd h
