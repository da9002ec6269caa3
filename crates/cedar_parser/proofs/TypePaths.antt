-- The type of entities that tokens begin with.
use Rattle.std.proofs.Common.{◌≡◌, true, false, List, [], ◌∷◌, refl, sym, subst}
use Rattle.cedar_names.specs.Names.{BareName, IsNameOf, has_reserved}
use Rattle.cedar_builders.specs.BareExpr.{Text}
use Rattle.cedar_lexer.specs.TokenStreams.{BeginsWith, IsTaken, rest_of}
use Rattle.cedar_lexer.specs.declared.parse_failure.ParseFailure.{ParseFailure}
use Rattle.cedar_lexer.specs.declared.parse_failure.ParseFailure.TheVariants as failure
use Rattle.cedar_lexer.specs.declared.token.Token.{Token}
use Rattle.cedar_lexer.specs.declared.token.TokenKind.TheVariants as kinds
use Rattle.cedar_lexer.specs.declared.token_stream.TokenStream.{TokenStream}
use Rattle.semantics_grammar.specs.Lexemes.{Lexeme, lexemes_of}
use Rattle.semantics_grammar.specs.Written.{ArePathIds, last_id, in_namespace, IsPath}
use Rattle.cedar_parser.specs.Ahead.{ends_path}
use Rattle.cedar_parser.specs.Meant.{AreLexemes, first_kind, from, here}
use Rattle.cedar_parser.proofs.TakenSteps.{taken_here}
use Rattle.cedar_parser.proofs.Words.{one_path, path_named}

starts_word : {ls rest : List Lexeme} {t : Text} → ArePathIds ls t rest → first_kind ls ≡ kinds.Word
starts_word last_id = refl
starts_word (in_namespace p) = refl

begins_word : (ts : List Token) → first_kind (lexemes_of ts) ≡ kinds.Word → BeginsWith kinds.Word ts
begins_word [] h = cc
begins_word (t ∷ ts) h = h

pub type_begins : (t : TokenStream) (n : BareName) (rest : List Lexeme) → IsPath (here t) n rest → BeginsWith kinds.Word (rest_of t)
type_begins t n rest p = begins_word (rest_of t) (starts_word p.ids)

ids_here : (old mid new : TokenStream) (first : Token) (path : Text) → IsTaken old first mid
    → (first.kind ≡ kinds.Word → ArePathIds (from first mid) path (here new)) → first.kind ≡ kinds.Word → ArePathIds (here old) path (here new)
ids_here old mid new first path h ids word = subst (λ ls. ArePathIds ls path (here new)) (sym (taken_here old mid first h)) (ids word)

-- the path that is parsed is the only one
pub type_left : (old mid new : TokenStream) (first : Token) (path : Text) (n : BareName) (rest : List Lexeme) → IsTaken old first mid
    → (first.kind ≡ kinds.Word → ArePathIds (from first mid) path (here new)) → first.kind ≡ kinds.Word → ends_path (here new) ≡ true
    → IsPath (here old) n rest → ends_path rest ≡ true → here new ≡ rest
type_left old mid new first path n rest h ids word end p e = (one_path (ids_here old mid new first path h ids word) p.ids end e).1

-- a path is a name
pub type_named : (old mid new : TokenStream) (first : Token) (path : Text) (x : ParseFailure) → IsTaken old first mid
    → (first.kind ≡ kinds.Word → ArePathIds (from first mid) path (here new)) → first.kind ≡ kinds.Word → AreLexemes (here old)
    → ((n : BareName) → IsNameOf path n → has_reserved n ≡ false → x ≡ failure.Memory) → x ≡ failure.Memory
type_named old mid new first path x h ids word lex made =
    let m = path_named (ids_here old mid new first path h ids word) lex in made m.0 m.1 m.2
