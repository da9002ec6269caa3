-- Tokens as the grammar sees them.
use Rattle.std.specs.Prelude.{ℕ, List, map}
use Rattle.cedar_lexer.specs.declared.token.TokenKind.{TokenKind}
use Rattle.cedar_lexer.specs.declared.token.Token.{Token}

-- a token by its kind and its text; where it stands does not count
pub data Lexeme : Type 0 where
  lexeme : TokenKind → List ℕ → Lexeme

-- a token without its place
abbrev pub lexeme_of : Token → Lexeme
lexeme_of t = lexeme t.kind t.text.now

-- tokens without their places
abbrev pub lexemes_of : List Token → List Lexeme
lexemes_of = map lexeme_of

-- what a token is
abbrev pub kind_of : Lexeme → TokenKind
kind_of (lexeme k w) = k

-- what tokens are
abbrev pub kinds_of_lexemes : List Lexeme → List TokenKind
kinds_of_lexemes = map kind_of
