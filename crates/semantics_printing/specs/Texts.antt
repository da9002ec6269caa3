-- The tree that a text stands for.
use Rattle.std.specs.Prelude.{List}
use Rattle.cedar_builders.specs.BareExpr.{Text, BareExpr}
use Rattle.cedar_lexer.specs.TokenPlaces.{AreTokens}
use Rattle.cedar_lexer.specs.declared.token.Token.{Token}
use Rattle.semantics_grammar.specs.Grammar.{Stands}
use Rattle.semantics_grammar.specs.Lexemes.{lexemes_of}

-- the text is tokens with blanks around them, and they stand for this tree
abbrev pub IsTextOfTree : Text → BareExpr → Type 0
IsTextOfTree text e = (ts : List Token) × AreTokens text ts × Stands (lexemes_of ts) e
