-- What is parsed, and which calls in it are not printed as they were written.
use Rattle.std.specs.Prelude.{◌≡◌, ⊤, IsTrue, ℕ, List, [], ◌∷◌, IsUtf8, codes}
use Rattle.cedar_builders.specs.BareExpr.{BareExpr, Lit, Var, Slot, Unknown, If, And, Or, UnaryApp, BinaryApp, ExtensionFunctionApp, GetAttr, HasAttr, Like, Set, Record, Is, BareExprs, no_trees, tree, BareFields, no_fields, field}
use Rattle.cedar_lexer.specs.Escapes.{has_scalars}
use Rattle.cedar_lexer.specs.Grammar.{IsTokenText}
use Rattle.cedar_lexer.specs.declared.token.TokenKind.TheVariants as kinds
use Rattle.semantics_grammar.specs.Lexemes.{Lexeme, lexeme}
use Rattle.semantics_grammar.specs.Written.{function_tree}

-- each is a token of its kind, in UTF-8
abbrev pub AreTokenTexts : List Lexeme → Type 0
AreTokenTexts [] = ⊤
AreTokenTexts (lexeme k w ∷ ts) = IsTokenText w k × IsUtf8 w × AreTokenTexts ts

abbrev mutual
  -- no call of a function `unknown` is one that stands for an unknown, and the characters of patterns are scalar values, as in each expression
  pub IsPlain : BareExpr → Type 0
  IsPlain (Lit l) = ⊤
  IsPlain (Var v) = ⊤
  IsPlain (Slot s) = ⊤
  IsPlain (Unknown n t) = ⊤
  IsPlain (If a b c) = IsPlain a × IsPlain b × IsPlain c
  IsPlain (And a b) = IsPlain a × IsPlain b
  IsPlain (Or a b) = IsPlain a × IsPlain b
  IsPlain (UnaryApp o a) = IsPlain a
  IsPlain (BinaryApp o a b) = IsPlain a × IsPlain b
  IsPlain (ExtensionFunctionApp n es) = (function_tree n es ≡ ExtensionFunctionApp n es) × ArePlain es
  IsPlain (GetAttr a k) = IsPlain a
  IsPlain (HasAttr a k ks) = IsPlain a
  IsPlain (Like a p) = IsPlain a × IsTrue (has_scalars p)
  IsPlain (Set es) = ArePlain es
  IsPlain (Record fs) = ArePlainFields fs
  IsPlain (Is a n) = IsPlain a

  -- the same of each tree
  pub ArePlain : BareExprs → Type 0
  ArePlain no_trees = ⊤
  ArePlain (tree e es) = IsPlain e × ArePlain es

  -- the same of each value
  pub ArePlainFields : BareFields → Type 0
  ArePlainFields no_fields = ⊤
  ArePlainFields (field k e fs) = IsPlain e × ArePlainFields fs

-- the tokens of `"x".unknown()`, of which the first is this
abbrev pub unknown_method : List ℕ → List Lexeme
unknown_method word =
    lexeme kinds.Quoted word ∷ lexeme kinds.Dot (codes ".") ∷ lexeme kinds.Word (codes "unknown")
    ∷ lexeme kinds.OpenRound (codes "(") ∷ lexeme kinds.CloseRound (codes ")") ∷ []
