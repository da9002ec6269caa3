-- What single tokens, and the parts without expressions, stand for (Cedar's `grammar.lalrpop`, and what it makes of its nodes).
use Rattle.std.specs.Prelude.{◌≡◌, ◌&&◌, ℕ, Bool, true, false, List, [], ◌∷◌, ◌++◌, Option, Some, None, codes, if◌then◌else◌}
use Rattle.std.specs.Str.{bytes_eq, chars, encode_utf8_all}
use Rattle.cedar_names.specs.Names.{BareName, IsNameOf}
use Rattle.cedar_terms.specs.Literals.{BareLiteral, StringLit}
use Rattle.cedar_terms.specs.declared.ops.BinaryOp.{BinaryOp}
use Rattle.cedar_terms.specs.declared.ops.BinaryOp.TheVariants as Binary
use Rattle.cedar_terms.specs.declared.ops.UnaryOp.TheVariants as Unary
use Rattle.cedar_terms.specs.declared.pattern.PatternElem.{PatternElem}
use Rattle.cedar_builders.specs.BareExpr.{Text, BareExpr, Lit, Unknown, UnaryApp, BinaryApp, ExtensionFunctionApp, BareExprs, no_trees, tree}
use Rattle.cedar_lexer.specs.Escapes.{IsInsideOfText, IsInsideOfPattern}
use Rattle.cedar_lexer.specs.declared.token.TokenKind.{TokenKind}
use Rattle.cedar_lexer.specs.declared.token.TokenKind.TheVariants as kinds
use Rattle.semantics_grammar.specs.Lexemes.{Lexeme, lexeme}

-- a token in quotes stands for a text: between the quotes are its characters, as they are or by their escapes
pub record IsTextOf (word : List ℕ) (t : Text) : Type 0 where
  pub inside : List ℕ
  pub characters : List ℕ
  pub quotes : word ≡ 34 ∷ (inside ++ (34 ∷ []))
  pub reads : IsInsideOfText (chars inside) characters
  pub bytes : t ≡ encode_utf8_all characters

-- a token in quotes stands for a pattern
pub record IsPatternOf (word : List ℕ) (es : List PatternElem) : Type 0 where
  pub inside : List ℕ
  pub quotes : word ≡ 34 ∷ (inside ++ (34 ∷ []))
  pub reads : IsInsideOfPattern (chars inside) es

-- identifiers with `::` between, their text without blanks, and then the rest
pub data ArePathIds : List Lexeme → Text → List Lexeme → Type 0 where
  -- e.g. principal is User
  last_id : {w : List ℕ} {rest : List Lexeme} → ArePathIds (lexeme kinds.Word w ∷ rest) w rest
  -- e.g. principal is Org::User
  in_namespace : {w c : List ℕ} {t : Text} {ts rest : List Lexeme} → ArePathIds ts t rest
      → ArePathIds (lexeme kinds.Word w ∷ lexeme kinds.Colons c ∷ ts) (w ++ (codes "::" ++ t)) rest

-- the path of a name, and then the rest
pub record IsPath (ts : List Lexeme) (n : BareName) (rest : List Lexeme) : Type 0 where
  pub path : Text
  pub ids : ArePathIds ts path rest
  pub name : IsNameOf path n

-- a key: an identifier, or a text in quotes
pub data IsKey : Lexeme → Text → Type 0 where
  -- e.g. principal has age
  id_key : {w : List ℕ} → IsKey (lexeme kinds.Word w) w
  -- e.g. principal has "first name"
  text_key : {w : List ℕ} {k : Text} → IsTextOf w k → IsKey (lexeme kinds.Quoted w) k

-- what stands behind `has`: a key, or several with dots between, and then the rest
pub data AreKeys : List Lexeme → Text → List Text → List Lexeme → Type 0 where
  -- e.g. principal has age
  last_key : {l : Lexeme} {k : Text} {rest : List Lexeme} → IsKey l k → AreKeys (l ∷ rest) k [] rest
  -- e.g. principal has address.city
  first_key : {l : Lexeme} {d : List ℕ} {k k2 : Text} {ks : List Text} {ts rest : List Lexeme} → IsKey l k
      → AreKeys ts k2 ks rest → AreKeys (l ∷ lexeme kinds.Dot d ∷ ts) k (k2 ∷ ks) rest

-- the operator of two operands that is written as a method
abbrev pub method_op : Text → Option BinaryOp
method_op m =
    if bytes_eq m (codes "contains") then Some Binary.Contains else
    (if bytes_eq m (codes "containsAll") then Some Binary.ContainsAll else
    (if bytes_eq m (codes "containsAny") then Some Binary.ContainsAny else
    (if bytes_eq m (codes "getTag") then Some Binary.GetTag else
    (if bytes_eq m (codes "hasTag") then Some Binary.HasTag else None))))

-- `isEmpty` takes no argument
abbrev pub is_empty_tree : BareExpr → BareExprs → Option BareExpr
is_empty_tree a no_trees = Some (UnaryApp Unary.IsEmpty a)
is_empty_tree a (tree b bs) = None

-- an operator takes one argument
abbrev pub one_argument : BinaryOp → BareExpr → BareExprs → Option BareExpr
one_argument op a no_trees = None
one_argument op a (tree b no_trees) = Some (BinaryApp op a b)
one_argument op a (tree b (tree c cs)) = None

-- any other method is a call of the extension function of this name, whose first argument stands before the name
abbrev pub binary_or_call : Option BinaryOp → BareName → BareExpr → BareExprs → Option BareExpr
binary_or_call None n a bs = Some (ExtensionFunctionApp n (tree a bs))
binary_or_call (Some op) n a bs = one_argument op a bs

-- the call of a method by its text and its name on an operand, if the method takes that many arguments
abbrev pub method_tree : Text → BareName → BareExpr → BareExprs → Option BareExpr
method_tree m n a bs =
    if bytes_eq m (codes "isEmpty") then is_empty_tree a bs else binary_or_call (method_op m) n a bs

-- the text that a literal is
abbrev pub literal_string : BareLiteral → Option Text
literal_string (StringLit s) = Some s
literal_string l = None

-- the text that a tree is the literal of
abbrev pub string_of : BareExpr → Option Text
string_of (Lit l) = literal_string l
string_of e = None

-- the text that is the only argument
abbrev pub only_string : BareExprs → Option Text
only_string no_trees = None
only_string (tree a no_trees) = string_of a
only_string (tree a (tree b bs)) = None

abbrev pub is_nil : List (List ℕ) → Bool
is_nil [] = true
is_nil (p ∷ ps) = false

-- an unknown, if there is a name for it
abbrev pub unknown_or : BareExpr → Option Text → BareExpr
unknown_or e None = e
unknown_or e (Some s) = Unknown s None

-- the call of a function: `unknown("x")` is the unknown of that name, without an annotation
abbrev pub function_tree : BareName → BareExprs → BareExpr
function_tree n es =
    if is_nil n.path && bytes_eq n.basename (codes "unknown")
    then unknown_or (ExtensionFunctionApp n es) (only_string es) else ExtensionFunctionApp n es

-- the token is a number, and no attribute or index follows, whose operand the number would be
abbrev pub is_number_alone : List Lexeme → Bool
is_number_alone (lexeme kinds.Digits d ∷ lexeme kinds.Dot s ∷ ts) = false
is_number_alone (lexeme kinds.Digits d ∷ lexeme kinds.OpenSquare s ∷ ts) = false
is_number_alone (lexeme kinds.Digits d ∷ ts) = true
is_number_alone ts = false
