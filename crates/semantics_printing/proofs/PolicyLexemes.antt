-- The tokens of each kind of expression in Cedar's syntax, with what follows behind them.
use Rattle.std.specs.Prelude.{ℤ, pos, negsuc, ℕ, suc, List, [], ◌∷◌, map, codes, Option, None, Some, Ok, if◌then◌else◌, nat_lt, decimal}
use Rattle.cedar_builders.specs.BareExpr.{Text}
use Rattle.cedar_builders.specs.Ops.{Ops}
use Rattle.cedar_names.specs.Grammar.{is_unreserved_id}
use Rattle.cedar_names.specs.Names.{BareName, name_text}
use Rattle.cedar_names.specs.Slots.{slot_text}
use Rattle.cedar_terms.specs.Escape.{quoted}
use Rattle.cedar_terms.specs.Literals.{BareLiteral, BoolLit, LongLit, StringLit, EntityLit}
use Rattle.cedar_terms.specs.Ops.{binary_op_text, var_text}
use Rattle.cedar_terms.specs.Precedences.{infix_precedences, literal_precedence, precedence_number}
use Rattle.cedar_terms.specs.declared.ops.BinaryOp.{BinaryOp}
use Rattle.cedar_terms.specs.declared.ops.BinaryOp.TheVariants as Binary
use Rattle.cedar_terms.specs.declared.ops.UnaryOp.{UnaryOp}
use Rattle.cedar_terms.specs.declared.ops.UnaryOp.TheVariants as Unary
use Rattle.cedar_terms.specs.declared.precedence.Precedence.{Precedence}
use Rattle.cedar_terms.specs.declared.precedence.Precedence.TheVariants as precedences
use Rattle.cedar_lexer.specs.declared.token.TokenKind.{TokenKind}
use Rattle.cedar_lexer.specs.declared.token.TokenKind.TheVariants as kinds
use Rattle.semantics_grammar.specs.Lexemes.{Lexeme, lexeme}
use Rattle.semantics_printing.specs.Phrases.{is_method}
use Rattle.semantics_printing.specs.PolicyTexts.{quoted_pattern}

-- tokens, written in front of what follows
abbrev pub Lexemes : Type 0
Lexemes = List Lexeme → List Lexeme

-- a text in quotes
abbrev pub quoted_lexeme : Text → Lexeme
quoted_lexeme t = lexeme kinds.Quoted (quoted t)

-- tokens in round brackets
abbrev pub in_brackets : Lexemes → Lexemes
in_brackets f rest = lexeme kinds.OpenRound (codes "(") ∷ f (lexeme kinds.CloseRound (codes ")") ∷ rest)

-- the tokens where ones of at least this precedence may stand: in round brackets if they bind less tightly
abbrev pub lexemes_at : Precedence → Lexemes × Precedence → Lexemes
lexemes_at least p = if nat_lt (precedence_number p.1) (precedence_number least) then in_brackets p.0 else p.0

-- tokens that never need brackets
abbrev pub member_of : Lexemes → Lexemes × Precedence
member_of f = (f, precedences.Member)

-- two expressions with a token between them
abbrev pub infix_lexemes : Precedence → Lexemes → Lexeme → Lexemes → Lexemes × Precedence
infix_lexemes own left sign right = (λ rest. left (sign ∷ right rest), own)

-- a sign and its operand
abbrev pub prefix_lexemes : Lexeme → Lexemes × Precedence → Lexemes × Precedence
prefix_lexemes sign p = (λ rest. sign ∷ lexemes_at precedences.Member p rest, precedences.Unary)

-- identifiers, each with `::` behind it
abbrev pub path_lexemes : List (List ℕ) → Lexemes
path_lexemes [] rest = rest
path_lexemes (p ∷ ps) rest = lexeme kinds.Word p ∷ lexeme kinds.Colons (codes "::") ∷ path_lexemes ps rest

-- a name
abbrev pub name_lexemes : BareName → Lexemes
name_lexemes n rest = path_lexemes n.path (lexeme kinds.Word n.basename ∷ rest)

-- an integer: its digits, behind a sign if it is below 0
abbrev pub long_lexemes : ℤ → Lexemes
long_lexemes (pos n) rest = lexeme kinds.Digits (decimal n) ∷ rest
long_lexemes (negsuc n) rest = lexeme kinds.Minus (codes "-") ∷ lexeme kinds.Digits (decimal (suc n)) ∷ rest

-- a literal
abbrev pub literal_lexemes : BareLiteral → Lexemes
literal_lexemes (BoolLit b) rest = if b then lexeme kinds.True (codes "true") ∷ rest else lexeme kinds.False (codes "false") ∷ rest
literal_lexemes (LongLit n) rest = long_lexemes n rest
literal_lexemes (StringLit s) rest = quoted_lexeme s ∷ rest
literal_lexemes (EntityLit u) rest = name_lexemes u.entity_type (lexeme kinds.Colons (codes "::") ∷ quoted_lexeme u.eid ∷ rest)

-- expressions, each behind a comma
abbrev pub others_lexemes : List (Lexemes × Precedence) → Lexemes
others_lexemes [] rest = rest
others_lexemes (p ∷ ps) rest = lexeme kinds.Comma (codes ",") ∷ p.0 (others_lexemes ps rest)

-- expressions with commas between them
abbrev pub row_lexemes : List (Lexemes × Precedence) → Lexemes
row_lexemes [] rest = rest
row_lexemes (p ∷ ps) rest = p.0 (others_lexemes ps rest)

-- a key of a record with its value
abbrev pub field_lexemes : Text × (Lexemes × Precedence) → Lexemes × Precedence
field_lexemes p = member_of (λ rest. quoted_lexeme p.0 ∷ lexeme kinds.Colon (codes ":") ∷ p.1.0 rest)

-- a call of a method
abbrev pub method_lexemes : Lexemes × Precedence → Text → Lexemes → Lexemes × Precedence
method_lexemes p name args = member_of (λ rest.
    lexemes_at precedences.Member p (lexeme kinds.Dot (codes ".") ∷ lexeme kinds.Word name ∷ in_brackets args rest))

-- a call of a function
abbrev pub function_lexemes : BareName → List (Lexemes × Precedence) → Lexemes × Precedence
function_lexemes n ps = member_of (λ rest. name_lexemes n (in_brackets (row_lexemes ps) rest))

-- a call of an extension function that is written as a method, if there is an argument
abbrev pub method_call_lexemes : BareName → List (Lexemes × Precedence) → Lexemes × Precedence
method_call_lexemes n [] = function_lexemes n []
method_call_lexemes n (p ∷ ps) = method_lexemes p (name_text n) (row_lexemes ps)

-- a call of an extension function
abbrev pub call_lexemes : BareName → List (Lexemes × Precedence) → Lexemes × Precedence
call_lexemes n ps = if is_method (name_text n) then method_call_lexemes n ps else function_lexemes n ps

-- a key behind `has`, in quotes if it is no identifier
abbrev pub key_lexeme : Text → Lexeme
key_lexeme k = if is_unreserved_id k then lexeme kinds.Word k else quoted_lexeme k

-- keys, each behind a dot
abbrev pub other_keys : List Text → Lexemes
other_keys [] rest = rest
other_keys (k ∷ ks) rest = lexeme kinds.Dot (codes ".") ∷ key_lexeme k ∷ other_keys ks rest

-- an attribute behind its record, in square brackets if it is no identifier
abbrev pub attribute_lexemes : Text → Lexemes
attribute_lexemes k rest =
    if is_unreserved_id k then lexeme kinds.Dot (codes ".") ∷ lexeme kinds.Word k ∷ rest
    else lexeme kinds.OpenSquare (codes "[") ∷ quoted_lexeme k ∷ lexeme kinds.CloseSquare (codes "]") ∷ rest

-- what the sign of an operator is
abbrev pub binary_kind : BinaryOp → TokenKind
binary_kind Binary.Eq = kinds.Equal
binary_kind Binary.Less = kinds.Less
binary_kind Binary.LessEq = kinds.LessEqual
binary_kind Binary.Add = kinds.Plus
binary_kind Binary.Sub = kinds.Minus
binary_kind Binary.Mul = kinds.Times
binary_kind Binary.In = kinds.In
binary_kind op = kinds.Word

-- signs before the operand, and a method
abbrev pub unary_lexemes : UnaryOp → Lexemes × Precedence → Lexemes × Precedence
unary_lexemes Unary.Not p = prefix_lexemes (lexeme kinds.Not (codes "!")) p
unary_lexemes Unary.Neg p = prefix_lexemes (lexeme kinds.Minus (codes "-")) p
unary_lexemes Unary.IsEmpty p = method_lexemes p (codes "isEmpty") (λ rest. rest)

-- an operator between its operands where it has precedences, else a method
abbrev pub binary_lexemes : Option (Precedence × Precedence × Precedence) → TokenKind → Text → Lexemes × Precedence → Lexemes × Precedence → Lexemes × Precedence
binary_lexemes (Some t) kind sign p q = infix_lexemes t.0 (lexemes_at t.1 p) (lexeme kind sign) (lexemes_at t.2 q)
binary_lexemes None kind sign p q = method_lexemes p sign q.0

-- the tokens of each kind of expression, as `policy_text_ops` writes it
abbrev pub policy_lexeme_ops : Ops (Lexemes × Precedence) ⊥
policy_lexeme_ops = record {
  lit_of = λ l. (literal_lexemes l, literal_precedence l);
  var_of = λ v. member_of (λ rest. lexeme kinds.Word (var_text v) ∷ rest);
  slot_of = λ s. member_of (λ rest. lexeme kinds.Slot (slot_text s) ∷ rest);
  unknown_of = λ n t. member_of (λ rest. lexeme kinds.Word (codes "unknown") ∷ in_brackets (λ r. quoted_lexeme n ∷ r) rest);
  if_of = λ t a b. (λ rest. lexeme kinds.If (codes "if") ∷ t.0 (lexeme kinds.Then (codes "then") ∷ a.0 (lexeme kinds.Else (codes "else") ∷ b.0 rest)), precedences.Conditional);
  and_of = λ p q. infix_lexemes precedences.And (lexemes_at precedences.And p) (lexeme kinds.AndSign (codes "&&")) (lexemes_at precedences.Relation q);
  or_of = λ p q. infix_lexemes precedences.Or (lexemes_at precedences.Or p) (lexeme kinds.OrSign (codes "||")) (lexemes_at precedences.And q);
  unary_of = unary_lexemes;
  binary_of = λ op p q. binary_lexemes (infix_precedences op) (binary_kind op) (binary_op_text op) p q;
  call_of = λ n ps. Ok (call_lexemes n ps);
  get_of = λ p k. member_of (λ rest. lexemes_at precedences.Member p (attribute_lexemes k rest));
  has_of = λ p k ks. infix_lexemes precedences.Relation (lexemes_at precedences.Sum p) (lexeme kinds.Has (codes "has")) (λ rest. key_lexeme k ∷ other_keys ks rest);
  like_of = λ p e. infix_lexemes precedences.Relation (lexemes_at precedences.Sum p) (lexeme kinds.Like (codes "like")) (λ rest. lexeme kinds.Quoted (quoted_pattern e) ∷ rest);
  set_of = λ ps. member_of (λ rest. lexeme kinds.OpenSquare (codes "[") ∷ row_lexemes ps (lexeme kinds.CloseSquare (codes "]") ∷ rest));
  record_of = λ ps. member_of (λ rest. lexeme kinds.OpenCurly (codes "{") ∷ row_lexemes (map field_lexemes ps) (lexeme kinds.CloseCurly (codes "}") ∷ rest));
  is_of = λ p n. infix_lexemes precedences.Relation (lexemes_at precedences.Sum p) (lexeme kinds.Is (codes "is")) (name_lexemes n);
}
