-- The words that ask for each command.
use Rattle.std.specs.Prelude.{◌≡◌, ◌==◌, ◌⊎◌, List, [], ◌∷◌, ◌++◌, None, Some, map, codes}
use Rattle.std.specs.List.{slice_split}
use Rattle.std.specs.Borrow.{Bor}
use Rattle.std.specs.Str.{chars}
use Rattle.std.specs.Str.Parse.{digits_value, signed_digits_value}
use Rattle.cedar_names.specs.Names.{IsNameOf}
use Rattle.cedar_names.specs.PlainNames.{bare_name}
use Rattle.cedar_names.specs.Slots.{slot_text}
use Rattle.cedar_terms.specs.Entities.{bare_entity_type}
use Rattle.cedar_terms.specs.Literals.{BoolLit, literal_text}
use Rattle.cedar_terms.specs.Ops.{binary_op_text, var_text}
use Rattle.cedar_terms.specs.Types.{bare_type, type_text}
use Rattle.cedar_terms.specs.declared.ops.UnaryOp.{UnaryOp}
use Rattle.cedar_terms.specs.declared.ops.UnaryOp.TheVariants.{Not, Neg, IsEmpty}
use Rattle.cedar_builders.specs.BareExpr.{Text}
use Rattle.cedar_script.specs.Patterns.{spelling}
use Rattle.cedar_script.specs.Words.{WritesCount, WritesLong}
use Rattle.cedar_script.specs.declared.line.Command.{Command}
use Rattle.cedar_script.specs.declared.line.Command.TheVariants.{Bool, Long, String, Var, Slot, Unknown, If, And, Or, RawAnd, RawOr, Unary, Binary, Call, Get, Has, ExtHas, Like, Is, Set, Record, Bind, Substitute, Typed, Show, Eval, Simplify}

-- what references to texts point to
abbrev pub texts_now : List (Bor Text) → List Text
texts_now = map (λ t. t.now)

-- a first word and nothing more
abbrev pub Alone : Text → List Text → Type 0
Alone first (w ∷ []) = w ≡ first
Alone first ws = ⊥

-- a first word and one more with the property
abbrev pub WithOne : Text → (Text → Type 0) → List Text → Type 0
WithOne first P (w ∷ x ∷ []) = (w ≡ first) × P x
WithOne first P ws = ⊥

-- a first word and two more with the property
abbrev pub WithTwo : Text → (Text → Text → Type 0) → List Text → Type 0
WithTwo first P (w ∷ x ∷ y ∷ []) = (w ≡ first) × P x y
WithTwo first P ws = ⊥

-- a first word and these
abbrev pub WithThese : Text → List Text → List Text → Type 0
WithThese first xs [] = ⊥
WithThese first xs (w ∷ ws) = (w ≡ first) × (ws ≡ xs)

-- the word of an operator of one argument, whose minus is `neg`
abbrev pub unary_word : UnaryOp → Text
unary_word Not = codes "!"
unary_word Neg = codes "neg"
unary_word IsEmpty = codes "isEmpty"

-- the words ask for the command
abbrev pub Spells : Command → List Text → Type 0
Spells (Bool b) ws = WithOne (codes "bool") (λ x. x ≡ literal_text (BoolLit b)) ws
Spells (Long n) ws = WithOne (codes "long") (λ x. WritesLong x × (n ≡ signed_digits_value 10 x)) ws
Spells (String text) ws = Alone (codes "string") ws × (text.now ≡ [])
Spells (Var v) ws = WithOne (codes "var") (λ x. x ≡ var_text v) ws
Spells (Slot s) ws = WithOne (codes "slot") (λ x. 63 ∷ x ≡ slot_text s) ws
Spells (Unknown name None) ws = WithOne (codes "unknown") (λ x. x ≡ name.now) ws
Spells (Unknown name (Some ty)) ws = WithTwo (codes "unknown") (λ x y. (x ≡ name.now) × (y ≡ type_text (bare_type ty))) ws
Spells If ws = Alone (codes "if") ws
Spells And ws = Alone (codes "and") ws
Spells Or ws = Alone (codes "or") ws
Spells RawAnd ws = Alone (codes "raw-and") ws
Spells RawOr ws = Alone (codes "raw-or") ws
Spells (Unary op) ws = Alone (unary_word op) ws
Spells (Binary op) ws = Alone (binary_op_text op) ws
Spells (Call name n) ws = WithTwo (codes "call") (λ x y. IsNameOf x (bare_name name) × WritesCount y × (n ≡ digits_value 10 y)) ws
Spells (Get k) ws = WithOne (codes "get") (λ x. x ≡ k.now) ws
Spells (Has k) ws = WithOne (codes "has") (λ x. x ≡ k.now) ws
Spells (ExtHas ks) ws = WithThese (codes "exthas") (ks.head.now ∷ texts_now ks.tail.items) ws
Spells (Like p) ws = Alone (codes "like") ws × (p ≡ [])
Spells (Is ty) ws = WithOne (codes "is") (λ x. IsNameOf x (bare_entity_type ty)) ws
Spells (Set n) ws = WithOne (codes "set") (λ x. WritesCount x × (n ≡ digits_value 10 x)) ws
Spells (Record ks) ws = WithThese (codes "record") (texts_now ks.items) ws
Spells (Bind name) ws = WithOne (codes "bind") (λ x. x ≡ name.now) ws
Spells Substitute ws = Alone (codes "substitute") ws
Spells Typed ws = Alone (codes "typed") ws
Spells Show ws = Alone (codes "show") ws
Spells Eval ws = Alone (codes "eval") ws
Spells Simplify ws = Alone (codes "simplify") ws

-- the words of a text: what stands between its spaces
abbrev pub words_of : Text → List Text
words_of = slice_split (λ b. b == 32)

-- the text asks for the command: behind `string` and `like` the rest of the line counts as it is, any other command is words
abbrev pub Reads : Text → Command → Type 0
Reads text (String s) = ((text ≡ codes "string") × (s.now ≡ [])) ⊎ (text ≡ codes "string " ++ s.now)
Reads text (Like p) = ((text ≡ codes "like") × (p ≡ [])) ⊎ ((rest : Text) × (text ≡ codes "like " ++ rest) × (chars rest ≡ spelling p))
Reads text command = Spells command (words_of text)
