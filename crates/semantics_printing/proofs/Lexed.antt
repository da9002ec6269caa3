-- What is printed for a tree is cut into the tokens that are written for it.
use Rattle.std.proofs.Common.{◌≡◌, ℕ, suc, ◌<◌, ◌^◌, length, pos, negsuc, Bool, true, false, not, ◌||◌, List, [], ◌∷◌, ◌++◌, map, refl, sym, ◌∙◌, subst, arith, append_assoc, codes, nat_lt, decimal}
use Rattle.std.specs.Bool.{◌==◌}
use Rattle.std.specs.Char.{is_ascii_digit}
use Rattle.std.specs.List.{flat_map, list_all, list_any}
use Rattle.std.specs.Prelude.{if◌then◌else◌}
use Rattle.std.specs.Str.{bytes_eq}
use Rattle.std.proofs.lemmas.Bool.{false≢true}
use Rattle.std.proofs.lemmas.Bool.Decides.{nat_tests}
use Rattle.std.proofs.lemmas.Fmt.{decimal_is_IsNumeral}
use Rattle.std.proofs.lemmas.Slice.Eq.{bytes_eq-Decides}
use Rattle.cedar_names.specs.Grammar.{is_any_id, is_id, is_keyword, is_reserved, is_start, is_unreserved_id}
use Rattle.cedar_names.specs.Names.{BareName, name_text, path_text}
use Rattle.cedar_names.specs.declared.slot.SlotId.{SlotId}
use Rattle.cedar_names.specs.declared.slot.SlotId.TheVariants as slots
use Rattle.cedar_terms.specs.Escape.{quoted}
use Rattle.cedar_terms.specs.Literals.{BareLiteral, BoolLit, LongLit, StringLit, EntityLit}
use Rattle.cedar_terms.specs.Precedences.{precedence_number}
use Rattle.cedar_terms.specs.declared.ops.BinaryOp.{BinaryOp}
use Rattle.cedar_terms.specs.declared.ops.BinaryOp.TheVariants as Binary
use Rattle.cedar_terms.specs.declared.ops.UnaryOp.TheVariants as Unary
use Rattle.cedar_terms.specs.declared.pattern.PatternElem.{PatternElem}
use Rattle.cedar_terms.specs.declared.precedence.Precedence.{Precedence}
use Rattle.cedar_terms.specs.declared.precedence.Precedence.TheVariants as precedences
use Rattle.cedar_terms.specs.declared.var.Var.{Var as Variable}
use Rattle.cedar_terms.specs.declared.var.Var.TheVariants as vars
use Rattle.cedar_builders.specs.BareExpr.{Text, BareExpr, Lit, Var, Slot, Unknown, If, And, Or, UnaryApp, BinaryApp, ExtensionFunctionApp, GetAttr, HasAttr, Like, Set, Record, Is, BareExprs, no_trees, tree, BareFields, no_fields, field}
use Rattle.cedar_lexer.specs.TokenKinds.{word_kind_of}
use Rattle.cedar_lexer.specs.declared.token.TokenKind.TheVariants as kinds
use Rattle.semantics_grammar.specs.Lexemes.{lexeme}
use Rattle.semantics_printing.specs.Phrases.{attribute_text, call_of, field_of, function_of, is_method, is_method_of_numbers, is_method_of_times, key_text, method_of, others_text, row_text, text_at}
use Rattle.semantics_printing.proofs.PolicyLexemes.{Lexemes, quoted_lexeme, in_brackets, lexemes_at, path_lexemes, name_lexemes, others_lexemes, row_lexemes, field_lexemes, method_lexemes, function_lexemes, call_lexemes, key_lexeme, other_keys, attribute_lexemes, policy_lexeme_ops}
use Rattle.semantics_printing.specs.PolicyTexts.{policy_text_ops, quoted_pattern}
use Rattle.semantics_printing.specs.Writable.{IsPlainName, IsWritableLiteral, IsWritable, AreWritable, AreWritableFields}
use Rattle.semantics_printing.proofs.Between.{escaped_between, pattern_between}
use Rattle.semantics_printing.proofs.Folds.{made, all_made, fields_made}
use Rattle.semantics_printing.proofs.Lexing.{Closes, Ends, IsLexedAs, brackets_piece, digits_piece, no_piece, pair_piece, quoted_piece, sign_piece, single_piece, slot_piece, space_piece, then_piece, word_piece}
use Rattle.semantics_printing.proofs.Longest.{NoPair, both}
use Rattle.semantics_printing.proofs.Numbers.{all_digits}
use Rattle.semantics_printing.proofs.Read.{written}

-- what is printed for a tree
abbrev pub printed : BareExpr → Text × Precedence
printed = made policy_text_ops

abbrev all_printed : BareExprs → List (Text × Precedence)
all_printed = all_made policy_text_ops

abbrev all_written : BareExprs → List (Lexemes × Precedence)
all_written = all_made policy_lexeme_ops

-- ---- precedences

same_call : (n : BareName) (ps : List (Text × Precedence)) → (call_of (name_text n) ps).1 ≡ precedences.Member
same_call n [] = go (is_method (name_text n))
  where
    go : (c : Bool) → (if c then function_of (name_text n) [] else function_of (name_text n) []).1 ≡ precedences.Member
    go true = refl
    go false = refl
same_call n (p ∷ ps) = go (is_method (name_text n))
  where
    go : (c : Bool) → (if c then method_of p (name_text n) (row_text ps) else function_of (name_text n) (p ∷ ps)).1 ≡ precedences.Member
    go true = refl
    go false = refl

call_member : (n : BareName) (qs : List (Lexemes × Precedence)) → (call_lexemes n qs).1 ≡ precedences.Member
call_member n [] = go (is_method (name_text n))
  where
    go : (c : Bool) → (if c then function_lexemes n [] else function_lexemes n []).1 ≡ precedences.Member
    go true = refl
    go false = refl
call_member n (q ∷ qs) = go (is_method (name_text n))
  where
    go : (c : Bool) → (if c then method_lexemes q (name_text n) (row_lexemes qs) else function_lexemes n (q ∷ qs)).1 ≡ precedences.Member
    go true = refl
    go false = refl

same : (e : BareExpr) → (printed e).1 ≡ (written e).1
same (Lit l) = refl
same (Var v) = refl
same (Slot s) = refl
same (Unknown n t) = refl
same (If a b c) = refl
same (And a b) = refl
same (Or a b) = refl
same (UnaryApp Unary.Not a) = refl
same (UnaryApp Unary.Neg a) = refl
same (UnaryApp Unary.IsEmpty a) = refl
same (BinaryApp Binary.Eq a b) = refl
same (BinaryApp Binary.Less a b) = refl
same (BinaryApp Binary.LessEq a b) = refl
same (BinaryApp Binary.Add a b) = refl
same (BinaryApp Binary.Sub a b) = refl
same (BinaryApp Binary.Mul a b) = refl
same (BinaryApp Binary.In a b) = refl
same (BinaryApp Binary.Contains a b) = refl
same (BinaryApp Binary.ContainsAll a b) = refl
same (BinaryApp Binary.ContainsAny a b) = refl
same (BinaryApp Binary.GetTag a b) = refl
same (BinaryApp Binary.HasTag a b) = refl
same (ExtensionFunctionApp n es) = same_call n (all_printed es) ∙ sym (call_member n (all_written es))
same (GetAttr a k) = refl
same (HasAttr a k ks) = refl
same (Like a p) = refl
same (Set es) = refl
same (Record fs) = refl
same (Is a n) = refl

-- the piece of a tree where one of at least this precedence may stand
abbrev IsLexedTree : BareExpr → Type 0
IsLexedTree e = IsLexedAs (printed e).0 (written e).0

tree_at : (least : Precedence) (e : BareExpr) → IsLexedTree e → IsLexedAs (text_at least (printed e)) (lexemes_at least (written e))
tree_at least e h =
    subst (λ l. IsLexedAs (text_at least (printed e)) (lexemes_at least ((written e).0, l))) (same e)
    (go (nat_lt (precedence_number (printed e).1) (precedence_number least)))
  where
    go : (c : Bool) → IsLexedAs (if c then 40 ∷ ((printed e).0 ++ (41 ∷ [])) else (printed e).0) (if c then in_brackets (written e).0 else (written e).0)
    go true = brackets_piece h
    go false = h

-- ---- names

or_parts : (a b : Bool) → (a || b) ≡ false → (a ≡ false) × (b ≡ false)
or_parts true b h = absurd (false≢true (sym h))
or_parts false b h = (refl, h)

not_true : (a : Bool) → not a ≡ true → a ≡ false
not_true true h = absurd (false≢true h)
not_true false h = refl

-- no word of the grammar
kind_is : (w : Text) → is_keyword w ≡ false → is_reserved w ≡ false → word_kind_of w ≡ kinds.Word
kind_is w h r =
    let j = or_parts _ (bytes_eq w (codes "has")) h in
    let i = or_parts _ (bytes_eq w (codes "like")) j.0 in
    let f = or_parts _ (bytes_eq w (codes "is")) i.0 in
    let e = or_parts _ (bytes_eq w (codes "in")) f.0 in
    let d = or_parts _ (bytes_eq w (codes "else")) e.0 in
    let c = or_parts _ (bytes_eq w (codes "then")) d.0 in
    let b = or_parts _ (bytes_eq w (codes "if")) c.0 in
    let a = or_parts (bytes_eq w (codes "true")) (bytes_eq w (codes "false")) b.0 in
    rw (a.0, a.1, b.1, c.1, d.1, e.1, f.1, i.1, j.1, r) refl

id_piece : (w : Text) → is_id w ≡ true → is_reserved w ≡ false → IsLexedAs w (λ rest. lexeme kinds.Word w ∷ rest)
id_piece w h r =
    let hs = both (is_any_id w) (not (is_keyword w)) h in
    word_piece w kinds.Word hs.0 (kind_is w (not_true (is_keyword w) hs.1) r)

colons_piece : {t : Text} {f : Lexemes} → IsLexedAs t f → IsLexedAs (codes "::" ++ t) (λ rest. lexeme kinds.Colons (codes "::") ∷ f rest)
colons_piece h = pair_piece 58 58 kinds.Colons refl h

path_piece : (ps : List (List ℕ)) (b : List ℕ) → list_all is_id ps ≡ true → is_id b ≡ true → list_any is_reserved ps ≡ false → is_reserved b ≡ false
    → IsLexedAs (path_text ps ++ b) (λ rest. path_lexemes ps (lexeme kinds.Word b ∷ rest))
path_piece [] b h k r s = id_piece b k s
path_piece (p ∷ ps) b h k r s =
    let hs = both (is_id p) (list_all is_id ps) h in
    let rs = or_parts (is_reserved p) (list_any is_reserved ps) r in
    let e : p ++ (codes "::" ++ (path_text ps ++ b)) ≡ path_text (p ∷ ps) ++ b = simp append_assoc in
    subst (λ t. IsLexedAs t (λ rest. path_lexemes (p ∷ ps) (lexeme kinds.Word b ∷ rest))) e
    (then_piece (λ u e. refl) (id_piece p hs.0 rs.0) (colons_piece (path_piece ps b hs.1 k rs.1 s)))

name_piece : (n : BareName) → IsPlainName n → IsLexedAs (name_text n) (name_lexemes n)
name_piece n h =
    let r = or_parts (list_any is_reserved n.path) (is_reserved n.basename) h.1 in path_piece n.path n.basename h.0.0 h.0.1 r.0 r.1

-- ---- texts between quotes, and keys

text_piece : (t : Text) → IsLexedAs (quoted t) (λ rest. quoted_lexeme t ∷ rest)
text_piece t = quoted_piece _ (escaped_between t)

pattern_piece : (es : List PatternElem) → IsLexedAs (quoted_pattern es) (λ rest. lexeme kinds.Quoted (quoted_pattern es) ∷ rest)
pattern_piece es = quoted_piece _ (pattern_between es)

unreserved_piece : (k : Text) → is_unreserved_id k ≡ true → IsLexedAs k (λ rest. lexeme kinds.Word k ∷ rest)
unreserved_piece k h =
    let hs = both (is_id k) (not (is_reserved k)) h in id_piece k hs.0 (not_true (is_reserved k) hs.1)

key_piece : (k : Text) → IsLexedAs (key_text k) (λ rest. key_lexeme k ∷ rest)
key_piece k = go (is_unreserved_id k) refl
  where
    go : (c : Bool) → is_unreserved_id k ≡ c → IsLexedAs (if c then k else quoted k) (λ rest. (if c then lexeme kinds.Word k else quoted_lexeme k) ∷ rest)
    go true h = unreserved_piece k h
    go false h = text_piece k

dot_piece : {t : Text} {f : Lexemes} → IsLexedAs t f → IsLexedAs (46 ∷ t) (λ rest. lexeme kinds.Dot (codes ".") ∷ f rest)
dot_piece h = single_piece 46 kinds.Dot refl (λ c. refl) h

keys_close : (ks : List Text) → Closes (flat_map (λ a. 46 ∷ key_text a) ks)
keys_close [] u e = e
keys_close (k ∷ ks) u e = refl

keys_piece : (ks : List Text) → IsLexedAs (flat_map (λ a. 46 ∷ key_text a) ks) (other_keys ks)
keys_piece [] = no_piece
keys_piece (k ∷ ks) = dot_piece (then_piece (keys_close ks) (key_piece k) (keys_piece ks))

attribute_piece : (k : Text) → IsLexedAs (attribute_text k) (attribute_lexemes k)
attribute_piece k = go (is_unreserved_id k) refl
  where
    go : (c : Bool) → is_unreserved_id k ≡ c → IsLexedAs (if c then 46 ∷ k else 91 ∷ (quoted k ++ (93 ∷ [])))
        (λ rest. if c then lexeme kinds.Dot (codes ".") ∷ lexeme kinds.Word k ∷ rest
        else lexeme kinds.OpenSquare (codes "[") ∷ quoted_lexeme k ∷ lexeme kinds.CloseSquare (codes "]") ∷ rest)
    go true h = dot_piece (unreserved_piece k h)
    go false h = single_piece 91 kinds.OpenSquare refl (λ c. refl) (then_piece (λ u e. refl) (text_piece k) (single_piece 93 kinds.CloseSquare refl (λ c. refl) no_piece))

attribute_closes : (k : Text) → Closes (attribute_text k)
attribute_closes k u e = go (is_unreserved_id k)
  where
    go : (c : Bool) → Ends ((if c then 46 ∷ k else 91 ∷ (quoted k ++ (93 ∷ []))) ++ u)
    go true = refl
    go false = refl

-- ---- literals and leaves

number_piece : (n : ℕ) → n < 2 ^ 64 → IsLexedAs (decimal n) (λ rest. lexeme kinds.Digits (decimal n) ∷ rest)
number_piece n h = let k = decimal_is_IsNumeral n h in digits_piece (decimal n) k.0.0 (all_digits (decimal n) k.0.1)

literal_piece : (l : BareLiteral) → IsWritableLiteral l → IsLexedTree (Lit l)
literal_piece (BoolLit true) h = word_piece (codes "true") kinds.True refl refl
literal_piece (BoolLit false) h = word_piece (codes "false") kinds.False refl refl
literal_piece (LongLit (pos n)) h = number_piece n (omega (arith, h.sfits))
literal_piece (LongLit (negsuc n)) h = single_piece 45 kinds.Minus refl (λ c. refl) (number_piece (suc n) (omega (arith, h.sfits)))
literal_piece (StringLit s) h = text_piece s
literal_piece (EntityLit u) h = then_piece (λ u e. refl) (name_piece u.entity_type h.0) (colons_piece (text_piece u.eid))

variable_piece : (v : Variable) → IsLexedTree (Var v)
variable_piece vars.Principal = word_piece (codes "principal") kinds.Word refl refl
variable_piece vars.Action = word_piece (codes "action") kinds.Word refl refl
variable_piece vars.Resource = word_piece (codes "resource") kinds.Word refl refl
variable_piece vars.Context = word_piece (codes "context") kinds.Word refl refl

place_piece : (s : SlotId) → IsLexedTree (Slot s)
place_piece slots.Principal = slot_piece (codes "principal") refl
place_piece slots.Resource = slot_piece (codes "resource") refl

-- ---- what is printed begins with no `=`

abbrev NoEqual : Text → Type 0
NoEqual [] = ⊥
NoEqual (b ∷ t) = (b == 61) ≡ false

before_more : (t s : Text) → NoEqual t → NoEqual (t ++ s)
before_more [] s h = absurd h
before_more (b ∷ t) s h = h

at_start : (least : Precedence) (p : Text × Precedence) → NoEqual p.0 → NoEqual (text_at least p)
at_start least p h = go (nat_lt (precedence_number p.1) (precedence_number least))
  where
    go : (c : Bool) → NoEqual (if c then 40 ∷ (p.0 ++ (41 ∷ [])) else p.0)
    go true = refl
    go false = h

in_front : (least : Precedence) (p : Text × Precedence) (s : Text) → NoEqual p.0 → NoEqual (text_at least p ++ s)
in_front least p s h = before_more (text_at least p) s (at_start least p h)

word_start : (b : ℕ) → is_start b ≡ true → (b == 61) ≡ false
word_start b h = grind (arith, nat_tests)

id_start : (w : Text) → is_id w ≡ true → NoEqual w
id_start [] h = false≢true h
id_start (b ∷ bs) h = word_start b (both (is_start b) _ (both (is_any_id (b ∷ bs)) _ h).0).0

path_start : (ps : List (List ℕ)) (b : List ℕ) → list_all is_id ps ≡ true → is_id b ≡ true → NoEqual (path_text ps ++ b)
path_start [] b h k = id_start b k
path_start (p ∷ ps) b h k =
    before_more (path_text (p ∷ ps)) b
    (before_more (p ++ codes "::") (path_text ps) (before_more p (codes "::") (id_start p (both (is_id p) (list_all is_id ps) h).0)))

name_start : (n : BareName) → IsPlainName n → NoEqual (name_text n)
name_start n h = path_start n.path n.basename h.0.0 h.0.1

digit_start : (b : ℕ) → is_ascii_digit b ≡ true → (b == 61) ≡ false
digit_start b h = grind (arith, nat_tests)

digits_start : (w : Text) → 0 < length w → list_all is_ascii_digit w ≡ true → NoEqual w
digits_start [] some h = omega (arith, some)
digits_start (b ∷ bs) some h = digit_start b (both (is_ascii_digit b) _ h).0

literal_start : (l : BareLiteral) → IsWritableLiteral l → NoEqual (printed (Lit l)).0
literal_start (BoolLit true) h = refl
literal_start (BoolLit false) h = refl
literal_start (LongLit (pos n)) h =
    let k = decimal_is_IsNumeral n (omega (arith, h.sfits)) in digits_start (decimal n) k.0.0 (all_digits (decimal n) k.0.1)
literal_start (LongLit (negsuc n)) h = refl
literal_start (StringLit s) h = refl
literal_start (EntityLit u) h = before_more (name_text u.entity_type) _ (name_start u.entity_type h.0)

variable_start : (v : Variable) → NoEqual (printed (Var v)).0
variable_start vars.Principal = refl
variable_start vars.Action = refl
variable_start vars.Resource = refl
variable_start vars.Context = refl

place_start : (s : SlotId) → NoEqual (printed (Slot s)).0
place_start slots.Principal = refl
place_start slots.Resource = refl

call_start : (n : BareName) (p : Text × Precedence) (ps : List (Text × Precedence)) → IsPlainName n → NoEqual p.0 → NoEqual (call_of (name_text n) (p ∷ ps)).0
call_start n p ps h k = go (is_method (name_text n))
  where
    go : (c : Bool) → NoEqual (if c then method_of p (name_text n) (row_text ps) else function_of (name_text n) (p ∷ ps)).0
    go true = in_front precedences.Member p _ k
    go false = before_more (name_text n) _ (name_start n h)

bare_call_start : (n : BareName) → IsPlainName n → NoEqual (call_of (name_text n) []).0
bare_call_start n h = go (is_method (name_text n))
  where
    go : (c : Bool) → NoEqual (if c then function_of (name_text n) [] else function_of (name_text n) []).0
    go true = before_more (name_text n) _ (name_start n h)
    go false = before_more (name_text n) _ (name_start n h)

starts : (e : BareExpr) → IsWritable e → NoEqual (printed e).0
starts (Lit l) h = literal_start l h
starts (Var v) h = variable_start v
starts (Slot s) h = place_start s
starts (Unknown n t) h = refl
starts (If a b c) h = refl
starts (And a b) h = in_front precedences.And (printed a) _ (starts a h.0)
starts (Or a b) h = in_front precedences.Or (printed a) _ (starts a h.0)
starts (UnaryApp Unary.Not a) h = refl
starts (UnaryApp Unary.Neg a) h = refl
starts (UnaryApp Unary.IsEmpty a) h = in_front precedences.Member (printed a) _ (starts a h)
starts (BinaryApp Binary.Eq a b) h = in_front precedences.Sum (printed a) _ (starts a h.0)
starts (BinaryApp Binary.Less a b) h = in_front precedences.Sum (printed a) _ (starts a h.0)
starts (BinaryApp Binary.LessEq a b) h = in_front precedences.Sum (printed a) _ (starts a h.0)
starts (BinaryApp Binary.Add a b) h = in_front precedences.Sum (printed a) _ (starts a h.0)
starts (BinaryApp Binary.Sub a b) h = in_front precedences.Sum (printed a) _ (starts a h.0)
starts (BinaryApp Binary.Mul a b) h = in_front precedences.Product (printed a) _ (starts a h.0)
starts (BinaryApp Binary.In a b) h = in_front precedences.Sum (printed a) _ (starts a h.0)
starts (BinaryApp Binary.Contains a b) h = in_front precedences.Member (printed a) _ (starts a h.0)
starts (BinaryApp Binary.ContainsAll a b) h = in_front precedences.Member (printed a) _ (starts a h.0)
starts (BinaryApp Binary.ContainsAny a b) h = in_front precedences.Member (printed a) _ (starts a h.0)
starts (BinaryApp Binary.GetTag a b) h = in_front precedences.Member (printed a) _ (starts a h.0)
starts (BinaryApp Binary.HasTag a b) h = in_front precedences.Member (printed a) _ (starts a h.0)
starts (ExtensionFunctionApp n no_trees) h = bare_call_start n h.0
starts (ExtensionFunctionApp n (tree e es)) h = call_start n (printed e) (all_printed es) h.0 (starts e h.2.0)
starts (GetAttr a k) h = in_front precedences.Member (printed a) _ (starts a h.0)
starts (HasAttr a k ks) h = in_front precedences.Sum (printed a) _ (starts a h.0)
starts (Like a p) h = in_front precedences.Sum (printed a) _ (starts a h.0)
starts (Set es) h = refl
starts (Record fs) h = refl
starts (Is a n) h = in_front precedences.Sum (printed a) _ (starts a h.0)

-- so that it makes no sign with a `!` before it
no_pair : (t : Text) → NoEqual t → NoPair 33 t
no_pair [] h = absurd h
no_pair (b ∷ t) h = rw h refl

-- ---- nodes

not_piece : (e : BareExpr) → IsWritable e → IsLexedTree e → IsLexedTree (UnaryApp Unary.Not e)
not_piece e w h =
    sign_piece 33 kinds.Not refl (λ u. no_pair (text_at precedences.Member (printed e) ++ u) (in_front precedences.Member (printed e) u (starts e w)))
    (tree_at precedences.Member e h)

method_piece : (e : BareExpr) (name args : Text) (f : Lexemes) → IsLexedTree e → IsLexedAs name (λ rest. lexeme kinds.Word name ∷ rest) → IsLexedAs args f
    → IsLexedAs (method_of (printed e) name args).0 (method_lexemes (written e) name f).0
method_piece e name args f h k a =
    then_piece (λ u e. refl) (tree_at precedences.Member e h) (dot_piece (then_piece (λ u e. refl) k (brackets_piece a)))

-- a tree, and what stands behind it and a space
infix_piece : (l : Precedence) (a : BareExpr) {s : Text} {f : Lexemes} → IsLexedTree a
    → IsLexedAs s f → IsLexedAs (text_at l (printed a) ++ (32 ∷ s)) (λ rest. lexemes_at l (written a) (f rest))
infix_piece l a h k = then_piece (λ u e. refl) (tree_at l a h) (space_piece k)

right_piece : (r : Precedence) (b : BareExpr) → IsLexedTree b → IsLexedAs (32 ∷ text_at r (printed b)) (lexemes_at r (written b))
right_piece r b k = space_piece (tree_at r b k)

binary_piece : (op : BinaryOp) (a b : BareExpr) → IsLexedTree a → IsLexedTree b → IsLexedTree (BinaryApp op a b)
binary_piece Binary.Eq a b h k = infix_piece precedences.Sum a h (pair_piece 61 61 kinds.Equal refl (right_piece precedences.Sum b k))
binary_piece Binary.Less a b h k = infix_piece precedences.Sum a h (sign_piece 60 kinds.Less refl (λ u. refl) (right_piece precedences.Sum b k))
binary_piece Binary.LessEq a b h k = infix_piece precedences.Sum a h (pair_piece 60 61 kinds.LessEqual refl (right_piece precedences.Sum b k))
binary_piece Binary.Add a b h k = infix_piece precedences.Sum a h (single_piece 43 kinds.Plus refl (λ c. refl) (right_piece precedences.Product b k))
binary_piece Binary.Sub a b h k = infix_piece precedences.Sum a h (single_piece 45 kinds.Minus refl (λ c. refl) (right_piece precedences.Product b k))
binary_piece Binary.Mul a b h k = infix_piece precedences.Product a h (single_piece 42 kinds.Times refl (λ c. refl) (right_piece precedences.Unary b k))
binary_piece Binary.In a b h k = infix_piece precedences.Sum a h (then_piece (λ u e. refl) (word_piece (codes "in") kinds.In refl refl) (right_piece precedences.Sum b k))
binary_piece Binary.Contains a b h k = method_piece a (codes "contains") _ _ h (word_piece (codes "contains") kinds.Word refl refl) k
binary_piece Binary.ContainsAll a b h k = method_piece a (codes "containsAll") _ _ h (word_piece (codes "containsAll") kinds.Word refl refl) k
binary_piece Binary.ContainsAny a b h k = method_piece a (codes "containsAny") _ _ h (word_piece (codes "containsAny") kinds.Word refl refl) k
binary_piece Binary.GetTag a b h k = method_piece a (codes "getTag") _ _ h (word_piece (codes "getTag") kinds.Word refl refl) k
binary_piece Binary.HasTag a b h k = method_piece a (codes "hasTag") _ _ h (word_piece (codes "hasTag") kinds.Word refl refl) k

-- commas before the others of a row
others_close : (ps : List (Text × Precedence)) → Closes (others_text ps)
others_close [] u e = e
others_close (p ∷ ps) u e = refl

comma_piece : {t : Text} {f : Lexemes} → IsLexedAs t f → IsLexedAs (codes ", " ++ t) (λ rest. lexeme kinds.Comma (codes ",") ∷ f rest)
comma_piece h = single_piece 44 kinds.Comma refl (λ c. refl) (space_piece h)

pair_text : {t : Text} {f : Lexemes} (k : Text) → IsLexedAs t f
    → IsLexedAs (quoted k ++ (codes ": " ++ t)) (λ rest. quoted_lexeme k ∷ lexeme kinds.Colon (codes ":") ∷ f rest)
pair_text k h = then_piece (λ u e. refl) (text_piece k) (sign_piece 58 kinds.Colon refl (λ u. refl) (space_piece h))

if_piece : {s t u : Text} {f g h : Lexemes} → IsLexedAs s f → IsLexedAs t g → IsLexedAs u h
    → IsLexedAs (codes "if " ++ (s ++ (codes " then " ++ (t ++ (codes " else " ++ u)))))
    (λ rest. lexeme kinds.If (codes "if") ∷ f (lexeme kinds.Then (codes "then") ∷ g (lexeme kinds.Else (codes "else") ∷ h rest)))
if_piece a b c =
    then_piece (λ u e. refl) (word_piece (codes "if") kinds.If refl refl)
    (space_piece (then_piece (λ u e. refl) a
    (space_piece (then_piece (λ u e. refl) (word_piece (codes "then") kinds.Then refl refl)
    (space_piece (then_piece (λ u e. refl) b
    (space_piece (then_piece (λ u e. refl) (word_piece (codes "else") kinds.Else refl refl)
    (space_piece c)))))))))

function_piece : (n : BareName) (ps : List (Text × Precedence)) (qs : List (Lexemes × Precedence)) → IsPlainName n → IsLexedAs (row_text ps) (row_lexemes qs)
    → IsLexedAs (function_of (name_text n) ps).0 (function_lexemes n qs).0
function_piece n ps qs h k = then_piece (λ u e. refl) (name_piece n h) (brackets_piece k)

-- a text that is one of several words is an identifier, if they are
one_of : (t w : Text) → is_unreserved_id w ≡ true → bytes_eq t w ≡ true → is_unreserved_id t ≡ true
one_of t w h e = subst (λ x. is_unreserved_id x ≡ true) (sym ((bytes_eq-Decides t w).0 e)) h

last_of : (t w : Text) (others : Bool) → is_unreserved_id w ≡ true → (others ≡ true → is_unreserved_id t ≡ true) → (others || bytes_eq t w) ≡ true
    → is_unreserved_id t ≡ true
last_of t w true h f e = f refl
last_of t w false h f e = one_of t w h e

times_id : (t : Text) → is_method_of_times t ≡ true → is_unreserved_id t ≡ true
times_id t =
    last_of t (codes "toDays") _ refl (
    last_of t (codes "toHours") _ refl (
    last_of t (codes "toMinutes") _ refl (
    last_of t (codes "toSeconds") _ refl (
    last_of t (codes "toMilliseconds") _ refl (
    last_of t (codes "toTime") _ refl (
    last_of t (codes "toDate") _ refl (
    last_of t (codes "durationSince") _ refl (
    one_of t (codes "offset") refl))))))))

numbers_id : (t : Text) → is_method_of_numbers t ≡ true → is_unreserved_id t ≡ true
numbers_id t =
    last_of t (codes "greaterThanOrEqual") _ refl (
    last_of t (codes "greaterThan") _ refl (
    last_of t (codes "lessThanOrEqual") _ refl (
    last_of t (codes "lessThan") _ refl (
    last_of t (codes "isInRange") _ refl (
    last_of t (codes "isMulticast") _ refl (
    last_of t (codes "isLoopback") _ refl (
    last_of t (codes "isIpv6") _ refl (
    one_of t (codes "isIpv4") refl))))))))

method_id : (t : Text) → is_method t ≡ true → is_unreserved_id t ≡ true
method_id t h = go (is_method_of_times t) refl h
  where
    go : (c : Bool) → is_method_of_times t ≡ c → (c || is_method_of_numbers t) ≡ true → is_unreserved_id t ≡ true
    go true e k = times_id t e
    go false e k = numbers_id t k

call_piece : (n : BareName) (e : BareExpr) (es : BareExprs) → IsPlainName n → IsLexedTree e
    → IsLexedAs (others_text (all_printed es)) (others_lexemes (all_written es)) → IsLexedAs (row_text (all_printed es)) (row_lexemes (all_written es))
    → IsLexedAs (call_of (name_text n) (printed e ∷ all_printed es)).0 (call_lexemes n (written e ∷ all_written es)).0
call_piece n e es p h others row = go (is_method (name_text n)) refl
  where
    go : (c : Bool) → is_method (name_text n) ≡ c → IsLexedAs (if c then method_of (printed e) (name_text n) (row_text (all_printed es)) else function_of (name_text n) (printed e ∷ all_printed es)).0
        (if c then method_lexemes (written e) (name_text n) (row_lexemes (all_written es)) else function_lexemes n (written e ∷ all_written es)).0
    go true m = method_piece e (name_text n) _ _ h (unreserved_piece (name_text n) (method_id (name_text n) m)) row
    go false m = function_piece n (printed e ∷ all_printed es) (written e ∷ all_written es) p (then_piece (others_close (all_printed es)) h others)

bare_call_piece : (n : BareName) → IsPlainName n → IsLexedAs (call_of (name_text n) []).0 (call_lexemes n []).0
bare_call_piece n p = go (is_method (name_text n))
  where
    go : (c : Bool) → IsLexedAs (if c then function_of (name_text n) [] else function_of (name_text n) []).0 (if c then function_lexemes n [] else function_lexemes n []).0
    go true = function_piece n [] [] p no_piece
    go false = function_piece n [] [] p no_piece

mutual
  pub lexes : (e : BareExpr) → IsWritable e → IsLexedTree e
  lexes (Lit l) h = literal_piece l h
  lexes (Var v) h = variable_piece v
  lexes (Slot s) h = place_piece s
  lexes (Unknown n t) h = then_piece (λ u e. refl) (word_piece (codes "unknown") kinds.Word refl refl) (brackets_piece (text_piece n))
  lexes (If a b c) h = if_piece (lexes a h.0) (lexes b h.1) (lexes c h.2)
  lexes (And a b) h = infix_piece precedences.And a (lexes a h.0) (pair_piece 38 38 kinds.AndSign refl (right_piece precedences.Relation b (lexes b h.1)))
  lexes (Or a b) h = infix_piece precedences.Or a (lexes a h.0) (pair_piece 124 124 kinds.OrSign refl (right_piece precedences.And b (lexes b h.1)))
  lexes (UnaryApp Unary.Not a) h = not_piece a h (lexes a h)
  lexes (UnaryApp Unary.Neg a) h = single_piece 45 kinds.Minus refl (λ c. refl) (tree_at precedences.Member a (lexes a h))
  lexes (UnaryApp Unary.IsEmpty a) h = method_piece a (codes "isEmpty") _ _ (lexes a h) (word_piece (codes "isEmpty") kinds.Word refl refl) no_piece
  lexes (BinaryApp op a b) h = binary_piece op a b (lexes a h.0) (lexes b h.1)
  lexes (ExtensionFunctionApp n no_trees) h = bare_call_piece n h.0
  lexes (ExtensionFunctionApp n (tree e es)) h = call_piece n e es h.0 (lexes e h.2.0) (others_lexed es h.2.1) (row_lexed es h.2.1)
  lexes (GetAttr a k) h = then_piece (attribute_closes k) (tree_at precedences.Member a (lexes a h.0)) (attribute_piece k)
  lexes (HasAttr a k ks) h =
      infix_piece precedences.Sum a (lexes a h.0)
      (then_piece (λ u e. refl) (word_piece (codes "has") kinds.Has refl refl) (space_piece (then_piece (keys_close ks) (key_piece k) (keys_piece ks))))
  lexes (Like a p) h =
      infix_piece precedences.Sum a (lexes a h.0)
      (then_piece (λ u e. refl) (word_piece (codes "like") kinds.Like refl refl) (space_piece (pattern_piece p)))
  lexes (Set es) h =
      single_piece 91 kinds.OpenSquare refl (λ c. refl) (then_piece (λ u e. refl) (row_lexed es h) (single_piece 93 kinds.CloseSquare refl (λ c. refl) no_piece))
  lexes (Record fs) h =
      single_piece 123 kinds.OpenCurly refl (λ c. refl) (then_piece (λ u e. refl) (fields_lexed fs h.1) (single_piece 125 kinds.CloseCurly refl (λ c. refl) no_piece))
  lexes (Is a n) h =
      infix_piece precedences.Sum a (lexes a h.0)
      (then_piece (λ u e. refl) (word_piece (codes "is") kinds.Is refl refl) (space_piece (name_piece n h.1)))

  row_lexed : (es : BareExprs) → AreWritable es → IsLexedAs (row_text (all_printed es)) (row_lexemes (all_written es))
  row_lexed no_trees h = no_piece
  row_lexed (tree e es) h = then_piece (others_close (all_printed es)) (lexes e h.0) (others_lexed es h.1)

  others_lexed : (es : BareExprs) → AreWritable es → IsLexedAs (others_text (all_printed es)) (others_lexemes (all_written es))
  others_lexed no_trees h = no_piece
  others_lexed (tree e es) h = comma_piece (then_piece (others_close (all_printed es)) (lexes e h.0) (others_lexed es h.1))

  fields_lexed : (fs : BareFields) → AreWritableFields fs
      → IsLexedAs (row_text (map field_of (fields_made policy_text_ops fs))) (row_lexemes (map field_lexemes (fields_made policy_lexeme_ops fs)))
  fields_lexed no_fields h = no_piece
  fields_lexed (field k e fs) h =
      then_piece (others_close (map field_of (fields_made policy_text_ops fs))) (pair_text k (lexes e h.1)) (other_fields_lexed fs h.2)

  other_fields_lexed : (fs : BareFields) → AreWritableFields fs
      → IsLexedAs (others_text (map field_of (fields_made policy_text_ops fs))) (others_lexemes (map field_lexemes (fields_made policy_lexeme_ops fs)))
  other_fields_lexed no_fields h = no_piece
  other_fields_lexed (field k e fs) h =
      comma_piece (then_piece (others_close (map field_of (fields_made policy_text_ops fs))) (pair_text k (lexes e h.1)) (other_fields_lexed fs h.2))
