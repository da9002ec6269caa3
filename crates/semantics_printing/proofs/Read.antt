-- The tokens that are written for a tree stand for it.
use Rattle.std.proofs.Common.{◌≡◌, ℕ, pos, negsuc, Bool, true, false, List, [], ◌∷◌, ◌++◌, map, None, Some, refl, sym, ◌∙◌, ap, subst, arith, codes, IsUtf8, IsTrue, append_assoc, decimal}
use Rattle.std.proofs.lemmas.Bool.{false≢true}
use Rattle.std.proofs.lemmas.Slice.Eq.{bytes_eq-Decides}
use Rattle.std.proofs.lemmas.Str.{encodes-chars}
use Rattle.std.specs.List.{AllByRecursion}
use Rattle.std.specs.Prelude.{if◌then◌else◌}
use Rattle.std.specs.Str.{bytes_eq, chars, encode_utf8_all}
use Rattle.cedar_names.specs.Grammar.{is_unreserved_id}
use Rattle.cedar_names.specs.Names.{BareName, IsNameOf, name_text, path_text, unqualified}
use Rattle.cedar_terms.specs.Escape.{escaped, quoted}
use Rattle.cedar_terms.specs.Literals.{BareLiteral, BoolLit, LongLit, StringLit, EntityLit}
use Rattle.cedar_terms.specs.Entities.{BareEntityUID}
use Rattle.cedar_terms.specs.Patterns.{pattern_text}
use Rattle.cedar_terms.specs.declared.ops.BinaryOp.{BinaryOp}
use Rattle.cedar_terms.specs.declared.ops.BinaryOp.TheVariants as Binary
use Rattle.cedar_terms.specs.declared.ops.UnaryOp.{UnaryOp}
use Rattle.cedar_terms.specs.declared.ops.UnaryOp.TheVariants as Unary
use Rattle.cedar_terms.specs.declared.pattern.PatternElem.{PatternElem}
use Rattle.cedar_terms.specs.declared.precedence.Precedence.{Precedence}
use Rattle.cedar_terms.specs.declared.precedence.Precedence.TheVariants as precedences
use Rattle.cedar_builders.specs.BareExpr.{Text, BareExpr, Lit, Var, Slot, Unknown, If, And, Or, UnaryApp, BinaryApp, ExtensionFunctionApp, GetAttr, HasAttr, Like, Set, Record, Is, BareExprs, no_trees, tree, BareFields, no_fields, field, fields_of}
use Rattle.cedar_builders.specs.Keys.{in_key_order, IsAscending}
use Rattle.cedar_lexer.specs.Escapes.{IsInsideOfText, IsInsideOfPattern, has_scalars}
use Rattle.cedar_lexer.specs.declared.token.TokenKind.{TokenKind}
use Rattle.cedar_lexer.specs.declared.token.TokenKind.TheVariants as kinds
use Rattle.semantics_grammar.specs.Lexemes.{Lexeme, lexeme}
use Rattle.semantics_grammar.specs.Written.{IsTextOf, IsPatternOf, IsPath, ArePathIds, last_id, in_namespace, IsKey, id_key, text_key, AreKeys, last_key, first_key, method_tree, function_tree}
use Rattle.semantics_grammar.specs.Grammar as g
use Rattle.semantics_grammar.specs.Grammar.{Reads, Primary, Accesses, Items, Fields, member, no_access, no_operator}
use Rattle.semantics_printing.specs.Phrases.{is_method}
use Rattle.semantics_printing.proofs.PolicyLexemes.{Lexemes, quoted_lexeme, path_lexemes, name_lexemes, long_lexemes, row_lexemes, field_lexemes, method_lexemes, function_lexemes, key_lexeme, other_keys, attribute_lexemes, policy_lexeme_ops}
use Rattle.semantics_printing.specs.PolicyTexts.{quoted_pattern}
use Rattle.semantics_printing.specs.Writable.{IsPlainName, IsWritableLiteral, IsWritable, AreWritable, AreWritableFields}
use Rattle.semantics_printing.proofs.Folds.{made, all_made, fields_made}
use Rattle.semantics_printing.proofs.KeyOrder.{distinct, fields_back, in_order, pair_keys, pairs_of}
use Rattle.semantics_printing.proofs.Numbers.{negative_fits, negative_value, positive_fits, positive_value}
use Rattle.semantics_printing.proofs.Readings.{AreReadAs, IsReadAs, Opens, at_least, begins_digits, brackets_open, method_read, more_and, more_member, more_or, more_product, more_sum, not_alone, to_conditional}

-- the tokens of a tree
abbrev pub written : BareExpr → Lexemes × Precedence
written = made policy_lexeme_ops

abbrev all_written : BareExprs → List (Lexemes × Precedence)
all_written = all_made policy_lexeme_ops

-- what holds of both cases holds of the choice
choice : {A : Type 0} (P : A → Type 0) (c : Bool) (a b : A) → (c ≡ true → P a) → (c ≡ false → P b) → P (if c then a else b)
choice P true a b f h = f refl
choice P false a b f h = h refl

-- ---- names

ids_read : (ps : List (List ℕ)) (b : List ℕ) (rest : List Lexeme) → ArePathIds (path_lexemes ps (lexeme kinds.Word b ∷ rest)) (path_text ps ++ b) rest
ids_read [] b rest = last_id
ids_read (p ∷ ps) b rest =
    let e : p ++ (codes "::" ++ (path_text ps ++ b)) ≡ path_text (p ∷ ps) ++ b = simp append_assoc in
    subst (λ t. ArePathIds (path_lexemes (p ∷ ps) (lexeme kinds.Word b ∷ rest)) t rest) e (in_namespace (ids_read ps b rest))

path_read : (n : BareName) → IsPlainName n → (rest : List Lexeme) → IsPath (name_lexemes n rest) n rest
path_read n h rest = record { path = name_text n; ids = ids_read n.path n.basename rest; name = (h.0, refl) }

function_at : (ps : List (List ℕ)) (b o : List ℕ) (n : BareName) (es : BareExprs) (us rest : List Lexeme)
    → IsPath (path_lexemes ps (lexeme kinds.Word b ∷ lexeme kinds.OpenRound o ∷ us)) n (lexeme kinds.OpenRound o ∷ us)
    → Items kinds.CloseRound us es rest → Primary (path_lexemes ps (lexeme kinds.Word b ∷ lexeme kinds.OpenRound o ∷ us)) (function_tree n es) rest
function_at [] b o n es us rest p i = g.function p i
function_at (x ∷ ps) b o n es us rest p i = g.function p i

entity_at : (ps : List (List ℕ)) (b c q : List ℕ) (u : BareEntityUID) (rest : List Lexeme)
    → IsPath (path_lexemes ps (lexeme kinds.Word b ∷ lexeme kinds.Colons c ∷ lexeme kinds.Quoted q ∷ rest)) u.entity_type (lexeme kinds.Colons c ∷ lexeme kinds.Quoted q ∷ rest)
    → IsTextOf q u.eid → Primary (path_lexemes ps (lexeme kinds.Word b ∷ lexeme kinds.Colons c ∷ lexeme kinds.Quoted q ∷ rest)) (Lit (EntityLit u)) rest
entity_at [] b c q u rest p t = g.entity p t
entity_at (x ∷ ps) b c q u rest p t = g.entity p t

name_opens : (n : BareName) (rest : List Lexeme) → begins_digits (name_lexemes n rest) ≡ false
name_opens n rest = go n.path
  where
    go : (ps : List (List ℕ)) → begins_digits (path_lexemes ps (lexeme kinds.Word n.basename ∷ rest)) ≡ false
    go [] = refl
    go (p ∷ ps) = refl

-- ---- methods

-- a name that is a method's is none of a function
is_other : (t w : Text) → is_method w ≡ false → is_method t ≡ true → bytes_eq t w ≡ false
is_other t w h k = elim (bytes_eq t w) as (λ c. bytes_eq t w ≡ c → c ≡ false) [
  | true ↦ λ e. absurd (false≢true (sym h ∙ (ap is_method (sym ((bytes_eq-Decides t w).0 e)) ∙ k)))
  | false ↦ λ e. refl
] refl

method_is_call : (t : Text) (n : BareName) (a : BareExpr) (es : BareExprs) → is_method t ≡ true
    → method_tree t n a es ≡ Some (ExtensionFunctionApp n (tree a es))
method_is_call t n a es h =
    rw (
      is_other t (codes "isEmpty") refl h,
      is_other t (codes "contains") refl h,
      is_other t (codes "containsAll") refl h,
      is_other t (codes "containsAny") refl h,
      is_other t (codes "getTag") refl h,
      is_other t (codes "hasTag") refl h,
    ) refl

-- ---- what tokens begin with

opens : (e : BareExpr) → Opens (written e)
opens (Lit (BoolLit true)) m rest = refl
opens (Lit (BoolLit false)) m rest = refl
opens (Lit (LongLit n)) m rest = cc
opens (Lit (StringLit s)) m rest = refl
opens (Lit (EntityLit u)) m rest = name_opens u.entity_type _
opens (Var v) m rest = refl
opens (Slot s) m rest = refl
opens (Unknown n t) m rest = refl
opens (If a b c) m rest = refl
opens (And a b) m rest = cc
opens (Or a b) m rest = cc
opens (UnaryApp Unary.Not a) m rest = refl
opens (UnaryApp Unary.Neg a) m rest = refl
opens (UnaryApp Unary.IsEmpty a) m rest = brackets_open (written a) (opens a) _
opens (BinaryApp Binary.Contains a b) m rest = brackets_open (written a) (opens a) _
opens (BinaryApp Binary.ContainsAll a b) m rest = brackets_open (written a) (opens a) _
opens (BinaryApp Binary.ContainsAny a b) m rest = brackets_open (written a) (opens a) _
opens (BinaryApp Binary.GetTag a b) m rest = brackets_open (written a) (opens a) _
opens (BinaryApp Binary.HasTag a b) m rest = brackets_open (written a) (opens a) _
opens (BinaryApp op a b) m rest = cc
opens (ExtensionFunctionApp n no_trees) m rest =
    choice {A = Lexemes × Precedence} (λ p. begins_digits (p.0 rest) ≡ false) (is_method (name_text n)) _ _ (λ _. name_opens n _) (λ _. name_opens n _)
opens (ExtensionFunctionApp n (tree e es)) m rest =
    choice {A = Lexemes × Precedence} (λ p. begins_digits (p.0 rest) ≡ false) (is_method (name_text n)) _ _ (λ _. brackets_open (written e) (opens e) _) (λ _. name_opens n _)
opens (GetAttr a k) m rest = brackets_open (written a) (opens a) _
opens (HasAttr a k ks) m rest = cc
opens (Like a p) m rest = cc
opens (Set es) m rest = refl
opens (Record fs) m rest = refl
opens (Is a n) m rest = cc

-- ---- where texts and patterns between quotes stand for what was written
module _ (text_back : (t : List ℕ) → IsUtf8 t → IsInsideOfText (chars (escaped t)) (chars t))
    (pattern_back : (es : List PatternElem) → IsTrue (has_scalars es) → IsInsideOfPattern (chars (encode_utf8_all (pattern_text es))) es) where
  text_read : (t : Text) → IsUtf8 t → IsTextOf (quoted t) t
  text_read t h = record { inside = escaped t; characters = chars t; quotes = refl; reads = text_back t h; bytes = sym (encodes-chars t h) }

  pattern_read : (es : List PatternElem) → IsTrue (has_scalars es) → IsPatternOf (quoted_pattern es) es
  pattern_read es h = record { inside = encode_utf8_all (pattern_text es); quotes = refl; reads = pattern_back es h }

  key_read : (k : Text) → IsUtf8 k → IsKey (key_lexeme k) k
  key_read k h = choice (λ l. IsKey l k) (is_unreserved_id k) _ _ (λ _. id_key) (λ _. text_key (text_read k h))

  keys_read : (k : Text) (ks : List Text) → IsUtf8 k → AllByRecursion IsUtf8 ks → (rest : List Lexeme) → AreKeys (key_lexeme k ∷ other_keys ks rest) k ks rest
  keys_read k [] h hs rest = last_key (key_read k h)
  keys_read k (l ∷ ks) h hs rest = first_key (key_read k h) (keys_read l ks hs.0 hs.1 rest)

  attribute_read : (a : BareExpr) (k : Text) → IsUtf8 k → (rest : List Lexeme) → Accesses (attribute_lexemes k rest) a (GetAttr a k) rest
  attribute_read a k h rest =
      choice (λ ts. Accesses ts a (GetAttr a k) rest) (is_unreserved_id k) _ _ (λ _. g.attribute no_access) (λ _. g.index (text_read k h) no_access)

  literal_read : (l : BareLiteral) → IsWritableLiteral l → IsReadAs (written (Lit l)) (Lit l)
  literal_read (BoolLit true) h = λ rest. member g.yes no_access
  literal_read (BoolLit false) h = λ rest. member g.no no_access
  literal_read (LongLit (pos n)) h = λ rest.
      g.no_sign (member (subst (λ z. Primary (lexeme kinds.Digits (decimal n) ∷ rest) (Lit (LongLit z)) rest) (positive_value n h) (g.number (positive_fits n h))) no_access)
  literal_read (LongLit (negsuc n)) h = λ rest.
      g.minuses {n = 1} (omega arith)
      (subst (λ z. g.Minuses 1 (long_lexemes (negsuc n) rest) (Lit (LongLit z)) rest) (negative_value n h) (g.negative (negative_fits n h)))
  literal_read (StringLit s) h = λ rest. member (g.text (text_read s h)) no_access
  literal_read (EntityLit u) h = λ rest.
      member (entity_at u.entity_type.path u.entity_type.basename _ _ u rest (path_read u.entity_type h.0 _) (text_read u.eid h.1)) no_access

  unknown_read : (n : Text) → IsUtf8 n → IsReadAs (written (Unknown n None)) (Unknown n None)
  unknown_read n h = λ rest.
      let path : IsPath (lexeme kinds.Word (codes "unknown") ∷ lexeme kinds.OpenRound (codes "(") ∷ quoted_lexeme n ∷ lexeme kinds.CloseRound (codes ")") ∷ rest)
      (unqualified (codes "unknown")) (lexeme kinds.OpenRound (codes "(") ∷ quoted_lexeme n ∷ lexeme kinds.CloseRound (codes ")") ∷ rest) =
      path_read (unqualified (codes "unknown")) ((refl, refl), refl) _ in
      member (g.function path (g.last_item (to_conditional precedences.Member (member (g.text (text_read n h)) no_access)))) no_access

  -- a method of one argument that stands for an operator
  operator_read : (op : BinaryOp) (name : Text) (a b : BareExpr) → IsReadAs (written a) a → IsReadAs (written b) b
      → IsNameOf name (unqualified name) → method_tree name (unqualified name) a (tree b no_trees) ≡ Some (BinaryApp op a b)
      → IsReadAs (method_lexemes (written a) name (written b).0) (BinaryApp op a b)
  operator_read op name a b h k is gives =
      method_read (written a) a (BinaryApp op a b) name (unqualified name) (written b).0 (tree b no_trees) h
      (λ rest. g.last_item (to_conditional (written b).1 (k _))) is gives

  binary_read : (op : BinaryOp) (a b : BareExpr) → IsReadAs (written a) a → IsReadAs (written b) b → IsReadAs (written (BinaryApp op a b)) (BinaryApp op a b)
  binary_read Binary.Eq a b h k = λ rest. g.relation (at_least precedences.Sum (written a) a h _) (g.equal (at_least precedences.Sum (written b) b k rest))
  binary_read Binary.Less a b h k = λ rest. g.relation (at_least precedences.Sum (written a) a h _) (g.less (at_least precedences.Sum (written b) b k rest))
  binary_read Binary.LessEq a b h k = λ rest. g.relation (at_least precedences.Sum (written a) a h _) (g.less_equal (at_least precedences.Sum (written b) b k rest))
  binary_read Binary.In a b h k = λ rest. g.relation (at_least precedences.Sum (written a) a h _) (g.is_in (at_least precedences.Sum (written b) b k rest))
  binary_read Binary.Add a b h k = λ rest. more_sum (at_least precedences.Sum (written a) a h _) (g.plus (at_least precedences.Product (written b) b k rest) no_operator)
  binary_read Binary.Sub a b h k = λ rest. more_sum (at_least precedences.Sum (written a) a h _) (g.minus (at_least precedences.Product (written b) b k rest) no_operator)
  binary_read Binary.Mul a b h k = λ rest. more_product (at_least precedences.Product (written a) a h _) (g.times (at_least precedences.Unary (written b) b k rest) no_operator)
  binary_read Binary.Contains a b h k = operator_read Binary.Contains (codes "contains") a b h k ((refl, refl), refl) refl
  binary_read Binary.ContainsAll a b h k = operator_read Binary.ContainsAll (codes "containsAll") a b h k ((refl, refl), refl) refl
  binary_read Binary.ContainsAny a b h k = operator_read Binary.ContainsAny (codes "containsAny") a b h k ((refl, refl), refl) refl
  binary_read Binary.GetTag a b h k = operator_read Binary.GetTag (codes "getTag") a b h k ((refl, refl), refl) refl
  binary_read Binary.HasTag a b h k = operator_read Binary.HasTag (codes "hasTag") a b h k ((refl, refl), refl) refl

  unary_read : (op : UnaryOp) (a : BareExpr) → IsReadAs (written a) a → IsReadAs (written (UnaryApp op a)) (UnaryApp op a)
  unary_read Unary.Not a h = λ rest. g.nots {n = 1} (omega arith) (g.last_not (at_least precedences.Member (written a) a h rest))
  unary_read Unary.Neg a h = λ rest.
      g.minuses {n = 1} (omega arith)
      (g.last_minus (not_alone _ (brackets_open (written a) (opens a) rest)) (at_least precedences.Member (written a) a h rest))
  unary_read Unary.IsEmpty a h =
      method_read (written a) a (UnaryApp Unary.IsEmpty a) (codes "isEmpty") (unqualified (codes "isEmpty")) (λ rest. rest) no_trees h (λ rest. g.no_items) ((refl, refl), refl) refl

  function_read : (n : BareName) (es : BareExprs) → IsPlainName n → function_tree n es ≡ ExtensionFunctionApp n es → AreReadAs (row_lexemes (all_written es)) es
      → IsReadAs (function_lexemes n (all_written es)) (ExtensionFunctionApp n es)
  function_read n es h gives items rest =
      subst (λ e. Reads precedences.Member ((function_lexemes n (all_written es)).0 rest) e rest) gives
      (member (function_at n.path n.basename _ n es _ rest (path_read n h _) (items rest)) no_access)

  mutual
    pub reads : (e : BareExpr) → IsWritable e → IsReadAs (written e) e
    reads (Lit l) h = literal_read l h
    reads (Var v) h = λ rest. member (g.variable refl) no_access
    reads (Slot s) h = λ rest. member (g.slot refl) no_access
    reads (Unknown n t) h = subst (λ t. IsReadAs (written (Unknown n t)) (Unknown n t)) (sym h.1) (unknown_read n h.0)
    reads (If a b c) h = λ rest.
        g.conditional (to_conditional (written a).1 (reads a h.0 _)) (to_conditional (written b).1 (reads b h.1 _)) (to_conditional (written c).1 (reads c h.2 rest))
    reads (And a b) h = λ rest. more_and (at_least precedences.And (written a) a (reads a h.0) _) (g.and (at_least precedences.Relation (written b) b (reads b h.1) rest) no_operator)
    reads (Or a b) h = λ rest. more_or (at_least precedences.Or (written a) a (reads a h.0) _) (g.or (at_least precedences.And (written b) b (reads b h.1) rest) no_operator)
    reads (UnaryApp o a) h = unary_read o a (reads a h)
    reads (BinaryApp o a b) h = binary_read o a b (reads a h.0) (reads b h.1)
    reads (ExtensionFunctionApp n no_trees) h =
        choice (λ p. IsReadAs p (ExtensionFunctionApp n no_trees)) (is_method (name_text n)) _ _
        (λ _. function_read n no_trees h.0 h.1 (λ rest. g.no_items)) (λ _. function_read n no_trees h.0 h.1 (λ rest. g.no_items))
    reads (ExtensionFunctionApp n (tree e es)) h =
        choice (λ p. IsReadAs p (ExtensionFunctionApp n (tree e es))) (is_method (name_text n)) _ _
        (λ m. method_read (written e) e (ExtensionFunctionApp n (tree e es)) (name_text n) n (row_lexemes (all_written es)) es (reads e h.2.0)
        (λ rest. items_read kinds.CloseRound (codes ")") es h.2.1 rest) (h.0.0, refl) (method_is_call (name_text n) n e es m))
        (λ _. function_read n (tree e es) h.0 h.1 (λ rest. items_read kinds.CloseRound (codes ")") (tree e es) h.2 rest))
    reads (GetAttr a k) h = λ rest. more_member (at_least precedences.Member (written a) a (reads a h.0) _) (attribute_read a k h.1 rest)
    reads (HasAttr a k ks) h = λ rest. g.relation (at_least precedences.Sum (written a) a (reads a h.0) _) (g.has (keys_read k ks h.1 h.2 rest))
    reads (Like a p) h = λ rest. g.relation (at_least precedences.Sum (written a) a (reads a h.0) _) (g.like (pattern_read p h.1))
    reads (Set es) h = λ rest. member (g.set (items_read kinds.CloseSquare (codes "]") es h rest)) no_access
    reads (Record fs) h = λ rest.
        let ascends : IsAscending (map (λ p. p.0) (pairs_of fs)) = subst IsAscending (sym (pair_keys fs)) h.0 in
        let same : fields_of (in_key_order (pairs_of fs)) ≡ fs = ap fields_of (in_order (pairs_of fs) ascends) ∙ fields_back fs in
        subst (λ xs. Reads precedences.Member ((written (Record fs)).0 rest) (Record xs) rest) same
        (member (g.record_of (fields_read fs h.1 rest) (distinct (map (λ p. p.0) (pairs_of fs)) ascends)) no_access)
    reads (Is a n) h = λ rest. g.relation (at_least precedences.Sum (written a) a (reads a h.0) _) (g.is (path_read n h.1 rest))

    items_read : (c : TokenKind) (w : List ℕ) (es : BareExprs) → AreWritable es → (rest : List Lexeme)
        → Items c (row_lexemes (all_written es) (lexeme c w ∷ rest)) es rest
    items_read c w no_trees h rest = g.no_items
    items_read c w (tree e no_trees) h rest = g.last_item (to_conditional (written e).1 (reads e h.0 _))
    items_read c w (tree e (tree f fs)) h rest = g.item (to_conditional (written e).1 (reads e h.0 _)) (items_read c w (tree f fs) h.1 rest)

    fields_read : (fs : BareFields) → AreWritableFields fs → (rest : List Lexeme)
        → Fields (row_lexemes (map field_lexemes (fields_made policy_lexeme_ops fs)) (lexeme kinds.CloseCurly (codes "}") ∷ rest)) (pairs_of fs) rest
    fields_read no_fields h rest = g.no_fields
    fields_read (field k e no_fields) h rest = g.last_field (text_key (text_read k h.0)) (to_conditional (written e).1 (reads e h.1 _))
    fields_read (field k e (field l f fs)) h rest =
        g.field (text_key (text_read k h.0)) (to_conditional (written e).1 (reads e h.1 _)) (fields_read (field l f fs) h.2 rest)
