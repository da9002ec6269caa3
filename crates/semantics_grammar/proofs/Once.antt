-- The grammar is unambiguous: tokens stand for one tree. Two readings of the same tokens, behind which nothing goes on, are of one tree, and end at one place.
use Rattle.std.proofs.Common.{◌≡◌, ◌<◌, ◌≤◌, ℕ, Bool, true, false, List, [], ◌∷◌, ◌++◌, Option, Some, None, refl, sym, ◌∙◌, ap, subst}
use Rattle.std.specs.Prelude.{map, IsTrue, length, ◌==◌, if◌then◌else◌, unwrap_or, codes}
use Rattle.std.proofs.lemmas.Bool.{false≢true}
use Rattle.cedar_names.specs.Names.{BareName, IsNameOf}
use Rattle.cedar_names.specs.Slots.{slot_text}
use Rattle.cedar_names.specs.declared.slot.SlotId.{SlotId}
use Rattle.cedar_names.specs.declared.slot.SlotId.TheVariants as slots
use Rattle.cedar_terms.specs.Entities.{BareEntityUID}
use Rattle.cedar_terms.specs.Literals.{BoolLit, LongLit, StringLit, EntityLit}
use Rattle.cedar_terms.specs.Ops.{var_text}
use Rattle.cedar_terms.specs.declared.ops.BinaryOp.TheVariants as Binary
use Rattle.cedar_terms.specs.declared.ops.UnaryOp.TheVariants as Unary
use Rattle.cedar_terms.specs.declared.pattern.PatternElem.{PatternElem}
use Rattle.cedar_terms.specs.declared.var.Var.{Var as Variable}
use Rattle.cedar_terms.specs.declared.var.Var.TheVariants as vars
use Rattle.cedar_builders.specs.BareExpr.{Text, BareExpr, Lit, Var, Slot, If, And, Or, UnaryApp, BinaryApp, GetAttr, HasAttr, Like, Set, Record, Is, BareExprs, no_trees, tree, fields_of}
use Rattle.cedar_builders.specs.Keys.{are_distinct, in_key_order}
use Rattle.cedar_terms.specs.declared.precedence.Precedence.{Precedence}
use Rattle.cedar_terms.specs.declared.precedence.Precedence.TheVariants as precedences
use Rattle.cedar_lexer.specs.declared.token.TokenKind.{TokenKind}
use Rattle.cedar_lexer.specs.declared.token.TokenKind.TheVariants as kinds
use Rattle.semantics_grammar.specs.Lexemes.{Lexeme, lexeme}
use Rattle.semantics_grammar.specs.Written.{IsTextOf, IsPatternOf, IsPath, ArePathIds, last_id, in_namespace, IsKey, id_key, text_key, AreKeys, last_key, first_key, method_tree, function_tree, is_number_alone}
use Rattle.semantics_grammar.specs.Grammar.{Stands, Reads, conditional, no_conditional, disjunction, conjunction, relation, sum, product, no_sign, nots, minuses, member, GoesOn, no_operator, or, and, plus, minus, times, Tests, no_test, equal, not_equal, less, less_equal, greater, greater_equal, is_in, has, like, is, is_of_in, Nots, last_not, more_nots, Minuses, last_minus, negative, more_minuses, Accesses, no_access, attribute, index, method, Primary, yes, no, number, text, slot, variable, entity, function, brackets, set, record_of, Items, no_items, last_item, item, Fields, no_fields, last_field, field}
use Rattle.semantics_grammar.proofs.Ends.{Stops, goes_on, operand_ends, sum_ends, stops_tighter, stops_or, stops_member, stops_unary, true≢false, begins, nots_begin, minuses_begin, Begins, apart, Apart, is_not, is_minus, opens, opens_member, opens_unary, not_member, minus_member, not_minus, ends_path, path_ends, number_alone, EndsPrimary, on_primary, primary_ends}

-- two readings are of one tree, and end at one place
abbrev Same : {A : Type 0} → A → A → List Lexeme → List Lexeme → Type 0
Same a b r s = (a ≡ b) × (r ≡ s)

abbrev behind : List Lexeme → List Lexeme
behind [] = []
behind (t ∷ ts) = ts

-- ---- readings of what is the same

read_at : (l : Precedence) (b : BareExpr) (s : List Lexeme) {ts us : List Lexeme} → ts ≡ us → Reads l us b s → Reads l ts b s
read_at l b s e h = subst (λ ts. Reads l ts b s) (sym e) h

goes_at : (l : Precedence) (b : BareExpr) (s : List Lexeme) {ts us : List Lexeme} {a c : BareExpr} → Same a c ts us → GoesOn l us c b s → GoesOn l ts a b s
goes_at l b s {ts = ts} {c = c} e h = subst (λ a. GoesOn l ts a b s) (sym e.0) (subst (λ ts. GoesOn l ts c b s) (sym e.1) h)

tests_at : (b : BareExpr) (s : List Lexeme) {ts us : List Lexeme} {a c : BareExpr} → Same a c ts us → Tests us c b s → Tests ts a b s
tests_at b s {ts = ts} {c = c} e h = subst (λ a. Tests ts a b s) (sym e.0) (subst (λ ts. Tests ts c b s) (sym e.1) h)

accesses_at : (b : BareExpr) (s : List Lexeme) {ts us : List Lexeme} {a c : BareExpr} → Same a c ts us → Accesses us c b s → Accesses ts a b s
accesses_at b s {ts = ts} {c = c} e h = subst (λ a. Accesses ts a b s) (sym e.0) (subst (λ ts. Accesses ts c b s) (sym e.1) h)

items_at : (c : TokenKind) (es : BareExprs) (s : List Lexeme) {ts us : List Lexeme} → ts ≡ us → Items c us es s → Items c ts es s
items_at c es s e h = subst (λ ts. Items c ts es s) (sym e) h

fields_at : (ps : List (Text × BareExpr)) (s : List Lexeme) {ts us : List Lexeme} → ts ≡ us → Fields us ps s → Fields ts ps s
fields_at ps s e h = subst (λ ts. Fields ts ps s) (sym e) h

text_at : (u : Text) {w v : List ℕ} → w ≡ v → IsTextOf v u → IsTextOf w u
text_at u e h = subst (λ w. IsTextOf w u) (sym e) h

-- ---- paths and keys

-- a path is there, so no end of one
ids_begin : {ts rest : List Lexeme} {t : Text} (c : List ℕ) → ArePathIds ts t rest → ends_path (lexeme kinds.Colons c ∷ ts) ≡ false
ids_begin c last_id = refl
ids_begin c (in_namespace p) = refl

ids_once : {ts r s : List Lexeme} {t u : Text} → ArePathIds ts t r → ArePathIds ts u s → ends_path r ≡ true → ends_path s ≡ true → Same t u r s
ids_once last_id last_id h k = (refl, refl)
ids_once last_id (in_namespace {c = c} p) h k = absurd (false≢true (sym (ids_begin c p) ∙ h))
ids_once (in_namespace {c = c} p) last_id h k = absurd (false≢true (sym (ids_begin c p) ∙ k))
ids_once (in_namespace {w = w} p) (in_namespace q) h k = let e = ids_once p q h k in (ap (λ t. w ++ (codes "::" ++ t)) e.0, e.1)

-- ---- single tokens

abbrev variable_at : List ℕ → Variable
variable_at t = if length t == 9 then vars.Principal else (if length t == 6 then vars.Action else (if length t == 8 then vars.Resource else vars.Context))

variable_text : (v : Variable) → variable_at (var_text v) ≡ v
variable_text vars.Principal = refl
variable_text vars.Action = refl
variable_text vars.Resource = refl
variable_text vars.Context = refl

one_variable : (v u : Variable) (w : List ℕ) → w ≡ var_text v → w ≡ var_text u → v ≡ u
one_variable v u w h k = sym (variable_text v) ∙ (ap variable_at (sym h ∙ k) ∙ variable_text u)

abbrev slot_at : List ℕ → SlotId
slot_at t = if length t == 10 then slots.Principal else slots.Resource

slot_is : (v : SlotId) → slot_at (slot_text v) ≡ v
slot_is slots.Principal = refl
slot_is slots.Resource = refl

one_slot : (v u : SlotId) (w : List ℕ) → w ≡ slot_text v → w ≡ slot_text u → v ≡ u
one_slot v u w h k = sym (slot_is v) ∙ (ap slot_at (sym h ∙ k) ∙ slot_is u)

-- ---- trees of equal parts

one_part : {A B : Type 0} (f : A → B) {a b : A} → a ≡ b → f a ≡ f b
one_part f e = ap f e

two_parts : {A B C : Type 0} (f : A → B → C) {a c : A} {b d : B} → a ≡ c → b ≡ d → f a b ≡ f c d
two_parts f {c = c} {b = b} e g = ap (λ x. f x b) e ∙ ap (f c) g

three_parts : {A B C D : Type 0} (f : A → B → C → D) {a d : A} {b e : B} {c g : C} → a ≡ d → b ≡ e → c ≡ g → f a b c ≡ f d e g
three_parts f {d = d} {b = b} {c = c} x y z = ap (λ u. f u b c) x ∙ two_parts (f d) y z

some_one : {A : Type 0} {a b : A} → Some a ≡ Some b → a ≡ b
some_one {a = a} e = ap (λ o. unwrap_or o a) e

abbrev is_comma : TokenKind → Bool
is_comma kinds.Comma = true
is_comma k = false

abbrev begins_comma : List Lexeme → Bool
begins_comma [] = false
begins_comma (lexeme k w ∷ ts) = is_comma k

-- a bracket that ends items: it begins no expression, goes on with none, and is no comma
record Closes (c : TokenKind) : Type 0 where
  ends : goes_on precedences.Conditional c ≡ false
  opens_none : opens precedences.Conditional c ≡ false
  no_comma : is_comma c ≡ false

round_closes : Closes kinds.CloseRound
round_closes = record { ends = refl; opens_none = refl; no_comma = refl }

square_closes : Closes kinds.CloseSquare
square_closes = record { ends = refl; opens_none = refl; no_comma = refl }

no_key_closes : {w : List ℕ} {k : Text} → IsKey (lexeme kinds.CloseCurly w) k → ⊥
no_key_closes h = elim h [ ]

-- nothing but the end of a member begins with a round bracket
no_round_access : {o : List ℕ} {ts rest : List Lexeme} {a e : BareExpr} → Accesses (lexeme kinds.OpenRound o ∷ ts) a e rest
    → Stops precedences.Member rest → ⊥
no_round_access no_access h = true≢false h

no_digits_minuses : {n : ℕ} {d : List ℕ} {ts rest : List Lexeme} {e : BareExpr} → Minuses n (lexeme kinds.Digits d ∷ ts) e rest → ⊥
no_digits_minuses h = elim h [ ]

path_ends_after : (ts : List Lexeme) → Stops precedences.Relation ts → ends_path ts ≡ true
path_ends_after ts h =
    path_ends ts (stops_member ts (stops_tighter precedences.Product ts (stops_tighter precedences.Sum ts (stops_tighter precedences.Relation ts h))))

abbrev is_in_kind : TokenKind → Bool
is_in_kind kinds.In = true
is_in_kind k = false

abbrev begins_in : List Lexeme → Bool
begins_in [] = false
begins_in (lexeme k w ∷ ts) = is_in_kind k

no_in_kind : (k : TokenKind) → goes_on precedences.Relation k ≡ false → is_in_kind k ≡ false
no_in_kind kinds.In h = absurd (true≢false h)
no_in_kind k h = refl

no_in : (ts : List Lexeme) → Stops precedences.Relation ts → begins_in ts ≡ false
no_in [] h = refl
no_in (lexeme k w ∷ ts) h = no_in_kind k h

abbrev begins_round : List Lexeme → Bool
begins_round [] = false
begins_round (lexeme kinds.OpenRound w ∷ ts) = true
begins_round (lexeme k w ∷ ts) = false

abbrev word_of : Lexeme → List ℕ
word_of (lexeme k w) = w

abbrev second_word : List Lexeme → List ℕ
second_word [] = []
second_word (t ∷ []) = []
second_word (t ∷ u ∷ ts) = word_of u

-- a variable is no path behind which more stands
no_ids_on : {w : List ℕ} {ts r : List Lexeme} {t : Text} (k : TokenKind) (v : List ℕ) → on_primary k ≡ true
    → ArePathIds (lexeme kinds.Word w ∷ ts) t (lexeme k v ∷ r) → EndsPrimary ts → ⊥
no_ids_on k v f last_id h = true≢false (sym f ∙ h)
no_ids_on k v f (in_namespace p) h = true≢false h

-- ---- where a text between quotes stands for one text, and a pattern for one pattern
module _ (one_text : (w : List ℕ) (t u : Text) → IsTextOf w t → IsTextOf w u → t ≡ u)
    (one_pattern : (w : List ℕ) (p q : List PatternElem) → IsPatternOf w p → IsPatternOf w q → p ≡ q)
    (one_name : (t : Text) (m n : BareName) → IsNameOf t m → IsNameOf t n → m ≡ n) where
  path_once : {ts r s : List Lexeme} {n m : BareName} → IsPath ts n r → IsPath ts m s → ends_path r ≡ true → ends_path s ≡ true → Same n m r s
  path_once {n = n} {m = m} p q h k =
      let e = ids_once p.ids q.ids h k in (one_name p.path n m p.name (subst (λ t. IsNameOf t m) (sym e.0) q.name), e.1)

  key_once : {l : Lexeme} {k m : Text} → IsKey l k → IsKey l m → k ≡ m
  key_once id_key id_key = refl
  key_once (text_key h) (text_key g) = one_text _ _ _ h g

  keys_once : {ts r s : List Lexeme} {k m : Text} {ks ms : List Text} → AreKeys ts k ks r → AreKeys ts m ms s → Stops precedences.Relation r
      → Stops precedences.Relation s → (k ≡ m) × (ks ≡ ms) × (r ≡ s)
  keys_once (last_key h) (last_key g) a b = (key_once h g, refl, refl)
  keys_once (last_key h) (first_key g p) a b = absurd (true≢false a)
  keys_once (first_key h p) (last_key g) a b = absurd (true≢false b)
  keys_once (first_key h p) (first_key g q) a b = let e = keys_once p q a b in (key_once h g, two_parts ◌∷◌ e.0 e.1, e.2)

  mutual
    pub reads_once : {l : Precedence} {ts r s : List Lexeme} {a b : BareExpr} → Reads l ts a r → Reads l ts b s → Stops l r → Stops l s → Same a b r s
    reads_once (conditional p q x) (conditional p2 q2 x2) h k =
        let e = reads_once p p2 refl refl in
        let f = reads_once q (read_at precedences.Conditional _ _ (ap behind e.1) q2) refl refl in
        let g = reads_once x (read_at precedences.Conditional _ _ (ap behind f.1) x2) h k in
        (three_parts If e.0 f.0 g.0, g.1)
    reads_once (conditional p q x) (no_conditional p2) h k = absurd (false≢true (begins p2))
    reads_once (no_conditional p) (conditional p2 q2 x2) h k = absurd (false≢true (begins p))
    reads_once (no_conditional p) (no_conditional p2) h k = reads_once p p2 (stops_or _ h) (stops_or _ k)
    reads_once (disjunction p g) (disjunction p2 g2) h k =
        let e = reads_once p p2 (operand_ends g h) (operand_ends g2 k) in goes_once g (goes_at precedences.Or _ _ e g2) h k
    reads_once (conjunction p g) (conjunction p2 g2) h k =
        let e = reads_once p p2 (operand_ends g h) (operand_ends g2 k) in goes_once g (goes_at precedences.And _ _ e g2) h k
    reads_once (relation p g) (relation p2 g2) h k =
        let e = reads_once p p2 (sum_ends g h) (sum_ends g2 k) in tests_once g (tests_at _ _ e g2) h k
    reads_once (sum p g) (sum p2 g2) h k =
        let e = reads_once p p2 (operand_ends g h) (operand_ends g2 k) in goes_once g (goes_at precedences.Sum _ _ e g2) h k
    reads_once (product p g) (product p2 g2) h k =
        let e = reads_once p p2 (operand_ends g h) (operand_ends g2 k) in goes_once g (goes_at precedences.Product _ _ e g2) h k
    reads_once (no_sign p) (no_sign p2) h k = reads_once p p2 (stops_member _ h) (stops_member _ k)
    reads_once (no_sign p) (nots m2 p2) h k = absurd (apart is_not opens_member not_member _ (nots_begin p2) (begins p))
    reads_once (no_sign p) (minuses m2 p2) h k = absurd (apart is_minus opens_member minus_member _ (minuses_begin p2) (begins p))
    reads_once (nots m p) (no_sign p2) h k = absurd (apart is_not opens_member not_member _ (nots_begin p) (begins p2))
    reads_once (nots m p) (nots m2 p2) h k = nots_once p p2 (stops_member _ h) (stops_member _ k)
    reads_once (nots m p) (minuses m2 p2) h k = absurd (apart is_not is_minus not_minus _ (nots_begin p) (minuses_begin p2))
    reads_once (minuses m p) (no_sign p2) h k = absurd (apart is_minus opens_member minus_member _ (minuses_begin p) (begins p2))
    reads_once (minuses m p) (nots m2 p2) h k = absurd (apart is_not is_minus not_minus _ (nots_begin p2) (minuses_begin p))
    reads_once (minuses m p) (minuses m2 p2) h k = minuses_once p p2 (stops_member _ h) (stops_member _ k)
    reads_once (member p g) (member p2 g2) h k =
        let e = primary_once p p2 (primary_ends g h) (primary_ends g2 k) in accesses_once g (accesses_at _ _ e g2) h k

    goes_once : {l : Precedence} {ts r s : List Lexeme} {a e f : BareExpr} → GoesOn l ts a e r → GoesOn l ts a f s → Stops l r → Stops l s → Same e f r s
    goes_once no_operator no_operator h k = (refl, refl)
    goes_once no_operator (or p g) h k = absurd (true≢false h)
    goes_once no_operator (and p g) h k = absurd (true≢false h)
    goes_once no_operator (plus p g) h k = absurd (true≢false h)
    goes_once no_operator (minus p g) h k = absurd (true≢false h)
    goes_once no_operator (times p g) h k = absurd (true≢false h)
    goes_once (or p g) no_operator h k = absurd (true≢false k)
    goes_once (and p g) no_operator h k = absurd (true≢false k)
    goes_once (plus p g) no_operator h k = absurd (true≢false k)
    goes_once (minus p g) no_operator h k = absurd (true≢false k)
    goes_once (times p g) no_operator h k = absurd (true≢false k)
    goes_once (or {a = a} p g) (or p2 g2) h k =
        let e = reads_once p p2 (operand_ends g h) (operand_ends g2 k) in
        goes_once g (goes_at precedences.Or _ _ (ap (Or a) e.0, e.1) g2) h k
    goes_once (and {a = a} p g) (and p2 g2) h k =
        let e = reads_once p p2 (operand_ends g h) (operand_ends g2 k) in
        goes_once g (goes_at precedences.And _ _ (ap (And a) e.0, e.1) g2) h k
    goes_once (plus {a = a} p g) (plus p2 g2) h k =
        let e = reads_once p p2 (operand_ends g h) (operand_ends g2 k) in
        goes_once g (goes_at precedences.Sum _ _ (ap (BinaryApp Binary.Add a) e.0, e.1) g2) h k
    goes_once (minus {a = a} p g) (minus p2 g2) h k =
        let e = reads_once p p2 (operand_ends g h) (operand_ends g2 k) in
        goes_once g (goes_at precedences.Sum _ _ (ap (BinaryApp Binary.Sub a) e.0, e.1) g2) h k
    goes_once (times {a = a} p g) (times p2 g2) h k =
        let e = reads_once p p2 (operand_ends g h) (operand_ends g2 k) in
        goes_once g (goes_at precedences.Product _ _ (ap (BinaryApp Binary.Mul a) e.0, e.1) g2) h k

    tests_once : {ts r s : List Lexeme} {a e f : BareExpr} → Tests ts a e r → Tests ts a f s → Stops precedences.Relation r → Stops precedences.Relation s → Same e f r s
    tests_once no_test no_test h k = (refl, refl)
    tests_once no_test (equal p) h k = absurd (true≢false h)
    tests_once no_test (not_equal p) h k = absurd (true≢false h)
    tests_once no_test (less p) h k = absurd (true≢false h)
    tests_once no_test (less_equal p) h k = absurd (true≢false h)
    tests_once no_test (greater p) h k = absurd (true≢false h)
    tests_once no_test (greater_equal p) h k = absurd (true≢false h)
    tests_once no_test (is_in p) h k = absurd (true≢false h)
    tests_once no_test (has p) h k = absurd (true≢false h)
    tests_once no_test (like p) h k = absurd (true≢false h)
    tests_once no_test (is p) h k = absurd (true≢false h)
    tests_once no_test (is_of_in p q) h k = absurd (true≢false h)
    tests_once (equal p) no_test h k = absurd (true≢false k)
    tests_once (not_equal p) no_test h k = absurd (true≢false k)
    tests_once (less p) no_test h k = absurd (true≢false k)
    tests_once (less_equal p) no_test h k = absurd (true≢false k)
    tests_once (greater p) no_test h k = absurd (true≢false k)
    tests_once (greater_equal p) no_test h k = absurd (true≢false k)
    tests_once (is_in p) no_test h k = absurd (true≢false k)
    tests_once (has p) no_test h k = absurd (true≢false k)
    tests_once (like p) no_test h k = absurd (true≢false k)
    tests_once (is p) no_test h k = absurd (true≢false k)
    tests_once (is_of_in p q) no_test h k = absurd (true≢false k)
    tests_once (equal {a = a} p) (equal p2) h k =
        let e = reads_once p p2 (stops_tighter precedences.Relation _ h) (stops_tighter precedences.Relation _ k) in (ap (BinaryApp Binary.Eq a) e.0, e.1)
    tests_once (not_equal {a = a} p) (not_equal p2) h k =
        let e = reads_once p p2 (stops_tighter precedences.Relation _ h) (stops_tighter precedences.Relation _ k) in (ap (λ b. UnaryApp Unary.Not (BinaryApp Binary.Eq a b)) e.0, e.1)
    tests_once (less {a = a} p) (less p2) h k =
        let e = reads_once p p2 (stops_tighter precedences.Relation _ h) (stops_tighter precedences.Relation _ k) in (ap (BinaryApp Binary.Less a) e.0, e.1)
    tests_once (less_equal {a = a} p) (less_equal p2) h k =
        let e = reads_once p p2 (stops_tighter precedences.Relation _ h) (stops_tighter precedences.Relation _ k) in (ap (BinaryApp Binary.LessEq a) e.0, e.1)
    tests_once (greater {a = a} p) (greater p2) h k =
        let e = reads_once p p2 (stops_tighter precedences.Relation _ h) (stops_tighter precedences.Relation _ k) in (ap (λ b. UnaryApp Unary.Not (BinaryApp Binary.LessEq a b)) e.0, e.1)
    tests_once (greater_equal {a = a} p) (greater_equal p2) h k =
        let e = reads_once p p2 (stops_tighter precedences.Relation _ h) (stops_tighter precedences.Relation _ k) in (ap (λ b. UnaryApp Unary.Not (BinaryApp Binary.Less a b)) e.0, e.1)
    tests_once (is_in {a = a} p) (is_in p2) h k =
        let e = reads_once p p2 (stops_tighter precedences.Relation _ h) (stops_tighter precedences.Relation _ k) in (ap (BinaryApp Binary.In a) e.0, e.1)
    tests_once (has {a = a} p) (has p2) h k = let e = keys_once p p2 h k in (two_parts (HasAttr a) e.0 e.1, e.2)
    tests_once (like {a = a} p) (like p2) h k = (ap (Like a) (one_pattern _ _ _ p p2), refl)
    tests_once (is {a = a} p) (is p2) h k = let e = path_once p p2 (path_ends_after _ h) (path_ends_after _ k) in (ap (Is a) e.0, e.1)
    tests_once (is {a = a} p) (is_of_in p2 q) h k =
        absurd (true≢false (ap begins_in (sym (path_once p p2 (path_ends_after _ h) refl).1) ∙ no_in _ h))
    tests_once (is_of_in p q) (is p2) h k =
        absurd (true≢false (ap begins_in (path_once p p2 refl (path_ends_after _ k)).1 ∙ no_in _ k))
    tests_once (is_of_in {a = a} p q) (is_of_in p2 q2) h k =
        let e = path_once p p2 refl refl in
        let f = reads_once q (read_at precedences.Sum _ _ (ap behind e.1) q2) (stops_tighter precedences.Relation _ h) (stops_tighter precedences.Relation _ k) in
        (two_parts (λ n b. And (Is a n) (BinaryApp Binary.In a b)) e.0 f.0, f.1)

    nots_once : {n m : ℕ} {ts r s : List Lexeme} {a b : BareExpr} → Nots n ts a r → Nots m ts b s → Stops precedences.Member r → Stops precedences.Member s → Same a b r s
    nots_once (last_not p) (last_not p2) h k = let e = reads_once p p2 h k in (ap (UnaryApp Unary.Not) e.0, e.1)
    nots_once (last_not p) (more_nots p2) h k = absurd (apart is_not opens_member not_member _ (nots_begin p2) (begins p))
    nots_once (more_nots p) (last_not p2) h k = absurd (apart is_not opens_member not_member _ (nots_begin p) (begins p2))
    nots_once (more_nots p) (more_nots p2) h k = let e = nots_once p p2 h k in (ap (UnaryApp Unary.Not) e.0, e.1)

    minuses_once : {n m : ℕ} {ts r s : List Lexeme} {a b : BareExpr} → Minuses n ts a r → Minuses m ts b s → Stops precedences.Member r → Stops precedences.Member s → Same a b r s
    minuses_once (last_minus d p) (last_minus d2 p2) h k = let e = reads_once p p2 h k in (ap (UnaryApp Unary.Neg) e.0, e.1)
    minuses_once (last_minus d p) (negative {d = x} {rest = y} f) h k = absurd (true≢false (sym (number_alone x y k) ∙ d))
    minuses_once (last_minus d p) (more_minuses p2) h k = absurd (apart is_minus opens_member minus_member _ (minuses_begin p2) (begins p))
    minuses_once (negative {d = x} {rest = y} f) (last_minus d p) h k = absurd (true≢false (sym (number_alone x y h) ∙ d))
    minuses_once (negative f) (negative g) h k = (refl, refl)
    minuses_once (negative f) (more_minuses p2) h k = absurd (no_digits_minuses p2)
    minuses_once (more_minuses p) (last_minus d2 p2) h k = absurd (apart is_minus opens_member minus_member _ (minuses_begin p) (begins p2))
    minuses_once (more_minuses p) (negative g) h k = absurd (no_digits_minuses p)
    minuses_once (more_minuses p) (more_minuses p2) h k = let e = minuses_once p p2 h k in (ap (UnaryApp Unary.Neg) e.0, e.1)

    accesses_once : {ts r s : List Lexeme} {a e f : BareExpr} → Accesses ts a e r → Accesses ts a f s → Stops precedences.Member r → Stops precedences.Member s → Same e f r s
    accesses_once no_access no_access h k = (refl, refl)
    accesses_once no_access (attribute g) h k = absurd (true≢false h)
    accesses_once no_access (index t g) h k = absurd (true≢false h)
    accesses_once no_access (method n i w t g) h k = absurd (true≢false h)
    accesses_once (attribute g) no_access h k = absurd (true≢false k)
    accesses_once (index t g) no_access h k = absurd (true≢false k)
    accesses_once (method n i w t g) no_access h k = absurd (true≢false k)
    accesses_once (attribute g) (attribute g2) h k = accesses_once g g2 h k
    accesses_once (attribute g) (method n i w t g2) h k = absurd (no_round_access g h)
    accesses_once (method n i w t g) (attribute g2) h k = absurd (no_round_access g2 k)
    accesses_once (index {a = a} t g) (index t2 g2) h k =
        accesses_once g (accesses_at _ _ (ap (GetAttr a) (one_text _ _ _ t t2), refl) g2) h k
    accesses_once (method {m = m} {a = a} x i w t g) (method y i2 w2 t2 g2) h k =
        let e = items_once round_closes round_closes i i2 in
        let f : x ≡ y = one_name m x y w w2 in
        accesses_once g (accesses_at _ _ (some_one (sym t ∙ (two_parts (λ n es. method_tree m n a es) f e.0 ∙ t2)), e.1) g2) h k

    primary_once : {ts r s : List Lexeme} {a b : BareExpr} → Primary ts a r → Primary ts b s → EndsPrimary r → EndsPrimary s → Same a b r s
    primary_once yes yes h k = (refl, refl)
    primary_once no no h k = (refl, refl)
    primary_once (number d) (number d2) h k = (refl, refl)
    primary_once (text t) (text t2) h k = (ap (λ x. Lit (StringLit x)) (one_text _ _ _ t t2), refl)
    primary_once (slot e) (slot e2) h k = (ap Slot (one_slot _ _ _ e e2), refl)
    primary_once (variable e) (variable e2) h k = (ap Var (one_variable _ _ _ e e2), refl)
    primary_once (variable e) (entity p t) h k = absurd (no_ids_on kinds.Colons _ refl p.ids h)
    primary_once (variable e) (function p i) h k = absurd (no_ids_on kinds.OpenRound _ refl p.ids h)
    primary_once (entity p t) (variable e) h k = absurd (no_ids_on kinds.Colons _ refl p.ids k)
    primary_once (function p i) (variable e) h k = absurd (no_ids_on kinds.OpenRound _ refl p.ids k)
    primary_once (entity p t) (entity p2 t2) h k =
        let e = path_once p p2 refl refl in
        let f = one_text _ _ _ t (text_at _ (ap second_word e.1) t2) in
        (two_parts (λ n x. Lit (EntityLit (record { entity_type = n; eid = x }))) e.0 f, ap behind (ap behind e.1))
    primary_once (entity p t) (function p2 i) h k = absurd (false≢true (ap begins_round (path_once p p2 refl refl).1))
    primary_once (function p i) (entity p2 t2) h k = absurd (true≢false (ap begins_round (path_once p p2 refl refl).1))
    primary_once (function p i) (function p2 i2) h k =
        let e = path_once p p2 refl refl in
        let f = items_once round_closes round_closes i (items_at kinds.CloseRound _ _ (ap behind e.1) i2) in
        (two_parts function_tree e.0 f.0, f.1)
    primary_once (brackets p) (brackets p2) h k = let e = reads_once p p2 refl refl in (e.0, ap behind e.1)
    primary_once (set i) (set i2) h k = let e = items_once square_closes square_closes i i2 in (ap Set e.0, e.1)
    primary_once (record_of f d) (record_of f2 d2) h k = let e = fields_once f f2 in (ap (λ ps. Record (fields_of (in_key_order ps))) e.0, e.1)

    items_once : {c d : TokenKind} → Closes c → Closes d → {ts r s : List Lexeme} {es fs : BareExprs} → Items c ts es r → Items d ts fs s → Same es fs r s
    items_once x y no_items no_items = (refl, refl)
    items_once x y no_items (last_item p) = absurd (true≢false (sym (begins p) ∙ x.opens_none))
    items_once x y no_items (item p i) = absurd (true≢false (sym (begins p) ∙ x.opens_none))
    items_once x y (last_item p) no_items = absurd (true≢false (sym (begins p) ∙ y.opens_none))
    items_once x y (item p i) no_items = absurd (true≢false (sym (begins p) ∙ y.opens_none))
    items_once x y (last_item p) (last_item p2) =
        let e = reads_once p p2 x.ends y.ends in (ap (λ a. tree a no_trees) e.0, ap behind e.1)
    items_once x y (last_item p) (item p2 i2) =
        absurd (false≢true (sym x.no_comma ∙ ap begins_comma (reads_once p p2 x.ends refl).1))
    items_once x y (item p i) (last_item p2) =
        absurd (true≢false (ap begins_comma (reads_once p p2 refl y.ends).1 ∙ y.no_comma))
    items_once x y (item p i) (item p2 i2) =
        let e = reads_once p p2 refl refl in
        let f = items_once x y i (items_at _ _ _ (ap behind e.1) i2) in
        (two_parts tree e.0 f.0, f.1)

    fields_once : {ts r s : List Lexeme} {ps qs : List (Text × BareExpr)} → Fields ts ps r → Fields ts qs s → Same ps qs r s
    fields_once no_fields no_fields = (refl, refl)
    fields_once no_fields (last_field h p) = absurd (no_key_closes h)
    fields_once no_fields (field h p f) = absurd (no_key_closes h)
    fields_once (last_field h p) no_fields = absurd (no_key_closes h)
    fields_once (field h p f) no_fields = absurd (no_key_closes h)
    fields_once (last_field h p) (last_field h2 p2) =
        let e = reads_once p p2 refl refl in (two_parts (λ k a. (k, a) ∷ []) (key_once h h2) e.0, ap behind e.1)
    fields_once (last_field h p) (field h2 p2 f2) = absurd (false≢true (ap begins_comma (reads_once p p2 refl refl).1))
    fields_once (field h p f) (last_field h2 p2) = absurd (true≢false (ap begins_comma (reads_once p p2 refl refl).1))
    fields_once (field h p f) (field h2 p2 f2) =
        let e = reads_once p p2 refl refl in
        let g = fields_once f (fields_at _ _ (ap behind e.1) f2) in
        (three_parts (λ k a ps. (k, a) ∷ ps) (key_once h h2) e.0 g.0, g.1)

  pub stands_once : (ts : List Lexeme) (a b : BareExpr) → Stands ts a → Stands ts b → a ≡ b
  stands_once ts a b h k = (reads_once h k tt tt).0
