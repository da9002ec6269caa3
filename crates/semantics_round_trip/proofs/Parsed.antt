-- What tokens stand for can be written, but for calls and patterns. Each function also says that what is left are tokens.
use Rattle.std.proofs.Common.{◌≡◌, ℕ, List, ◌∷◌, IsUtf8}
use Rattle.std.specs.List.{AllByRecursion}
use Rattle.cedar_names.specs.Names.{BareName, IsNameOfIds, name_text}
use Rattle.cedar_terms.specs.declared.precedence.Precedence.{Precedence}
use Rattle.cedar_builders.specs.BareExpr.{Text, BareExpr, BareExprs}
use Rattle.cedar_lexer.specs.declared.token.TokenKind.{TokenKind}
use Rattle.semantics_grammar.specs.Lexemes.{Lexeme}
use Rattle.semantics_grammar.specs.Written.{AreKeys, last_key, first_key, IsKey, id_key, text_key}
use Rattle.semantics_grammar.specs.Grammar.{Reads, conditional, no_conditional, disjunction, conjunction, relation, sum, product, no_sign, nots, minuses, member, GoesOn, no_operator, or, and, plus, minus, times, Tests, no_test, equal, not_equal, less, less_equal, greater, greater_equal, is_in, has, like, is, is_of_in, Nots, last_not, more_nots, Minuses, last_minus, negative, more_minuses, Accesses, no_access, attribute, index, method, Primary, yes, no, number, text, slot, variable, entity, function, brackets, set, record_of, Items, no_items, last_item, item, Fields, no_fields, last_field, field}
use Rattle.semantics_round_trip.specs.Parsed.{AreTokenTexts as T}
use Rattle.semantics_round_trip.proofs.Numbers.{negative_said, number_said}
use Rattle.semantics_round_trip.proofs.Records.{AllHold}
use Rattle.semantics_round_trip.proofs.Said.{AreSaid, IsSaid, function_said, method_said, record_said}
use Rattle.semantics_round_trip.proofs.Texts.{text_said}
use Rattle.semantics_round_trip.proofs.Words.{path_said, word_said}

key_said : {l : Lexeme} {k : Text} → IsKey l k → (ts : List Lexeme) → T (l ∷ ts) → IsUtf8 k × T ts
key_said id_key ts h = (h.1, h.2)
key_said (text_key t) ts h = (text_said t h.1, h.2)

keys_said : {ts rest : List Lexeme} {k : Text} {ks : List Text} → AreKeys ts k ks rest → T ts → IsUtf8 k × AllByRecursion IsUtf8 ks × T rest
keys_said (last_key i) h = let x = key_said i _ h in (x.0, tt, x.1)
keys_said (first_key i p) h = let x = key_said i _ h in let y = keys_said p x.1.2 in (x.0, (y.0, y.1), y.2)

module _ (one : (m n : BareName) → IsNameOfIds m → IsNameOfIds n → name_text m ≡ name_text n → m ≡ n) where
  mutual
    pub reads_said : {l : Precedence} {ts rest : List Lexeme} {e : BareExpr} → Reads l ts e rest → T ts → IsSaid e × T rest
    reads_said (conditional p q r) h =
        let a = reads_said p h.2 in let b = reads_said q a.1.2 in let c = reads_said r b.1.2 in ((a.0, b.0, c.0), c.1)
    reads_said (no_conditional p) h = reads_said p h
    reads_said (disjunction p g) h = let a = reads_said p h in goes_said g a.0 a.1
    reads_said (conjunction p g) h = let a = reads_said p h in goes_said g a.0 a.1
    reads_said (relation p g) h = let a = reads_said p h in tests_said g a.0 a.1
    reads_said (sum p g) h = let a = reads_said p h in goes_said g a.0 a.1
    reads_said (product p g) h = let a = reads_said p h in goes_said g a.0 a.1
    reads_said (no_sign p) h = reads_said p h
    reads_said (nots m p) h = nots_said p h
    reads_said (minuses m p) h = minuses_said p h
    reads_said (member p g) h = let a = primary_said p h in accesses_said g a.0 a.1

    goes_said : {l : Precedence} {ts rest : List Lexeme} {a e : BareExpr} → GoesOn l ts a e rest → IsSaid a → T ts → IsSaid e × T rest
    goes_said no_operator s h = (s, h)
    goes_said (or p g) s h = let b = reads_said p h.2 in goes_said g (s, b.0) b.1
    goes_said (and p g) s h = let b = reads_said p h.2 in goes_said g (s, b.0) b.1
    goes_said (plus p g) s h = let b = reads_said p h.2 in goes_said g (s, b.0) b.1
    goes_said (minus p g) s h = let b = reads_said p h.2 in goes_said g (s, b.0) b.1
    goes_said (times p g) s h = let b = reads_said p h.2 in goes_said g (s, b.0) b.1

    tests_said : {ts rest : List Lexeme} {a e : BareExpr} → Tests ts a e rest → IsSaid a → T ts → IsSaid e × T rest
    tests_said no_test s h = (s, h)
    tests_said (equal p) s h = let b = reads_said p h.2 in ((s, b.0), b.1)
    tests_said (not_equal p) s h = let b = reads_said p h.2 in ((s, b.0), b.1)
    tests_said (less p) s h = let b = reads_said p h.2 in ((s, b.0), b.1)
    tests_said (less_equal p) s h = let b = reads_said p h.2 in ((s, b.0), b.1)
    tests_said (greater p) s h = let b = reads_said p h.2 in ((s, b.0), b.1)
    tests_said (greater_equal p) s h = let b = reads_said p h.2 in ((s, b.0), b.1)
    tests_said (is_in p) s h = let b = reads_said p h.2 in ((s, b.0), b.1)
    tests_said (has k) s h = let b = keys_said k h.2 in ((s, b.0, b.1), b.2)
    tests_said (like p) s h = (s, h.2.2)
    tests_said (is p) s h = let n = path_said one p h.2 in ((s, n.0), n.1)
    tests_said (is_of_in p q) s h =
        let n = path_said one p h.2 in let b = reads_said q n.1.2 in (((s, n.0), (s, b.0)), b.1)

    nots_said : {n : ℕ} {ts rest : List Lexeme} {a : BareExpr} → Nots n ts a rest → T ts → IsSaid a × T rest
    nots_said (last_not p) h = reads_said p h.2
    nots_said (more_nots p) h = nots_said p h.2

    minuses_said : {n : ℕ} {ts rest : List Lexeme} {a : BareExpr} → Minuses n ts a rest → T ts → IsSaid a × T rest
    minuses_said (last_minus e p) h = reads_said p h.2
    minuses_said (negative {d = d} b) h = (negative_said d b, h.2.2)
    minuses_said (more_minuses p) h = minuses_said p h.2

    accesses_said : {ts rest : List Lexeme} {a e : BareExpr} → Accesses ts a e rest → IsSaid a → T ts → IsSaid e × T rest
    accesses_said no_access s h = (s, h)
    accesses_said (attribute g) s h = accesses_said g (s, h.2.1) h.2.2
    accesses_said (index t g) s h = accesses_said g (s, text_said t h.2.1) h.2.2.2
    accesses_said (method {m = m} {a = a} {b = b} {es = es} n i w gives g) s h =
        let x = items_said i h.2.2.2 in
        accesses_said g (method_said m n a es (word_said one m n h.2.0 w) s x.0 b gives) x.1

    primary_said : {ts rest : List Lexeme} {e : BareExpr} → Primary ts e rest → T ts → IsSaid e × T rest
    primary_said yes h = (tt, h.2)
    primary_said no h = (tt, h.2)
    primary_said (number {d = d} b) h = (number_said d h.0 b, h.2)
    primary_said (text t) h = (text_said t h.1, h.2)
    primary_said (slot e) h = (tt, h.2)
    primary_said (variable e) h = (tt, h.2)
    primary_said (entity p t) h = let n = path_said one p h in ((n.0, text_said t n.1.2.1), n.1.2.2)
    primary_said (function {n = n} {es = es} p i) h =
        let x = path_said one p h in let b = items_said i x.1.2 in (function_said n es x.0 b.0, b.1)
    primary_said (brackets p) h = let a = reads_said p h.2 in (a.0, a.1.2)
    primary_said (set i) h = items_said i h.2
    primary_said (record_of {ps = ps} f d) h = let b = fields_said f h.2 in (record_said ps b.0, b.1)

    items_said : {c : TokenKind} {ts rest : List Lexeme} {es : BareExprs} → Items c ts es rest → T ts → AreSaid es × T rest
    items_said no_items h = (tt, h.2)
    items_said (last_item p) h = let a = reads_said p h in ((a.0, tt), a.1.2)
    items_said (item p i) h = let a = reads_said p h in let b = items_said i a.1.2 in ((a.0, b.0), b.1)

    fields_said : {ts rest : List Lexeme} {ps : List (Text × BareExpr)} → Fields ts ps rest → T ts → AllHold IsUtf8 IsSaid ps × T rest
    fields_said no_fields h = (tt, h.2)
    fields_said (last_field i p) h =
        let x = key_said i _ h in let a = reads_said p x.1.2 in (((x.0, a.0), tt), a.1.2)
    fields_said (field i p f) h =
        let x = key_said i _ h in let a = reads_said p x.1.2 in let b = fields_said f a.1.2 in (((x.0, a.0), b.0), b.1)
