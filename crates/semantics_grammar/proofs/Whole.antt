-- The brackets of an expression are whole pairs.
use Rattle.std.proofs.Common.{◌≡◌, ℕ, Bool, true, false, List, [], ◌∷◌, refl, ap}
use Rattle.cedar_builders.specs.BareExpr.{Text, BareExpr, BareExprs}
use Rattle.cedar_names.specs.Names.{BareName}
use Rattle.cedar_terms.specs.declared.precedence.Precedence.{Precedence}
use Rattle.cedar_lexer.specs.Groups.{Passes, passed, single, pair, closes, ends, opens}
use Rattle.cedar_lexer.specs.declared.token.TokenKind.{TokenKind}
use Rattle.cedar_lexer.specs.declared.token.TokenKind.TheVariants as kinds
use Rattle.semantics_grammar.specs.Lexemes.{Lexeme, lexeme, kind_of, kinds_of_lexemes}
use Rattle.semantics_grammar.specs.Written.{ArePathIds, last_id, in_namespace, IsPath, IsKey, id_key, text_key, AreKeys, last_key, first_key}
use Rattle.semantics_grammar.specs.Grammar.{Reads, conditional, no_conditional, disjunction, conjunction, relation, sum, product, no_sign, nots, minuses, member, GoesOn, no_operator, or, and, plus, minus, times, Tests, no_test, equal, not_equal, less, less_equal, greater, greater_equal, is_in, has, like, is, is_of_in, Nots, last_not, more_nots, Minuses, last_minus, negative, more_minuses, Accesses, no_access, attribute, index, method, Primary, yes, no, number, text, slot, variable, entity, function, brackets, set, record_of, Items, no_items, last_item, item, Fields, no_fields, last_field, field, Stands}

pass_on : {comma : Bool} {ts us rest : List TokenKind} → Passes comma ts us → Passes comma us rest → Passes comma ts rest
pass_on passed q = q
pass_on (single o e p) q = single o e (pass_on p q)
pass_on (pair o p c r) q = pair o p c (pass_on r q)

ends_none : (k : TokenKind) → ends true k ≡ false → ends false k ≡ false
ends_none kinds.Comma h = refl
ends_none k h = h

-- inside brackets commas may stand
loosen : {ts rest : List TokenKind} → Passes true ts rest → Passes false ts rest
loosen passed = passed
loosen (single {k = k} o e p) = single o (ends_none k e) (loosen p)
loosen (pair o p c r) = pair o p c (loosen r)

key_passed : {comma : Bool} {l : Lexeme} {k : Text} {ks rest : List TokenKind} → IsKey l k → Passes comma ks rest → Passes comma (kind_of l ∷ ks) rest
key_passed id_key p = single refl refl p
key_passed (text_key t) p = single refl refl p

ids_passed : {ts rest : List Lexeme} {t : Text} → ArePathIds ts t rest → Passes true (kinds_of_lexemes ts) (kinds_of_lexemes rest)
ids_passed last_id = single refl refl passed
ids_passed (in_namespace h) = single refl refl (single refl refl (ids_passed h))

keys_passed : {ts rest : List Lexeme} {k : Text} {ks : List Text} → AreKeys ts k ks rest → Passes true (kinds_of_lexemes ts) (kinds_of_lexemes rest)
keys_passed (last_key h) = key_passed h passed
keys_passed (first_key h more) = key_passed h (single refl refl (keys_passed more))

mutual
  reads_passed : {l : Precedence} {ts rest : List Lexeme} {e : BareExpr} → Reads l ts e rest → Passes true (kinds_of_lexemes ts) (kinds_of_lexemes rest)
  reads_passed (conditional a b c) =
      single refl refl (pass_on (reads_passed a) (single refl refl (pass_on (reads_passed b) (single refl refl (reads_passed c)))))
  reads_passed (no_conditional a) = reads_passed a
  reads_passed (disjunction a g) = pass_on (reads_passed a) (goes_passed g)
  reads_passed (conjunction a g) = pass_on (reads_passed a) (goes_passed g)
  reads_passed (relation a t) = pass_on (reads_passed a) (tests_passed t)
  reads_passed (sum a g) = pass_on (reads_passed a) (goes_passed g)
  reads_passed (product a g) = pass_on (reads_passed a) (goes_passed g)
  reads_passed (no_sign a) = reads_passed a
  reads_passed (nots n a) = nots_passed a
  reads_passed (minuses n a) = minuses_passed a
  reads_passed (member p a) = pass_on (primary_passed p) (accesses_passed a)

  goes_passed : {l : Precedence} {ts rest : List Lexeme} {a e : BareExpr} → GoesOn l ts a e rest → Passes true (kinds_of_lexemes ts) (kinds_of_lexemes rest)
  goes_passed no_operator = passed
  goes_passed (or r g) = single refl refl (pass_on (reads_passed r) (goes_passed g))
  goes_passed (and r g) = single refl refl (pass_on (reads_passed r) (goes_passed g))
  goes_passed (plus r g) = single refl refl (pass_on (reads_passed r) (goes_passed g))
  goes_passed (minus r g) = single refl refl (pass_on (reads_passed r) (goes_passed g))
  goes_passed (times r g) = single refl refl (pass_on (reads_passed r) (goes_passed g))

  tests_passed : {ts rest : List Lexeme} {a e : BareExpr} → Tests ts a e rest → Passes true (kinds_of_lexemes ts) (kinds_of_lexemes rest)
  tests_passed no_test = passed
  tests_passed (equal r) = single refl refl (reads_passed r)
  tests_passed (not_equal r) = single refl refl (reads_passed r)
  tests_passed (less r) = single refl refl (reads_passed r)
  tests_passed (less_equal r) = single refl refl (reads_passed r)
  tests_passed (greater r) = single refl refl (reads_passed r)
  tests_passed (greater_equal r) = single refl refl (reads_passed r)
  tests_passed (is_in r) = single refl refl (reads_passed r)
  tests_passed (has ks) = single refl refl (keys_passed ks)
  tests_passed (like p) = single refl refl (single refl refl passed)
  tests_passed (is p) = single refl refl (ids_passed p.ids)
  tests_passed (is_of_in p r) = single refl refl (pass_on (ids_passed p.ids) (single refl refl (reads_passed r)))

  nots_passed : {n : ℕ} {ts rest : List Lexeme} {e : BareExpr} → Nots n ts e rest → Passes true (kinds_of_lexemes ts) (kinds_of_lexemes rest)
  nots_passed (last_not r) = single refl refl (reads_passed r)
  nots_passed (more_nots n) = single refl refl (nots_passed n)

  minuses_passed : {n : ℕ} {ts rest : List Lexeme} {e : BareExpr} → Minuses n ts e rest → Passes true (kinds_of_lexemes ts) (kinds_of_lexemes rest)
  minuses_passed (last_minus a r) = single refl refl (reads_passed r)
  minuses_passed (negative b) = single refl refl (single refl refl passed)
  minuses_passed (more_minuses n) = single refl refl (minuses_passed n)

  accesses_passed : {ts rest : List Lexeme} {a e : BareExpr} → Accesses ts a e rest → Passes true (kinds_of_lexemes ts) (kinds_of_lexemes rest)
  accesses_passed no_access = passed
  accesses_passed (attribute a) = single refl refl (single refl refl (accesses_passed a))
  accesses_passed (index t a) = pair refl (single refl refl passed) refl (accesses_passed a)
  accesses_passed (method n items name tree a) =
      single refl refl (single refl refl (pair refl (items_passed items) refl (accesses_passed a)))

  primary_passed : {ts rest : List Lexeme} {e : BareExpr} → Primary ts e rest → Passes true (kinds_of_lexemes ts) (kinds_of_lexemes rest)
  primary_passed yes = single refl refl passed
  primary_passed no = single refl refl passed
  primary_passed (number b) = single refl refl passed
  primary_passed (text t) = single refl refl passed
  primary_passed (slot s) = single refl refl passed
  primary_passed (variable v) = single refl refl passed
  primary_passed (entity p t) = pass_on (ids_passed p.ids) (single refl refl (single refl refl passed))
  primary_passed (function p items) = pass_on (ids_passed p.ids) (pair refl (items_passed items) refl passed)
  primary_passed (brackets r) = pair refl (loosen (reads_passed r)) refl passed
  primary_passed (set items) = pair refl (items_passed items) refl passed
  primary_passed (record_of fields once) = pair refl (fields_passed fields) refl passed

  -- up to the bracket at the end
  items_passed : {c : TokenKind} {ts rest : List Lexeme} {es : BareExprs} → Items c ts es rest → Passes false (kinds_of_lexemes ts) (c ∷ kinds_of_lexemes rest)
  items_passed no_items = passed
  items_passed (last_item r) = loosen (reads_passed r)
  items_passed (item r more) = pass_on (loosen (reads_passed r)) (single refl refl (items_passed more))

  fields_passed : {ts rest : List Lexeme} {ps : List (Text × BareExpr)} → Fields ts ps rest
      → Passes false (kinds_of_lexemes ts) (kinds.CloseCurly ∷ kinds_of_lexemes rest)
  fields_passed no_fields = passed
  fields_passed (last_field key r) = key_passed key (single refl refl (loosen (reads_passed r)))
  fields_passed (field key r more) =
      key_passed key (single refl refl (pass_on (loosen (reads_passed r)) (single refl refl (fields_passed more))))

pub stands_whole : (ts : List Lexeme) (e : BareExpr) → Stands ts e → Passes true (kinds_of_lexemes ts) []
stands_whole ts e h = reads_passed h
