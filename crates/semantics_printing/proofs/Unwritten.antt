-- Trees that no tokens stand for, and the call that is printed as an unknown is.
use Rattle.std.proofs.Common.{◌≡◌, ℕ, Bool, true, false, List, [], ◌∷◌, ◌++◌, Option, Some, None, refl, sym, ◌∙◌, ap, append-nil, codes}
use Rattle.std.specs.Prelude.{if◌then◌else◌, ◌&&◌}
use Rattle.std.specs.Str.{bytes_eq}
use Rattle.std.proofs.lemmas.Option.{none-some, same_Some}
use Rattle.cedar_names.specs.Names.{BareName}
use Rattle.cedar_terms.specs.Escape.{quoted}
use Rattle.cedar_terms.specs.declared.ops.BinaryOp.{BinaryOp}
use Rattle.cedar_terms.specs.declared.precedence.Precedence.{Precedence}
use Rattle.cedar_builders.specs.BareExpr.{Text, BareExpr, Unknown, ExtensionFunctionApp, BareExprs, no_trees, tree}
use Rattle.semantics_grammar.specs.Lexemes.{Lexeme}
use Rattle.semantics_grammar.specs.Written.{binary_or_call, function_tree, is_empty_tree, is_nil, method_op, method_tree, one_argument, only_string, unknown_or}
use Rattle.semantics_grammar.specs.Grammar.{Reads, conditional, no_conditional, disjunction, conjunction, relation, sum, product, no_sign, nots, minuses, member, GoesOn, no_operator, or, and, plus, minus, times, Tests, no_test, equal, not_equal, less, less_equal, greater, greater_equal, is_in, has, like, is, is_of_in, Nots, last_not, more_nots, Minuses, last_minus, negative, more_minuses, Accesses, no_access, attribute, index, method, Primary, yes, no, number, text, slot, variable, entity, function, brackets, set, record_of}
use Rattle.semantics_printing.specs.Writable.{unknown_call}
use Rattle.semantics_printing.proofs.Lexed.{printed}

-- the tree is an unknown with an annotation
abbrev pub is_annotated : BareExpr → Bool
is_annotated (Unknown n (Some t)) = true
is_annotated e = false

-- ---- calls

unknown_plain : (n : BareName) (es : BareExprs) (o : Option Text) → is_annotated (unknown_or (ExtensionFunctionApp n es) o) ≡ false
unknown_plain n es None = refl
unknown_plain n es (Some s) = refl

function_plain : (n : BareName) (es : BareExprs) → is_annotated (function_tree n es) ≡ false
function_plain n es = go (is_nil n.path && bytes_eq n.basename (codes "unknown"))
  where
    go : (c : Bool) → is_annotated (if c then unknown_or (ExtensionFunctionApp n es) (only_string es) else ExtensionFunctionApp n es) ≡ false
    go true = unknown_plain n es (only_string es)
    go false = refl

-- what a method gives is no annotated unknown
abbrev GivesPlain : Option BareExpr → Type 0
GivesPlain o = (b : BareExpr) → o ≡ Some b → is_annotated b ≡ false

plain_some : (a : BareExpr) → is_annotated a ≡ false → GivesPlain (Some a)
plain_some a h b e = ap is_annotated (sym (same_Some a b e)) ∙ h

empty_plain : (a : BareExpr) (es : BareExprs) → GivesPlain (is_empty_tree a es)
empty_plain a no_trees = plain_some _ refl
empty_plain a (tree e es) = λ b e. absurd (none-some b e)

argument_plain : (op : BinaryOp) (a : BareExpr) (es : BareExprs) → GivesPlain (one_argument op a es)
argument_plain op a no_trees = λ b e. absurd (none-some b e)
argument_plain op a (tree e no_trees) = plain_some _ refl
argument_plain op a (tree e (tree f es)) = λ b e. absurd (none-some b e)

other_plain : (o : Option BinaryOp) (n : BareName) (a : BareExpr) (es : BareExprs) → GivesPlain (binary_or_call o n a es)
other_plain None n a es = plain_some _ refl
other_plain (Some op) n a es = argument_plain op a es

method_plain : (m : Text) (n : BareName) (a : BareExpr) (es : BareExprs) → GivesPlain (method_tree m n a es)
method_plain m n a es = go (bytes_eq m (codes "isEmpty"))
  where
    go : (c : Bool) → GivesPlain (if c then is_empty_tree a es else binary_or_call (method_op m) n a es)
    go true = empty_plain a es
    go false = other_plain (method_op m) n a es

-- ---- readings

goes_plain : {l : Precedence} {ts rest : List Lexeme} {a e : BareExpr} → GoesOn l ts a e rest → is_annotated a ≡ false → is_annotated e ≡ false
goes_plain no_operator h = h
goes_plain (or p g) h = goes_plain g refl
goes_plain (and p g) h = goes_plain g refl
goes_plain (plus p g) h = goes_plain g refl
goes_plain (minus p g) h = goes_plain g refl
goes_plain (times p g) h = goes_plain g refl

tests_plain : {ts rest : List Lexeme} {a e : BareExpr} → Tests ts a e rest → is_annotated a ≡ false → is_annotated e ≡ false
tests_plain no_test h = h
tests_plain (equal p) h = refl
tests_plain (not_equal p) h = refl
tests_plain (less p) h = refl
tests_plain (less_equal p) h = refl
tests_plain (greater p) h = refl
tests_plain (greater_equal p) h = refl
tests_plain (is_in p) h = refl
tests_plain (has p) h = refl
tests_plain (like p) h = refl
tests_plain (is p) h = refl
tests_plain (is_of_in p q) h = refl

nots_plain : {n : ℕ} {ts rest : List Lexeme} {e : BareExpr} → Nots n ts e rest → is_annotated e ≡ false
nots_plain (last_not p) = refl
nots_plain (more_nots p) = refl

minuses_plain : {n : ℕ} {ts rest : List Lexeme} {e : BareExpr} → Minuses n ts e rest → is_annotated e ≡ false
minuses_plain (last_minus h p) = refl
minuses_plain (negative h) = refl
minuses_plain (more_minuses p) = refl

accesses_plain : {ts rest : List Lexeme} {a e : BareExpr} → Accesses ts a e rest → is_annotated a ≡ false → is_annotated e ≡ false
accesses_plain no_access h = h
accesses_plain (attribute g) h = accesses_plain g refl
accesses_plain (index t g) h = accesses_plain g refl
accesses_plain (method {m = m} {a = a} {b = b} {es = es} n i w gives g) h = accesses_plain g (method_plain m n a es b gives)

mutual
  pub reads_plain : {l : Precedence} {ts rest : List Lexeme} {e : BareExpr} → Reads l ts e rest → is_annotated e ≡ false
  reads_plain (conditional p q r) = refl
  reads_plain (no_conditional p) = reads_plain p
  reads_plain (disjunction p g) = goes_plain g (reads_plain p)
  reads_plain (conjunction p g) = goes_plain g (reads_plain p)
  reads_plain (relation p g) = tests_plain g (reads_plain p)
  reads_plain (sum p g) = goes_plain g (reads_plain p)
  reads_plain (product p g) = goes_plain g (reads_plain p)
  reads_plain (no_sign p) = reads_plain p
  reads_plain (nots m p) = nots_plain p
  reads_plain (minuses m p) = minuses_plain p
  reads_plain (member p g) = accesses_plain g (primary_plain p)

  primary_plain : {ts rest : List Lexeme} {e : BareExpr} → Primary ts e rest → is_annotated e ≡ false
  primary_plain yes = refl
  primary_plain no = refl
  primary_plain (number h) = refl
  primary_plain (text h) = refl
  primary_plain (slot h) = refl
  primary_plain (variable h) = refl
  primary_plain (entity p h) = refl
  primary_plain (function {n = n} {es = es} p i) = function_plain n es
  primary_plain (brackets p) = reads_plain p
  primary_plain (set i) = refl
  primary_plain (record_of f d) = refl

-- ---- the call that is printed as an unknown is
pub printed_alike : (n : Text) → (printed (unknown_call n)).0 ≡ (printed (Unknown n None)).0
printed_alike n = ap (λ t. codes "unknown(" ++ (t ++ (41 ∷ []))) (append-nil (quoted n))
