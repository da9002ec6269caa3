-- Operators between what they go on with.
use Rattle.std.proofs.Common.{◌≡◌, ◌<◌, ◌≤◌, ℕ, Bool, true, false, List, ◌∷◌, Option, Some, None, ap, subst, arith}
use Rattle.std.specs.Prelude.{unwrap_or}
use Rattle.cedar_terms.specs.declared.ops.BinaryOp.{BinaryOp}
use Rattle.cedar_terms.specs.declared.ops.BinaryOp.TheVariants as Binary
use Rattle.cedar_builders.specs.BareExpr.{BareExpr}
use Rattle.cedar_terms.specs.Precedences.{precedence_number}
use Rattle.cedar_terms.specs.declared.precedence.Precedence.{Precedence}
use Rattle.cedar_terms.specs.declared.precedence.Precedence.TheVariants as precedences
use Rattle.cedar_lexer.specs.declared.token.TokenKind.{TokenKind}
use Rattle.cedar_lexer.specs.declared.token.TokenKind.TheVariants as kinds
use Rattle.semantics_grammar.specs.Lexemes.{Lexeme, lexeme}
use Rattle.semantics_grammar.specs.Grammar.{Reads, disjunction, conjunction, relation, sum, product, GoesOn, no_operator, or, and, plus, minus, times, equal, not_equal, less, less_equal, greater, greater_equal, is_in}
use Rattle.cedar_parser.specs.Waiting.{Operator, either, both, plain, negated, operator_of, operator_precedences, operator_tree}
use Rattle.std.proofs.lemmas.Bool.{false≢true}

-- ---- an operator behind what it goes on with

goes_then : {l : Precedence} {ts mid rest : List Lexeme} {a e f : BareExpr} → GoesOn l ts a e mid → GoesOn l mid e f rest → GoesOn l ts a f rest
goes_then no_operator q = q
goes_then (or p g) q = or p (goes_then g q)
goes_then (and p g) q = and p (goes_then g q)
goes_then (plus p g) q = plus p (goes_then g q)
goes_then (minus p g) q = minus p (goes_then g q)
goes_then (times p g) q = times p (goes_then g q)

or_on : {ts mid rest : List Lexeme} {a e : BareExpr} → Reads precedences.Or ts a mid → GoesOn precedences.Or mid a e rest → Reads precedences.Or ts e rest
or_on (disjunction p g) q = disjunction p (goes_then g q)

and_on : {ts mid rest : List Lexeme} {a e : BareExpr} → Reads precedences.And ts a mid → GoesOn precedences.And mid a e rest → Reads precedences.And ts e rest
and_on (conjunction p g) q = conjunction p (goes_then g q)

sum_on : {ts mid rest : List Lexeme} {a e : BareExpr} → Reads precedences.Sum ts a mid → GoesOn precedences.Sum mid a e rest → Reads precedences.Sum ts e rest
sum_on (sum p g) q = sum p (goes_then g q)

product_on : {ts mid rest : List Lexeme} {a e : BareExpr} → Reads precedences.Product ts a mid → GoesOn precedences.Product mid a e rest → Reads precedences.Product ts e rest
product_on (product p g) q = product p (goes_then g q)

pub some_one : {A : Type 0} {a b : A} → Some a ≡ Some b → a ≡ b
some_one {a = a} e = ap (λ o. unwrap_or o a) e

abbrev is_there : {A : Type 0} → Option A → Bool
is_there None = false
is_there (Some a) = true

pub none_some : {A : Type 0} {a : A} → None ≡ Some a → ⊥
none_some h = false≢true (ap is_there h)

-- what an operator of this token makes of its operands
abbrev pub Applies : TokenKind → Operator → Type 0
Applies k o =
    (w : List ℕ) (ts us rest : List Lexeme) (a b : BareExpr) → Reads (operator_precedences o).1 ts a (lexeme k w ∷ us)
    → Reads (operator_precedences o).2 us b rest → Reads (operator_precedences o).0 ts (operator_tree o a b) rest

applied_at : (k : TokenKind) {o p : Operator} → Some o ≡ Some p → Applies k o → Applies k p
applied_at k e h = subst (Applies k) (some_one e) h

pub applies : (k : TokenKind) (o : Operator) → operator_of k ≡ Some o → Applies k o
applies kinds.OrSign o e = applied_at kinds.OrSign e (λ w ts us rest a b p q. or_on p (or q no_operator))
applies kinds.AndSign o e = applied_at kinds.AndSign e (λ w ts us rest a b p q. and_on p (and q no_operator))
applies kinds.Equal o e = applied_at kinds.Equal e (λ w ts us rest a b p q. relation p (equal q))
applies kinds.NotEqual o e = applied_at kinds.NotEqual e (λ w ts us rest a b p q. relation p (not_equal q))
applies kinds.Less o e = applied_at kinds.Less e (λ w ts us rest a b p q. relation p (less q))
applies kinds.LessEqual o e = applied_at kinds.LessEqual e (λ w ts us rest a b p q. relation p (less_equal q))
applies kinds.Greater o e = applied_at kinds.Greater e (λ w ts us rest a b p q. relation p (greater q))
applies kinds.GreaterEqual o e = applied_at kinds.GreaterEqual e (λ w ts us rest a b p q. relation p (greater_equal q))
applies kinds.In o e = applied_at kinds.In e (λ w ts us rest a b p q. relation p (is_in q))
applies kinds.Plus o e = applied_at kinds.Plus e (λ w ts us rest a b p q. sum_on p (plus q no_operator))
applies kinds.Minus o e = applied_at kinds.Minus e (λ w ts us rest a b p q. sum_on p (minus q no_operator))
applies kinds.Times o e = applied_at kinds.Times e (λ w ts us rest a b p q. product_on p (times q no_operator))
applies k o e = absurd (none_some e)

-- no operator is a member, and its last operand is no tighter than signs
abbrev Small : Operator → Type 0
Small o = precedence_number (operator_precedences o).0 ≤ 5

small_at : (k : TokenKind) {o p : Operator} → Some o ≡ Some p → Small o → Small p
small_at k e h = subst Small (some_one e) h

pub operator_small : (k : TokenKind) (o : Operator) → operator_of k ≡ Some o → precedence_number (operator_precedences o).0 ≤ 5
operator_small kinds.OrSign o e = small_at kinds.OrSign e (omega arith)
operator_small kinds.AndSign o e = small_at kinds.AndSign e (omega arith)
operator_small kinds.Equal o e = small_at kinds.Equal e (omega arith)
operator_small kinds.NotEqual o e = small_at kinds.NotEqual e (omega arith)
operator_small kinds.Less o e = small_at kinds.Less e (omega arith)
operator_small kinds.LessEqual o e = small_at kinds.LessEqual e (omega arith)
operator_small kinds.Greater o e = small_at kinds.Greater e (omega arith)
operator_small kinds.GreaterEqual o e = small_at kinds.GreaterEqual e (omega arith)
operator_small kinds.In o e = small_at kinds.In e (omega arith)
operator_small kinds.Plus o e = small_at kinds.Plus e (omega arith)
operator_small kinds.Minus o e = small_at kinds.Minus e (omega arith)
operator_small kinds.Times o e = small_at kinds.Times e (omega arith)
operator_small k o e = absurd (none_some e)

plain_small : (op : BinaryOp) → precedence_number (operator_precedences (plain op)).2 ≤ 6
plain_small Binary.Add = omega arith
plain_small Binary.Sub = omega arith
plain_small Binary.Mul = omega arith
plain_small op = omega arith

pub last_small : (o : Operator) → precedence_number (operator_precedences o).2 ≤ 6
last_small either = omega arith
last_small both = omega arith
last_small (plain op) = plain_small op
last_small (negated op) = plain_small op

-- the last operand of an operator is one precedence tighter than the operator, or is a sum
plain_next : (op : BinaryOp) (n : ℕ) → precedence_number (operator_precedences (plain op)).0 < n → precedence_number (operator_precedences (plain op)).2 ≤ n
plain_next Binary.Add n h = omega (arith, h)
plain_next Binary.Sub n h = omega (arith, h)
plain_next Binary.Mul n h = omega (arith, h)
plain_next op n h = omega (arith, h)

pub last_next : (o : Operator) (n : ℕ) → precedence_number (operator_precedences o).0 < n → precedence_number (operator_precedences o).2 ≤ n
last_next either n h = omega (arith, h)
last_next both n h = omega (arith, h)
last_next (plain op) n h = plain_next op n h
last_next (negated op) n h = plain_next op n h
