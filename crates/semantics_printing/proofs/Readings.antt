-- Readings of one precedence as ones of a looser precedence, and with more behind them.
use Rattle.std.proofs.Common.{◌≡◌, Bool, true, false, List, [], ◌∷◌, Some, refl, sym, nat_lt, codes}
use Rattle.std.proofs.lemmas.Bool.{false≢true}
use Rattle.std.specs.Prelude.{if◌then◌else◌}
use Rattle.cedar_builders.specs.BareExpr.{Text, BareExpr, BareExprs}
use Rattle.cedar_names.specs.Names.{BareName, IsNameOf}
use Rattle.cedar_terms.specs.Precedences.{precedence_number}
use Rattle.cedar_terms.specs.declared.precedence.Precedence.{Precedence}
use Rattle.cedar_terms.specs.declared.precedence.Precedence.TheVariants as precedences
use Rattle.cedar_lexer.specs.declared.token.TokenKind.TheVariants as kinds
use Rattle.semantics_grammar.specs.Lexemes.{Lexeme, lexeme}
use Rattle.semantics_grammar.specs.Written.{method_tree, is_number_alone}
use Rattle.semantics_grammar.specs.Grammar.{Reads, no_conditional, disjunction, conjunction, relation, sum, product, no_sign, member, GoesOn, no_operator, or, and, plus, minus, times, no_test, Accesses, no_access, attribute, index, method, brackets, Items}
use Rattle.semantics_printing.proofs.PolicyLexemes.{Lexemes, in_brackets, lexemes_at, method_lexemes}

true≢false : true ≡ false → ⊥
true≢false h = false≢true (sym h)

-- no less tight than the precedence
abbrev IsAtLeast : Precedence → Precedence → Type 0
IsAtLeast least l = nat_lt (precedence_number l) (precedence_number least) ≡ false

-- ---- looser precedences

to_unary : {ts rest : List Lexeme} {e : BareExpr} (l : Precedence) → IsAtLeast precedences.Unary l → Reads l ts e rest → Reads precedences.Unary ts e rest
to_unary precedences.Member h p = no_sign p
to_unary precedences.Unary h p = p
to_unary l h p = absurd (true≢false h)

to_product : {ts rest : List Lexeme} {e : BareExpr} (l : Precedence) → IsAtLeast precedences.Product l → Reads l ts e rest → Reads precedences.Product ts e rest
to_product precedences.Product h p = p
to_product l h p = product (to_unary l h p) no_operator

to_sum : {ts rest : List Lexeme} {e : BareExpr} (l : Precedence) → IsAtLeast precedences.Sum l → Reads l ts e rest → Reads precedences.Sum ts e rest
to_sum precedences.Sum h p = p
to_sum l h p = sum (to_product l h p) no_operator

to_relation : {ts rest : List Lexeme} {e : BareExpr} (l : Precedence) → IsAtLeast precedences.Relation l → Reads l ts e rest → Reads precedences.Relation ts e rest
to_relation precedences.Relation h p = p
to_relation l h p = relation (to_sum l h p) no_test

to_and : {ts rest : List Lexeme} {e : BareExpr} (l : Precedence) → IsAtLeast precedences.And l → Reads l ts e rest → Reads precedences.And ts e rest
to_and precedences.And h p = p
to_and l h p = conjunction (to_relation l h p) no_operator

to_or : {ts rest : List Lexeme} {e : BareExpr} (l : Precedence) → IsAtLeast precedences.Or l → Reads l ts e rest → Reads precedences.Or ts e rest
to_or precedences.Or h p = p
to_or l h p = disjunction (to_and l h p) no_operator

pub to_conditional : {ts rest : List Lexeme} {e : BareExpr} (l : Precedence) → Reads l ts e rest → Reads precedences.Conditional ts e rest
to_conditional precedences.Conditional p = p
to_conditional l p = no_conditional (to_or l refl p)

to_member : {ts rest : List Lexeme} {e : BareExpr} (l : Precedence) → IsAtLeast precedences.Member l → Reads l ts e rest → Reads precedences.Member ts e rest
to_member precedences.Member h p = p
to_member l h p = absurd (true≢false h)

loosen : {ts rest : List Lexeme} {e : BareExpr} (least l : Precedence) → IsAtLeast least l → Reads l ts e rest → Reads least ts e rest
loosen precedences.Conditional l h p = to_conditional l p
loosen precedences.Or l h p = to_or l h p
loosen precedences.And l h p = to_and l h p
loosen precedences.Relation l h p = to_relation l h p
loosen precedences.Sum l h p = to_sum l h p
loosen precedences.Product l h p = to_product l h p
loosen precedences.Unary l h p = to_unary l h p
loosen precedences.Member l h p = to_member l h p

tightest : (least : Precedence) → IsAtLeast least precedences.Member
tightest precedences.Conditional = refl
tightest precedences.Or = refl
tightest precedences.And = refl
tightest precedences.Relation = refl
tightest precedences.Sum = refl
tightest precedences.Product = refl
tightest precedences.Unary = refl
tightest precedences.Member = refl

-- ---- brackets

-- the tokens are the tree, whatever follows
abbrev pub IsReadAs : Lexemes × Precedence → BareExpr → Type 0
IsReadAs p e = (rest : List Lexeme) → Reads p.1 (p.0 rest) e rest

pub at_least : (least : Precedence) (p : Lexemes × Precedence) (e : BareExpr) → IsReadAs p e → (rest : List Lexeme) → Reads least (lexemes_at least p rest) e rest
at_least least p e h rest =
    elim (nat_lt (precedence_number p.1) (precedence_number least)) as (λ c. nat_lt (precedence_number p.1) (precedence_number least) ≡ c
    → Reads least ((if c then in_brackets p.0 else p.0) rest) e rest) [
      | true ↦ λ q. loosen least precedences.Member (tightest least) (member (brackets (to_conditional p.1 (h _))) no_access)
      | false ↦ λ q. loosen least p.1 q (h rest)
    ] refl

-- ---- operators and accesses behind

goes_then : {l : Precedence} {ts mid rest : List Lexeme} {a e f : BareExpr} → GoesOn l ts a e mid → GoesOn l mid e f rest → GoesOn l ts a f rest
goes_then no_operator h = h
goes_then (or p g) h = or p (goes_then g h)
goes_then (and p g) h = and p (goes_then g h)
goes_then (plus p g) h = plus p (goes_then g h)
goes_then (minus p g) h = minus p (goes_then g h)
goes_then (times p g) h = times p (goes_then g h)

pub more_or : {ts mid rest : List Lexeme} {a e : BareExpr} → Reads precedences.Or ts a mid → GoesOn precedences.Or mid a e rest → Reads precedences.Or ts e rest
more_or (disjunction p g) h = disjunction p (goes_then g h)

pub more_and : {ts mid rest : List Lexeme} {a e : BareExpr} → Reads precedences.And ts a mid → GoesOn precedences.And mid a e rest → Reads precedences.And ts e rest
more_and (conjunction p g) h = conjunction p (goes_then g h)

pub more_sum : {ts mid rest : List Lexeme} {a e : BareExpr} → Reads precedences.Sum ts a mid → GoesOn precedences.Sum mid a e rest → Reads precedences.Sum ts e rest
more_sum (sum p g) h = sum p (goes_then g h)

pub more_product : {ts mid rest : List Lexeme} {a e : BareExpr} → Reads precedences.Product ts a mid → GoesOn precedences.Product mid a e rest → Reads precedences.Product ts e rest
more_product (product p g) h = product p (goes_then g h)

accesses_then : {ts mid rest : List Lexeme} {a e f : BareExpr} → Accesses ts a e mid → Accesses mid e f rest → Accesses ts a f rest
accesses_then no_access h = h
accesses_then (attribute g) h = attribute (accesses_then g h)
accesses_then (index t g) h = index t (accesses_then g h)
accesses_then (method n i w t g) h = method n i w t (accesses_then g h)

pub more_member : {ts mid rest : List Lexeme} {a e : BareExpr} → Reads precedences.Member ts a mid → Accesses mid a e rest → Reads precedences.Member ts e rest
more_member (member p g) h = member p (accesses_then g h)

-- the arguments of a call, up to and with the bracket
abbrev pub AreReadAs : Lexemes → BareExprs → Type 0
AreReadAs args es = (rest : List Lexeme) → Items kinds.CloseRound (args (lexeme kinds.CloseRound (codes ")") ∷ rest)) es rest

pub method_read : (p : Lexemes × Precedence) (a b : BareExpr) (name : Text) (n : BareName) (args : Lexemes) (es : BareExprs) → IsReadAs p a → AreReadAs args es
    → IsNameOf name n → method_tree name n a es ≡ Some b → IsReadAs (method_lexemes p name args) b
method_read p a b name n args es h items is gives rest =
    more_member (at_least precedences.Member p a h _) (method n (items rest) is gives no_access)

-- ---- numbers

abbrev pub begins_digits : List Lexeme → Bool
begins_digits (lexeme kinds.Digits d ∷ ts) = true
begins_digits ts = false

pub not_alone : (ts : List Lexeme) → begins_digits ts ≡ false → is_number_alone ts ≡ false
not_alone [] h = refl
not_alone (lexeme kinds.Digits d ∷ ts) h = absurd (true≢false h)
not_alone (lexeme k d ∷ ts) h = refl

-- tokens that never need brackets begin with no number
abbrev pub Opens : Lexemes × Precedence → Type 0
Opens p = p.1 ≡ precedences.Member → (rest : List Lexeme) → begins_digits (p.0 rest) ≡ false

pub brackets_open : (p : Lexemes × Precedence) → Opens p → (rest : List Lexeme) → begins_digits (lexemes_at precedences.Member p rest) ≡ false
brackets_open p h rest = go p.1 h
  where
    go : (l : Precedence) → (l ≡ precedences.Member → (rest : List Lexeme) → begins_digits (p.0 rest) ≡ false)
        → begins_digits (lexemes_at precedences.Member (p.0, l) rest) ≡ false
    go precedences.Member k = k refl rest
    go l k = refl
