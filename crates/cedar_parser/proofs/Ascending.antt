-- How an operand goes on, and what does not go on.
use Rattle.std.proofs.Common.{◌≡◌, ◌<◌, ◌≤◌, ℕ, Bool, true, false, List, [], ◌∷◌, Option, Some, None, refl, sym, ◌∙◌, ap, subst, arith, inl, inr}
use Rattle.std.specs.Prelude.{IsTrue, codes, if◌then◌else◌, ◌==◌, ◌⊎◌}
use Rattle.std.specs.Str.{bytes_eq}
use Rattle.std.proofs.lemmas.Bool.{false≢true}
use Rattle.cedar_terms.specs.declared.ops.BinaryOp.{BinaryOp}
use Rattle.cedar_terms.specs.declared.ops.BinaryOp.TheVariants as Binary
use Rattle.cedar_terms.specs.Precedences.{precedence_number}
use Rattle.cedar_terms.specs.declared.precedence.Precedence.{Precedence}
use Rattle.cedar_terms.specs.declared.precedence.Precedence.TheVariants as precedences
use Rattle.cedar_builders.specs.BareExpr.{BareExpr, BareExprs, no_trees, tree}
use Rattle.cedar_names.specs.Names.{BareName}
use Rattle.cedar_lexer.specs.declared.token.TokenKind.{TokenKind}
use Rattle.cedar_lexer.specs.declared.token.TokenKind.TheVariants as kinds
use Rattle.semantics_grammar.specs.Lexemes.{Lexeme, lexeme}
use Rattle.semantics_grammar.specs.Written.{binary_or_call, is_empty_tree, method_op}
use Rattle.semantics_grammar.specs.Grammar as g
use Rattle.semantics_grammar.specs.Grammar.{Reads, GoesOn, no_operator, or, and, plus, minus, times, Tests, Accesses}
use Rattle.cedar_parser.specs.Waiting.{Operator, either, both, plain, negated, operator_of, operator_precedences, Waiting, sign, between, is_of_in, otherwise, waiting_precedence, Row, members, arguments, method_arguments, closing_of, Grouped, in_brackets, in_test, in_branch, in_row, in_record, Group}
use Rattle.cedar_parser.specs.Ahead.{count, one_or_any, attribute, index, method, has, like, is, is_of, Step, accessed, operated, tested, Ascends, stays, goes, wanted, Whole, Over, Behind, ItemsAfter, no_more, more, FieldsAfter, Inside, Through, Around, Rest, closes, least_at, least_before, own_at, own_of}
use Rattle.cedar_parser.proofs.Operators.{none_some, some_one}

-- ---- tokens

pub own_least : (k : TokenKind) → own_of k ≤ least_before k
own_least kinds.Dot = omega arith
own_least kinds.OpenSquare = omega arith
own_least kinds.Times = omega arith
own_least kinds.Plus = omega arith
own_least kinds.Minus = omega arith
own_least kinds.Equal = omega arith
own_least kinds.NotEqual = omega arith
own_least kinds.Less = omega arith
own_least kinds.LessEqual = omega arith
own_least kinds.Greater = omega arith
own_least kinds.GreaterEqual = omega arith
own_least kinds.In = omega arith
own_least kinds.Has = omega arith
own_least kinds.Like = omega arith
own_least kinds.Is = omega arith
own_least kinds.AndSign = omega arith
own_least kinds.OrSign = omega arith
own_least k = omega arith

-- what an operator makes and wants is what its token does
abbrev OperatorFits : TokenKind → Operator → Type 0
OperatorFits k o =
    (least_before k ≡ precedence_number (operator_precedences o).1) × (own_of k ≡ precedence_number (operator_precedences o).0)
    × (1 ≤ own_of k) × (own_of k ≤ 5)

fits_at : (k : TokenKind) {o p : Operator} → Some o ≡ Some p → OperatorFits k o → OperatorFits k p
fits_at k e h = subst (OperatorFits k) (some_one e) h

pub operator_fits : (k : TokenKind) (o : Operator) → operator_of k ≡ Some o → OperatorFits k o
operator_fits kinds.OrSign o e = fits_at kinds.OrSign e (refl, refl, omega arith, omega arith)
operator_fits kinds.AndSign o e = fits_at kinds.AndSign e (refl, refl, omega arith, omega arith)
operator_fits kinds.Equal o e = fits_at kinds.Equal e (refl, refl, omega arith, omega arith)
operator_fits kinds.NotEqual o e = fits_at kinds.NotEqual e (refl, refl, omega arith, omega arith)
operator_fits kinds.Less o e = fits_at kinds.Less e (refl, refl, omega arith, omega arith)
operator_fits kinds.LessEqual o e = fits_at kinds.LessEqual e (refl, refl, omega arith, omega arith)
operator_fits kinds.Greater o e = fits_at kinds.Greater e (refl, refl, omega arith, omega arith)
operator_fits kinds.GreaterEqual o e = fits_at kinds.GreaterEqual e (refl, refl, omega arith, omega arith)
operator_fits kinds.In o e = fits_at kinds.In e (refl, refl, omega arith, omega arith)
operator_fits kinds.Plus o e = fits_at kinds.Plus e (refl, refl, omega arith, omega arith)
operator_fits kinds.Minus o e = fits_at kinds.Minus e (refl, refl, omega arith, omega arith)
operator_fits kinds.Times o e = fits_at kinds.Times e (refl, refl, omega arith, omega arith)
operator_fits k o e = absurd (none_some e)

-- the last operand of an operator binds more tightly than the operator
plain_looser : (op : BinaryOp) → precedence_number (operator_precedences (plain op)).0 < precedence_number (operator_precedences (plain op)).2
plain_looser Binary.Add = omega arith
plain_looser Binary.Sub = omega arith
plain_looser Binary.Mul = omega arith
plain_looser op = omega arith

pub operator_looser : (o : Operator) → precedence_number (operator_precedences o).0 < precedence_number (operator_precedences o).2
operator_looser either = omega arith
operator_looser both = omega arith
operator_looser (plain op) = plain_looser op
operator_looser (negated op) = plain_looser op

pub waiting_wanted : (w : Waiting) → precedence_number (waiting_precedence w) ≤ precedence_number (wanted (Some w))
waiting_wanted (sign op n) = omega arith
waiting_wanted (between o a) = let h = operator_looser o in omega (arith, h)
waiting_wanted (is_of_in t a) = omega arith
waiting_wanted (otherwise a b) = omega arith

-- ---- one step

member_top : (n : Precedence) → 7 ≤ precedence_number n → n ≡ precedences.Member
member_top precedences.Conditional h = absurd (omega (arith, h))
member_top precedences.Or h = absurd (omega (arith, h))
member_top precedences.And h = absurd (omega (arith, h))
member_top precedences.Relation h = absurd (omega (arith, h))
member_top precedences.Sum h = absurd (omega (arith, h))
member_top precedences.Product h = absurd (omega (arith, h))
member_top precedences.Unary h = absurd (omega (arith, h))
member_top precedences.Member h = refl

-- what a step makes, and what it wants
pub record IsStepOf (l n : Precedence) (ts : List Lexeme) : Type 0 where
  pub least : least_at ts ≤ precedence_number l
  pub own : own_at ts ≡ precedence_number n
  pub some : 1 ≤ precedence_number n
  pub apart : (precedence_number n ≤ 5) ⊎ (7 ≤ precedence_number n)

member_step : (l n : Precedence) (ts : List Lexeme) → l ≡ precedences.Member → n ≡ precedences.Member → least_at ts ≡ 7 → own_at ts ≡ 7 → IsStepOf l n ts
member_step l n ts a b e f =
    let x : precedence_number l ≡ 7 = ap precedence_number a in
    let y : precedence_number n ≡ 7 = ap precedence_number b in
    record { least = omega (arith, x, e); own = f ∙ sym y; some = omega (arith, y); apart = inr (omega (arith, y)) }

test_step : (l n : Precedence) (ts : List Lexeme) → 4 ≤ precedence_number l → n ≡ precedences.Relation → least_at ts ≡ 4 → own_at ts ≡ 3 → IsStepOf l n ts
test_step l n ts h b e f =
    let y : precedence_number n ≡ 3 = ap precedence_number b in
    record { least = omega (arith, h, e); own = f ∙ sym y; some = omega (arith, y); apart = inl (omega (arith, y)) }

pub step_of : {l n : Precedence} {ts mid : List Lexeme} → Step l n ts mid → IsStepOf l n ts
step_of (accessed {l = l} {m = n} {ts = ts} a b attribute) = member_step l n ts a b refl refl
step_of (accessed {l = l} {m = n} {ts = ts} a b (index t)) = member_step l n ts a b refl refl
step_of (accessed {l = l} {m = n} {ts = ts} a b (method x i w t)) = member_step l n ts a b refl refl
step_of (operated {k = k} {l = l} {m = n} o e h b p) =
    let f = operator_fits k o e in
    let y : precedence_number n ≡ precedence_number (operator_precedences o).0 = ap precedence_number b in
    record { least = omega (arith, f.0, h); own = f.1 ∙ sym y; some = omega (arith, f.1, f.2, y); apart = inl (omega (arith, f.1, f.3, y)) }
step_of (tested {l = l} {m = n} {ts = ts} h b (has x)) = test_step l n ts h b refl refl
step_of (tested {l = l} {m = n} {ts = ts} h b (like x)) = test_step l n ts h b refl refl
step_of (tested {l = l} {m = n} {ts = ts} h b (is x)) = test_step l n ts h b refl refl
step_of (tested {l = l} {m = n} {ts = ts} h b (is_of x y)) = test_step l n ts h b refl refl

step_more : {l n p : Precedence} {ts mid : List Lexeme} → precedence_number l ≤ precedence_number n → Step l p ts mid → Step n p ts mid
step_more {n = n} h (accessed a b x) =
    let e = ap precedence_number a in accessed (member_top n (omega (arith, h, e))) b x
step_more h (operated o e k b p) = operated o e (omega (arith, h, k)) b p
step_more h (tested k b x) = tested (omega (arith, h, k)) b x

pub ascends_more : {m l n : Precedence} {ts rest : List Lexeme} → precedence_number l ≤ precedence_number n → Ascends m l ts rest → Ascends m n ts rest
ascends_more h (stays k) = stays (omega (arith, h, k))
ascends_more h (goes k s r) = goes k (step_more h s) r

pub ascends_then : {m p l : Precedence} {ts mid rest : List Lexeme} → precedence_number p ≤ precedence_number m → Ascends m l ts mid
    → ((n : Precedence) → precedence_number m ≤ precedence_number n → Ascends p n mid rest) → Ascends p l ts rest
ascends_then {l = l} h (stays k) q = q l k
ascends_then h (goes k s r) q = goes (omega (arith, h, k)) s (ascends_then h r q)

-- ---- the number of arguments

method_fits : (b : Bool) (o : Option BinaryOp) (n : BareName) (a x : BareExpr) (es : BareExprs)
    → (if b then is_empty_tree a es else binary_or_call o n a es) ≡ Some x → IsTrue (if b then count es == 0 else one_or_any o (count es))
method_fits true o n a x no_trees e = refl
method_fits true o n a x (tree b bs) e = absurd (none_some e)
method_fits false None n a x es e = refl
method_fits false (Some op) n a x no_trees e = absurd (none_some e)
method_fits false (Some op) n a x (tree b no_trees) e = refl
method_fits false (Some op) n a x (tree b (tree c cs)) e = absurd (none_some e)

-- ---- readings as steps

ascending : {l : Precedence} {ts rest : List Lexeme} {a e : BareExpr} → GoesOn l ts a e rest → (n : Precedence)
    → precedence_number l ≤ precedence_number n → Ascends l n ts rest
ascending no_operator n h = stays h
ascending (or p q) n h = goes (omega arith) (operated either refl (omega (arith, h)) refl p) (ascending q precedences.Or (omega arith))
ascending (and p q) n h = goes (omega arith) (operated both refl (omega (arith, h)) refl p) (ascending q precedences.And (omega arith))
ascending (plus p q) n h = goes (omega arith) (operated (plain Binary.Add) refl (omega (arith, h)) refl p) (ascending q precedences.Sum (omega arith))
ascending (minus p q) n h = goes (omega arith) (operated (plain Binary.Sub) refl (omega (arith, h)) refl p) (ascending q precedences.Sum (omega arith))
ascending (times p q) n h = goes (omega arith) (operated (plain Binary.Mul) refl (omega (arith, h)) refl p) (ascending q precedences.Product (omega arith))

compares : (k : TokenKind) (w : List ℕ) (o : Operator) {ts rest : List Lexeme} {b : BareExpr} → operator_of k ≡ Some o
    → operator_precedences o ≡ (precedences.Relation, precedences.Sum, precedences.Sum) → Reads precedences.Sum ts b rest → (n : Precedence) → 4 ≤ precedence_number n
    → Ascends precedences.Relation n (lexeme k w ∷ ts) rest
compares k w o {ts = ts} {rest = rest} {b = b} e f p n h =
    let x : precedence_number (operator_precedences o).1 ≡ 4 = ap (λ t. precedence_number t.1) f in
    let y : precedences.Relation ≡ (operator_precedences o).0 = sym (ap (λ t. t.0) f) in
    goes {n = precedences.Relation} (omega arith)
    (operated o e (omega (arith, h, x)) y (subst (λ l. Reads l ts b rest) (sym (ap (λ t. t.2) f)) p)) (stays (omega arith))

testing : {ts rest : List Lexeme} {a e : BareExpr} → Tests ts a e rest → (n : Precedence) → 4 ≤ precedence_number n → Ascends precedences.Relation n ts rest
testing g.no_test n h = stays (omega (arith, h))
testing (g.equal {w = w} p) n h = compares kinds.Equal w (plain Binary.Eq) refl refl p n h
testing (g.not_equal {w = w} p) n h = compares kinds.NotEqual w (negated Binary.Eq) refl refl p n h
testing (g.less {w = w} p) n h = compares kinds.Less w (plain Binary.Less) refl refl p n h
testing (g.less_equal {w = w} p) n h = compares kinds.LessEqual w (plain Binary.LessEq) refl refl p n h
testing (g.greater {w = w} p) n h = compares kinds.Greater w (negated Binary.LessEq) refl refl p n h
testing (g.greater_equal {w = w} p) n h = compares kinds.GreaterEqual w (negated Binary.Less) refl refl p n h
testing (g.is_in {w = w} p) n h = compares kinds.In w (plain Binary.In) refl refl p n h
testing (g.has p) n h = goes {n = precedences.Relation} (omega arith) (tested h refl (has p)) (stays (omega arith))
testing (g.like p) n h = goes {n = precedences.Relation} (omega arith) (tested h refl (like p)) (stays (omega arith))
testing (g.is p) n h = goes {n = precedences.Relation} (omega arith) (tested h refl (is p)) (stays (omega arith))
testing (g.is_of_in p q) n h = goes {n = precedences.Relation} (omega arith) (tested h refl (is_of p q)) (stays (omega arith))

accessing : {ts rest : List Lexeme} {a e : BareExpr} → Accesses ts a e rest → Ascends precedences.Member precedences.Member ts rest
accessing g.no_access = stays (omega arith)
accessing (g.attribute p) = goes (omega arith) (accessed refl refl attribute) (accessing p)
accessing (g.index t p) = goes (omega arith) (accessed refl refl (index t)) (accessing p)
accessing (g.method {m = m} {a = a} {b = b} {es = es} n i w t p) =
    goes (omega arith) (accessed refl refl (method n i w (method_fits (bytes_eq m (codes "isEmpty")) (method_op m) n a b es t))) (accessing p)

-- ---- what a reading begins with

-- an expression begins with a primary, with signs or with `if`, and goes on from there
pub data First (m : Precedence) (ts rest : List Lexeme) : Type 0 where
  from_primary : {a : BareExpr} {mid : List Lexeme} → g.Primary ts a mid → Ascends m precedences.Member mid rest → First m ts rest
  from_nots : {n : ℕ} {a : BareExpr} {mid : List Lexeme} → n ≤ 4 → precedence_number m ≤ 6 → g.Nots n ts a mid → Ascends m precedences.Unary mid rest
      → First m ts rest
  from_minuses : {n : ℕ} {a : BareExpr} {mid : List Lexeme} → n ≤ 4 → precedence_number m ≤ 6 → g.Minuses n ts a mid
      → Ascends m precedences.Unary mid rest → First m ts rest
  from_if : {i t e : List ℕ} {a b c : BareExpr} {us vs xs : List Lexeme} → m ≡ precedences.Conditional → ts ≡ lexeme kinds.If i ∷ us
      → Reads precedences.Conditional us a (lexeme kinds.Then t ∷ vs) → Reads precedences.Conditional vs b (lexeme kinds.Else e ∷ xs)
      → Reads precedences.Conditional xs c rest → First m ts rest

first_on : {m p : Precedence} {ts mid rest : List Lexeme} → First m ts mid → 1 ≤ precedence_number m → precedence_number p ≤ precedence_number m
    → precedence_number p ≤ 6 → ((n : Precedence) → precedence_number m ≤ precedence_number n → Ascends p n mid rest) → First p ts rest
first_on (from_primary q r) one le six h = from_primary q (ascends_then le r h)
first_on (from_nots n k q r) one le six h = from_nots n six q (ascends_then le r h)
first_on (from_minuses n k q r) one le six h = from_minuses n six q (ascends_then le r h)
first_on (from_if e t p q r) one le six h = let x = ap precedence_number e in absurd (omega (arith, one, x))

pub first : {m : Precedence} {ts rest : List Lexeme} {e : BareExpr} → Reads m ts e rest → First m ts rest
first (g.conditional p q r) = from_if refl refl p q r
first (g.no_conditional p) = first_on (first p) (omega arith) (omega arith) (omega arith) (λ n h. stays (omega arith))
first (g.disjunction p q) = first_on (first p) (omega arith) (omega arith) (omega arith) (λ n h. ascending q n (omega (arith, h)))
first (g.conjunction p q) = first_on (first p) (omega arith) (omega arith) (omega arith) (λ n h. ascending q n (omega (arith, h)))
first (g.relation p q) = first_on (first p) (omega arith) (omega arith) (omega arith) (λ n h. testing q n h)
first (g.sum p q) = first_on (first p) (omega arith) (omega arith) (omega arith) (λ n h. ascending q n (omega (arith, h)))
first (g.product p q) = first_on (first p) (omega arith) (omega arith) (omega arith) (λ n h. ascending q n (omega (arith, h)))
first (g.no_sign p) = first_on (first p) (omega arith) (omega arith) (omega arith) (λ n h. stays (omega (arith, h)))
first (g.nots h p) = from_nots h (omega arith) p (stays (omega arith))
first (g.minuses h p) = from_minuses h (omega arith) p (stays (omega arith))
first (g.member p q) = from_primary p (accessing q)

-- ---- what does not go on

-- no token goes on from an operand that binds less tightly than it wants
abbrev pub Dead : (Precedence → List Lexeme → Type 0) → Type 0
Dead K = (k : TokenKind) (w : List ℕ) (ts : List Lexeme) (l : Precedence) → closes k ≡ false → precedence_number l < least_before k
    → K l (lexeme k w ∷ ts) → ⊥

-- only tokens that go on with a group, or end it, stand behind an expression in it
abbrev pub Needs : (List Lexeme → Type 0) → Type 0
Needs C = (k : TokenKind) (w : List ℕ) (ts : List Lexeme) → closes k ≡ false → C (lexeme k w ∷ ts) → ⊥

over_dead : (w : Waiting) (K : Precedence → List Lexeme → Type 0) → Dead K → (k : TokenKind) (v : List ℕ) {ts rest : List Lexeme} {l : Precedence}
    → closes k ≡ false → precedence_number l < least_before k → Ascends (wanted (Some w)) l (lexeme k v ∷ ts) rest → K (waiting_precedence w) rest → ⊥
over_dead w K d k v {ts = ts} c h (stays s) x = let b = waiting_wanted w in d k v ts (waiting_precedence w) c (omega (arith, h, s, b)) x
over_dead w K d k v c h (goes s t r) x = let f = (step_of t).least in omega (arith, h, f)

pub dead_over : (w : Waiting) (K : Precedence → List Lexeme → Type 0) → Dead K → Dead (Over w K)
dead_over w K d k v ts l c h x = over_dead w K d k v c h x.1 x.2

whole_dead : (C : List Lexeme → Type 0) → Needs C → (k : TokenKind) (v : List ℕ) {ts rest : List Lexeme} {l : Precedence}
    → closes k ≡ false → precedence_number l < least_before k → Ascends precedences.Conditional l (lexeme k v ∷ ts) rest → C rest → ⊥
whole_dead C d k v {ts = ts} c h (stays s) x = d k v ts c x
whole_dead C d k v c h (goes s t r) x = let f = (step_of t).least in omega (arith, h, f)

dead_whole : (C : List Lexeme → Type 0) → Needs C → Dead (Whole C)
dead_whole C d k v ts l c h x = whole_dead C d k v c h x.1 x.2

dead_behind : (ws : List Waiting) (K : Precedence → List Lexeme → Type 0) → Dead K → Dead (Behind ws K)
dead_behind [] K d = d
dead_behind (w ∷ ws) K d = dead_behind ws (Over w K) (dead_over w K d)

abbrev pub kind_at : List Lexeme → TokenKind
kind_at [] = kinds.End
kind_at (lexeme k w ∷ ts) = k

closing_closes : (row : Row) → closes (closing_of row) ≡ true
closing_closes members = refl
closing_closes (arguments n) = refl
closing_closes (method_arguments m) = refl

-- a token of another kind does not close
kind_closes : (k : TokenKind) {x : TokenKind} → closes k ≡ false → k ≡ x → closes x ≡ true → ⊥
kind_closes k c e h = false≢true (sym c ∙ (ap closes e ∙ h))

items_close : (row : Row) (k : TokenKind) (w : List ℕ) {ts rest : List Lexeme} {bs : BareExprs} → closes k ≡ false
    → ItemsAfter (closing_of row) (lexeme k w ∷ ts) bs rest → ⊥
items_close row k w c (no_more e) = kind_closes k c e (closing_closes row)
items_close row k w c (more i) = false≢true (sym c)

fields_close : (k : TokenKind) (w : List ℕ) {ts rest : List Lexeme} {ps : List (List ℕ × BareExpr)} → closes k ≡ false
    → FieldsAfter (lexeme k w ∷ ts) ps rest → ⊥
fields_close k w c no_more = false≢true (sym c)
fields_close k w c (more i) = false≢true (sym c)

inside_needs : (x : Grouped) (K : Precedence → List Lexeme → Type 0) → Needs (Inside x K)
inside_needs in_brackets K k w ts c h = kind_closes k c (ap kind_at h.2) refl
inside_needs in_test K k w ts c h = kind_closes k c (ap kind_at h.4) refl
inside_needs (in_branch a) K k w ts c h = kind_closes k c (ap kind_at h.4) refl
inside_needs (in_row row es) K k w ts c h = items_close row k w c h.2
inside_needs (in_record ps key) K k w ts c h = fields_close k w c h.2

around_needs : (gs : List Group) (C : List Lexeme → Type 0) → Needs C → Needs (Around gs C)
around_needs [] C n = n
around_needs (x ∷ gs) C n = around_needs gs (Through x C) (inside_needs x.1 (Behind x.0 (Whole C)))

abbrev is_nil : List Lexeme → Bool
is_nil [] = true
is_nil (t ∷ ts) = false

pub ended_needs : Needs (λ ts. ts ≡ [])
ended_needs k w ts c h = false≢true (ap is_nil h)

pub all_needs : (gs : List Group) → Needs (Around gs (λ ts. ts ≡ []))
all_needs gs = around_needs gs (λ ts. ts ≡ []) ended_needs

pub rest_dead : (gs : List Group) (ws : List Waiting) → Dead (Rest gs ws)
rest_dead gs ws = dead_behind ws (Whole (Around gs (λ ts. ts ≡ []))) (dead_whole (Around gs (λ ts. ts ≡ [])) (all_needs gs))
