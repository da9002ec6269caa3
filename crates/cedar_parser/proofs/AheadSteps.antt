-- What each step of the parser does to what is still to come, at single tokens.
use Rattle.std.proofs.Common.{◌≡◌, ◌<◌, ◌≤◌, ◌+◌, ◌-◌, ℕ, Bool, true, false, List, [], ◌∷◌, ◌++◌, Option, Some, None, refl, sym, ◌∙◌, ap, subst, arith, inl, inr, ⊎_elim}
use Rattle.std.specs.Prelude.{IsTrue, ◌⊎◌}
use Rattle.std.proofs.lemmas.Bool.{false≢true}
use Rattle.cedar_names.specs.Names.{BareName, unqualified}
use Rattle.cedar_terms.specs.declared.pattern.PatternElem.{PatternElem}
use Rattle.cedar_terms.specs.Precedences.{precedence_number}
use Rattle.cedar_terms.specs.declared.precedence.Precedence.{Precedence}
use Rattle.cedar_terms.specs.declared.precedence.Precedence.TheVariants as precedences
use Rattle.cedar_builders.specs.BareExpr.{Text, BareExpr}
use Rattle.cedar_lexer.specs.declared.token.TokenKind.{TokenKind}
use Rattle.cedar_lexer.specs.declared.token.TokenKind.TheVariants as kinds
use Rattle.semantics_grammar.specs.Lexemes.{Lexeme, lexeme}
use Rattle.semantics_grammar.specs.Written.{AreKeys, IsKey, IsPath, IsPatternOf, IsTextOf, is_number_alone, last_key, first_key}
use Rattle.semantics_grammar.specs.Grammar.{Reads}
use Rattle.cedar_parser.specs.Waiting.{Operator, operator_of, operator_precedences, Waiting, sign, between, is_of_in, otherwise, waiting_precedence, last_of, IsBelow, method_arguments, Group}
use Rattle.cedar_parser.specs.Ahead.{count, takes_arguments, attribute, index, method, has, like, is, is_of, Step, accessed, operated, tested, Rest, RowGoesOn, GoesOnAfter, closes, ends_path, least_before, own_of}
use Rattle.cedar_parser.specs.Meant.{AreLexemes, IsNoMinus, IsTestKind, first_kind}
use Rattle.cedar_parser.proofs.Operators.{none_some, some_one}
use Rattle.cedar_parser.proofs.Ascending.{operator_fits, operator_looser, rest_dead}
use Rattle.cedar_parser.proofs.Onward.{IsNoNumber, LooserThan, behind_first, rest_steps, waits_more}
use Rattle.semantics_grammar.proofs.Words.{word_named}

-- ---- tokens behind an operand

-- a token that goes on with no operand
pub own_none : (k : TokenKind) → None ≡ operator_of k → (k ≡ kinds.Dot → ⊥) → (k ≡ kinds.OpenSquare → ⊥) → (k ≡ kinds.Has → ⊥)
    → (k ≡ kinds.Like → ⊥) → (k ≡ kinds.Is → ⊥) → own_of k ≡ 0
own_none kinds.Dot o d s h l i = absurd (d refl)
own_none kinds.OpenSquare o d s h l i = absurd (s refl)
own_none kinds.Has o d s h l i = absurd (h refl)
own_none kinds.Like o d s h l i = absurd (l refl)
own_none kinds.Is o d s h l i = absurd (i refl)
own_none kinds.OrSign o d s h l i = absurd (none_some o)
own_none kinds.AndSign o d s h l i = absurd (none_some o)
own_none kinds.Equal o d s h l i = absurd (none_some o)
own_none kinds.NotEqual o d s h l i = absurd (none_some o)
own_none kinds.Less o d s h l i = absurd (none_some o)
own_none kinds.LessEqual o d s h l i = absurd (none_some o)
own_none kinds.Greater o d s h l i = absurd (none_some o)
own_none kinds.GreaterEqual o d s h l i = absurd (none_some o)
own_none kinds.In o d s h l i = absurd (none_some o)
own_none kinds.Plus o d s h l i = absurd (none_some o)
own_none kinds.Minus o d s h l i = absurd (none_some o)
own_none kinds.Times o d s h l i = absurd (none_some o)
own_none k o d s h l i = refl

-- what goes on with an operand closes nothing
pub own_closes : (k : TokenKind) → 1 ≤ own_of k → closes k ≡ false
own_closes kinds.CloseRound h = absurd (omega (arith, h))
own_closes kinds.CloseSquare h = absurd (omega (arith, h))
own_closes kinds.CloseCurly h = absurd (omega (arith, h))
own_closes kinds.Then h = absurd (omega (arith, h))
own_closes kinds.Else h = absurd (omega (arith, h))
own_closes kinds.Comma h = absurd (omega (arith, h))
own_closes k h = refl

pub looser : (l : Precedence) (below : Option Waiting) (n : ℕ) → IsBelow l below → n ≡ precedence_number l → LooserThan n below
looser l None n h e = tt
looser l (Some w) n h e = omega (arith, h, e)

number_small : (l : Precedence) → precedence_number l < 8
number_small precedences.Conditional = omega arith
number_small precedences.Or = omega arith
number_small precedences.And = omega arith
number_small precedences.Relation = omega arith
number_small precedences.Sum = omega arith
number_small precedences.Product = omega arith
number_small precedences.Unary = omega arith
number_small precedences.Member = omega arith

waiting_small : (w : Waiting) → precedence_number (waiting_precedence w) < 7
waiting_small (sign op n) = omega arith
waiting_small (between o a) = let h = operator_looser o in let k = number_small (operator_precedences o).2 in omega (arith, h, k)
waiting_small (is_of_in t a) = omega arith
waiting_small (otherwise a b) = omega arith

pub looser_member : (below : Option Waiting) → LooserThan 7 below
looser_member None = tt
looser_member (Some w) = waiting_small w

-- an operand of which nothing goes on so
pub stuck : (gs : List Group) (ws : List Waiting) (k : TokenKind) (v : List ℕ) (ts : List Lexeme) (l : Precedence) → closes k ≡ false
    → precedence_number l < least_before k → Rest gs ws l (lexeme k v ∷ ts) → ⊥
stuck gs ws k v ts l c h x = rest_dead gs ws k v ts l c h x

-- no `::` with an identifier stands behind an operand
pub rest_ends_path : (gs : List Group) (ws : List Waiting) (l : Precedence) (ts : List Lexeme) → Rest gs ws l ts → ends_path ts ≡ true
rest_ends_path gs ws l [] h = refl
rest_ends_path gs ws l (lexeme kinds.Colons c ∷ ts) h = absurd (rest_dead gs ws kinds.Colons c ts l refl (number_small l) h)
rest_ends_path gs ws l (lexeme k w ∷ ts) h = refl

-- ---- operators

infix_step : (gs : List Group) (ws : List Waiting) (o : Operator) (a : BareExpr) {l n : Precedence} {k : TokenKind} {v : List ℕ} {ts mid : List Lexeme}
    → operator_of k ≡ Some o → Step l n (lexeme k v ∷ ts) mid → Rest gs ws n mid → GoesOnAfter gs (ws ++ (between o a ∷ [])) None ts
infix_step gs ws o a e (accessed x y attribute) h = absurd (none_some e)
infix_step gs ws o a e (accessed x y (index t)) h = absurd (none_some e)
infix_step gs ws o a e (accessed x y (method n i w t)) h = absurd (none_some e)
infix_step gs ws o a e (operated {m = n} {b = b} {ts = ts} {rest = mid} p f least y r) h =
    let same = some_one (sym f ∙ e) in
    waits_more gs ws (between o a) ts mid (b, subst (λ q. Reads (operator_precedences q).2 ts b mid) same r)
    (subst (λ q. Rest gs ws (operator_precedences q).0 mid) same (subst (λ l. Rest gs ws l mid) y h))
infix_step gs ws o a e (tested x y (has t)) h = absurd (none_some e)
infix_step gs ws o a e (tested x y (like t)) h = absurd (none_some e)
infix_step gs ws o a e (tested x y (is t)) h = absurd (none_some e)
infix_step gs ws o a e (tested x y (is_of t u)) h = absurd (none_some e)

-- an operator waits for its last operand
pub infix_ahead : (gs : List Group) (ws : List Waiting) (l : Precedence) (k : TokenKind) (v : List ℕ) (ts : List Lexeme) (o : Operator) (a : BareExpr)
    → operator_of k ≡ Some o → IsBelow (operator_precedences o).0 (last_of None ws) → Rest gs ws l (lexeme k v ∷ ts)
    → GoesOnAfter gs (ws ++ (between o a ∷ [])) None ts
infix_ahead gs ws l k v ts o a e below h =
    let f = operator_fits k o e in
    let s = rest_steps gs ws k v ts l (own_closes k f.2) (looser (operator_precedences o).0 (last_of None ws) (own_of k) below f.1) h in
    infix_step gs ws o a e s.2 s.3

-- ---- attributes

-- behind a dot: an attribute, or a method with its arguments
pub data DotAhead (gs : List Group) (ws : List Waiting) (ts : List Lexeme) : Type 0 where
  attribute_ahead : (k : List ℕ) (us : List Lexeme) → ts ≡ lexeme kinds.Word k ∷ us → Rest gs ws precedences.Member us → DotAhead gs ws ts
  method_ahead : (m o : List ℕ) (us : List Lexeme) → ts ≡ lexeme kinds.Word m ∷ lexeme kinds.OpenRound o ∷ us
      → RowGoesOn gs ws (method_arguments m) 1 us → DotAhead gs ws ts

dot_step : (gs : List Group) (ws : List Waiting) {l n : Precedence} {v : List ℕ} {ts mid : List Lexeme} → AreLexemes ts
    → Step l n (lexeme kinds.Dot v ∷ ts) mid → Rest gs ws n mid → DotAhead gs ws ts
dot_step gs ws lex (accessed x y (attribute {k = k} {rest = rest})) h =
    attribute_ahead k rest refl (subst (λ l. Rest gs ws l rest) y h)
dot_step gs ws lex (accessed x y (method {m = m} {o = o} {es = es} {ts = us} {rest = rest} n i w t)) h =
    let named = word_named m lex.0 in
    let same : count es ≡ (1 + count es) - 1 = omega arith in
    method_ahead m o us refl
    (es, rest, i, (unqualified m, named.0, named.1, omega arith, subst (λ c. IsTrue (takes_arguments m c)) same t), subst (λ l. Rest gs ws l rest) y h)
dot_step gs ws lex (operated p f least y r) h = absurd (none_some f)
dot_step gs ws lex (tested x y t) h = elim t [ ]

pub dot_ahead : (gs : List Group) (ws : List Waiting) (l : Precedence) (v : List ℕ) (ts : List Lexeme) → AreLexemes ts
    → Rest gs ws l (lexeme kinds.Dot v ∷ ts) → DotAhead gs ws ts
dot_ahead gs ws l v ts lex h =
    let s = rest_steps gs ws kinds.Dot v ts l refl (looser_member (last_of None ws)) h in dot_step gs ws lex s.2 s.3

-- behind a square bracket: a text, the other bracket, and what goes on with the attribute
pub record IndexAhead (gs : List Group) (ws : List Waiting) (ts : List Lexeme) : Type 0 where
  pub quoted : List ℕ
  pub close : List ℕ
  pub text : Text
  pub behind : List Lexeme
  pub tokens : ts ≡ lexeme kinds.Quoted quoted ∷ lexeme kinds.CloseSquare close ∷ behind
  pub is_text : IsTextOf quoted text
  pub goes_on : Rest gs ws precedences.Member behind

index_step : (gs : List Group) (ws : List Waiting) {l n : Precedence} {v : List ℕ} {ts mid : List Lexeme} → Step l n (lexeme kinds.OpenSquare v ∷ ts) mid
    → Rest gs ws n mid → IndexAhead gs ws ts
index_step gs ws (accessed x y (index {q = q} {c = c} {k = k} {rest = rest} t)) h = record {
  quoted = q;
  close = c;
  text = k;
  behind = rest;
  tokens = refl;
  is_text = t;
  goes_on = subst (λ l. Rest gs ws l rest) y h;
}
index_step gs ws (operated p f least y r) h = absurd (none_some f)
index_step gs ws (tested x y t) h = elim t [ ]

pub index_ahead : (gs : List Group) (ws : List Waiting) (l : Precedence) (v : List ℕ) (ts : List Lexeme)
    → Rest gs ws l (lexeme kinds.OpenSquare v ∷ ts) → IndexAhead gs ws ts
index_ahead gs ws l v ts h =
    let s = rest_steps gs ws kinds.OpenSquare v ts l refl (looser_member (last_of None ws)) h in index_step gs ws s.2 s.3

-- ---- tests

-- keys go on with further keys, or end
abbrev pub KeysLeft : List Group → List Waiting → List Lexeme → Type 0
KeysLeft gs ws ts =
    Rest gs ws precedences.Relation ts
    ⊎ ((d : List ℕ) × (k : Text) × (ks : List Text) × (us : List Lexeme) × (rest : List Lexeme) × (ts ≡ lexeme kinds.Dot d ∷ us) × AreKeys us k ks rest
    × Rest gs ws precedences.Relation rest)

-- a key, and what goes on with it
pub record KeyAhead (gs : List Group) (ws : List Waiting) (ts : List Lexeme) : Type 0 where
  pub word : Lexeme
  pub key : Text
  pub behind : List Lexeme
  pub tokens : ts ≡ word ∷ behind
  pub is_key : IsKey word key
  pub left : KeysLeft gs ws behind

pub keys_ahead : (gs : List Group) (ws : List Waiting) {ts rest : List Lexeme} {k : Text} {ks : List Text} → AreKeys ts k ks rest
    → Rest gs ws precedences.Relation rest → KeyAhead gs ws ts
keys_ahead gs ws (last_key {l = l} {k = k} {rest = rest} i) h =
    record { word = l; key = k; behind = rest; tokens = refl; is_key = i; left = inl h }
keys_ahead gs ws {rest = rest} (first_key {l = l} {d = d} {k = k} {k2 = k2} {ks = ks} {ts = us} i p) h = record {
  word = l;
  key = k;
  behind = lexeme kinds.Dot d ∷ us;
  tokens = refl;
  is_key = i;
  left = inr (d, k2, ks, us, rest, refl, p, h);
}

pub key_more : (gs : List Group) (ws : List Waiting) (d : List ℕ) (ts : List Lexeme) → KeysLeft gs ws (lexeme kinds.Dot d ∷ ts) → KeyAhead gs ws ts
key_more gs ws d ts (inl h) = absurd (rest_dead gs ws kinds.Dot d ts precedences.Relation refl (omega arith) h)
key_more gs ws d ts (inr h) =
    subst (KeyAhead gs ws) (sym (ap behind_first h.5)) (keys_ahead gs ws h.6 h.7)

abbrev is_dot : List Lexeme → Bool
is_dot (lexeme kinds.Dot d ∷ ts) = true
is_dot ts = false

pub keys_end : (gs : List Group) (ws : List Waiting) (ts : List Lexeme) → (first_kind ts ≡ kinds.Dot → ⊥) → KeysLeft gs ws ts
    → Rest gs ws precedences.Relation ts
keys_end gs ws ts other (inl h) = h
keys_end gs ws ts other (inr h) = absurd (other (ap first_kind h.5))

-- the tests by their first token
pub data TestAhead (gs : List Group) (ws : List Waiting) : TokenKind → List Lexeme → Type 0 where
  has_ahead : {ts : List Lexeme} → KeyAhead gs ws ts → TestAhead gs ws kinds.Has ts
  like_ahead : {q : List ℕ} {ts : List Lexeme} (p : List PatternElem) → IsPatternOf q p → Rest gs ws precedences.Relation ts
      → TestAhead gs ws kinds.Like (lexeme kinds.Quoted q ∷ ts)
  is_ahead : {ts rest : List Lexeme} (n : BareName) → IsPath ts n rest → Rest gs ws precedences.Relation rest → TestAhead gs ws kinds.Is ts
  is_in_ahead : {v : List ℕ} {b : BareExpr} {ts us rest : List Lexeme} (n : BareName) → IsPath ts n (lexeme kinds.In v ∷ us)
      → Reads precedences.Sum us b rest → Rest gs ws precedences.Relation rest → TestAhead gs ws kinds.Is ts

abbrev is_test : TokenKind → Bool
is_test kinds.Has = true
is_test kinds.Like = true
is_test kinds.Is = true
is_test k = false

test_kind : (k : TokenKind) → IsTestKind k → is_test k ≡ true
test_kind k t = ⊎_elim (λ e. ap is_test e) (⊎_elim (λ e. ap is_test e) (λ e. ap is_test e)) t

no_test : (k : TokenKind) → is_test k ≡ false → IsTestKind k → ⊥
no_test k n t = false≢true (sym n ∙ test_kind k t)

no_operator : (k : TokenKind) {o : Operator} → operator_of k ≡ Some o → IsTestKind k → ⊥
no_operator k e t =
    ⊎_elim (λ f. none_some (sym (ap operator_of f) ∙ e)) (⊎_elim (λ f. none_some (sym (ap operator_of f) ∙ e)) (λ f. none_some (sym (ap operator_of f) ∙ e))) t

pub test_own : (k : TokenKind) → IsTestKind k → own_of k ≡ 3
test_own k t = ⊎_elim (λ e. ap own_of e) (⊎_elim (λ e. ap own_of e) (λ e. ap own_of e)) t

pub test_least : (k : TokenKind) → IsTestKind k → least_before k ≡ 4
test_least k t = ⊎_elim (λ e. ap least_before e) (⊎_elim (λ e. ap least_before e) (λ e. ap least_before e)) t

test_step : (gs : List Group) (ws : List Waiting) {l n : Precedence} {k : TokenKind} {v : List ℕ} {ts mid : List Lexeme} → IsTestKind k
    → Step l n (lexeme k v ∷ ts) mid → Rest gs ws n mid → TestAhead gs ws k ts
test_step gs ws t (accessed x y attribute) h = absurd (no_test kinds.Dot refl t)
test_step gs ws t (accessed x y (index q)) h = absurd (no_test kinds.OpenSquare refl t)
test_step gs ws t (accessed x y (method n i w q)) h = absurd (no_test kinds.Dot refl t)
test_step gs ws {k = k} t (operated p f least y r) h = absurd (no_operator k f t)
test_step gs ws t (tested {rest = rest} x y (has p)) h = has_ahead (keys_ahead gs ws p (subst (λ l. Rest gs ws l rest) y h))
test_step gs ws t (tested {rest = rest} x y (like {p = q} p)) h = like_ahead q p (subst (λ l. Rest gs ws l rest) y h)
test_step gs ws t (tested {rest = rest} x y (is {n = n} p)) h = is_ahead n p (subst (λ l. Rest gs ws l rest) y h)
test_step gs ws t (tested {rest = rest} x y (is_of {n = n} p q)) h = is_in_ahead n p q (subst (λ l. Rest gs ws l rest) y h)

pub test_ahead : (gs : List Group) (ws : List Waiting) (l : Precedence) (k : TokenKind) (v : List ℕ) (ts : List Lexeme) → IsTestKind k
    → IsBelow precedences.Relation (last_of None ws) → Rest gs ws l (lexeme k v ∷ ts) → TestAhead gs ws k ts
test_ahead gs ws l k v ts t below h =
    let own = test_own k t in
    let s = rest_steps gs ws k v ts l (own_closes k (omega (arith, own))) (looser precedences.Relation (last_of None ws) (own_of k) below own) h in
    test_step gs ws t s.2 s.3

-- ---- numbers

-- an attribute or an index behind a number: it is no part of a minus
pub number_follows : (gs : List Group) (ws : List Waiting) (below : Option Waiting) (d : List ℕ) (rest : List Lexeme)
    → (first_kind rest ≡ kinds.Dot) ⊎ (first_kind rest ≡ kinds.OpenSquare) → IsNoNumber (Rest gs ws) below (lexeme kinds.Digits d ∷ rest)
number_follows gs ws below d rest e n x mid b f h = no_rest rest e (subst (Rest gs ws precedences.Unary) (sym (ap behind_first f)) h)
  where
    no_rest : (rest : List Lexeme) → (first_kind rest ≡ kinds.Dot) ⊎ (first_kind rest ≡ kinds.OpenSquare) → Rest gs ws precedences.Unary rest → ⊥
    no_rest [] e h = ⊎_elim (λ f. cc) (λ f. cc) e
    no_rest (lexeme k v ∷ ts) e h =
        ⊎_elim (λ f. rest_dead gs ws k v ts precedences.Unary (ap closes f) (let x = ap least_before f in omega (arith, x)) h)
        (λ f. rest_dead gs ws k v ts precedences.Unary (ap closes f) (let x = ap least_before f in omega (arith, x)) h) e

pub number_alone : (d : List ℕ) (rest : List Lexeme) → (first_kind rest ≡ kinds.Dot → ⊥) → (first_kind rest ≡ kinds.OpenSquare → ⊥)
    → is_number_alone (lexeme kinds.Digits d ∷ rest) ≡ true
number_alone d [] h k = refl
number_alone d (lexeme kinds.Dot w ∷ ts) h k = absurd (h refl)
number_alone d (lexeme kinds.OpenSquare w ∷ ts) h k = absurd (k refl)
number_alone d (lexeme x w ∷ ts) h k = refl

-- where no minus waits last
pub no_minus : (K : Precedence → List Lexeme → Type 0) (below : Option Waiting) (ts : List Lexeme) → IsNoMinus below → IsNoNumber K below ts
no_minus K below ts m n d mid e f h = subst IsNoMinus e m
