-- What each step of the parser does to what is still to come.
use Rattle.std.proofs.Common.{◌≡◌, ◌<◌, ◌≤◌, ◌+◌, ℕ, Bool, true, false, List, [], ◌∷◌, ◌++◌, Option, Some, None, refl, sym, ◌∙◌, ap, subst, arith, inl, inr}
use Rattle.std.specs.Prelude.{⊤, ◌^◌, ◌⊎◌}
use Rattle.std.specs.Str.Parse.{digits_value}
use Rattle.std.proofs.lemmas.Bool.{false≢true}
use Rattle.cedar_terms.specs.declared.ops.UnaryOp.{UnaryOp}
use Rattle.cedar_terms.specs.declared.ops.UnaryOp.TheVariants as Unary
use Rattle.cedar_terms.specs.Precedences.{precedence_number}
use Rattle.cedar_terms.specs.declared.precedence.Precedence.{Precedence}
use Rattle.cedar_terms.specs.declared.precedence.Precedence.TheVariants as precedences
use Rattle.cedar_builders.specs.BareExpr.{BareExpr}
use Rattle.cedar_lexer.specs.declared.token.TokenKind.{TokenKind}
use Rattle.cedar_lexer.specs.declared.token.TokenKind.TheVariants as kinds
use Rattle.semantics_grammar.specs.Lexemes.{Lexeme, lexeme}
use Rattle.semantics_grammar.specs.Written.{is_number_alone}
use Rattle.semantics_grammar.specs.Grammar as g
use Rattle.semantics_grammar.specs.Grammar.{Reads}
use Rattle.cedar_parser.specs.Waiting.{Waiting, sign, between, is_of_in, otherwise, waiting_precedence, least_operand, StandsOn, last_of, Grouped, in_test, Group}
use Rattle.cedar_parser.specs.SoFar.{AreSigns, IsSign}
use Rattle.cedar_parser.specs.Ahead.{Step, accessed, operated, tested, Ascends, stays, goes, wanted, Whole, Over, Behind, Inside, Through, Around, Rest, SignStarts, Starts, GoesOnAfter, TakesNoSign, closes, own_at, own_of}
use Rattle.cedar_parser.proofs.Ascending.{own_least, operator_fits, step_of, ascends_more, ascends_then, First, from_primary, from_nots, from_minuses, from_if, first, Dead, Needs, dead_over, operator_looser, kind_at, rest_dead, all_needs}

-- the last of those that wait, and one more
pub last_next : (below : Option Waiting) (ws : List Waiting) (w : Waiting) → last_of below (ws ++ (w ∷ [])) ≡ Some w
last_next below [] w = refl
last_next below (v ∷ ws) w = last_next (Some v) ws w

unpack : (ws : List Waiting) (w : Waiting) (K : Precedence → List Lexeme → Type 0) (l : Precedence) (ts : List Lexeme)
    → Behind (ws ++ (w ∷ [])) K l ts → Over w (Behind ws K) l ts
unpack [] w K l ts h = h
unpack (v ∷ ws) w K l ts h = unpack ws w (Over v K) l ts h

pack : (ws : List Waiting) (w : Waiting) (K : Precedence → List Lexeme → Type 0) (l : Precedence) (ts : List Lexeme)
    → Over w (Behind ws K) l ts → Behind (ws ++ (w ∷ [])) K l ts
pack [] w K l ts h = h
pack (v ∷ ws) w K l ts h = pack ws w (Over v K) l ts h

group_unpack : (gs : List Group) (x : Group) (C : List Lexeme → Type 0) (ts : List Lexeme) → Around (gs ++ (x ∷ [])) C ts → Through x (Around gs C) ts
group_unpack [] x C ts h = h
group_unpack (y ∷ gs) x C ts h = group_unpack gs x (Through y C) ts h

group_pack : (gs : List Group) (x : Group) (C : List Lexeme → Type 0) (ts : List Lexeme) → Through x (Around gs C) ts → Around (gs ++ (x ∷ [])) C ts
group_pack [] x C ts h = h
group_pack (y ∷ gs) x C ts h = group_pack gs x (Through y C) ts h

-- ---- from an operand

-- what waits last binds less tightly than a token's operator
abbrev pub LooserThan : ℕ → Option Waiting → Type 0
LooserThan n None = ⊤
LooserThan n (Some w) = precedence_number (waiting_precedence w) < n

-- the token goes on from the operand
abbrev pub Steps : (Precedence → List Lexeme → Type 0) → Option Waiting → Type 0
Steps K below =
    (k : TokenKind) (v : List ℕ) (ts : List Lexeme) (l : Precedence) → closes k ≡ false → LooserThan (own_of k) below → K l (lexeme k v ∷ ts)
    → (n : Precedence) × (mid : List Lexeme) × Step l n (lexeme k v ∷ ts) mid × K n mid

over_steps : (w : Waiting) (K : Precedence → List Lexeme → Type 0) → Dead K → (k : TokenKind) (v : List ℕ) {ts rest : List Lexeme} {l : Precedence}
    → closes k ≡ false → precedence_number (waiting_precedence w) < own_of k → Ascends (wanted (Some w)) l (lexeme k v ∷ ts) rest
    → K (waiting_precedence w) rest → (n : Precedence) × (mid : List Lexeme) × Step l n (lexeme k v ∷ ts) mid × Over w K n mid
over_steps w K d k v {ts = ts} c b (stays h) x = let o = own_least k in absurd (d k v ts (waiting_precedence w) c (omega (arith, b, o)) x)
over_steps w K d k v {rest = rest} c b (goes {n = n} {mid = mid} h s r) x = (n, mid, s, (rest, r, x))

steps_over : (w : Waiting) (K : Precedence → List Lexeme → Type 0) → Dead K → Steps (Over w K) (Some w)
steps_over w K d k v ts l c b x = over_steps w K d k v c b x.1 x.2

whole_steps : (C : List Lexeme → Type 0) → Needs C → (k : TokenKind) (v : List ℕ) {ts rest : List Lexeme} {l : Precedence}
    → closes k ≡ false → Ascends precedences.Conditional l (lexeme k v ∷ ts) rest → C rest
    → (n : Precedence) × (mid : List Lexeme) × Step l n (lexeme k v ∷ ts) mid × Whole C n mid
whole_steps C d k v {ts = ts} c (stays h) x = absurd (d k v ts c x)
whole_steps C d k v {rest = rest} c (goes {n = n} {mid = mid} h s r) x = (n, mid, s, (rest, r, x))

steps_behind : (ws : List Waiting) (K : Precedence → List Lexeme → Type 0) (below : Option Waiting) → Dead K → Steps K below
    → Steps (Behind ws K) (last_of below ws)
steps_behind [] K below d s = s
steps_behind (w ∷ ws) K below d s = steps_behind ws (Over w K) (Some w) (dead_over w K d) (steps_over w K d)

-- where what waits last binds less tightly than what the token makes, the token goes on from the operand
pub rest_steps : (gs : List Group) (ws : List Waiting) → Steps (Rest gs ws) (last_of None ws)
rest_steps gs ws =
    let C = Around gs (λ ts. ts ≡ []) in
    let d : Dead (Whole C) = rest_dead gs [] in
    let s : Steps (Whole C) None = λ k v ts l c b x. whole_steps C (all_needs gs) k v c x.1 x.2 in
    steps_behind ws (Whole C) None d s

-- what waits is applied where the token that follows binds no more tightly
over_reduces : (w : Waiting) (K : Precedence → List Lexeme → Type 0) (l : Precedence) (ts : List Lexeme) {rest : List Lexeme}
    → own_at ts ≤ precedence_number (waiting_precedence w) → Ascends (wanted (Some w)) l ts rest → K (waiting_precedence w) rest → K (waiting_precedence w) ts
over_reduces w K l ts b (stays h) x = x
over_reduces w K l ts b (goes {n = n} h s r) x = let f = step_of s in absurd (no_step w (precedence_number n) h (omega (arith, b, f.own)) f.some f.apart)
  where
    no_step : (w : Waiting) (n : ℕ) → precedence_number (wanted (Some w)) ≤ n → n ≤ precedence_number (waiting_precedence w) → 1 ≤ n → (n ≤ 5) ⊎ (7 ≤ n) → ⊥
    no_step (sign op m) n h k one (inl a) = omega (arith, h, a)
    no_step (sign op m) n h k one (inr a) = omega (arith, k, a)
    no_step (between o a) n h k one e = let x = operator_looser o in omega (arith, h, k, x)
    no_step (is_of_in t a) n h k one e = omega (arith, h, k)
    no_step (otherwise a b) n h k one e = omega (arith, k, one)

pub reduces : (gs : List Group) (ws : List Waiting) (w : Waiting) (l : Precedence) (ts : List Lexeme) → own_at ts ≤ precedence_number (waiting_precedence w)
    → Rest gs (ws ++ (w ∷ [])) l ts → Rest gs ws (waiting_precedence w) ts
reduces gs ws w l ts b h =
    let x = unpack ws w (Whole (Around gs (λ ts. ts ≡ []))) l ts h in
    over_reduces w (Rest gs ws) l ts b x.1 x.2

-- an expression ends where nothing goes on
whole_ends : (C : List Lexeme → Type 0) (l : Precedence) (ts : List Lexeme) {rest : List Lexeme} → own_at ts ≡ 0 → Ascends precedences.Conditional l ts rest
    → C rest → C ts
whole_ends C l ts b (stays h) x = x
whole_ends C l ts b (goes h s r) x = let f = step_of s in absurd (omega (arith, b, f.own, f.some))

pub ends : (gs : List Group) (l : Precedence) (ts : List Lexeme) → own_at ts ≡ 0 → Rest gs [] l ts → Around gs (λ ts. ts ≡ []) ts
ends gs l ts b h = whole_ends (Around gs (λ ts. ts ≡ [])) l ts b h.1 h.2

-- a group ends or goes on
pub group_ends : (gs : List Group) (ws : List Waiting) (x : Grouped) (l : Precedence) (ts : List Lexeme) → own_at ts ≡ 0
    → Rest (gs ++ ((ws, x) ∷ [])) [] l ts → Inside x (Rest gs ws) ts
group_ends gs ws x l ts b h = group_unpack gs (ws, x) (λ ts. ts ≡ []) ts (ends (gs ++ ((ws, x) ∷ [])) l ts b h)

-- ---- where an operand is wanted

-- an operand that was begun goes on
abbrev pub Joins : (Precedence → List Lexeme → Type 0) → Option Waiting → Type 0
Joins K below = (l : Precedence) (ts mid : List Lexeme) → Ascends (wanted below) l ts mid → K (wanted below) mid → K l ts

joins_over : (w : Waiting) (K : Precedence → List Lexeme → Type 0) → Joins (Over w K) (Some w)
joins_over w K l ts mid r x = (x.0, ascends_then (omega arith) r (λ n h. ascends_more h x.1), x.2)

joins_behind : (ws : List Waiting) (K : Precedence → List Lexeme → Type 0) (below : Option Waiting) → Joins K below → Joins (Behind ws K) (last_of below ws)
joins_behind [] K below j = j
joins_behind (w ∷ ws) K below j = joins_behind ws (Over w K) (Some w) (joins_over w K)

pub rest_joins : (gs : List Group) (ws : List Waiting) → Joins (Rest gs ws) (last_of None ws)
rest_joins gs ws =
    let C = Around gs (λ ts. ts ≡ []) in
    joins_behind ws (Whole C) None (λ l ts mid r x. (x.0, ascends_then (omega arith) r (λ n h. ascends_more h x.1), x.2))

-- one more waits
pub waits_more : (gs : List Group) (ws : List Waiting) (w : Waiting) (ts mid : List Lexeme) → Starts (Some w) ts mid → Rest gs ws (waiting_precedence w) mid
    → GoesOnAfter gs (ws ++ (w ∷ [])) None ts
waits_more gs ws w ts mid s x = (
  mid,
  subst (λ o. Starts o ts mid) (sym (last_next None ws w)) s,
  subst (λ o. Rest gs (ws ++ (w ∷ [])) (wanted o) mid) (sym (last_next None ws w))
      (pack ws w (Whole (Around gs (λ ts. ts ≡ []))) (wanted (Some w)) mid (mid, stays (omega arith), x)),
)

-- a group opens
pub opens : (gs : List Group) (ws : List Waiting) (x : Grouped) (ts mid : List Lexeme) (e : BareExpr) → Reads precedences.Conditional ts e mid
    → Inside x (Rest gs ws) mid → GoesOnAfter (gs ++ ((ws, x) ∷ [])) [] None ts
opens gs ws x ts mid e p h = (mid, (e, p), (mid, stays (omega arith), group_pack gs (ws, x) (λ ts. ts ≡ []) mid h))

-- a token that begins a primary
abbrev pub begins_primary : TokenKind → Bool
begins_primary kinds.True = true
begins_primary kinds.False = true
begins_primary kinds.Digits = true
begins_primary kinds.Quoted = true
begins_primary kinds.Slot = true
begins_primary kinds.Word = true
begins_primary kinds.OpenRound = true
begins_primary kinds.OpenSquare = true
begins_primary kinds.OpenCurly = true
begins_primary k = false

abbrev pub begins_sign : TokenKind → Bool
begins_sign kinds.Not = true
begins_sign kinds.Minus = true
begins_sign k = false

pub not_kind : {n : ℕ} {ts rest : List Lexeme} {e : BareExpr} → g.Nots n ts e rest → kind_at ts ≡ kinds.Not
not_kind (g.last_not p) = refl
not_kind (g.more_nots p) = refl

pub minus_kind : {n : ℕ} {ts rest : List Lexeme} {e : BareExpr} → g.Minuses n ts e rest → kind_at ts ≡ kinds.Minus
minus_kind (g.last_minus d p) = refl
minus_kind (g.negative p) = refl
minus_kind (g.more_minuses p) = refl

pub primary_kind : {ts rest : List Lexeme} {e : BareExpr} → g.Primary ts e rest → begins_primary (kind_at ts) ≡ true
primary_kind g.yes = refl
primary_kind g.no = refl
primary_kind (g.number h) = refl
primary_kind (g.text h) = refl
primary_kind (g.slot h) = refl
primary_kind (g.variable h) = refl
primary_kind (g.entity p h) = refl
primary_kind (g.function p h) = refl
primary_kind (g.brackets h) = refl
primary_kind (g.set h) = refl
primary_kind (g.record_of h d) = refl

sign_no_primary : (k : TokenKind) → begins_sign k ≡ true → begins_primary k ≡ true → ⊥
sign_no_primary kinds.Not h p = false≢true p
sign_no_primary kinds.Minus h p = false≢true p
sign_no_primary k h p = false≢true h

signs_kind : (op : UnaryOp) (n : ℕ) (ts rest : List Lexeme) (e : BareExpr) → AreSigns op n ts e rest → begins_sign (kind_at ts) ≡ true
signs_kind Unary.Not n ts rest e p = ap begins_sign (not_kind p)
signs_kind Unary.Neg n ts rest e p = ap begins_sign (minus_kind p)
signs_kind Unary.IsEmpty n ts rest e p = absurd p

-- an expression that begins with a primary goes on from it
begun : {m : Precedence} {ts rest : List Lexeme} → begins_primary (kind_at ts) ≡ true → First m ts rest
    → (a : BareExpr) × (mid : List Lexeme) × g.Primary ts a mid × Ascends m precedences.Member mid rest
begun b (from_primary {a = a} {mid = mid} p r) = (a, mid, p, r)
begun {ts = ts} b (from_nots n h p r) = absurd (sign_no_primary (kind_at ts) (ap begins_sign (not_kind p)) b)
begun {ts = ts} b (from_minuses n h p r) = absurd (sign_no_primary (kind_at ts) (ap begins_sign (minus_kind p)) b)
begun b (from_if e t p q r) = absurd (false≢true (sym (ap (λ us. begins_primary (kind_at us)) t) ∙ b))

-- a number below 0 is nowhere but behind a minus, and there it goes on
abbrev pub IsNoNumber : (Precedence → List Lexeme → Type 0) → Option Waiting → List Lexeme → Type 0
IsNoNumber K below ts =
    (n : ℕ) (d : List ℕ) (mid : List Lexeme) → below ≡ Some (sign Unary.Neg n) → ts ≡ lexeme kinds.Digits d ∷ mid → K precedences.Unary mid → ⊥

starts_primary : (K : Precedence → List Lexeme → Type 0) (below : Option Waiting) (ts mid : List Lexeme) → Joins K below → begins_primary (kind_at ts) ≡ true
    → IsNoNumber K below ts → Starts below ts mid → K (wanted below) mid → (a : BareExpr) × (from : List Lexeme) × g.Primary ts a from × K precedences.Member from
starts_primary K (Some (sign op n)) ts mid j b f (inl h) x =
    let p = begun b (first h.1) in
    (p.0, p.1, p.2, j precedences.Member p.1 mid (ascends_then (omega arith) p.3 (λ q k. stays (omega (arith, k)))) x)
starts_primary K (Some (sign op n)) ts mid j b f (inr (inl h)) x = absurd (sign_no_primary (kind_at ts) (signs_kind op h.0 ts mid h.1 h.3) b)
starts_primary K (Some (sign op n)) ts mid j b f (inr (inr h)) x =
    absurd (f n h.0 mid (ap (λ o. Some (sign o n)) h.1) h.3 x)
starts_primary K None ts mid j b f h x =
    let p = begun b (first h.1) in (p.0, p.1, p.2, j precedences.Member p.1 mid p.3 x)
starts_primary K (Some (between o a)) ts mid j b f h x =
    let p = begun b (first h.1) in (p.0, p.1, p.2, j precedences.Member p.1 mid p.3 x)
starts_primary K (Some (is_of_in t a)) ts mid j b f h x =
    let p = begun b (first h.1) in (p.0, p.1, p.2, j precedences.Member p.1 mid p.3 x)
starts_primary K (Some (otherwise a c)) ts mid j b f h x =
    let p = begun b (first h.1) in (p.0, p.1, p.2, j precedences.Member p.1 mid p.3 x)

-- a primary is wanted
pub primary_ahead : (gs : List Group) (ws : List Waiting) (ts : List Lexeme) → begins_primary (kind_at ts) ≡ true
    → IsNoNumber (Rest gs ws) (last_of None ws) ts → GoesOnAfter gs ws None ts
    → (a : BareExpr) × (from : List Lexeme) × g.Primary ts a from × Rest gs ws precedences.Member from
primary_ahead gs ws ts b f h = starts_primary (Rest gs ws) (last_of None ws) ts h.0 (rest_joins gs ws) b f h.1 h.2

-- a token of another kind than digits is no number
pub no_number : (K : Precedence → List Lexeme → Type 0) (below : Option Waiting) (k : TokenKind) (w : List ℕ) (ts : List Lexeme) → (k ≡ kinds.Digits → ⊥)
    → IsNoNumber K below (lexeme k w ∷ ts)
no_number K below k w ts other n d mid e f x = other (ap kind_at f)

-- ---- signs

abbrev is_not : TokenKind → Bool
is_not kinds.Not = true
is_not k = false

abbrev is_minus : TokenKind → Bool
is_minus kinds.Minus = true
is_minus k = false

-- behind the first of some signs, its operand begins
signs_less : (op : UnaryOp) (n before : ℕ) (k : TokenKind) (w : List ℕ) (ts rest : List Lexeme) (e : BareExpr) → n + before < 5
    → AreSigns op n (lexeme k w ∷ ts) e rest → SignStarts op before ts rest
signs_less Unary.Not n before k w ts rest e h p = nots_less before h p
  where
    nots_less : (before : ℕ) {n : ℕ} {k : TokenKind} {w : List ℕ} {ts rest : List Lexeme} {e : BareExpr} → n + before < 5
        → g.Nots n (lexeme k w ∷ ts) e rest → SignStarts Unary.Not before ts rest
    nots_less before h (g.last_not {a = a} p) = inl (a, p, tt)
    nots_less before h (g.more_nots {n = n} {a = a} p) = inr (inl (n, a, omega (arith, h), p))
signs_less Unary.Neg n before k w ts rest e h p = minuses_less before h p
  where
    minuses_less : (before : ℕ) {n : ℕ} {k : TokenKind} {w : List ℕ} {ts rest : List Lexeme} {e : BareExpr} → n + before < 5
        → g.Minuses n (lexeme k w ∷ ts) e rest → SignStarts Unary.Neg before ts rest
    minuses_less before h (g.last_minus {a = a} d p) = inl (a, p, d)
    minuses_less before h (g.negative {d = d} b) = inr (inr (d, refl, b, refl))
    minuses_less before h (g.more_minuses {n = n} {a = a} p) = inr (inl (n, a, omega (arith, h), p))
signs_less Unary.IsEmpty n before k w ts rest e h p = absurd p

-- an expression that begins with a sign
record BeginsWithSign (op : UnaryOp) (m : Precedence) (ts rest : List Lexeme) : Type 0 where
  signs : ℕ
  tree : BareExpr
  mid : List Lexeme
  four : signs ≤ 4
  six : precedence_number m ≤ 6
  are : AreSigns op signs ts tree mid
  ascends : Ascends m precedences.Unary mid rest

sign_begins : (op : UnaryOp) {m : Precedence} {ts rest : List Lexeme} → IsSign op (kind_at ts) → First m ts rest → BeginsWithSign op m ts rest
sign_begins Unary.IsEmpty s f = absurd s
sign_begins Unary.Not s (from_primary p r) = absurd (false≢true (sym (ap begins_primary s) ∙ primary_kind p))
sign_begins Unary.Not s (from_nots {n = n} {a = a} {mid = mid} h k p r) =
    record { signs = n; tree = a; mid = mid; four = h; six = k; are = p; ascends = r }
sign_begins Unary.Not s (from_minuses h k p r) = absurd (false≢true (sym (ap is_minus s) ∙ ap is_minus (minus_kind p)))
sign_begins Unary.Not s (from_if e t p q r) = absurd (false≢true (sym (ap (λ us. is_not (kind_at us)) t) ∙ ap is_not s))
sign_begins Unary.Neg s (from_primary p r) = absurd (false≢true (sym (ap begins_primary s) ∙ primary_kind p))
sign_begins Unary.Neg s (from_minuses {n = n} {a = a} {mid = mid} h k p r) =
    record { signs = n; tree = a; mid = mid; four = h; six = k; are = p; ascends = r }
sign_begins Unary.Neg s (from_nots h k p r) = absurd (false≢true (sym (ap is_not s) ∙ ap is_not (not_kind p)))
sign_begins Unary.Neg s (from_if e t p q r) = absurd (false≢true (sym (ap (λ us. is_minus (kind_at us)) t) ∙ ap is_minus s))

sign_no_digits : (op : UnaryOp) (k : TokenKind) → IsSign op k → k ≡ kinds.Digits → ⊥
sign_no_digits Unary.Not k s e = false≢true (sym (ap is_not e) ∙ ap is_not s)
sign_no_digits Unary.Neg k s e = false≢true (sym (ap is_minus e) ∙ ap is_minus s)
sign_no_digits Unary.IsEmpty k s e = s

module _ (K : Precedence → List Lexeme → Type 0) (op : UnaryOp) (k : TokenKind) (w : List ℕ) (ts mid : List Lexeme) (n : ℕ) (is : IsSign op k) where
  -- behind a sign that stands on none
  sign_first : (below : Option Waiting) → Joins K below → {e : BareExpr} → n ≡ 0 → Reads (wanted below) (lexeme k w ∷ ts) e mid → K (wanted below) mid
      → (from : List Lexeme) × SignStarts op n ts from × K precedences.Unary from
  sign_first below j z p x =
      let b = sign_begins op is (first p) in
      (b.mid, signs_less op b.signs n k w ts b.mid b.tree (omega (arith, b.four, z)) b.are, j precedences.Unary b.mid mid b.ascends x)

  starts_sign : (below : Option Waiting) → Joins K below → StandsOn below (sign op n) → Starts below (lexeme k w ∷ ts) mid → K (wanted below) mid
      → (from : List Lexeme) × SignStarts op n ts from × K precedences.Unary from
  starts_sign (Some (sign q m)) j s (inl h) x = let b = sign_begins op is (first h.1) in let six = b.six in absurd (omega (arith, six))
  starts_sign (Some (sign q m)) j s (inr (inl h)) x =
      (mid, signs_less op h.0 n k w ts mid h.1 (omega (arith, h.2, s.1)) (subst (λ o. AreSigns o h.0 (lexeme k w ∷ ts) h.1 mid) s.0 h.3), x)
  starts_sign (Some (sign q m)) j s (inr (inr h)) x = absurd (sign_no_digits op k is (ap kind_at h.3))
  starts_sign None j s h x = sign_first None j s h.1 x
  starts_sign (Some (between o a)) j s h x = sign_first (Some (between o a)) j s h.1 x
  starts_sign (Some (is_of_in t a)) j s h x = sign_first (Some (is_of_in t a)) j s h.1 x
  starts_sign (Some (otherwise a b)) j s h x = sign_first (Some (otherwise a b)) j s h.1 x

pub sign_ahead : (gs : List Group) (ws : List Waiting) (op : UnaryOp) (k : TokenKind) (w : List ℕ) (ts : List Lexeme) (n : ℕ) → IsSign op k
    → StandsOn (last_of None ws) (sign op n) → GoesOnAfter gs ws None (lexeme k w ∷ ts) → GoesOnAfter gs (ws ++ (sign op n ∷ [])) None ts
sign_ahead gs ws op k w ts n is s h =
    let x = starts_sign (Rest gs ws) op k w ts h.0 n is (last_of None ws) (rest_joins gs ws) s h.1 h.2 in
    waits_more gs ws (sign op n) ts x.0 x.1 x.2

some_signs : (op : UnaryOp) (n : ℕ) (ts rest : List Lexeme) (e : BareExpr) → AreSigns op n ts e rest → 1 ≤ n
some_signs Unary.Not n ts rest e p = some_nots p
  where
    some_nots : {n : ℕ} {ts rest : List Lexeme} {e : BareExpr} → g.Nots n ts e rest → 1 ≤ n
    some_nots (g.last_not p) = omega arith
    some_nots (g.more_nots p) = omega arith
some_signs Unary.Neg n ts rest e p = some_minuses p
  where
    some_minuses : {n : ℕ} {ts rest : List Lexeme} {e : BareExpr} → g.Minuses n ts e rest → 1 ≤ n
    some_minuses (g.last_minus d p) = omega arith
    some_minuses (g.negative p) = omega arith
    some_minuses (g.more_minuses p) = omega arith
some_signs Unary.IsEmpty n ts rest e p = absurd p

same_sign : (q op : UnaryOp) (n : ℕ) (k : TokenKind) (w : List ℕ) (ts rest : List Lexeme) (e : BareExpr) → IsSign op k
    → AreSigns q n (lexeme k w ∷ ts) e rest → q ≡ op
same_sign Unary.Not Unary.Not n k w ts rest e s p = refl
same_sign Unary.Neg Unary.Neg n k w ts rest e s p = refl
same_sign Unary.Not Unary.Neg n k w ts rest e s p = absurd (false≢true (sym (ap is_not s) ∙ ap is_not (not_kind p)))
same_sign Unary.Neg Unary.Not n k w ts rest e s p = absurd (false≢true (sym (ap is_minus s) ∙ ap is_minus (minus_kind p)))
same_sign Unary.IsEmpty op n k w ts rest e s p = absurd p
same_sign q Unary.IsEmpty n k w ts rest e s p = absurd s

starts_no_sign : (op : UnaryOp) (k : TokenKind) (w : List ℕ) (ts mid : List Lexeme) (below : Option Waiting) → IsSign op k → TakesNoSign op below
    → Starts below (lexeme k w ∷ ts) mid → ⊥
starts_no_sign op k w ts mid (Some (sign q m)) s t (inl h) = let b = sign_begins op s (first h.1) in let six = b.six in omega (arith, six)
starts_no_sign op k w ts mid (Some (sign q m)) s t (inr (inl h)) =
    let one = some_signs q h.0 (lexeme k w ∷ ts) mid h.1 h.3 in
    let three = t (same_sign q op h.0 k w ts mid h.1 s h.3) in omega (arith, one, three, h.2)
starts_no_sign op k w ts mid (Some (sign q m)) s t (inr (inr h)) = sign_no_digits op k s (ap kind_at h.3)
starts_no_sign op k w ts mid None s t h = t
starts_no_sign op k w ts mid (Some (between o a)) s t h = t
starts_no_sign op k w ts mid (Some (is_of_in x a)) s t h = t
starts_no_sign op k w ts mid (Some (otherwise a b)) s t h = t

pub no_sign_ahead : (gs : List Group) (ws : List Waiting) (op : UnaryOp) (k : TokenKind) (w : List ℕ) (ts : List Lexeme) → IsSign op k
    → TakesNoSign op (last_of None ws) → GoesOnAfter gs ws None (lexeme k w ∷ ts) → ⊥
no_sign_ahead gs ws op k w ts is s h = starts_no_sign op k w ts h.0 (last_of None ws) is s h.1

-- ---- numbers

abbrev digits_at : List Lexeme → List ℕ
digits_at [] = []
digits_at (lexeme k w ∷ ts) = w

abbrev pub behind_first : List Lexeme → List Lexeme
behind_first [] = []
behind_first (t ∷ ts) = ts

-- a sign goes on from its operand alone
unary_stays : {l : Precedence} {ts rest : List Lexeme} → precedence_number l ≤ 6 → Ascends precedences.Unary l ts rest → rest ≡ ts
unary_stays h (stays k) = refl
unary_stays h (goes {n = n} k (accessed a b x) r) = let e = ap precedence_number a in absurd (omega (arith, h, e))
unary_stays h (goes {n = n} k (operated o e t b p) r) =
    let f = operator_fits _ o e in let y = ap precedence_number b in absurd (omega (arith, k, f.1, f.3, y))
unary_stays h (goes {n = n} k (tested t b x) r) = let y = ap precedence_number b in absurd (omega (arith, k, y))

starts_negative : (n : ℕ) (d : List ℕ) (rest mid : List Lexeme) → is_number_alone (lexeme kinds.Digits d ∷ rest) ≡ true
    → SignStarts Unary.Neg n (lexeme kinds.Digits d ∷ rest) mid → (digits_value 10 d ≤ 2 ^ 63) × (mid ≡ rest)
starts_negative n d rest mid a (inl h) = absurd (false≢true (sym h.2 ∙ a))
starts_negative n d rest mid a (inr (inl h)) = absurd (false≢true (ap is_minus (minus_kind h.3)))
starts_negative n d rest mid a (inr (inr h)) =
    (subst (λ e. digits_value 10 e ≤ 2 ^ 63) (sym (ap digits_at h.3)) h.2, sym (ap behind_first h.3))

-- digits behind a minus are a number below 0
pub negative_ahead : (gs : List Group) (ws : List Waiting) (n : ℕ) (d : List ℕ) (rest : List Lexeme) → is_number_alone (lexeme kinds.Digits d ∷ rest) ≡ true
    → GoesOnAfter gs (ws ++ (sign Unary.Neg n ∷ [])) None (lexeme kinds.Digits d ∷ rest) → (digits_value 10 d ≤ 2 ^ 63) × Rest gs ws precedences.Unary rest
negative_ahead gs ws n d rest a h =
    let w = sign Unary.Neg n in
    let s = starts_negative n d rest h.0 a (subst (λ o. Starts o (lexeme kinds.Digits d ∷ rest) h.0) (last_next None ws w) h.1) in
    let x = unpack ws w (Whole (Around gs (λ ts. ts ≡ []))) precedences.Unary h.0
    (subst (λ o. Rest gs (ws ++ (w ∷ [])) (wanted o) h.0) (last_next None ws w) h.2) in
    (s.0, subst (Rest gs ws precedences.Unary) (unary_stays (omega arith) x.1 ∙ s.1) x.2)

-- ---- conditionals

no_if : {m : Precedence} {e : BareExpr} (i : List ℕ) (ts mid : List Lexeme) → 1 ≤ precedence_number m → Reads m (lexeme kinds.If i ∷ ts) e mid → ⊥
no_if i ts mid h p = no_first h (first p)
  where
    no_first : {m : Precedence} {i : List ℕ} {ts mid : List Lexeme} → 1 ≤ precedence_number m → First m (lexeme kinds.If i ∷ ts) mid → ⊥
    no_first h (from_primary p r) = false≢true (primary_kind p)
    no_first h (from_nots n k p r) = false≢true (ap is_not (not_kind p))
    no_first h (from_minuses n k p r) = false≢true (ap is_minus (minus_kind p))
    no_first h (from_if e t p q r) = let x = ap precedence_number e in omega (arith, h, x)

-- behind `if`
abbrev pub AfterIf : (Precedence → List Lexeme → Type 0) → List Lexeme → Type 0
AfterIf K ts = (e : BareExpr) × (mid : List Lexeme) × Reads precedences.Conditional ts e mid × Inside in_test K mid

if_first : (K : Precedence → List Lexeme → Type 0) {i : List ℕ} {ts mid : List Lexeme} → First precedences.Conditional (lexeme kinds.If i ∷ ts) mid
    → K precedences.Conditional mid → AfterIf K ts
if_first K (from_primary p r) x = absurd (false≢true (primary_kind p))
if_first K (from_nots n k p r) x = absurd (false≢true (ap is_not (not_kind p)))
if_first K (from_minuses n k p r) x = absurd (false≢true (ap is_minus (minus_kind p)))
if_first K {ts = ts} {mid = mid} (from_if {t = t} {e = e} {a = a} {b = b} {c = c} {us = us} {vs = vs} {xs = xs} m s p q r) x = (
  a,
  lexeme kinds.Then t ∷ vs,
  subst (λ y. Reads precedences.Conditional y a (lexeme kinds.Then t ∷ vs)) (sym (ap behind_first s)) p,
  (t, vs, b, lexeme kinds.Else e ∷ xs, refl, q, (e, xs, c, mid, refl, r, x)),
)

starts_if : (K : Precedence → List Lexeme → Type 0) (below : Option Waiting) (i : List ℕ) (ts mid : List Lexeme) → Starts below (lexeme kinds.If i ∷ ts) mid
    → K (wanted below) mid → (least_operand below ≤ 0) × AfterIf K ts
starts_if K None i ts mid h x = (omega arith, if_first K (first h.1) x)
starts_if K (Some (otherwise a b)) i ts mid h x = (omega arith, if_first K (first h.1) x)
starts_if K (Some (between o a)) i ts mid h x = let l = operator_looser o in absurd (no_if i ts mid (omega (arith, l)) h.1)
starts_if K (Some (is_of_in t a)) i ts mid h x = absurd (no_if i ts mid (omega arith) h.1)
starts_if K (Some (sign op n)) i ts mid (inl h) x = absurd (no_if i ts mid (omega arith) h.1)
starts_if K (Some (sign op n)) i ts mid (inr (inl h)) x = absurd (false≢true (signs_kind op h.0 (lexeme kinds.If i ∷ ts) mid h.1 h.3))
starts_if K (Some (sign op n)) i ts mid (inr (inr h)) x = absurd (false≢true (ap (λ us. begins_primary (kind_at us)) h.3))

pub conditional_ahead : (gs : List Group) (ws : List Waiting) (i : List ℕ) (ts : List Lexeme) → GoesOnAfter gs ws None (lexeme kinds.If i ∷ ts)
    → (least_operand (last_of None ws) ≤ 0) × GoesOnAfter (gs ++ ((ws, in_test) ∷ [])) [] None ts
conditional_ahead gs ws i ts h =
    let x = starts_if (Rest gs ws) (last_of None ws) i ts h.0 h.1 h.2 in
    (x.0, opens gs ws in_test ts x.1.1 x.1.0 x.1.2 x.1.3)

-- ---- what begins no expression

abbrev pub begins_expression : TokenKind → Bool
begins_expression kinds.If = true
begins_expression kinds.Not = true
begins_expression kinds.Minus = true
begins_expression k = begins_primary k

primary_expression : (k : TokenKind) → begins_primary k ≡ true → begins_expression k ≡ true
primary_expression kinds.If h = refl
primary_expression kinds.Not h = refl
primary_expression kinds.Minus h = refl
primary_expression k h = h

sign_expression : (k : TokenKind) → begins_sign k ≡ true → begins_expression k ≡ true
sign_expression kinds.Not h = refl
sign_expression kinds.Minus h = refl
sign_expression k h = absurd (false≢true h)

first_kind : {m : Precedence} {ts rest : List Lexeme} → First m ts rest → begins_expression (kind_at ts) ≡ true
first_kind {ts = ts} (from_primary p r) = primary_expression (kind_at ts) (primary_kind p)
first_kind (from_nots n k p r) = ap begins_expression (not_kind p)
first_kind (from_minuses n k p r) = ap begins_expression (minus_kind p)
first_kind (from_if e t p q r) = ap (λ us. begins_expression (kind_at us)) t

pub reads_kind : {m : Precedence} {ts rest : List Lexeme} {e : BareExpr} → Reads m ts e rest → begins_expression (kind_at ts) ≡ true
reads_kind p = first_kind (first p)

starts_kind : (below : Option Waiting) (ts mid : List Lexeme) → Starts below ts mid → begins_expression (kind_at ts) ≡ true
starts_kind None ts mid h = reads_kind h.1
starts_kind (Some (between o a)) ts mid h = reads_kind h.1
starts_kind (Some (is_of_in t a)) ts mid h = reads_kind h.1
starts_kind (Some (otherwise a b)) ts mid h = reads_kind h.1
starts_kind (Some (sign op n)) ts mid (inl h) = reads_kind h.1
starts_kind (Some (sign op n)) ts mid (inr (inl h)) = sign_expression (kind_at ts) (signs_kind op h.0 ts mid h.1 h.3)
starts_kind (Some (sign op n)) ts mid (inr (inr h)) = ap (λ us. begins_expression (kind_at us)) h.3

pub begins_ahead : (gs : List Group) (ws : List Waiting) (ts : List Lexeme) → GoesOnAfter gs ws None ts → begins_expression (kind_at ts) ≡ true
begins_ahead gs ws ts h = starts_kind (last_of None ws) ts h.0 h.1
