-- What each step of the parser does to what is parsed so far.
use Rattle.std.proofs.Common.{◌≡◌, ◌<◌, ◌≤◌, ℕ, false, List, [], ◌∷◌, ◌++◌, Option, Some, None, refl, sym, ◌∙◌, ap, subst, arith, append-nil}
use Rattle.std.specs.Prelude.{◌^◌, map, IsTrue}
use Rattle.cedar_names.specs.Names.{BareName}
use Rattle.cedar_terms.specs.Literals.{LongLit}
use Rattle.cedar_terms.specs.declared.ops.UnaryOp.{UnaryOp}
use Rattle.cedar_terms.specs.declared.ops.UnaryOp.TheVariants as Unary
use Rattle.cedar_builders.specs.BareExpr.{Text, BareExpr, Set, Record, Is, Lit, no_trees, trees_of, fields_of}
use Rattle.cedar_terms.specs.Precedences.{precedence_number}
use Rattle.cedar_terms.specs.declared.precedence.Precedence.{Precedence}
use Rattle.cedar_terms.specs.declared.precedence.Precedence.TheVariants as precedences
use Rattle.cedar_lexer.specs.declared.token.TokenKind.{TokenKind}
use Rattle.cedar_lexer.specs.declared.token.TokenKind.TheVariants as kinds
use Rattle.semantics_grammar.specs.Lexemes.{Lexeme, lexeme}
use Rattle.semantics_grammar.specs.Written.{IsPath, IsKey, function_tree, is_number_alone}
use Rattle.semantics_grammar.specs.Grammar as g
use Rattle.semantics_grammar.specs.Grammar.{Reads, conditional, no_conditional, disjunction, conjunction, relation, sum, product, no_sign, nots, minuses, member, GoesOn, no_operator, or, and, plus, minus, times, Tests, no_test, equal, not_equal, less, less_equal, greater, greater_equal, is_in, Nots, last_not, more_nots, Minuses, last_minus, negative, more_minuses, Accesses, no_access, attribute, index, method, Primary}
use Rattle.cedar_parser.specs.Waiting.{Operator, operator_of, operator_precedences, closing_of, IsRowTree, IsBelow, Waiting, sign, between, is_of_in, otherwise, waiting_tree, waiting_precedence, least_operand, StandsOn, last_of, Row, members, arguments, method_arguments, Grouped, in_brackets, in_test, in_branch, in_row, in_record, Group}
use Rattle.cedar_parser.specs.SoFar.{IsNotTaken, IsOperand, IsSign, IsWaiting, AreWaiting, AreItems, no_items, item, AreFields, no_fields, field, AreRowItems, IsOpened, AreGroups, IsParsedUpTo, IsParsedBefore, IsOpenUpTo, IsRecordUpTo, IsFree}
use Rattle.cedar_builders.specs.Keys.{are_distinct, in_key_order}
use Rattle.std.specs.Str.Parse.{digits_value, signed_digits_value}
use Rattle.cedar_parser.proofs.Levels.{loosened}
use Rattle.cedar_parser.proofs.Operators.{operator_small, last_small, last_next}
use Rattle.cedar_parser.proofs.Waits.{pushed, popped, last_is, group_pushed, group_popped, reduced, signed}

-- ---- operands

-- where what waits last binds less tightly than an operator, its operand is an expression
operand_reads : (below : Option Waiting) (own l : Precedence) {ts rest : List Lexeme} {e : BareExpr} → IsBelow own below → precedence_number own ≤ 5
    → IsOperand below l ts e rest → Reads l ts e rest
operand_reads None own l b small h = h.1
operand_reads (Some (sign op n)) own l b small h = absurd (omega (arith, b, small))
operand_reads (Some (between o a)) own l b small h = h.1
operand_reads (Some (is_of_in t a)) own l b small h = h.1
operand_reads (Some (otherwise a c)) own l b small h = h.1

-- and what binds so tightly may stand on it
least_below : (below : Option Waiting) (own : Precedence) → IsBelow own below → precedence_number own ≤ 5 → least_operand below ≤ precedence_number own
least_below None own b small = omega arith
least_below (Some (sign op n)) own b small = absurd (omega (arith, b, small))
least_below (Some (between o a)) own b small = last_next o (precedence_number own) b
least_below (Some (is_of_in t a)) own b small = omega (arith, b)
least_below (Some (otherwise a c)) own b small = omega arith

between_on : (below : Option Waiting) (o : Operator) (a : BareExpr) → least_operand below ≤ precedence_number (operator_precedences o).0 → StandsOn below (between o a)
between_on None o a h = h
between_on (Some (sign op n)) o a h = h
between_on (Some (between p b)) o a h = h
between_on (Some (is_of_in t b)) o a h = h
between_on (Some (otherwise b c)) o a h = h

is_in_on : (below : Option Waiting) (t a : BareExpr) → least_operand below ≤ 3 → StandsOn below (is_of_in t a)
is_in_on None t a h = h
is_in_on (Some (sign op n)) t a h = h
is_in_on (Some (between p b)) t a h = h
is_in_on (Some (is_of_in u b)) t a h = h
is_in_on (Some (otherwise b c)) t a h = h

pub otherwise_on : (below : Option Waiting) (a b : BareExpr) → least_operand below ≤ 0 → StandsOn below (otherwise a b)
otherwise_on None a b h = h
otherwise_on (Some (sign op n)) a b h = h
otherwise_on (Some (between p c)) a b h = h
otherwise_on (Some (is_of_in u c)) a b h = h
otherwise_on (Some (otherwise c d)) a b h = h

relation_operand : (below : Option Waiting) {ts rest : List Lexeme} {e : BareExpr} → IsBelow precedences.Relation below → Reads precedences.Relation ts e rest
    → IsOperand below precedences.Relation ts e rest
relation_operand None b p = (omega arith, p)
relation_operand (Some (sign op n)) b p = absurd (omega (arith, b))
relation_operand (Some (between o a)) b p = (last_next o 3 b, p)
relation_operand (Some (is_of_in t a)) b p = absurd (omega (arith, b))
relation_operand (Some (otherwise a c)) b p = (omega arith, p)

-- a member is an operand of all that may wait, unless it is a number that is part of a minus
member_operand : (below : Option Waiting) {ts rest : List Lexeme} {e : BareExpr} → IsFree below ts → Reads precedences.Member ts e rest
    → IsOperand below precedences.Member ts e rest
member_operand None f p = (omega arith, p)
member_operand (Some (sign op n)) f p = (p, f)
member_operand (Some (between o a)) f p = (let s = last_small o in omega (arith, s), p)
member_operand (Some (is_of_in t a)) f p = (omega arith, p)
member_operand (Some (otherwise a c)) f p = (omega arith, p)

operand_member : (below : Option Waiting) {ts rest : List Lexeme} {e : BareExpr} → IsOperand below precedences.Member ts e rest
    → IsFree below ts × Reads precedences.Member ts e rest
operand_member None h = (tt, h.1)
operand_member (Some (sign op n)) h = (h.1, h.0)
operand_member (Some (between o a)) h = (tt, h.1)
operand_member (Some (is_of_in t a)) h = (tt, h.1)
operand_member (Some (otherwise a c)) h = (tt, h.1)

not_taken : (op : UnaryOp) (ts : List Lexeme) → is_number_alone ts ≡ false → IsNotTaken op ts
not_taken Unary.Neg ts h = h
not_taken Unary.Not ts h = tt
not_taken Unary.IsEmpty ts h = tt

pub free : (below : Option Waiting) (ts : List Lexeme) → is_number_alone ts ≡ false → IsFree below ts
free None ts h = tt
free (Some (sign op n)) ts h = not_taken op ts h
free (Some (between o a)) ts h = tt
free (Some (is_of_in t a)) ts h = tt
free (Some (otherwise a c)) ts h = tt

accesses_then : {ts mid rest : List Lexeme} {a e f : BareExpr} → Accesses ts a e mid → Accesses mid e f rest → Accesses ts a f rest
accesses_then no_access q = q
accesses_then (attribute p) q = attribute (accesses_then p q)
accesses_then (index t p) q = index t (accesses_then p q)
accesses_then (method n i w t p) q = method n i w t (accesses_then p q)

member_on : {ts mid rest : List Lexeme} {a e : BareExpr} → Reads precedences.Member ts a mid → Accesses mid a e rest → Reads precedences.Member ts e rest
member_on (member p g) q = member p (accesses_then g q)

-- ---- rows

items_pushed : {ts mid rest : List Lexeme} {es : List BareExpr} {e : BareExpr} {w : List ℕ} → AreItems ts es mid
    → Reads precedences.Conditional mid e (lexeme kinds.Comma w ∷ rest) → AreItems ts (es ++ (e ∷ [])) rest
items_pushed no_items p = item p no_items
items_pushed (item q h) p = item q (items_pushed h p)

items_end : (c : TokenKind) (w : List ℕ) {ts rest mid : List Lexeme} {es : List BareExpr} → AreItems ts es mid → mid ≡ lexeme c w ∷ rest
    → g.Items c ts (trees_of es) rest
items_end c w {ts = ts} {rest = rest} no_items e = subst (λ t. g.Items c t no_trees rest) (sym e) g.no_items
items_end c w (item q h) e = g.item q (items_end c w h e)

items_closed : (c : TokenKind) (w : List ℕ) {ts mid rest : List Lexeme} {es : List BareExpr} {e : BareExpr} → AreItems ts es mid
    → Reads precedences.Conditional mid e (lexeme c w ∷ rest) → g.Items c ts (trees_of (es ++ (e ∷ []))) rest
items_closed c w no_items p = g.last_item p
items_closed c w (item q h) p = g.item q (items_closed c w h p)

fields_pushed : {ts mid rest : List Lexeme} {ps : List (Text × BareExpr)} {e : BareExpr} {l : Lexeme} {k : Text} {c w : List ℕ}
    → AreFields ts ps (l ∷ lexeme kinds.Colon c ∷ mid) → IsKey l k → Reads precedences.Conditional mid e (lexeme kinds.Comma w ∷ rest)
    → AreFields ts (ps ++ ((k, e) ∷ [])) rest
fields_pushed no_fields key p = field key p no_fields
fields_pushed (field j q h) key p = field j q (fields_pushed h key p)

fields_end : (w : List ℕ) {ts rest mid : List Lexeme} {ps : List (Text × BareExpr)} → AreFields ts ps mid
    → mid ≡ lexeme kinds.CloseCurly w ∷ rest → g.Fields ts ps rest
fields_end w {rest = rest} no_fields e = subst (λ t. g.Fields t [] rest) (sym e) g.no_fields
fields_end w (field j q h) e = g.field j q (fields_end w h e)

fields_closed : (w : List ℕ) {ts mid rest : List Lexeme} {ps : List (Text × BareExpr)} {e : BareExpr} {l : Lexeme} {k : Text} {c : List ℕ}
    → AreFields ts ps (l ∷ lexeme kinds.Colon c ∷ mid) → IsKey l k → Reads precedences.Conditional mid e (lexeme kinds.CloseCurly w ∷ rest)
    → g.Fields ts (ps ++ ((k, e) ∷ [])) rest
fields_closed w no_fields key p = g.last_field key p
fields_closed w (field j q h) key p = g.field j q (fields_closed w h key p)

-- a number behind which a dot stands is not alone
number_goes_on : {ts rest : List Lexeme} {d : List ℕ} {e : BareExpr} → Reads precedences.Member ts e (lexeme kinds.Dot d ∷ rest)
    → is_number_alone ts ≡ false
number_goes_on (member p a) = dotted p a
  where
    at_number : (w : List ℕ) {d : List ℕ} {ts rest : List Lexeme} {a e : BareExpr} → Accesses ts a e (lexeme kinds.Dot d ∷ rest)
        → is_number_alone (lexeme kinds.Digits w ∷ ts) ≡ false
    at_number w no_access = refl
    at_number w (attribute h) = refl
    at_number w (index t h) = refl
    at_number w (method n i x t h) = refl

    dotted : {d : List ℕ} {ts mid rest : List Lexeme} {a e : BareExpr} → Primary ts a mid → Accesses mid a e (lexeme kinds.Dot d ∷ rest)
        → is_number_alone ts ≡ false
    dotted g.yes h = refl
    dotted g.no h = refl
    dotted (g.number {d = w} f) h = at_number w h
    dotted (g.text f) h = refl
    dotted (g.slot f) h = refl
    dotted (g.variable f) h = refl
    dotted (g.entity f t) h = refl
    dotted (g.function f i) h = refl
    dotted (g.brackets f) h = refl
    dotted (g.set f) h = refl
    dotted (g.record_of f i) h = refl

-- a row with the rest of its items, of which `closed` says that they end it
row_closed : (row : Row) (below : Option Waiting) (es bs : List BareExpr) (t : BareExpr) (ts mid rest : List Lexeme) → AreRowItems ts row es mid
    → ((us : List Lexeme) (cs : List BareExpr) → AreItems us cs mid → g.Items (closing_of row) us (trees_of (cs ++ bs)) rest)
    → IsRowTree row (es ++ bs) t → IsOperand below precedences.Member ts t rest
row_closed members below es bs t ts mid rest h closed is =
    let p : Primary (lexeme kinds.OpenSquare h.0 ∷ h.1) (Set (trees_of (es ++ bs))) rest = g.set (closed h.1 es h.3) in
    let f : is_number_alone ts ≡ false = ap is_number_alone h.2 in
    member_operand below (free below ts f)
    (subst (λ u. Reads precedences.Member ts u rest) (sym is)
    (subst (λ s. Reads precedences.Member s (Set (trees_of (es ++ bs))) rest) (sym h.2) (member p no_access)))
row_closed (arguments n) below es bs t ts mid rest h closed is =
    let p : Primary (lexeme kinds.Word h.0 ∷ h.3) (function_tree n (trees_of (es ++ bs))) rest =
    g.function (subst (λ s. IsPath s n (lexeme kinds.OpenRound h.1 ∷ h.2)) h.4 h.5) (closed h.2 es h.6) in
    let f : is_number_alone ts ≡ false = ap is_number_alone h.4 in
    member_operand below (free below ts f)
    (subst (λ u. Reads precedences.Member ts u rest) (sym is)
    (subst (λ s. Reads precedences.Member s (function_tree n (trees_of (es ++ bs))) rest) (sym h.4) (member p no_access)))
row_closed (method_arguments m) below es bs t ts mid rest h closed is =
    let i = closed h.2 h.4 h.7 in
    let is2 : IsRowTree (method_arguments m) (h.3 ∷ (h.4 ++ bs)) t = subst (λ cs. IsRowTree (method_arguments m) (cs ++ bs) t) h.5 is in
    member_operand below (free below ts (number_goes_on h.6)) (member_on h.6 (method is2.0 i is2.1 is2.2 no_access))

module _ (start : List Lexeme) (gs : List Group) where
  -- an operation is applied to its last operand
  pub applied : (ws : List Waiting) (w : Waiting) (l : Precedence) (e : BareExpr) (rest : List Lexeme) → IsParsedUpTo start gs (ws ++ (w ∷ [])) (Some (l, e)) rest
      → IsParsedUpTo start gs ws (Some (waiting_precedence w, waiting_tree w e)) rest
  applied ws w l e rest h =
      let p = popped None h.0 ws w h.1 h.3 in
      let q : IsOperand (Some w) l h.1 e rest = subst (λ o. IsOperand o l h.1 e rest) (last_is None ws w) h.4 in
      (h.0, p.0, h.2, p.1, reduced (last_of None ws) w l p.0 h.1 rest e p.2 p.3 q)

  -- one more waits
  pub more_waits : (ws : List Waiting) (w : Waiting) (inner mid rest : List Lexeme) → AreGroups start gs inner → AreWaiting None inner ws mid
      → StandsOn (last_of None ws) w → IsWaiting mid w rest → IsParsedUpTo start gs (ws ++ (w ∷ [])) None rest
  more_waits ws w inner mid rest g a s k = (inner, rest, g, pushed None inner ws w mid rest a s k, refl)

  -- an operator behind its left operand
  pub operator_parsed : (ws : List Waiting) (l : Precedence) (e : BareExpr) (k : TokenKind) (v : List ℕ) (o : Operator) (rest : List Lexeme)
      → IsParsedUpTo start gs ws (Some (l, e)) (lexeme k v ∷ rest) → operator_of k ≡ Some o → IsBelow (operator_precedences o).0 (last_of None ws)
      → precedence_number (operator_precedences o).1 ≤ precedence_number l → IsParsedUpTo start gs (ws ++ (between o e ∷ [])) None rest
  operator_parsed ws l e k v o rest h is below tight =
      let small = operator_small k o is in
      more_waits ws (between o e) h.0 h.1 rest h.2 h.3
      (between_on (last_of None ws) o e (least_below (last_of None ws) (operator_precedences o).0 below small))
      (k, v, is, loosened (operator_precedences o).1 l tight (operand_reads (last_of None ws) (operator_precedences o).0 l below small h.4))

  -- a test behind its operand
  pub test_parsed : (ws : List Waiting) (l : Precedence) (e f : BareExpr) (mid rest : List Lexeme) → IsParsedUpTo start gs ws (Some (l, e)) mid
      → IsBelow precedences.Relation (last_of None ws) → 4 ≤ precedence_number l → Tests mid e f rest → IsParsedUpTo start gs ws (Some (precedences.Relation, f)) rest
  test_parsed ws l e f mid rest h below tight t =
      let p = operand_reads (last_of None ws) precedences.Relation l below (omega arith) h.4 in
      (h.0, h.1, h.2, h.3, relation_operand (last_of None ws) below (relation (loosened precedences.Sum l tight p) t))

  pub is_in_parsed : (ws : List Waiting) (l : Precedence) (e : BareExpr) (w v : List ℕ) (n : BareName) (us rest : List Lexeme)
      → IsParsedUpTo start gs ws (Some (l, e)) (lexeme kinds.Is w ∷ us) → IsBelow precedences.Relation (last_of None ws) → 4 ≤ precedence_number l
      → IsPath us n (lexeme kinds.In v ∷ rest) → IsParsedUpTo start gs (ws ++ (is_of_in (Is e n) e ∷ [])) None rest
  is_in_parsed ws l e w v n us rest h below tight p =
      let q = operand_reads (last_of None ws) precedences.Relation l below (omega arith) h.4 in
      more_waits ws (is_of_in (Is e n) e) h.0 h.1 rest h.2 h.3
      (is_in_on (last_of None ws) (Is e n) e (least_below (last_of None ws) precedences.Relation below (omega arith)))
      (n, w, v, us, refl, loosened precedences.Sum l tight q, p)

  -- an attribute or an index behind a member
  pub access_parsed : (ws : List Waiting) (e f : BareExpr) (mid rest : List Lexeme) → IsParsedUpTo start gs ws (Some (precedences.Member, e)) mid
      → Accesses mid e f rest → IsParsedUpTo start gs ws (Some (precedences.Member, f)) rest
  access_parsed ws e f mid rest h a =
      let p = operand_member (last_of None ws) h.4 in
      (h.0, h.1, h.2, h.3, member_operand (last_of None ws) p.0 (member_on p.1 a))

  -- a primary
  pub primary_parsed : (ws : List Waiting) (e : BareExpr) (ts rest : List Lexeme) → IsParsedUpTo start gs ws None ts → IsFree (last_of None ws) ts
      → Primary ts e rest → IsParsedUpTo start gs ws (Some (precedences.Member, e)) rest
  primary_parsed ws e ts rest h f p =
      (h.0, ts, h.2, subst (λ t. AreWaiting None h.0 ws t) h.4 h.3, member_operand (last_of None ws) f (member p no_access))

  -- a number with the minus before it
  pub negative_parsed : (ws : List Waiting) (n : ℕ) (d : List ℕ) (rest : List Lexeme)
      → IsParsedUpTo start gs (ws ++ (sign Unary.Neg n ∷ [])) None (lexeme kinds.Digits d ∷ rest) → digits_value 10 d ≤ 2 ^ 63
      → IsParsedUpTo start gs ws (Some (precedences.Unary, Lit (LongLit (signed_digits_value 10 (45 ∷ d))))) rest
  negative_parsed ws n d rest h fits =
      let p = popped None h.0 ws (sign Unary.Neg n) h.1 h.3 in
      let e : p.0 ≡ lexeme kinds.Minus p.3.1 ∷ lexeme kinds.Digits d ∷ rest =
      p.3.4 ∙ (ap (λ k. lexeme k p.3.1 ∷ h.1) p.3.2 ∙ ap (λ ts. lexeme kinds.Minus p.3.1 ∷ ts) h.4) in
      let t = Lit (LongLit (signed_digits_value 10 (45 ∷ d))) in (
        h.0,
        p.0,
        h.2,
        p.1,
        signed (last_of None ws) Unary.Neg n 1 p.0 rest t p.2 (let b = p.3.3 in omega (arith, b)) (subst (λ ts. Minuses 1 ts t rest) (sym e) (negative fits)),
      )

  -- a sign
  pub sign_parsed : (ws : List Waiting) (op : UnaryOp) (n : ℕ) (k : TokenKind) (w : List ℕ) (rest : List Lexeme)
      → IsParsedUpTo start gs ws None (lexeme k w ∷ rest) → IsSign op k → StandsOn (last_of None ws) (sign op n) → n < 4
      → IsParsedUpTo start gs (ws ++ (sign op n ∷ [])) None rest
  sign_parsed ws op n k w rest h s on few = more_waits ws (sign op n) h.0 h.1 rest h.2 h.3 on (k, w, s, few, h.4)

  -- ---- groups

  -- what stands before a primary
  pub before_primary : (ws : List Waiting) (P : Option Waiting → List Lexeme → Type 0) (ts : List Lexeme) → IsParsedUpTo start gs ws None ts
      → P (last_of None ws) ts → IsParsedBefore start gs ws P
  before_primary ws P ts h p = (h.0, ts, h.2, subst (λ t. AreWaiting None h.0 ws t) h.4 h.3, p)

  -- a method behind its operand
  pub method_parsed : (ws : List Waiting) (e : BareExpr) (d m o : List ℕ) (rest : List Lexeme)
      → IsParsedUpTo start gs ws (Some (precedences.Member, e)) (lexeme kinds.Dot d ∷ lexeme kinds.Word m ∷ lexeme kinds.OpenRound o ∷ rest)
      → IsOpenUpTo start gs ws (in_row (method_arguments m) (e ∷ [])) rest
  method_parsed ws e d m o rest h =
      let p = operand_member (last_of None ws) h.4 in
      (h.0, h.1, h.2, h.3, (d, o, rest, e, [], refl, p.1, no_items))

  -- within a group none of the operations waits that are there
  pub group_open : (ws : List Waiting) (g : Grouped) (rest : List Lexeme) → IsOpenUpTo start gs ws g rest
      → IsParsedUpTo start (gs ++ ((ws, g) ∷ [])) [] None rest
  group_open ws g rest h = (rest, rest, group_pushed start gs (ws, g) h.0 rest h.2 (h.1, h.3, h.4), refl, refl)

  -- a group ends, or goes on, behind an operand for which nothing waits
  abbrev Closing : List Waiting → Grouped → BareExpr → List Lexeme → Type 0
  Closing ws g e rest =
      IsParsedBefore start gs ws (λ below at. (mid : List Lexeme) × IsOpened below at g mid × Reads precedences.Conditional mid e rest)

  closing : (ws : List Waiting) (g : Grouped) (l : Precedence) (e : BareExpr) (rest : List Lexeme)
      → IsParsedUpTo start (gs ++ ((ws, g) ∷ [])) [] (Some (l, e)) rest → Closing ws g e rest
  closing ws g l e rest h =
      let p = group_popped start gs (ws, g) h.0 h.2 in
      (p.0, p.2.0, p.1, p.2.1, (h.1, subst (λ m. IsOpened (last_of None ws) p.2.0 g m) h.3 p.2.2, loosened precedences.Conditional l (omega arith) h.4.1))

  pub brackets_end : (ws : List Waiting) (l : Precedence) (e : BareExpr) (v : List ℕ) (rest : List Lexeme)
      → IsParsedUpTo start (gs ++ ((ws, in_brackets) ∷ [])) [] (Some (l, e)) (lexeme kinds.CloseRound v ∷ rest)
      → IsParsedUpTo start gs ws (Some (precedences.Member, e)) rest
  brackets_end ws l e v rest h =
      let c = closing ws in_brackets l e (lexeme kinds.CloseRound v ∷ rest) h in
      let q : Primary (lexeme kinds.OpenRound c.4.1.0 ∷ c.4.0) e rest = g.brackets c.4.2 in
      let f : is_number_alone c.1 ≡ false = ap is_number_alone c.4.1.1 in (
        c.0,
        c.1,
        c.2,
        c.3,
        member_operand (last_of None ws) (free (last_of None ws) c.1 f)
            (subst (λ s. Reads precedences.Member s e rest) (sym c.4.1.1) (member q no_access)),
      )

  pub test_end : (ws : List Waiting) (l : Precedence) (e : BareExpr) (v : List ℕ) (rest : List Lexeme)
      → IsParsedUpTo start (gs ++ ((ws, in_test) ∷ [])) [] (Some (l, e)) (lexeme kinds.Then v ∷ rest)
      → IsOpenUpTo start gs ws (in_branch e) rest
  test_end ws l e v rest h =
      let c = closing ws in_test l e (lexeme kinds.Then v ∷ rest) h in
      (c.0, c.1, c.2, c.3, (c.4.1.0, v, c.4.0, c.4.1.1, c.4.1.2, c.4.2))

  pub branch_end : (ws : List Waiting) (test : BareExpr) (l : Precedence) (e : BareExpr) (v : List ℕ) (rest : List Lexeme)
      → IsParsedUpTo start (gs ++ ((ws, in_branch test) ∷ [])) [] (Some (l, e)) (lexeme kinds.Else v ∷ rest)
      → IsParsedUpTo start gs (ws ++ (otherwise test e ∷ [])) None rest
  branch_end ws test l e v rest h =
      let c = closing ws (in_branch test) l e (lexeme kinds.Else v ∷ rest) h in
      more_waits ws (otherwise test e) c.0 c.1 rest c.2 c.3 (otherwise_on (last_of None ws) test e c.4.1.3)
      (c.4.1.0, c.4.1.1, v, c.4.1.2, c.4.0, c.4.1.4, c.4.1.5, c.4.2)

  row_more : (row : Row) (es : List BareExpr) (e : BareExpr) (v : List ℕ) (ts mid rest : List Lexeme) → AreRowItems ts row es mid
      → Reads precedences.Conditional mid e (lexeme kinds.Comma v ∷ rest) → AreRowItems ts row (es ++ (e ∷ [])) rest
  row_more members es e v ts mid rest h p = (h.0, h.1, h.2, items_pushed h.3 p)
  row_more (arguments n) es e v ts mid rest h p = (h.0, h.1, h.2, h.3, h.4, h.5, items_pushed h.6 p)
  row_more (method_arguments m) es e v ts mid rest h p =
      (h.0, h.1, h.2, h.3, h.4 ++ (e ∷ []), ap (λ cs. cs ++ (e ∷ [])) h.5, h.6, items_pushed h.7 p)

  -- a comma behind an item
  pub item_end : (ws : List Waiting) (row : Row) (es : List BareExpr) (l : Precedence) (e : BareExpr) (v : List ℕ) (rest : List Lexeme)
      → IsParsedUpTo start (gs ++ ((ws, in_row row es) ∷ [])) [] (Some (l, e)) (lexeme kinds.Comma v ∷ rest)
      → IsOpenUpTo start gs ws (in_row row (es ++ (e ∷ []))) rest
  item_end ws row es l e v rest h =
      let c = closing ws (in_row row es) l e (lexeme kinds.Comma v ∷ rest) h in
      (c.0, c.1, c.2, c.3, row_more row es e v c.1 c.4.0 rest c.4.1 c.4.2)

  -- the bracket behind the last item
  pub row_end : (ws : List Waiting) (row : Row) (es : List BareExpr) (l : Precedence) (e t : BareExpr) (v : List ℕ) (rest : List Lexeme)
      → IsParsedUpTo start (gs ++ ((ws, in_row row es) ∷ [])) [] (Some (l, e)) (lexeme (closing_of row) v ∷ rest)
      → IsRowTree row (es ++ (e ∷ [])) t → IsParsedUpTo start gs ws (Some (precedences.Member, t)) rest
  row_end ws row es l e t v rest h is =
      let c = closing ws (in_row row es) l e (lexeme (closing_of row) v ∷ rest) h in
      (c.0, c.1, c.2, c.3, row_closed row (last_of None ws) es (e ∷ []) t c.1 c.4.0 rest c.4.1 (λ us cs i. items_closed (closing_of row) v i c.4.2) is)

  -- the bracket where an item could stand
  pub row_ends : (ws : List Waiting) (row : Row) (es : List BareExpr) (t : BareExpr) (v : List ℕ) (rest : List Lexeme)
      → IsOpenUpTo start gs ws (in_row row es) (lexeme (closing_of row) v ∷ rest) → IsRowTree row es t
      → IsParsedUpTo start gs ws (Some (precedences.Member, t)) rest
  row_ends ws row es t v rest h is = (
    h.0,
    h.1,
    h.2,
    h.3,
    row_closed row (last_of None ws) es [] t h.1 (lexeme (closing_of row) v ∷ rest) rest h.4
        (λ us cs i. subst (λ xs. g.Items (closing_of row) us (trees_of xs) rest) (sym (append-nil cs)) (items_end (closing_of row) v i refl))
        (subst (λ xs. IsRowTree row xs t) (sym (append-nil es)) is),
  )

  -- ---- records

  record_closed : (below : Option Waiting) (o : List ℕ) (us ts rest : List Lexeme) (ps : List (Text × BareExpr)) → ts ≡ lexeme kinds.OpenCurly o ∷ us
      → g.Fields us ps rest → IsTrue (are_distinct (map (λ p. p.0) ps)) → IsOperand below precedences.Member ts (Record (fields_of (in_key_order ps))) rest
  record_closed below o us ts rest ps e f d =
      let n : is_number_alone ts ≡ false = ap is_number_alone e in
      let p : Primary (lexeme kinds.OpenCurly o ∷ us) (Record (fields_of (in_key_order ps))) rest = g.record_of f d in
      member_operand below (free below ts n) (subst (λ s. Reads precedences.Member s (Record (fields_of (in_key_order ps))) rest) (sym e) (member p no_access))

  -- the key of a field
  pub key_parsed : (ws : List Waiting) (ps : List (Text × BareExpr)) (l : Lexeme) (k : Text) (c : List ℕ) (rest : List Lexeme)
      → IsRecordUpTo start gs ws ps (l ∷ lexeme kinds.Colon c ∷ rest) → IsKey l k → IsOpenUpTo start gs ws (in_record ps k) rest
  key_parsed ws ps l k c rest h key = (h.0, h.1, h.2, h.3, (h.4.0, c, l, h.4.1, h.4.2, h.4.3, key))

  -- a comma behind a field
  pub field_end : (ws : List Waiting) (ps : List (Text × BareExpr)) (k : Text) (l : Precedence) (e : BareExpr) (v : List ℕ) (rest : List Lexeme)
      → IsParsedUpTo start (gs ++ ((ws, in_record ps k) ∷ [])) [] (Some (l, e)) (lexeme kinds.Comma v ∷ rest)
      → IsRecordUpTo start gs ws (ps ++ ((k, e) ∷ [])) rest
  field_end ws ps k l e v rest h =
      let c = closing ws (in_record ps k) l e (lexeme kinds.Comma v ∷ rest) h in
      (c.0, c.1, c.2, c.3, (c.4.1.0, c.4.1.3, c.4.1.4, fields_pushed c.4.1.5 c.4.1.6 c.4.2))

  -- the bracket behind the last field
  pub record_end : (ws : List Waiting) (ps : List (Text × BareExpr)) (k : Text) (l : Precedence) (e : BareExpr) (v : List ℕ) (rest : List Lexeme)
      → IsParsedUpTo start (gs ++ ((ws, in_record ps k) ∷ [])) [] (Some (l, e)) (lexeme kinds.CloseCurly v ∷ rest)
      → IsTrue (are_distinct (map (λ p. p.0) (ps ++ ((k, e) ∷ []))))
      → IsParsedUpTo start gs ws (Some (precedences.Member, Record (fields_of (in_key_order (ps ++ ((k, e) ∷ [])))))) rest
  record_end ws ps k l e v rest h d =
      let c = closing ws (in_record ps k) l e (lexeme kinds.CloseCurly v ∷ rest) h in (
        c.0,
        c.1,
        c.2,
        c.3,
        record_closed (last_of None ws) c.4.1.0 c.4.1.3 c.1 rest (ps ++ ((k, e) ∷ [])) c.4.1.4 (fields_closed v c.4.1.5 c.4.1.6 c.4.2) d,
      )

  -- the bracket where a field could stand
  pub record_ends : (ws : List Waiting) (ps : List (Text × BareExpr)) (v : List ℕ) (rest : List Lexeme)
      → IsRecordUpTo start gs ws ps (lexeme kinds.CloseCurly v ∷ rest) → IsTrue (are_distinct (map (λ p. p.0) ps))
      → IsParsedUpTo start gs ws (Some (precedences.Member, Record (fields_of (in_key_order ps)))) rest
  record_ends ws ps v rest h d =
      (h.0, h.1, h.2, h.3, record_closed (last_of None ws) h.4.0 h.4.1 h.1 rest ps h.4.2 (fields_end v h.4.3 refl) d)

-- ---- the whole

-- nothing is parsed
pub nothing_parsed : (start : List Lexeme) → IsParsedUpTo start [] [] None start
nothing_parsed start = (start, start, refl, refl, refl)

-- all is parsed
pub all_parsed : (start : List Lexeme) (l : Precedence) (e : BareExpr) → IsParsedUpTo start [] [] (Some (l, e)) [] → g.Stands start e
all_parsed start l e h = subst (λ t. Reads precedences.Conditional t e []) (sym (h.2 ∙ h.3)) (loosened precedences.Conditional l (omega arith) h.4.1)
