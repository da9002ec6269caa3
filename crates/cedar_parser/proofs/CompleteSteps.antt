-- The steps of the parser keep what is still to come, over its own parts.
use Rattle.std.proofs.Common.{◌≡◌, ◌<◌, ◌≤◌, ◌-◌, ℕ, suc, Bool, true, false, List, [], ◌∷◌, ◌++◌, Option, Some, None, Result, Ok, Err, IfOk, length, length-append, append_assoc, map, refl, sym, ◌∙◌, ap, subst, arith, inl, inr}
use Rattle.std.specs.Prelude.{IsTrue, ◌^◌, ◌⊎◌, MatchResult}
use Rattle.std.specs.Global.{Global}
use Rattle.std.specs.Rc.{rc_str_bytes}
use Rattle.std.specs.declared.rc.RcStr.{RcStr}
use Rattle.std.specs.Str.Parse.{digits_value}
use Rattle.std.specs.List.{slice_get}
use Rattle.std.proofs.lemmas.Option.{slice_get_within}
use Rattle.std.proofs.lemmas.Bool.{false≢true}
use Rattle.cedar_terms.specs.declared.ops.UnaryOp.{UnaryOp}
use Rattle.cedar_terms.specs.declared.ops.UnaryOp.TheVariants as Unary
use Rattle.cedar_terms.specs.Precedences.{precedence_number}
use Rattle.cedar_terms.specs.declared.precedence.Precedence.{Precedence}
use Rattle.cedar_terms.specs.declared.precedence.Precedence.TheVariants as precedences
use Rattle.cedar_builders.specs.BareExpr.{Text, BareExpr, BareExprs}
use Rattle.cedar_builders.specs.Keys.{are_distinct, meant_pairs}
use Rattle.cedar_exprs.specs.BareExpr.{bare_expr}
use Rattle.cedar_exprs.specs.declared.expr.Expr.{Expr}
use Rattle.cedar_lexer.specs.Grammar.{IsTokenText}
use Rattle.cedar_lexer.specs.declared.parse_failure.ParseFailure.{ParseFailure}
use Rattle.cedar_lexer.specs.declared.parse_failure.ParseFailure.TheVariants as failure
use Rattle.cedar_lexer.specs.declared.token.Token.{Token}
use Rattle.cedar_lexer.specs.declared.token.TokenKind.{TokenKind}
use Rattle.cedar_lexer.specs.declared.token.TokenKind.TheVariants as kinds
use Rattle.cedar_lexer.specs.declared.token_stream.TokenStream.{TokenStream}
use Rattle.semantics_grammar.specs.Lexemes.{Lexeme, lexeme, lexeme_of}
use Rattle.semantics_grammar.specs.Grammar as g
use Rattle.cedar_parser.specs.Waiting.{operator_of, operator_precedences, Waiting, sign, otherwise, waiting_precedence, least_operand, StandsOn, last_of, Row, closing_of, Grouped, in_brackets, in_test, in_branch, in_row, in_record, Group as OpenGroup}
use Rattle.cedar_parser.specs.SoFar.{IsSign}
use Rattle.cedar_parser.specs.Ahead as ahead
use Rattle.cedar_parser.specs.Ahead.{FieldsAfter, ItemsAfter, Around, GoesOnAfter, InBranch, Inside, Rest, RowTakes, RowGoesOn, RecordGoesOn, Starts, TakesNoSign, Through, Behind, Whole, keys, closes, ends_path, least_before, own_at, own_of}
use Rattle.cedar_parser.specs.Meant.{AreLexemes, HasEnd, IsMinusPopped, IsPopped, IsPushed, Takes, WaitsBelow, first_kind, grouped, here, open_group, open_groups, operator, waiting, waits}
use Rattle.cedar_parser.specs.Complete.{IsAhead, IsBehind, IsOpening, IsRecordAhead, IsResumed, IsRowAhead}
use Rattle.cedar_parser.specs.declared.groups.Group.{Group}
use Rattle.cedar_parser.specs.declared.groups.GroupKind.{GroupKind}
use Rattle.cedar_parser.specs.declared.groups.GroupKind.TheVariants as groups
use Rattle.cedar_parser.specs.declared.infix.Infix.{Infix}
use Rattle.cedar_parser.specs.declared.operand.Operand.{Operand}
use Rattle.cedar_parser.specs.declared.operand.Operation.{Operation}
use Rattle.cedar_parser.specs.declared.operand.Operation.TheVariants as operations
use Rattle.cedar_parser.specs.declared.parser.Parser.{Parser}
use Rattle.cedar_parser.proofs.ParserSteps.{groups_pushed, none_below, waits_pushed}
use Rattle.cedar_parser.proofs.GroupSteps.{restored}
use Rattle.cedar_parser.proofs.Ascending.{kind_at}
use Rattle.cedar_parser.proofs.Onward.{IsNoNumber, behind_first, begins_ahead, conditional_ahead, ends, group_ends, negative_ahead, no_sign_ahead, opens, primary_ahead, reduces, sign_ahead, waits_more}
use Rattle.cedar_parser.proofs.Resuming.{after_digits, item_comma, item_last}
use Rattle.cedar_parser.proofs.AheadSteps.{infix_ahead, number_alone}

pub operand_ahead : (r : Parser) (h : Operand) (l : Precedence) (rest : List Lexeme) → IsBehind r l rest → h.precedence ≡ l → IsAhead r (Some h) rest
operand_ahead r h l rest b e = record { lexemes = b.lexemes; goes_on = subst (λ l. Rest (open_groups r) (waits r) l rest) (sym e) b.goes_on }

pub ahead_operand : (r : Parser) (h : Operand) (rest : List Lexeme) → IsAhead r (Some h) rest → IsBehind r h.precedence rest
ahead_operand r h rest a = record { lexemes = a.lexemes; goes_on = a.goes_on }

-- the same, of what is equal
goes_moved : (gs gs2 : List OpenGroup) (ws ws2 : List Waiting) (o : Option Precedence) (rest : List Lexeme) → gs ≡ gs2 → ws ≡ ws2
    → GoesOnAfter gs ws o rest → GoesOnAfter gs2 ws2 o rest
goes_moved gs gs2 ws ws2 o rest a b h = subst (λ w. GoesOnAfter gs2 w o rest) b (subst (λ x. GoesOnAfter x ws o rest) a h)

rest_moved : (gs gs2 : List OpenGroup) (ws ws2 : List Waiting) (l m : Precedence) (rest : List Lexeme) → gs ≡ gs2 → ws ≡ ws2 → l ≡ m
    → Rest gs ws l rest → Rest gs2 ws2 m rest
rest_moved gs gs2 ws ws2 l m rest a b c h =
    subst (λ n. Rest gs2 ws2 n rest) c (subst (λ w. Rest gs2 w l rest) b (subst (λ x. Rest x ws l rest) a h))

same_groups : (r s : Parser) → s.groups ≡ r.groups → open_groups r ≡ open_groups s
same_groups r s e = ap (λ gs. map open_group gs.items) (sym e)

one_pushed : (r s : Parser) (o : Operation) → s.operations.items ≡ r.operations.items ++ (o ∷ []) → waits r ++ (waiting o ∷ []) ≡ waits s
one_pushed r s o e = sym (ap (map waiting) e ∙ waits_pushed r.operations.items o)

-- one more waits
pub pushed_ahead : (r s : Parser) (o : Operation) (rest : List Lexeme) → AreLexemes rest → GoesOnAfter (open_groups r) (waits r ++ (waiting o ∷ [])) None rest
    → s.operations.items ≡ r.operations.items ++ (o ∷ []) → s.groups ≡ r.groups → IsAhead s None rest
pushed_ahead r s o rest lex h e g = record {
  lexemes = lex;
  goes_on = goes_moved (open_groups r) (open_groups s) (waits r ++ (waiting o ∷ [])) (waits s) None rest (same_groups r s g) (one_pushed r s o e) h;
}

-- ---- signs

pub sign_pushed : (r s : Parser) (op : UnaryOp) (start n : ℕ) (t : Token) (rest : List Lexeme) → IsAhead r None (lexeme_of t ∷ rest) → IsSign op t.kind
    → StandsOn (last_of None (waits r)) (sign op n) → s.operations.items ≡ r.operations.items ++ (operations.Prefix op start n ∷ []) → s.groups ≡ r.groups
    → IsAhead s None rest
sign_pushed r s op start n t rest a is on e g =
    pushed_ahead r s (operations.Prefix op start n) rest a.lexemes.1
    (sign_ahead (open_groups r) (waits r) op t.kind t.text.now rest n is on a.goes_on) e g

pub sign_refused : (r : Parser) (op : UnaryOp) (t : Token) (rest : List Lexeme) → IsAhead r None (lexeme_of t ∷ rest) → IsSign op t.kind
    → TakesNoSign op (last_of None (waits r)) → ⊥
sign_refused r op t rest a is no_more = no_sign_ahead (open_groups r) (waits r) op t.kind t.text.now rest is no_more a.goes_on

-- ---- groups

pub group_opened : (r s : Parser) (kind : GroupKind) (x : Group) (rest : List Lexeme) → IsOpening r kind rest → s.groups.items ≡ r.groups.items ++ (x ∷ [])
    → x.kind ≡ kind → x.operations ≡ r.operations → s.operations.items ≡ [] → IsAhead s None rest
group_opened r s kind x rest a gs k o e =
    let pairs : List Waiting → Grouped → OpenGroup = λ ws y. (ws, y) in
    let h : open_group x ≡ (waits r, grouped kind) =
    ap (λ u. pairs u (grouped x.kind)) (ap (λ os. map waiting os.items) o) ∙ ap (pairs (waits r)) (ap grouped k) in
    let b : open_groups r ++ ((waits r, grouped kind) ∷ []) ≡ open_groups s =
    sym (ap (map open_group) gs ∙ (groups_pushed r.groups.items x ∙ ap (λ y. open_groups r ++ (y ∷ [])) h)) in
    record {
      lexemes = a.lexemes;
      goes_on = goes_moved (open_groups r ++ ((waits r, grouped kind) ∷ [])) (open_groups s) [] (waits s) None rest b (ap (map waiting) (sym e)) a.goes_on;
    }

kind_first : (t : Token) (k : TokenKind) (rest : List Lexeme) → t.kind ≡ k → lexeme_of t ∷ rest ≡ lexeme k t.text.now ∷ rest
kind_first t k rest e = ap (λ x. lexeme x t.text.now ∷ rest) e

pub if_opens : (r : Parser) (t : Token) (rest : List Lexeme) → IsAhead r None (lexeme_of t ∷ rest) → t.kind ≡ kinds.If
    → (least_operand (last_of None (waits r)) ≤ 0) × IsOpening r groups.If rest
if_opens r t rest a k =
    let x = conditional_ahead (open_groups r) (waits r) t.text.now rest
    (subst (GoesOnAfter (open_groups r) (waits r) None) (kind_first t kinds.If rest k) a.goes_on) in
    (x.0, record { lexemes = a.lexemes.1; goes_on = x.1 })

-- ---- numbers

pub number_behind : (r : Parser) (t : Token) (rest : List Lexeme) → IsAhead r None (lexeme_of t ∷ rest) → t.kind ≡ kinds.Digits
    → IsNoNumber (Rest (open_groups r) (waits r)) (last_of None (waits r)) (lexeme kinds.Digits t.text.now ∷ rest)
    → IsTokenText t.text.now kinds.Digits × (digits_value 10 t.text.now < 2 ^ 63) × IsBehind r precedences.Member rest
number_behind r t rest a k f =
    let p = primary_ahead (open_groups r) (waits r) (lexeme kinds.Digits t.text.now ∷ rest) refl f
    (subst (GoesOnAfter (open_groups r) (waits r) None) (kind_first t kinds.Digits rest k) a.goes_on) in
    let d = after_digits p.2 in (
      subst (IsTokenText t.text.now) k a.lexemes.0,
      d.0,
      record { lexemes = a.lexemes.1; goes_on = subst (Rest (open_groups r) (waits r) precedences.Member) d.1 p.3 },
    )

pub negative_behind : (r s : Parser) (t : Token) (rest : List Lexeme) → IsAhead r None (lexeme_of t ∷ rest) → t.kind ≡ kinds.Digits
    → (first_kind rest ≡ kinds.Dot → ⊥) → (first_kind rest ≡ kinds.OpenSquare → ⊥) → IsMinusPopped r s
    → IsTokenText t.text.now kinds.Digits × (digits_value 10 t.text.now ≤ 2 ^ 63) × IsBehind s precedences.Unary rest
negative_behind r s t rest a k dot square p =
    let ts = lexeme kinds.Digits t.text.now ∷ rest in
    let x = negative_ahead (open_groups s) (waits s) p.0 t.text.now rest (number_alone t.text.now rest dot square)
    (goes_moved (open_groups r) (open_groups s) (waits r) (waits s ++ (sign Unary.Neg p.0 ∷ [])) None ts (same_groups r s p.2) p.1
    (subst (GoesOnAfter (open_groups r) (waits r) None) (kind_first t kinds.Digits rest k) a.goes_on)) in (
      subst (IsTokenText t.text.now) k a.lexemes.0,
      x.0,
      record { lexemes = a.lexemes.1; goes_on = x.1 },
    )

-- ---- operators

pub applied_behind : (r s : Parser) (o : Operation) (h k : Operand) (ts : List Lexeme) → IsPopped r o s → own_at ts ≤ precedence_number (waiting_precedence (waiting o))
    → k.precedence ≡ waiting_precedence (waiting o) → IsBehind r h.precedence ts → IsBehind s k.precedence ts
applied_behind r s o h k ts p own e b =
    let w : waits r ≡ waits s ++ (waiting o ∷ []) = ap (map waiting) p.0 ∙ waits_pushed s.operations.items o in
    record {
      lexemes = b.lexemes;
      goes_on = subst (λ l. Rest (open_groups s) (waits s) l ts) (sym e)
          (reduces (open_groups s) (waits s) (waiting o) h.precedence ts own
          (rest_moved (open_groups r) (open_groups s) (waits r) (waits s ++ (waiting o ∷ [])) h.precedence h.precedence ts (same_groups r s p.1) w refl b.goes_on));
    }

pub infix_pushed : (r s : Parser) (h : Operand) (op : Infix) (t : Token) (rest : List Lexeme) → IsBehind r h.precedence (lexeme_of t ∷ rest)
    → operator_of t.kind ≡ Some (operator op) → WaitsBelow (operator_precedences (operator op)).0 r
    → s.operations.items ≡ r.operations.items ++ (operations.Infix op h ∷ []) → s.groups ≡ r.groups → IsAhead s None rest
infix_pushed r s h op t rest b is below e g =
    pushed_ahead r s (operations.Infix op h) rest b.lexemes.1
    (infix_ahead (open_groups r) (waits r) h.precedence t.kind t.text.now rest (operator op) (bare_expr h.expr) is below b.goes_on) e g

-- ---- the end of a group

nothing_waits : (r : Parser) (l : Precedence) (ts : List Lexeme) → WaitsBelow precedences.Conditional r → IsBehind r l ts → Rest (open_groups r) [] l ts
nothing_waits r l ts below b = subst (λ ws. Rest (open_groups r) ws l ts) (none_below (waits r) below) b.goes_on

pub closing_resumed : (r s : Parser) (x : Group) (l : Precedence) (ts : List Lexeme) → IsBehind r l ts → own_at ts ≡ 0 → WaitsBelow precedences.Conditional r
    → r.groups.items ≡ s.groups.items ++ (x ∷ []) → IsResumed s x ts
closing_resumed r s x l ts b own below gs =
    let e : open_groups r ≡ open_groups s ++ (open_group x ∷ []) = ap (map open_group) gs ∙ groups_pushed s.groups.items x in
    record {
      lexemes = b.lexemes;
      goes_on = group_ends (open_groups s) (map waiting x.operations.items) (grouped x.kind) l ts own
          (subst (λ y. Rest y [] l ts) e (nothing_waits r l ts below b));
    }

pub none_open : (r : Parser) (l : Precedence) (ts : List Lexeme) → IsBehind r l ts → own_at ts ≡ 0 → WaitsBelow precedences.Conditional r
    → r.groups.items ≡ [] → ts ≡ []
none_open r l ts b own below e =
    ends [] l ts own (subst (λ y. Rest y [] l ts) (ap (map open_group) e) (nothing_waits r l ts below b))

abbrev is_none_left : List Lexeme → Bool
is_none_left [] = true
is_none_left (t ∷ ts) = false

pub some_left : (t : Lexeme) (ts : List Lexeme) → t ∷ ts ≡ [] → ⊥
some_left t ts e = false≢true (ap is_none_left e)

no_items_end : (c : TokenKind) {bs : BareExprs} {rest : List Lexeme} → ItemsAfter c [] bs rest → ⊥
no_items_end c h = elim h [ ]

inside_end : (x : Grouped) (K : Precedence → List Lexeme → Type 0) → Inside x K [] → ⊥
inside_end in_brackets K h = some_left _ _ (sym h.2)
inside_end in_test K h = some_left _ _ (sym h.4)
inside_end (in_branch a) K h = some_left _ _ (sym h.4)
inside_end (in_row row es) K h = no_items_end (closing_of row) h.2
inside_end (in_record ps k) K h = elim h.2 [ ]

around_end : (gs : List OpenGroup) (C : List Lexeme → Type 0) → (C [] → ⊥) → Around gs C [] → ⊥
around_end [] C none h = none h
around_end (x ∷ gs) C none h = around_end gs (Through x C) (inside_end x.1 (Behind x.0 (Whole C))) h

groups_end : (xs : List Group) → (xs ≡ [] → ⊥) → Around (map open_group xs) (λ ts. ts ≡ []) [] → ⊥
groups_end [] some h = some refl
groups_end (x ∷ xs) some h =
    let C = Through (open_group x) (λ ts. ts ≡ []) in
    around_end (map open_group xs) C (inside_end (grouped x.kind) (Behind (map waiting x.operations.items) (Whole (λ ts. ts ≡ [])))) h

-- where a group is open, the tokens don't end
pub open_goes_on : (r : Parser) (l : Precedence) → IsBehind r l [] → WaitsBelow precedences.Conditional r → (r.groups.items ≡ [] → ⊥) → ⊥
open_goes_on r l b below some = groups_end r.groups.items some (ends (open_groups r) l [] refl (nothing_waits r l [] below b))

pub none_begins : (r : Parser) → IsAhead r None [] → ⊥
none_begins r a = false≢true (begins_ahead (open_groups r) (waits r) [] a.goes_on)

-- ---- groups that go on

inside_takes : (x : Grouped) (K : Precedence → List Lexeme → Type 0) (k : TokenKind) (w : List ℕ) (ts : List Lexeme) → Inside x K (lexeme k w ∷ ts) → Takes x k
inside_takes in_brackets K k w ts h = ap kind_at h.2
inside_takes in_test K k w ts h = ap kind_at h.4
inside_takes (in_branch a) K k w ts h = ap kind_at h.4
inside_takes (in_row row es) K k w ts h = item_takes h.2
  where
    item_takes : {c : TokenKind} {k : TokenKind} {w : List ℕ} {ts rest : List Lexeme} {bs : BareExprs}
        → ItemsAfter c (lexeme k w ∷ ts) bs rest → (k ≡ kinds.Comma) ⊎ (k ≡ c)
    item_takes (ahead.ItemsAfter.no_more e) = inr e
    item_takes (ahead.ItemsAfter.more i) = inl refl
inside_takes (in_record ps key) K k w ts h = field_takes h.2
  where
    field_takes : {k : TokenKind} {w : List ℕ} {ts rest : List Lexeme} {qs : List (Text × BareExpr)}
        → FieldsAfter (lexeme k w ∷ ts) qs rest → (k ≡ kinds.Comma) ⊎ (k ≡ kinds.CloseCurly)
    field_takes ahead.FieldsAfter.no_more = inr refl
    field_takes (ahead.FieldsAfter.more i) = inl refl

pub resumed_takes : (r : Parser) (x : Group) (t : Token) (rest : List Lexeme) → IsResumed r x (lexeme_of t ∷ rest) → Takes (grouped x.kind) t.kind
resumed_takes r x t rest a = inside_takes (grouped x.kind) (Rest (open_groups r) (map waiting x.operations.items)) t.kind t.text.now rest a.goes_on

resumed_at : (r : Parser) (x : Group) (rest : List Lexeme) (y : Grouped) → IsResumed r x rest → grouped x.kind ≡ y
    → Inside y (Rest (open_groups r) (map waiting x.operations.items)) rest
resumed_at r x rest y a e = subst (λ z. Inside z (Rest (open_groups r) (map waiting x.operations.items)) rest) e a.goes_on

tail_is : {t u : Lexeme} {ts us : List Lexeme} → t ∷ ts ≡ u ∷ us → ts ≡ us
tail_is e = ap behind_first e

pub round_resumed : (r : Parser) (x : Group) (t : Token) (rest : List Lexeme) (h : Operand) → IsResumed r x (lexeme_of t ∷ rest) → x.kind ≡ groups.Round
    → h.precedence ≡ precedences.Member → IsAhead (restored r x) (Some h) rest
round_resumed r x t rest h a is m =
    let i = resumed_at r x (lexeme_of t ∷ rest) in_brackets a (ap grouped is) in
    operand_ahead (restored r x) h precedences.Member rest
    (record { lexemes = a.lexemes.1; goes_on = subst (Rest (open_groups r) (map waiting x.operations.items) precedences.Member) (sym (tail_is i.2)) i.3 }) m

pub test_resumed : (r : Parser) (x : Group) (t : Token) (rest : List Lexeme) (e : Expr Unit) → IsResumed r x (lexeme_of t ∷ rest) → x.kind ≡ groups.If
    → IsOpening (restored r x) (groups.Then e) rest
test_resumed r x t rest e a is =
    let i = resumed_at r x (lexeme_of t ∷ rest) in_test a (ap grouped is) in
    let gs = open_groups r in
    let ws = map waiting x.operations.items in
    record {
      lexemes = a.lexemes.1;
      goes_on = subst (GoesOnAfter (gs ++ ((ws, in_branch (bare_expr e)) ∷ [])) [] None) (sym (tail_is i.4))
          (opens gs ws (in_branch (bare_expr e)) i.1 i.3 i.2 i.5 i.6);
    }

pub branch_resumed : (r s : Parser) (x : Group) (t : Token) (rest : List Lexeme) (start : ℕ) (test e : Expr Unit) → IsResumed r x (lexeme_of t ∷ rest)
    → x.kind ≡ groups.Then test → IsPushed (restored r x) (operations.Else start test e) s → IsAhead s None rest
branch_resumed r s x t rest start test e a is p =
    let i = resumed_at r x (lexeme_of t ∷ rest) (in_branch (bare_expr test)) a (ap grouped is) in
    pushed_ahead (restored r x) s (operations.Else start test e) rest a.lexemes.1
    (waits_more (open_groups r) (map waiting x.operations.items) (otherwise (bare_expr test) (bare_expr e)) rest i.3
    (i.2, subst (λ y. g.Reads precedences.Conditional y i.2 i.3) (sym (tail_is i.4)) i.5) i.6) p.0 p.1

map_length : {A B : Type 0} (f : A → B) (xs : List A) → length (map f xs) ≡ length xs
map_length f [] = refl
map_length f (x ∷ xs) = ap suc (map_length f xs)

one_longer : {A B : Type 0} (f : A → B) (xs ys : List A) (x : A) → ys ≡ xs ++ (x ∷ []) → suc (length (map f xs)) ≡ length ys
one_longer f xs ys x e =
    let a = map_length f xs in
    let b = ap length e in
    let c = length-append xs (x ∷ []) in omega (arith, a, b, c)

pub item_resumed : (r : Parser) (x : Group) (t : Token) (rest : List Lexeme) (row : Row) (e : Expr Unit) (xs ys : List (Expr Unit))
    → IsResumed r x (lexeme_of t ∷ rest) → grouped x.kind ≡ in_row row (map bare_expr xs) → t.kind ≡ kinds.Comma → ys ≡ xs ++ (e ∷ [])
    → IsRowAhead (restored r x) row (length ys) rest
item_resumed r x t rest row e xs ys a is k new =
    let i = resumed_at r x (lexeme_of t ∷ rest) (in_row row (map bare_expr xs)) a is in
    let ws = map waiting x.operations.items in
    record {
      lexemes = a.lexemes.1;
      goes_on = subst (λ n. RowGoesOn (open_groups r) ws row n rest) (one_longer bare_expr xs ys e new)
          (item_comma (open_groups r) ws row (map bare_expr xs) t.kind t.text.now rest k i);
    }

pub last_resumed : (r : Parser) (x : Group) (t : Token) (rest : List Lexeme) (row : Row) (e : Expr Unit) (xs ys : List (Expr Unit))
    → IsResumed r x (lexeme_of t ∷ rest) → grouped x.kind ≡ in_row row (map bare_expr xs) → (t.kind ≡ kinds.Comma → ⊥) → ys ≡ xs ++ (e ∷ [])
    → RowTakes row (length ys) × IsBehind (restored r x) precedences.Member rest
last_resumed r x t rest row e xs ys a is k new =
    let i = resumed_at r x (lexeme_of t ∷ rest) (in_row row (map bare_expr xs)) a is in
    let l = item_last (open_groups r) (map waiting x.operations.items) row (map bare_expr xs) t.kind t.text.now rest k i in
    (subst (RowTakes row) (one_longer bare_expr xs ys e new) l.0, record { lexemes = a.lexemes.1; goes_on = l.1 })

pairs_keys : (xs ys : List (RcStr Global × Expr Unit)) (k : RcStr Global) (e : Expr Unit) → ys ≡ xs ++ ((k, e) ∷ [])
    → keys (meant_pairs bare_expr ys) ≡ keys (meant_pairs bare_expr xs) ++ (rc_str_bytes k ∷ [])
pairs_keys xs ys k e new = ap (λ ps. keys (meant_pairs bare_expr ps)) new ∙ pushed_keys xs
  where
    pushed_keys : (xs : List (RcStr Global × Expr Unit))
        → keys (meant_pairs bare_expr (xs ++ ((k, e) ∷ []))) ≡ keys (meant_pairs bare_expr xs) ++ (rc_str_bytes k ∷ [])
    pushed_keys [] = refl
    pushed_keys (y ∷ xs) = ap (λ ks. rc_str_bytes y.0 ∷ ks) (pushed_keys xs)

comma_fields : {w : List ℕ} {ts rest : List Lexeme} {qs : List (Text × BareExpr)} → FieldsAfter (lexeme kinds.Comma w ∷ ts) qs rest → g.Fields ts qs rest
comma_fields (ahead.FieldsAfter.more f) = f

pub field_resumed : (r : Parser) (x : Group) (t : Token) (rest : List Lexeme) (key : RcStr Global) (e : Expr Unit) (xs ys : List (RcStr Global × Expr Unit))
    → IsResumed r x (lexeme_of t ∷ rest) → grouped x.kind ≡ in_record (meant_pairs bare_expr xs) (rc_str_bytes key) → t.kind ≡ kinds.Comma
    → ys ≡ xs ++ ((key, e) ∷ []) → IsRecordAhead (restored r x) (keys (meant_pairs bare_expr ys)) rest
field_resumed r x t rest key e xs ys a is k new =
    let i = resumed_at r x (lexeme_of t ∷ rest) (in_record (meant_pairs bare_expr xs) (rc_str_bytes key)) a is in
    let ks = keys (meant_pairs bare_expr xs) in
    let f = comma_fields (subst (λ ts. FieldsAfter ts i.0 i.1) (kind_first t kinds.Comma rest k) i.2) in
    let same : ks ++ (rc_str_bytes key ∷ keys i.0) ≡ keys (meant_pairs bare_expr ys) ++ keys i.0 =
    sym (append_assoc ks (rc_str_bytes key ∷ []) (keys i.0)) ∙ ap (λ ls. ls ++ keys i.0) (sym (pairs_keys xs ys key e new)) in
    record {
      lexemes = a.lexemes.1;
      goes_on = (i.0, i.1, f, subst (λ ls. IsTrue (are_distinct ls)) same i.3, i.4);
    }

last_fields : (k : TokenKind) {w : List ℕ} {ts rest : List Lexeme} {qs : List (Text × BareExpr)} → (k ≡ kinds.Comma → ⊥)
    → FieldsAfter (lexeme k w ∷ ts) qs rest → (rest ≡ ts) × (qs ≡ [])
last_fields k other ahead.FieldsAfter.no_more = (refl, refl)
last_fields k other (ahead.FieldsAfter.more f) = absurd (other refl)

pub last_field_resumed : (r : Parser) (x : Group) (t : Token) (rest : List Lexeme) (key : RcStr Global) (e : Expr Unit) (xs ys : List (RcStr Global × Expr Unit))
    → IsResumed r x (lexeme_of t ∷ rest) → grouped x.kind ≡ in_record (meant_pairs bare_expr xs) (rc_str_bytes key) → (t.kind ≡ kinds.Comma → ⊥)
    → ys ≡ xs ++ ((key, e) ∷ []) → IsTrue (are_distinct (keys (meant_pairs bare_expr ys))) × IsBehind (restored r x) precedences.Member rest
last_field_resumed r x t rest key e xs ys a is k new =
    let i = resumed_at r x (lexeme_of t ∷ rest) (in_record (meant_pairs bare_expr xs) (rc_str_bytes key)) a is in
    let ks = keys (meant_pairs bare_expr xs) in
    let l = last_fields t.kind k i.2 in
    let same : ks ++ (rc_str_bytes key ∷ keys i.0) ≡ keys (meant_pairs bare_expr ys) =
    ap (λ qs. ks ++ (rc_str_bytes key ∷ keys qs)) l.1 ∙ sym (pairs_keys xs ys key e new) in (
      subst (λ ls. IsTrue (are_distinct ls)) same i.3,
      record { lexemes = a.lexemes.1; goes_on = subst (Rest (open_groups r) (map waiting x.operations.items) precedences.Member) l.0 i.4 },
    )

-- the same at the kind of the token
pub kind_behind : (r : Parser) (l : Precedence) (t : Token) (k : TokenKind) (rest : List Lexeme) → t.kind ≡ k → IsBehind r l (lexeme_of t ∷ rest)
    → IsBehind r l (lexeme k t.text.now ∷ rest)
kind_behind r l t k rest e b = subst (IsBehind r l) (kind_first t k rest e) b

pub kind_ahead : (r : Parser) (t : Token) (k : TokenKind) (rest : List Lexeme) → t.kind ≡ k → IsAhead r None (lexeme_of t ∷ rest)
    → IsAhead r None (lexeme k t.text.now ∷ rest)
kind_ahead r t k rest e a = subst (IsAhead r None) (kind_first t k rest e) a

-- behind `else`
pub branch_stays : (r s : Parser) (x : Group) (t : Token) (old : TokenStream) (start : ℕ) (test e : Expr Unit) (res : Result (Option Operand) ParseFailure)
    (Q : Option Operand → Type 0) → HasEnd old → IsResumed r x (lexeme_of t ∷ here old) → x.kind ≡ groups.Then test
    → IfOk res (λ h. (h ≡ None) × IsPushed (restored r x) (operations.Else start test e) s) → MatchResult res Q (λ e. e ≡ failure.Memory)
    → MatchResult res (λ h. IsAhead s h (here old) × HasEnd old) (λ e. e ≡ failure.Memory)
branch_stays r s x t old start test e (Err z) Q end a is made opened = opened
branch_stays r s x t old start test e (Ok h) Q end a is made opened =
    (subst (λ o. IsAhead s o (here old)) (sym made.0) (branch_resumed r s x t (here old) start test e a is made.1), end)

-- the last of a list is in it
pub some_last : {A : Type 0} (xs : List A) (x : A) → Some x ≡ slice_get xs (length xs - 1) → xs ≡ [] → ⊥
some_last xs x h e =
    let k = slice_get_within xs (length xs - 1) x (sym h) in
    let l = ap length e in omega (arith, k, l)
