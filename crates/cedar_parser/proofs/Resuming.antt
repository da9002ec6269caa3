-- Primaries, rows and records, as what is still to come.
use Rattle.std.proofs.Common.{◌≡◌, ◌<◌, ◌+◌, ℕ, suc, Bool, true, false, List, [], ◌∷◌, ◌++◌, None, refl, sym, ◌∙◌, ap, subst, arith, inl, inr, append-nil}
use Rattle.std.specs.Prelude.{IsTrue, ◌^◌, ◌⊎◌, length}
use Rattle.std.specs.Str.Parse.{digits_value}
use Rattle.std.proofs.lemmas.Bool.{false≢true}
use Rattle.cedar_names.specs.Names.{BareName}
use Rattle.cedar_names.specs.Slots.{slot_text}
use Rattle.cedar_names.specs.declared.slot.SlotId.{SlotId}
use Rattle.cedar_terms.specs.Ops.{var_text}
use Rattle.cedar_terms.specs.declared.var.Var.{Var as Variable}
use Rattle.cedar_terms.specs.declared.precedence.Precedence.TheVariants as precedences
use Rattle.cedar_builders.specs.BareExpr.{Text, BareExpr, BareExprs, no_trees}
use Rattle.cedar_builders.specs.Keys.{are_distinct}
use Rattle.cedar_lexer.specs.declared.token.TokenKind.{TokenKind}
use Rattle.cedar_lexer.specs.declared.token.TokenKind.TheVariants as kinds
use Rattle.semantics_grammar.specs.Lexemes.{Lexeme, lexeme}
use Rattle.semantics_grammar.specs.Written.{IsKey, IsPath, IsTextOf, id_key, text_key}
use Rattle.semantics_grammar.specs.Grammar as g
use Rattle.semantics_grammar.specs.Grammar.{Fields, Items, Reads}
use Rattle.cedar_parser.specs.Waiting.{Waiting, Row, members, arguments, method_arguments, closing_of, in_row, in_record, Group}
use Rattle.cedar_parser.specs.Ahead.{count, takes_arguments, Access, attribute, index, method, Test, has, like, is, is_of, Step, accessed, operated, tested, RowTakes, keys, ItemsAfter, FieldsAfter, Inside, Rest, GoesOnAfter, RowGoesOn, RecordGoesOn, closes, least_before, own_of}
use Rattle.cedar_parser.specs.Ahead as ahead
use Rattle.cedar_parser.proofs.Ascending.{kind_at}
use Rattle.cedar_parser.proofs.Onward.{begins_expression, opens, reads_kind}

-- ---- primaries by their first token

pub after_true : {w : List ℕ} {ts rest : List Lexeme} {a : BareExpr} → g.Primary (lexeme kinds.True w ∷ ts) a rest → rest ≡ ts
after_true g.yes = refl

pub after_false : {w : List ℕ} {ts rest : List Lexeme} {a : BareExpr} → g.Primary (lexeme kinds.False w ∷ ts) a rest → rest ≡ ts
after_false g.no = refl

pub after_digits : {w : List ℕ} {ts rest : List Lexeme} {a : BareExpr} → g.Primary (lexeme kinds.Digits w ∷ ts) a rest
    → (digits_value 10 w < 2 ^ 63) × (rest ≡ ts)
after_digits (g.number h) = (h, refl)

pub after_text : {w : List ℕ} {ts rest : List Lexeme} {a : BareExpr} → g.Primary (lexeme kinds.Quoted w ∷ ts) a rest
    → (t : Text) × IsTextOf w t × (rest ≡ ts)
after_text (g.text {t = t} h) = (t, h, refl)

pub after_slot : {w : List ℕ} {ts rest : List Lexeme} {a : BareExpr} → g.Primary (lexeme kinds.Slot w ∷ ts) a rest
    → (s : SlotId) × (w ≡ slot_text s) × (rest ≡ ts)
after_slot (g.slot {s = s} h) = (s, h, refl)

pub after_round : {w : List ℕ} {ts rest : List Lexeme} {a : BareExpr} → g.Primary (lexeme kinds.OpenRound w ∷ ts) a rest
    → (c : List ℕ) × (e : BareExpr) × Reads precedences.Conditional ts e (lexeme kinds.CloseRound c ∷ rest)
after_round (g.brackets {c = c} {e = e} p) = (c, e, p)

pub after_square : {w : List ℕ} {ts rest : List Lexeme} {a : BareExpr} → g.Primary (lexeme kinds.OpenSquare w ∷ ts) a rest
    → (es : BareExprs) × Items kinds.CloseSquare ts es rest
after_square (g.set {es = es} i) = (es, i)

pub after_curly : {w : List ℕ} {ts rest : List Lexeme} {a : BareExpr} → g.Primary (lexeme kinds.OpenCurly w ∷ ts) a rest
    → (ps : List (Text × BareExpr)) × Fields ts ps rest × IsTrue (are_distinct (keys ps))
after_curly (g.record_of {ps = ps} f d) = (ps, f, d)

-- what a word begins: a variable, an entity or a call
pub data AfterWord (w : List ℕ) (ts rest : List Lexeme) : Type 0 where
  is_variable : (v : Variable) → w ≡ var_text v → rest ≡ ts → AfterWord w ts rest
  is_entity : {c q : List ℕ} {t : Text} (n : BareName) → IsPath (lexeme kinds.Word w ∷ ts) n (lexeme kinds.Colons c ∷ lexeme kinds.Quoted q ∷ rest)
      → IsTextOf q t → AfterWord w ts rest
  is_call : {o : List ℕ} {es : BareExprs} {us : List Lexeme} (n : BareName) → IsPath (lexeme kinds.Word w ∷ ts) n (lexeme kinds.OpenRound o ∷ us)
      → Items kinds.CloseRound us es rest → AfterWord w ts rest

pub after_word : {w : List ℕ} {ts rest : List Lexeme} {a : BareExpr} → g.Primary (lexeme kinds.Word w ∷ ts) a rest → AfterWord w ts rest
after_word (g.variable {v = v} h) = is_variable v h refl
after_word (g.entity {n = n} p t) = is_entity n p t
after_word (g.function {n = n} p i) = is_call n p i

-- ---- rows

expression_kind : (k : TokenKind) → closes k ≡ true → begins_expression k ≡ true → ⊥
expression_kind kinds.CloseRound h p = false≢true p
expression_kind kinds.CloseSquare h p = false≢true p
expression_kind kinds.CloseCurly h p = false≢true p
expression_kind kinds.Then h p = false≢true p
expression_kind kinds.Else h p = false≢true p
expression_kind kinds.Comma h p = false≢true p
expression_kind k h p = false≢true h

pub closing_closes : (row : Row) → closes (closing_of row) ≡ true
closing_closes members = refl
closing_closes (arguments n) = refl
closing_closes (method_arguments m) = refl

items_end : (c k : TokenKind) {w : List ℕ} {ts rest : List Lexeme} {bs : BareExprs} → k ≡ c → closes c ≡ true
    → Items c (lexeme k w ∷ ts) bs rest → (rest ≡ ts) × (count bs ≡ 0)
items_end c k e h g.no_items = (refl, refl)
items_end c k e h (g.last_item p) = absurd (expression_kind k (ap closes e ∙ h) (reads_kind p))
items_end c k e h (g.item p i) = absurd (expression_kind k (ap closes e ∙ h) (reads_kind p))

-- the row ends at its bracket
pub row_ended : (gs : List Group) (ws : List Waiting) (row : Row) (n : ℕ) (k : TokenKind) (w : List ℕ) (ts : List Lexeme) → k ≡ closing_of row
    → RowGoesOn gs ws row n (lexeme k w ∷ ts) → RowTakes row n × Rest gs ws precedences.Member ts
row_ended gs ws row n k w ts e h =
    let x = items_end (closing_of row) k e (closing_closes row) h.2 in
    (subst (RowTakes row) (omega (arith, x.1)) h.3, subst (Rest gs ws precedences.Member) x.0 h.4)

items_open : (gs : List Group) (ws : List Waiting) (row : Row) (es : List BareExpr) {ts rest : List Lexeme} {bs : BareExprs}
    → (kind_at ts ≡ closing_of row → ⊥) → Items (closing_of row) ts bs rest → RowTakes row (length es + count bs) → Rest gs ws precedences.Member rest
    → GoesOnAfter (gs ++ ((ws, in_row row es) ∷ [])) [] None ts
items_open gs ws row es other g.no_items t x = absurd (other refl)
items_open gs ws row es {ts = ts} {rest = rest} other (g.last_item {w = w} {e = e} p) t x =
    opens gs ws (in_row row es) ts (lexeme (closing_of row) w ∷ rest) e p (no_trees, rest, ahead.no_more refl, t, x)
items_open gs ws row es {ts = ts} {rest = rest} other (g.item {w = w} {e = e} {es = bs} {us = us} p i) t x =
    opens gs ws (in_row row es) ts (lexeme kinds.Comma w ∷ us) e p (bs, rest, ahead.more i, t, x)

-- or goes on with an item
pub row_opened : (gs : List Group) (ws : List Waiting) (row : Row) (es : List BareExpr) (ts : List Lexeme) → (kind_at ts ≡ closing_of row → ⊥)
    → RowGoesOn gs ws row (length es) ts → GoesOnAfter (gs ++ ((ws, in_row row es) ∷ [])) [] None ts
row_opened gs ws row es ts other h = items_open gs ws row es other h.2 h.3 h.4

comma_items : (c k : TokenKind) {w : List ℕ} {ts rest : List Lexeme} {bs : BareExprs} → k ≡ kinds.Comma → (kinds.Comma ≡ c → ⊥)
    → ItemsAfter c (lexeme k w ∷ ts) bs rest → Items c ts bs rest
comma_items c k e other (ahead.no_more f) = absurd (other (sym e ∙ f))
comma_items c k e other (ahead.more i) = i

abbrev is_comma : TokenKind → Bool
is_comma kinds.Comma = true
is_comma k = false

comma_closes : (row : Row) → kinds.Comma ≡ closing_of row → ⊥
comma_closes members e = false≢true (sym (ap is_comma e))
comma_closes (arguments n) e = false≢true (sym (ap is_comma e))
comma_closes (method_arguments m) e = false≢true (sym (ap is_comma e))

-- behind an item stands a comma
pub item_comma : (gs : List Group) (ws : List Waiting) (row : Row) (es : List BareExpr) (k : TokenKind) (w : List ℕ) (ts : List Lexeme) → k ≡ kinds.Comma
    → Inside (in_row row es) (Rest gs ws) (lexeme k w ∷ ts) → RowGoesOn gs ws row (suc (length es)) ts
item_comma gs ws row es k w ts e h =
    (h.0, h.1, comma_items (closing_of row) k e (comma_closes row) h.2, subst (RowTakes row) (omega arith) h.3, h.4)

last_items : (c k : TokenKind) {w : List ℕ} {ts rest : List Lexeme} {bs : BareExprs} → (k ≡ kinds.Comma → ⊥)
    → ItemsAfter c (lexeme k w ∷ ts) bs rest → (rest ≡ ts) × (count bs ≡ 0)
last_items c k other (ahead.no_more f) = (refl, refl)
last_items c k other (ahead.more i) = absurd (other refl)

-- or the bracket of the row
pub item_last : (gs : List Group) (ws : List Waiting) (row : Row) (es : List BareExpr) (k : TokenKind) (w : List ℕ) (ts : List Lexeme)
    → (k ≡ kinds.Comma → ⊥) → Inside (in_row row es) (Rest gs ws) (lexeme k w ∷ ts) → RowTakes row (suc (length es)) × Rest gs ws precedences.Member ts
item_last gs ws row es k w ts other h =
    let x = last_items (closing_of row) k other h.2 in
    (subst (RowTakes row) (omega (arith, x.1)) h.3, subst (Rest gs ws precedences.Member) x.0 h.4)

takes_kind : (c k : TokenKind) {w : List ℕ} {ts rest : List Lexeme} {bs : BareExprs} → ItemsAfter c (lexeme k w ∷ ts) bs rest
    → (k ≡ kinds.Comma) ⊎ (k ≡ c)
takes_kind c k (ahead.no_more f) = inr f
takes_kind c k (ahead.more i) = inl refl

pub row_kind : (gs : List Group) (ws : List Waiting) (row : Row) (es : List BareExpr) (k : TokenKind) (w : List ℕ) (ts : List Lexeme)
    → Inside (in_row row es) (Rest gs ws) (lexeme k w ∷ ts) → (k ≡ kinds.Comma) ⊎ (k ≡ closing_of row)
row_kind gs ws row es k w ts h = takes_kind (closing_of row) k h.2

-- ---- records

no_key : (w : List ℕ) {k : Text} → IsKey (lexeme kinds.CloseCurly w) k → ⊥
no_key w h = no_key_at h refl
  where
    curly : Lexeme → Bool
    curly (lexeme kinds.CloseCurly w) = true
    curly l = false

    no_key_at : {l : Lexeme} {w : List ℕ} {k : Text} → IsKey l k → l ≡ lexeme kinds.CloseCurly w → ⊥
    no_key_at id_key e = false≢true (ap curly e)
    no_key_at (text_key t) e = false≢true (ap curly e)

fields_end : {w : List ℕ} {ts rest : List Lexeme} {qs : List (Text × BareExpr)} → Fields (lexeme kinds.CloseCurly w ∷ ts) qs rest
    → (rest ≡ ts) × (qs ≡ [])
fields_end g.no_fields = (refl, refl)
fields_end (g.last_field {l = l} h p) = absurd (no_key _ h)
fields_end (g.field h p f) = absurd (no_key _ h)

pub record_ended : (gs : List Group) (ws : List Waiting) (ks : List Text) (w : List ℕ) (ts : List Lexeme)
    → RecordGoesOn gs ws ks (lexeme kinds.CloseCurly w ∷ ts) → IsTrue (are_distinct ks) × Rest gs ws precedences.Member ts
record_ended gs ws ks w ts h =
    let x = fields_end h.2 in
    (subst (λ ls. IsTrue (are_distinct ls)) (ap (λ qs. ks ++ keys qs) x.1 ∙ append-nil ks) h.3, subst (Rest gs ws precedences.Member) x.0 h.4)

-- a field begins: a key, a colon, and what goes on behind them
pub record FieldBegins (gs : List Group) (ws : List Waiting) (ps : List (Text × BareExpr)) (ts : List Lexeme) : Type 0 where
  pub word : Lexeme
  pub colon : List ℕ
  pub key : Text
  pub behind : List Lexeme
  pub tokens : ts ≡ word ∷ lexeme kinds.Colon colon ∷ behind
  pub is_key : IsKey word key
  pub opened : GoesOnAfter (gs ++ ((ws, in_record ps key) ∷ [])) [] None behind

fields_open : (gs : List Group) (ws : List Waiting) (ps : List (Text × BareExpr)) {ts rest : List Lexeme} {qs : List (Text × BareExpr)}
    → (kind_at ts ≡ kinds.CloseCurly → ⊥) → Fields ts qs rest → IsTrue (are_distinct (keys ps ++ keys qs)) → Rest gs ws precedences.Member rest
    → FieldBegins gs ws ps ts
fields_open gs ws ps other g.no_fields t x = absurd (other refl)
fields_open gs ws ps {rest = rest} other (g.last_field {l = l} {c = c} {w = w} {k = k} {e = e} {ts = ts} h p) t x = record {
  word = l;
  colon = c;
  key = k;
  behind = ts;
  tokens = refl;
  is_key = h;
  opened = opens gs ws (in_record ps k) ts (lexeme kinds.CloseCurly w ∷ rest) e p ([], rest, ahead.FieldsAfter.no_more, t, x);
}
fields_open gs ws ps {rest = rest} other (g.field {l = l} {c = c} {w = w} {k = k} {e = e} {ps = qs} {ts = ts} {us = us} h p f) t x = record {
  word = l;
  colon = c;
  key = k;
  behind = ts;
  tokens = refl;
  is_key = h;
  opened = opens gs ws (in_record ps k) ts (lexeme kinds.Comma w ∷ us) e p (qs, rest, ahead.FieldsAfter.more f, t, x);
}

pub field_opened : (gs : List Group) (ws : List Waiting) (ps : List (Text × BareExpr)) (ts : List Lexeme) → (kind_at ts ≡ kinds.CloseCurly → ⊥)
    → RecordGoesOn gs ws (keys ps) ts → FieldBegins gs ws ps ts
field_opened gs ws ps ts other h = fields_open gs ws ps other h.2 h.3 h.4
