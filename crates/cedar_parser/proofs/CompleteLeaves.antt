-- Leaves keep what is still to come, over the parser's own parts.
use Rattle.std.proofs.Common.{◌≡◌, ◌<◌, ℕ, Bool, true, false, List, [], ◌∷◌, None, length, refl, sym, ◌∙◌, ap, subst, arith}
use Rattle.std.specs.Global.{Global}
use Rattle.std.specs.Rc.{rc_str_bytes}
use Rattle.std.specs.declared.rc.RcStr.{RcStr}
use Rattle.std.proofs.lemmas.Bool.{false≢true}
use Rattle.cedar_names.specs.Slots.{slot_text}
use Rattle.cedar_names.specs.declared.slot.SlotId.{SlotId}
use Rattle.cedar_terms.specs.declared.precedence.Precedence.{Precedence}
use Rattle.cedar_terms.specs.declared.precedence.Precedence.TheVariants as precedences
use Rattle.cedar_terms.specs.Precedences.{precedence_number}
use Rattle.cedar_builders.specs.BareExpr.{Text, BareExpr}
use Rattle.cedar_builders.specs.Keys.{meant_pairs}
use Rattle.cedar_exprs.specs.BareExpr.{bare_expr}
use Rattle.cedar_exprs.specs.declared.expr.Expr.{Expr}
use Rattle.cedar_lexer.specs.TokenStreams.{BeginsWith, BeginsWithPair, IsTaken, IsUntouched, end_of, rest_of}
use Rattle.cedar_lexer.specs.declared.token.Token.{Token}
use Rattle.cedar_lexer.specs.declared.token.TokenKind.{TokenKind}
use Rattle.cedar_lexer.specs.declared.token.TokenKind.TheVariants as kinds
use Rattle.cedar_lexer.specs.declared.token_stream.TokenStream.{TokenStream}
use Rattle.semantics_grammar.specs.Lexemes.{Lexeme, lexeme, lexeme_of, lexemes_of}
use Rattle.semantics_grammar.specs.Written.{IsKey, IsTextOf, id_key, text_key}
use Rattle.semantics_grammar.specs.Grammar as g
use Rattle.cedar_parser.specs.Waiting.{in_brackets, last_of, members}
use Rattle.cedar_parser.specs.Ahead.{Rest, ends_path, keys}
use Rattle.cedar_parser.specs.Meant.{first_kind, here, open_groups, waits}
use Rattle.cedar_parser.specs.Complete.{IsAhead, IsBehind, IsOpening, IsRecordAhead, IsRowAhead}
use Rattle.cedar_parser.specs.declared.groups.GroupKind.TheVariants as groups
use Rattle.cedar_parser.specs.declared.parser.Parser.{Parser}
use Rattle.cedar_parser.proofs.TakenSteps.{taken_here, untouched_here}
use Rattle.cedar_parser.proofs.Onward.{begins_ahead, begins_expression, begins_primary, behind_first, no_number, opens, primary_ahead}
use Rattle.cedar_parser.proofs.Resuming.{after_curly, after_false, after_round, after_slot, after_square, after_text, after_true}
use Rattle.cedar_parser.proofs.CompleteSteps.{kind_ahead}
use Rattle.cedar_parser.proofs.CompleteTokens.{first_is, no_end}

abbrev is_digits : TokenKind → Bool
is_digits kinds.Digits = true
is_digits k = false

-- a primary that begins with a token of this kind, which is no number
primary_behind : (r : Parser) (t : Token) (k : TokenKind) (rest : List Lexeme) → IsAhead r None (lexeme_of t ∷ rest) → t.kind ≡ k → begins_primary k ≡ true
    → is_digits k ≡ false
    → (a : BareExpr) × (from : List Lexeme) × g.Primary (lexeme k t.text.now ∷ rest) a from × Rest (open_groups r) (waits r) precedences.Member from
primary_behind r t k rest a e p d =
    primary_ahead (open_groups r) (waits r) (lexeme k t.text.now ∷ rest) p
    (no_number (Rest (open_groups r) (waits r)) (last_of None (waits r)) k t.text.now rest (λ f. false≢true (sym d ∙ ap is_digits f)))
    (kind_ahead r t k rest e a).goes_on

behind_at : (r : Parser) (t : Token) (rest from : List Lexeme) → IsAhead r None (lexeme_of t ∷ rest) → from ≡ rest
    → Rest (open_groups r) (waits r) precedences.Member from → IsBehind r precedences.Member rest
behind_at r t rest from a e h = record { lexemes = a.lexemes.1; goes_on = subst (Rest (open_groups r) (waits r) precedences.Member) e h }

pub true_behind : (r : Parser) (t : Token) (rest : List Lexeme) → IsAhead r None (lexeme_of t ∷ rest) → t.kind ≡ kinds.True → IsBehind r precedences.Member rest
true_behind r t rest a e = let x = primary_behind r t kinds.True rest a e refl refl in behind_at r t rest x.1 a (after_true x.2) x.3

pub false_behind : (r : Parser) (t : Token) (rest : List Lexeme) → IsAhead r None (lexeme_of t ∷ rest) → t.kind ≡ kinds.False → IsBehind r precedences.Member rest
false_behind r t rest a e = let x = primary_behind r t kinds.False rest a e refl refl in behind_at r t rest x.1 a (after_false x.2) x.3

pub text_behind : (r : Parser) (t : Token) (rest : List Lexeme) → IsAhead r None (lexeme_of t ∷ rest) → t.kind ≡ kinds.Quoted
    → (u : Text) × IsTextOf t.text.now u × IsBehind r precedences.Member rest
text_behind r t rest a e =
    let x = primary_behind r t kinds.Quoted rest a e refl refl in
    let y = after_text x.2 in (y.0, y.1, behind_at r t rest x.1 a y.2 x.3)

pub slot_behind : (r : Parser) (t : Token) (rest : List Lexeme) → IsAhead r None (lexeme_of t ∷ rest) → t.kind ≡ kinds.Slot
    → (s : SlotId) × (t.text.now ≡ slot_text s) × IsBehind r precedences.Member rest
slot_behind r t rest a e =
    let x = primary_behind r t kinds.Slot rest a e refl refl in
    let y = after_slot x.2 in (y.0, y.1, behind_at r t rest x.1 a y.2 x.3)

pub brackets_open : (r : Parser) (t : Token) (rest : List Lexeme) → IsAhead r None (lexeme_of t ∷ rest) → t.kind ≡ kinds.OpenRound
    → IsOpening r groups.Round rest
brackets_open r t rest a e =
    let x = primary_behind r t kinds.OpenRound rest a e refl refl in
    let y = after_round x.2 in
    record {
      lexemes = a.lexemes.1;
      goes_on = opens (open_groups r) (waits r) in_brackets rest (lexeme kinds.CloseRound y.0 ∷ x.1) y.1 y.2
          (y.0, x.1, refl, x.3);
    }

pub row_goes_on : (r : Parser) (t : Token) (rest : List Lexeme) (xs : List (Expr Unit)) → IsAhead r None (lexeme_of t ∷ rest) → t.kind ≡ kinds.OpenSquare
    → xs ≡ [] → IsRowAhead r members (length xs) rest
row_goes_on r t rest xs a e none =
    let x = primary_behind r t kinds.OpenSquare rest a e refl refl in
    let y = after_square x.2 in
    subst (λ ys. IsRowAhead r members (length ys) rest) (sym none) (record { lexemes = a.lexemes.1; goes_on = (y.0, x.1, y.1, tt, x.3) })

pub record_goes_on : (r : Parser) (t : Token) (rest : List Lexeme) (xs : List (RcStr Global × Expr Unit)) → IsAhead r None (lexeme_of t ∷ rest)
    → t.kind ≡ kinds.OpenCurly → xs ≡ [] → IsRecordAhead r (keys (meant_pairs bare_expr xs)) rest
record_goes_on r t rest xs a e none =
    let x = primary_behind r t kinds.OpenCurly rest a e refl refl in
    let y = after_curly x.2 in
    subst (λ ys. IsRecordAhead r (keys (meant_pairs bare_expr ys)) rest) (sym none) (record { lexemes = a.lexemes.1; goes_on = (y.0, x.1, y.1, y.2, x.3) })

begins_none : (k : TokenKind) → (k ≡ kinds.Word → ⊥) → (k ≡ kinds.Digits → ⊥) → (k ≡ kinds.Quoted → ⊥) → (k ≡ kinds.Slot → ⊥) → (k ≡ kinds.True → ⊥)
    → (k ≡ kinds.False → ⊥) → (k ≡ kinds.Not → ⊥) → (k ≡ kinds.Minus → ⊥) → (k ≡ kinds.If → ⊥) → (k ≡ kinds.OpenRound → ⊥) → (k ≡ kinds.OpenSquare → ⊥)
    → (k ≡ kinds.OpenCurly → ⊥) → begins_expression k ≡ true → ⊥
begins_none kinds.Word a b c d e f g h i j l m x = a refl
begins_none kinds.Digits a b c d e f g h i j l m x = b refl
begins_none kinds.Quoted a b c d e f g h i j l m x = c refl
begins_none kinds.Slot a b c d e f g h i j l m x = d refl
begins_none kinds.True a b c d e f g h i j l m x = e refl
begins_none kinds.False a b c d e f g h i j l m x = f refl
begins_none kinds.Not a b c d e f g h i j l m x = g refl
begins_none kinds.Minus a b c d e f g h i j l m x = h refl
begins_none kinds.If a b c d e f g h i j l m x = i refl
begins_none kinds.OpenRound a b c d e f g h i j l m x = j refl
begins_none kinds.OpenSquare a b c d e f g h i j l m x = l refl
begins_none kinds.OpenCurly a b c d e f g h i j l m x = m refl
begins_none k a b c d e f g h i j l m x = false≢true x

pub none_begins_so : (r : Parser) (t : Token) (rest : List Lexeme) → IsAhead r None (lexeme_of t ∷ rest) → (t.kind ≡ kinds.Word → ⊥)
    → (t.kind ≡ kinds.Digits → ⊥) → (t.kind ≡ kinds.Quoted → ⊥) → (t.kind ≡ kinds.Slot → ⊥) → (t.kind ≡ kinds.True → ⊥) → (t.kind ≡ kinds.False → ⊥)
    → (t.kind ≡ kinds.Not → ⊥) → (t.kind ≡ kinds.Minus → ⊥) → (t.kind ≡ kinds.If → ⊥) → (t.kind ≡ kinds.OpenRound → ⊥) → (t.kind ≡ kinds.OpenSquare → ⊥)
    → (t.kind ≡ kinds.OpenCurly → ⊥) → ⊥
none_begins_so r t rest x a b c d e f g h i j l m =
    begins_none t.kind a b c d e f g h i j l m (begins_ahead (open_groups r) (waits r) (lexeme_of t ∷ rest) x.goes_on)

pub not_member : (l : Precedence) → (l ≡ precedences.Member → ⊥) → precedence_number l < 7
not_member precedences.Member h = absurd (h refl)
not_member precedences.Conditional h = omega arith
not_member precedences.Or h = omega arith
not_member precedences.And h = omega arith
not_member precedences.Relation h = omega arith
not_member precedences.Sum h = omega arith
not_member precedences.Product h = omega arith
not_member precedences.Unary h = omega arith

-- ---- keys

quoted_text : (t : Token) (k : Text) {l : Lexeme} → IsKey l k → l ≡ lexeme kinds.Quoted t.text.now → IsTextOf t.text.now k
quoted_text t k (id_key {w = w}) e = absurd (false≢true (ap (λ l. is_quoted l) e))
  where
    is_quoted : Lexeme → Bool
    is_quoted (lexeme kinds.Quoted w) = true
    is_quoted l = false
quoted_text t k (text_key {w = w} h) e = subst (λ q. IsTextOf q k) (ap text_in e) h
  where
    text_in : Lexeme → List ℕ
    text_in (lexeme k w) = w

word_text : (t : Token) (k : Text) {l : Lexeme} → IsKey l k → l ≡ lexeme kinds.Word t.text.now → t.text.now ≡ k
word_text t k (id_key {w = w}) e = sym (ap text_in e)
  where
    text_in : Lexeme → List ℕ
    text_in (lexeme k w) = w
word_text t k (text_key h) e = absurd (false≢true (ap is_word e))
  where
    is_word : Lexeme → Bool
    is_word (lexeme kinds.Word w) = true
    is_word l = false

head_is : {l m : Lexeme} {ts us : List Lexeme} → l ∷ ts ≡ m ∷ us → l ≡ m
head_is {l = l} e = ap (first_or l) e
  where
    first_or : Lexeme → List Lexeme → Lexeme
    first_or d [] = d
    first_or d (t ∷ ts) = t

kind_lexeme : (t : Token) (k : TokenKind) → t.kind ≡ k → lexeme_of t ≡ lexeme k t.text.now
kind_lexeme t k e = ap (λ x. lexeme x t.text.now) e

pub key_refused : (old new : TokenStream) (t : Token) (l : Lexeme) (k : Text) (rest : List Lexeme) → here old ≡ l ∷ rest → IsKey l k → t.kind ≡ kinds.Quoted
    → IsTaken old t new → IsTextOf t.text.now k
key_refused old new t l k rest e h is taken = quoted_text t k h (head_is (sym e ∙ taken_here old new t taken) ∙ kind_lexeme t kinds.Quoted is)

pub key_quoted : (old new : TokenStream) (t : Token) (x : RcStr Global) (l : Lexeme) (k : Text) (rest : List Lexeme) → here old ≡ l ∷ rest → IsKey l k
    → t.kind ≡ kinds.Quoted → IsTaken old t new → ((u : Text) → IsTextOf t.text.now u → rc_str_bytes x ≡ u)
    → (rc_str_bytes x ≡ k) × (here new ≡ rest) × (end_of new ≡ end_of old)
key_quoted old new t x l k rest e h is taken text =
    (text k (key_refused old new t l k rest e h is taken), sym (ap behind_first (sym e ∙ taken_here old new t taken)), taken.1)

pub key_word : (old mid new : TokenStream) (t : Token) (x : RcStr Global) (l : Lexeme) (k : Text) (rest : List Lexeme) → here old ≡ l ∷ rest → IsKey l k
    → IsUntouched old mid → t.kind ≡ kinds.Word → IsTaken mid t new → rc_str_bytes x ≡ t.text.now
    → (rc_str_bytes x ≡ k) × (here new ≡ rest) × (end_of new ≡ end_of old)
key_word old mid new t x l k rest e h u is taken text =
    let same = sym e ∙ (untouched_here old mid u ∙ taken_here mid new t taken) in (
      text ∙ word_text t k h (head_is same ∙ kind_lexeme t kinds.Word is),
      sym (ap behind_first same),
      taken.1 ∙ u.1,
    )

key_kind : {l : Lexeme} {k : Text} (rest : List Lexeme) → IsKey l k → (first_kind (l ∷ rest) ≡ kinds.Quoted → ⊥) → first_kind (l ∷ rest) ≡ kinds.Word
key_kind rest id_key other = refl
key_kind rest (text_key h) other = absurd (other refl)

pub word_wanted : (old mid : TokenStream) (l : Lexeme) (k : Text) (rest : List Lexeme) → here old ≡ l ∷ rest → IsKey l k
    → (BeginsWith kinds.Quoted (rest_of old) → ⊥) → IsUntouched old mid → BeginsWith kinds.Word (rest_of mid)
word_wanted old mid l k rest e h other u =
    let no = λ (f : first_kind (l ∷ rest) ≡ kinds.Quoted). other (first_is kinds.Quoted old (ap first_kind e ∙ f) (no_end kinds.Quoted refl)) in
    first_is kinds.Word mid (ap first_kind (sym (untouched_here old mid u) ∙ e) ∙ key_kind rest h no) (no_end kinds.Word refl)

-- ---- paths

one_end : (k : TokenKind) (w : List ℕ) → ends_path (lexeme k w ∷ []) ≡ true
one_end kinds.Colons w = refl
one_end k w = refl

-- behind `::` stands no identifier
colons_end : (l : TokenKind) (w v : List ℕ) (ts : List Lexeme) → (l ≡ kinds.Word → ⊥) → ends_path (lexeme kinds.Colons w ∷ lexeme l v ∷ ts) ≡ true
colons_end kinds.Word w v ts other = absurd (other refl)
colons_end l w v ts other = refl

two_end : (k l : TokenKind) (w v : List ℕ) (ts : List Lexeme) → (k ≡ kinds.Colons → l ≡ kinds.Word → ⊥) → ends_path (lexeme k w ∷ lexeme l v ∷ ts) ≡ true
two_end kinds.Colons l w v ts other = colons_end l w v ts (other refl)
two_end k l w v ts other = refl

pair_or_end : (ts : List Token) → (BeginsWithPair kinds.Colons kinds.Word ts → ⊥) → ends_path (lexemes_of ts) ≡ true
pair_or_end [] other = refl
pair_or_end (t ∷ []) other = one_end t.kind t.text.now
pair_or_end (t ∷ u ∷ ts) other = two_end t.kind u.kind t.text.now u.text.now (lexemes_of ts) (λ a b. other (a, b))

pub path_ended : (old new : TokenStream) → (BeginsWithPair kinds.Colons kinds.Word (rest_of old) → ⊥) → IsUntouched old new → ends_path (here new) ≡ true
path_ended old new other u = ap ends_path (sym (untouched_here old new u)) ∙ pair_or_end (rest_of old) other
