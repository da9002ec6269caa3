-- Rows, records and what a word begins keep what is still to come, over the parser's own parts.
use Rattle.std.proofs.Common.{◌≡◌, ℕ, suc, Bool, true, false, List, [], ◌∷◌, ◌++◌, Option, Some, None, Result, Ok, Err, length, map, refl, sym, ◌∙◌, ap, subst}
use Rattle.std.specs.Prelude.{IsTrue, MatchResult}
use Rattle.std.specs.Global.{Global}
use Rattle.std.specs.Rc.{rc_str_bytes}
use Rattle.std.specs.declared.rc.RcStr.{RcStr}
use Rattle.std.proofs.lemmas.Bool.{false≢true}
use Rattle.cedar_names.specs.Names.{BareName, IsNameOf, has_reserved}
use Rattle.cedar_terms.specs.declared.precedence.Precedence.TheVariants as precedences
use Rattle.cedar_builders.specs.BareExpr.{Text, BareExpr}
use Rattle.cedar_builders.specs.Keys.{are_distinct, meant_pairs}
use Rattle.cedar_exprs.specs.BareExpr.{bare_expr}
use Rattle.cedar_exprs.specs.declared.expr.Expr.{Expr}
use denote.Enum.Bare.{sameb}
use Rattle.cedar_lexer.specs.contracts.token.TokenKind.{the_type}
use Rattle.cedar_lexer.specs.TokenStreams.{BeginsWith, IsTaken, IsUntouched, rest_of}
use Rattle.cedar_lexer.specs.declared.parse_failure.ParseFailure.{ParseFailure}
use Rattle.cedar_lexer.specs.declared.parse_failure.ParseFailure.TheVariants as failure
use Rattle.cedar_lexer.specs.declared.token.Token.{Token}
use Rattle.cedar_lexer.specs.declared.token.TokenKind.{TokenKind}
use Rattle.cedar_lexer.specs.declared.token.TokenKind.TheVariants as kinds
use Rattle.cedar_lexer.specs.declared.token_stream.TokenStream.{TokenStream}
use Rattle.semantics_grammar.specs.Lexemes.{Lexeme, lexeme, lexemes_of}
use Rattle.semantics_grammar.specs.Written.{ArePathIds}
use Rattle.cedar_parser.specs.Waiting.{Waiting, Row, members, arguments, method_arguments, closing_of, in_row, in_record, Group as OpenGroup}
use Rattle.cedar_parser.specs.Ahead.{GoesOnAfter, RecordGoesOn, RowGoesOn, RowTakes, ends_path, keys}
use Rattle.cedar_parser.specs.Meant.{AreLexemes, HasEnd, from, here, open_groups, row_of, waits}
use Rattle.cedar_parser.specs.Complete.{IsAhead, IsBehind, IsMember, IsRecordAhead, IsRowAhead, StaysAhead}
use Rattle.cedar_parser.specs.declared.groups.RowKind.{RowKind}
use Rattle.cedar_parser.specs.declared.operand.Operand.{Operand}
use Rattle.cedar_parser.specs.declared.parser.Parser.{Parser}
use Rattle.cedar_parser.proofs.TakenSteps.{taken_here, taken_is, untouched_here}
use Rattle.cedar_parser.proofs.Ascending.{kind_at}
use Rattle.cedar_parser.proofs.Onward.{behind_first}
use Rattle.cedar_parser.proofs.Resuming.{FieldBegins, field_opened, record_ended, row_ended, row_opened}
use Rattle.cedar_parser.proofs.WordSteps.{WordAhead, word_ahead}
use Rattle.cedar_parser.proofs.CompleteSteps.{operand_ahead}
use Rattle.cedar_parser.proofs.CompleteTokens.{path_lexemes}
use Rattle.cedar_parser.proofs.Words.{path_named}

-- what holds of an operand that needs no brackets, where what is left goes on with one
pub member_ahead : (r s : Parser) (res : Result (Option Operand) ParseFailure) (rest : List Lexeme) → IsBehind r precedences.Member rest → s ≡ r
    → MatchResult res IsMember (λ e. e ≡ failure.Memory) → StaysAhead s rest res
member_ahead r s (Err e) rest b same m = m
member_ahead r s (Ok None) rest b same m = absurd m
member_ahead r s (Ok (Some h)) rest b same m =
    subst (λ x. IsAhead x (Some h) rest) (sym same) (operand_ahead r h precedences.Member rest b m)

pub stays_keeps : (s : Parser) (res : Result (Option Operand) ParseFailure) (new : TokenStream) → HasEnd new → StaysAhead s (here new) res
    → MatchResult res (λ h. IsAhead s h (here new) × HasEnd new) (λ e. e ≡ failure.Memory)
stays_keeps s (Err e) new end h = h
stays_keeps s (Ok x) new end h = (h, end)

-- ---- rows

first_begins : (k : TokenKind) (ts : List Token) → kind_at (lexemes_of ts) ≡ k → (k ≡ kinds.End → ⊥) → BeginsWith k ts
first_begins k [] e some = absurd (some (sym e))
first_begins k (t ∷ ts) e some = e

-- where the next token is not of this kind
pub other_kind : (k : TokenKind) (old new : TokenStream) → (BeginsWith k (rest_of old) → ⊥) → (k ≡ kinds.End → ⊥) → IsUntouched old new
    → kind_at (here new) ≡ k → ⊥
other_kind k old new other some u e = other (first_begins k (rest_of old) (ap kind_at (untouched_here old new u) ∙ e) some)

abbrev is_end : TokenKind → Bool
is_end kinds.End = true
is_end k = false

pub row_closes : (row : Row) → closing_of row ≡ kinds.End → ⊥
row_closes members e = false≢true (ap is_end e)
row_closes (arguments n) e = false≢true (ap is_end e)
row_closes (method_arguments m) e = false≢true (ap is_end e)

pub row_ends_ahead : (r : Parser) (row : Row) (n : ℕ) (t : Token) (k : TokenKind) (old new : TokenStream) → IsRowAhead r row n (here old)
    → k ≡ closing_of row → t.kind ≡ k → IsTaken old t new → RowTakes row n × IsBehind r precedences.Member (here new)
row_ends_ahead r row n t k old new a c is taken =
    let same = taken_here old new t taken in
    let x = row_ended (open_groups r) (waits r) row n t.kind t.text.now (here new) (is ∙ c)
    (subst (RowGoesOn (open_groups r) (waits r) row n) same a.goes_on) in
    (x.0, record { lexemes = (subst AreLexemes same a.lexemes).1; goes_on = x.1 })

map_length : {A B : Type 0} (f : A → B) (xs : List A) → length (map f xs) ≡ length xs
map_length f [] = refl
map_length f (x ∷ xs) = ap suc (map_length f xs)

pub row_opens_ahead : (r : Parser) (kind : RowKind) (xs : List (Expr Unit)) (old new : TokenStream) → IsRowAhead r (row_of kind) (length xs) (here old)
    → (BeginsWith (closing_of (row_of kind)) (rest_of old) → ⊥) → IsUntouched old new
    → AreLexemes (here new) × GoesOnAfter (open_groups r ++ ((waits r, in_row (row_of kind) (map bare_expr xs)) ∷ [])) [] None (here new)
row_opens_ahead r kind xs old new a other u =
    let same = untouched_here old new u in
    let row = row_of kind in (
      subst AreLexemes same a.lexemes,
      row_opened (open_groups r) (waits r) row (map bare_expr xs) (here new) (other_kind (closing_of row) old new other (row_closes row) u)
          (subst (λ n. RowGoesOn (open_groups r) (waits r) row n (here new)) (sym (map_length bare_expr xs))
          (subst (RowGoesOn (open_groups r) (waits r) row (length xs)) same a.goes_on)),
    )

-- ---- records

pub record_ends_ahead : (r : Parser) (ks : List Text) (t : Token) (old new : TokenStream) → IsRecordAhead r ks (here old) → t.kind ≡ kinds.CloseCurly
    → IsTaken old t new → IsTrue (are_distinct ks) × IsBehind r precedences.Member (here new)
record_ends_ahead r ks t old new a is taken =
    let same = taken_is old new t kinds.CloseCurly is taken in
    let x = record_ended (open_groups r) (waits r) ks t.text.now (here new) (subst (RecordGoesOn (open_groups r) (waits r) ks) same a.goes_on) in
    (x.0, record { lexemes = (subst AreLexemes same a.lexemes).1; goes_on = x.1 })

curly_some : kinds.CloseCurly ≡ kinds.End → ⊥
curly_some e = false≢true (ap is_end e)

pub field_begins : (r : Parser) (ps : List (Text × BareExpr)) (old new : TokenStream) → IsRecordAhead r (keys ps) (here old)
    → (BeginsWith kinds.CloseCurly (rest_of old) → ⊥) → IsUntouched old new → FieldBegins (open_groups r) (waits r) ps (here new) × AreLexemes (here new)
field_begins r ps old new a other u =
    let same = untouched_here old new u in (
      field_opened (open_groups r) (waits r) ps (here new) (other_kind kinds.CloseCurly old new other curly_some u)
          (subst (RecordGoesOn (open_groups r) (waits r) (keys ps)) same a.goes_on),
      subst AreLexemes same a.lexemes,
    )

-- the colon behind a key
pub colon_follows : (w : List ℕ) (us : List Lexeme) (t : TokenStream) → here t ≡ lexeme kinds.Colon w ∷ us → BeginsWith kinds.Colon (rest_of t)
colon_follows w us t e = first_begins kinds.Colon (rest_of t) (ap kind_at e) (λ f. false≢true (ap is_end f))

pub follows : (k : TokenKind) (w : List ℕ) (us : List Lexeme) (t : TokenStream) → is_end k ≡ false → here t ≡ lexeme k w ∷ us → BeginsWith k (rest_of t)
follows k w us t some e = first_begins k (rest_of t) (ap kind_at e) (λ f. false≢true (sym some ∙ ap is_end f))

-- the same tokens behind a token
pub rest_taken : (k : TokenKind) (w : List ℕ) (us : List Lexeme) (t : Token) (old new : TokenStream) → here old ≡ lexeme k w ∷ us → IsTaken old t new
    → us ≡ here new
rest_taken k w us t old new e taken = ap behind_first (sym e ∙ taken_here old new t taken)

abbrev word_at : List Lexeme → List ℕ
word_at [] = []
word_at (lexeme k w ∷ ts) = w

pub text_taken : (k : TokenKind) (w : List ℕ) (us : List Lexeme) (t : Token) (old new : TokenStream) → here old ≡ lexeme k w ∷ us → IsTaken old t new
    → w ≡ t.text.now
text_taken k w us t old new e taken = ap word_at (sym e ∙ taken_here old new t taken)

-- a field is open behind its key and the colon
pub field_opens_ahead : (r : Parser) (xs : List (RcStr Global × Expr Unit)) (k : RcStr Global) (t0 t1 t2 : TokenStream) (c : Token)
    (f : FieldBegins (open_groups r) (waits r) (meant_pairs bare_expr xs) (here t0)) → AreLexemes (here t0) → rc_str_bytes k ≡ f.key
    → here t1 ≡ lexeme kinds.Colon f.colon ∷ f.behind → IsTaken t1 c t2
    → AreLexemes (here t2) × GoesOnAfter (open_groups r ++ ((waits r, in_record (meant_pairs bare_expr xs) (rc_str_bytes k)) ∷ [])) [] None (here t2)
field_opens_ahead r xs k t0 t1 t2 c f lex key behind taken =
    let same = rest_taken kinds.Colon f.colon f.behind c t1 t2 behind taken in
    let l : AreLexemes (f.word ∷ lexeme kinds.Colon f.colon ∷ f.behind) = subst AreLexemes f.tokens lex in (
      subst AreLexemes same (behind_word f.word (lexeme kinds.Colon f.colon ∷ f.behind) l).1,
      subst (GoesOnAfter (open_groups r ++ ((waits r, in_record (meant_pairs bare_expr xs) (rc_str_bytes k)) ∷ [])) [] None) same
          (subst (λ x. GoesOnAfter (open_groups r ++ ((waits r, in_record (meant_pairs bare_expr xs) x) ∷ [])) [] None f.behind) (sym key) f.opened),
    )
  where
    behind_word : (l : Lexeme) (ts : List Lexeme) → AreLexemes (l ∷ ts) → AreLexemes ts
    behind_word (lexeme k w) ts h = h.1

-- the row of a method is open behind its bracket
pub method_row : (r : Parser) (attr : RcStr Global) (e : Expr Unit) (xs : List (Expr Unit)) (n : List ℕ) (t0 : TokenStream) (o : List ℕ) (t2 : TokenStream)
    → AreLexemes (here t0) → here t0 ≡ lexeme kinds.Word n ∷ lexeme kinds.OpenRound o ∷ here t2 → rc_str_bytes attr ≡ n → xs ≡ e ∷ []
    → RowGoesOn (open_groups r) (waits r) (method_arguments n) 1 (here t2) → IsRowAhead r (method_arguments (rc_str_bytes attr)) (length xs) (here t2)
method_row r attr e xs n t0 o t2 lex same text one m = record {
  lexemes = (subst AreLexemes same lex).1.1;
  goes_on = subst (λ k. RowGoesOn (open_groups r) (waits r) (method_arguments (rc_str_bytes attr)) k (here t2)) (sym (ap length one))
      (subst (λ x. RowGoesOn (open_groups r) (waits r) (method_arguments x) 1 (here t2)) (sym text) m);
}

-- which of two kinds it is
pub not_comma : (k : TokenKind) → false ≡ sameb the_type k kinds.Comma → k ≡ kinds.Comma → ⊥
not_comma k e h = false≢true (e ∙ ap (λ x. sameb the_type x kinds.Comma) h)

-- ---- words

-- what a word begins, behind its path, which has a name
pub record WordBegins (r : Parser) (path : Text) (ts : List Lexeme) : Type 0 where
  pub lexemes : AreLexemes ts
  pub name : BareName
  pub named : IsNameOf path name
  pub plain : has_reserved name ≡ false
  pub goes_on : WordAhead (open_groups r) (waits r) path ts

pub word_begins : (r : Parser) (first : Token) (path : Text) (t0 t1 : TokenStream) → IsAhead r None (from first t0) → first.kind ≡ kinds.Word
    → (first.kind ≡ kinds.Word → ArePathIds (from first t0) path (here t1)) → ends_path (here t1) ≡ true → WordBegins r path (here t1)
word_begins r first path t0 t1 a word ids end =
    let same : from first t0 ≡ lexeme kinds.Word first.text.now ∷ here t0 = ap (λ k. lexeme k first.text.now ∷ here t0) word in
    let p = ids word in
    let n = path_named p a.lexemes in
    record {
      lexemes = path_lexemes p a.lexemes;
      name = n.0;
      named = n.1;
      plain = n.2;
      goes_on = word_ahead (open_groups r) (waits r) path first.text.now (here t0) (here t1)
          (subst (GoesOnAfter (open_groups r) (waits r) None) same a.goes_on) (subst (λ x. ArePathIds x path (here t1)) same p) end;
    }

abbrev pub WordIs : List OpenGroup → List Waiting → Text → List Lexeme → Type 0
WordIs gs ws path ts = WordAhead gs ws path ts
