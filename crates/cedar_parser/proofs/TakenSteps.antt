-- The steps of the parser that take tokens, over its own parts.
use Rattle.std.proofs.Common.{◌≡◌, ◌≤◌, ℕ, false, List, [], ◌∷◌, ◌++◌, Option, Some, None, map, refl, sym, ◌∙◌, ap, subst}
use Rattle.std.specs.HashMap.{get_by}
use Rattle.std.specs.Str.{bytes_eq}
use Rattle.std.specs.Rc.{rc_str_bytes}
use Rattle.cedar_builders.specs.BareExpr.{BareExpr}
use Rattle.cedar_exprs.specs.BareExpr.{bare_expr}
use Rattle.cedar_terms.specs.Precedences.{precedence_number}
use Rattle.cedar_terms.specs.declared.precedence.Precedence.TheVariants as precedences
use Rattle.cedar_lexer.specs.declared.token.Token.{Token}
use Rattle.semantics_grammar.specs.Grammar.{Primary, Stands}
use Rattle.semantics_grammar.specs.Lexemes.{Lexeme, lexeme_of}
use Rattle.semantics_grammar.specs.Written.{is_number_alone}
use Rattle.cedar_parser.specs.Waiting.{last_of}
use Rattle.cedar_parser.specs.Meant.{IsParsed, IsOpenParsed, WaitsBelow, grouped, open_group, open_groups, bare_operand, waiting, waits}
use Rattle.cedar_parser.specs.declared.groups.GroupKind.{GroupKind}
use Rattle.cedar_parser.specs.declared.operand.Operand.{Operand}
use Rattle.cedar_parser.specs.declared.operand.Operation.TheVariants as operations
use Rattle.cedar_parser.specs.declared.parser.Parser.{Parser}
use Rattle.std.proofs.Common.{IfOk, MatchOption, Result, Ok, Err, true}
use Rattle.std.specs.Option.{is_none, is_some}
use Rattle.std.proofs.lemmas.Bool.{false≢true}
use Rattle.std.specs.Global.{Global}
use Rattle.std.specs.declared.rc.RcStr.{RcStr}
use Rattle.cedar_builders.specs.BareExpr.{Text, GetAttr}
use Rattle.cedar_lexer.specs.Grammar.{IsTokenText}
use Rattle.cedar_lexer.specs.TokenStreams.{IsTaken, IsUntouched, end_of, rest_of}
use Rattle.cedar_lexer.specs.declared.parse_failure.ParseFailure.{ParseFailure}
use Rattle.cedar_lexer.specs.declared.token.TokenKind.{TokenKind}
use Rattle.cedar_lexer.specs.declared.token.TokenKind.TheVariants as kinds
use Rattle.cedar_lexer.specs.declared.token_stream.TokenStream.{TokenStream}
use Rattle.semantics_grammar.specs.Grammar.{Accesses, no_access, attribute, index}
use Rattle.semantics_grammar.specs.Lexemes.{lexeme, lexemes_of}
use Rattle.semantics_grammar.specs.Written.{IsTextOf}
use Rattle.cedar_parser.specs.Meant.{AreLexemes, HasEnd, HasNoValues, IsKeyTaken, IsRecordOperand, IsRowOperand, here}
use Rattle.cedar_parser.specs.SoFar.{IsOpenUpTo, IsRecordUpTo}
use Rattle.cedar_parser.specs.Waiting.{Row, in_record, in_row, closing_of, method_arguments}
use Rattle.cedar_builders.specs.Keys.{meant_pairs}
use Rattle.cedar_lexer.specs.TokenStreams.{first_or, next_of}
use Rattle.cedar_parser.specs.Meant.{IsRecordParsed, first_kind}
use Rattle.cedar_parser.specs.SoFar.{AreFields, IsOpened, no_fields}
use Rattle.cedar_parser.proofs.Steps.{before_primary}
use Rattle.cedar_names.specs.Names.{BareName, IsNameOf}
use Rattle.cedar_exprs.specs.declared.expr.Expr.{Expr}
use Rattle.cedar_builders.specs.BareExpr.{Is}
use Rattle.semantics_grammar.specs.Grammar.{Tests}
use Rattle.semantics_grammar.specs.Grammar as grammar
use Rattle.semantics_grammar.specs.Written.{ArePathIds, IsPath}
use Rattle.cedar_parser.specs.Meant.{from}
use Rattle.cedar_parser.specs.Waiting.{is_of_in}
use Rattle.cedar_parser.proofs.ParserSteps.{moved, pair, waits_pushed}
use Rattle.cedar_parser.proofs.Steps.{access_parsed, is_in_parsed, test_parsed, key_parsed, method_parsed, record_ends, row_ends}

pub taken_here : (old new : TokenStream) (t : Token) → IsTaken old t new → here old ≡ lexeme_of t ∷ here new
taken_here old new t h = ap lexemes_of h.0

pub untouched_here : (old new : TokenStream) → IsUntouched old new → here old ≡ here new
untouched_here old new h = sym (ap lexemes_of h.0)

pub end_kept : (old new : TokenStream) → end_of new ≡ end_of old → HasEnd old → HasEnd new
end_kept old new e h = ap (λ t. t.kind) e ∙ h

-- a token of this kind
kind_is : (t : Token) (k : TokenKind) → t.kind ≡ k → lexeme_of t ≡ lexeme k t.text.now
kind_is t k e = ap (λ x. lexeme x t.text.now) e

pub taken_is : (old new : TokenStream) (t : Token) (k : TokenKind) → t.kind ≡ k → IsTaken old t new → here old ≡ lexeme k t.text.now ∷ here new
taken_is old new t k e h = taken_here old new t h ∙ ap (λ l. l ∷ here new) (kind_is t k e)

pub if_both : (P : Option Operand → Type 0) (Q : Type 0) (res : Result (Option Operand) ParseFailure) → IfOk res P → Q → IfOk res (λ h. P h × Q)
if_both P Q (Ok h) p q = (p, q)
if_both P Q (Err e) p q = tt

-- what was taken, if anything was
pub none_taken : (A : Type 0) (B : Token → Type 0) (o : Option Token) → MatchOption o A B → is_some o ≡ false → A
none_taken A B None h e = h
none_taken A B (Some t) h e = absurd (false≢true (sym e))

pub one_taken : (A : Type 0) (B : Token → Type 0) (o : Option Token) → MatchOption o A B → is_some o ≡ true → (t : Token) × B t
one_taken A B None h e = absurd (false≢true e)
one_taken A B (Some t) h e = (t, h)

pub not_some : {A : Type 0} (o : Option A) → is_none o ≡ true → is_some o ≡ false
not_some None h = refl
not_some (Some a) h = absurd (false≢true h)

pub some_there : {A : Type 0} (o : Option A) → is_none o ≡ false → is_some o ≡ true
some_there None h = absurd (false≢true (sym h))
some_there (Some a) h = refl

-- a row ends
pub item_ends : (ts : List Lexeme) (r s : Parser) (row : Row) (es : List BareExpr) (t : Token) (old new : TokenStream) (k : TokenKind)
    (res : Result (Option Operand) ParseFailure) → HasEnd old → HasNoValues r.nodes → AreLexemes (here old)
    → IsOpenUpTo ts (open_groups r) (waits r) (in_row row es) (here old) → k ≡ closing_of row → t.kind ≡ k → IsTaken old t new → s ≡ r
    → (HasNoValues r.nodes → IfOk res (IsRowOperand row es)) → IfOk res (λ h. IsParsed ts s h (here new) × HasEnd new)
item_ends ts r s row es t old new k (Err e) end n l h c is taken same made = tt
item_ends ts r s row es t old new k (Ok None) end n l h c is taken same made = absurd (made n)
item_ends ts r s row es t old new k (Ok (Some x)) end n l h c is taken same made =
    let m = made n in
    let e = taken_is old new t (closing_of row) (is ∙ c) taken in
    let p : IsParsed ts r (Some x) (here new) = record {
      no_values = n;
      lexemes = (subst AreLexemes e l).1;
      so_far = moved ts (here new) (open_groups r) (open_groups r) (waits r) (waits r) (Some (precedences.Member, bare_expr x.expr)) (Some (bare_operand x)) refl refl
          (pair precedences.Member x.precedence (bare_expr x.expr) (bare_expr x.expr) (sym m.0) refl)
          (row_ends ts (open_groups r) (waits r) row es (bare_expr x.expr) t.text.now (here new)
          (subst (IsOpenUpTo ts (open_groups r) (waits r) (in_row row es)) e h) m.1);
    } in
    (subst (λ s. IsParsed ts s (Some x) (here new)) (sym same) p, end_kept old new taken.1 end)

-- a record ends
pub field_ends : (ts : List Lexeme) (r s : Parser) (ps : List (Text × BareExpr)) (t : Token) (old new : TokenStream)
    (res : Result (Option Operand) ParseFailure) → HasEnd old → HasNoValues r.nodes → AreLexemes (here old)
    → IsRecordUpTo ts (open_groups r) (waits r) ps (here old) → t.kind ≡ kinds.CloseCurly → IsTaken old t new → s ≡ r
    → IfOk res (IsRecordOperand ps) → IfOk res (λ h. IsParsed ts s h (here new) × HasEnd new)
field_ends ts r s ps t old new (Err e) end n l h is taken same made = tt
field_ends ts r s ps t old new (Ok None) end n l h is taken same made = absurd made
field_ends ts r s ps t old new (Ok (Some x)) end n l h is taken same made =
    let e = taken_is old new t kinds.CloseCurly is taken in
    let p : IsParsed ts r (Some x) (here new) = record {
      no_values = n;
      lexemes = (subst AreLexemes e l).1;
      so_far = moved ts (here new) (open_groups r) (open_groups r) (waits r) (waits r) _ (Some (bare_operand x)) refl refl
          (pair precedences.Member x.precedence _ (bare_expr x.expr) (sym made.0) (sym made.1.1))
          (record_ends ts (open_groups r) (waits r) ps t.text.now (here new)
          (subst (IsRecordUpTo ts (open_groups r) (waits r) ps) e h) made.1.0);
    } in
    (subst (λ s. IsParsed ts s (Some x) (here new)) (sym same) p, end_kept old new taken.1 end)

-- the key of a field
pub field_key : (ts : List Lexeme) (r : Parser) (ps : List (Text × BareExpr)) (k : RcStr Global) (c : Token) (t0 t1 t2 t3 : TokenStream)
    → AreLexemes (here t0) → IsRecordUpTo ts (open_groups r) (waits r) ps (here t0) → IsUntouched t0 t1
    → (AreLexemes (here t1) → IsKeyTaken t1 k t2) → c.kind ≡ kinds.Colon → IsTaken t2 c t3
    → IsOpenUpTo ts (open_groups r) (waits r) (in_record ps (rc_str_bytes k)) (here t3) × AreLexemes (here t3) × (end_of t3 ≡ end_of t0)
field_key ts r ps k c t0 t1 t2 t3 l h u key is taken =
    let q = key (subst AreLexemes (untouched_here t0 t1 u) l) in
    let e : here t0 ≡ q.0 ∷ lexeme kinds.Colon c.text.now ∷ here t3 =
    untouched_here t0 t1 u ∙ (q.2 ∙ ap (λ x. q.0 ∷ x) (taken_is t2 t3 c kinds.Colon is taken)) in (
      key_parsed ts (open_groups r) (waits r) ps q.0 (rc_str_bytes k) c.text.now (here t3)
          (subst (IsRecordUpTo ts (open_groups r) (waits r) ps) e h) q.1,
      (subst AreLexemes (taken_is t2 t3 c kinds.Colon is taken) q.3).1,
      taken.1 ∙ (q.4 ∙ u.1),
    )

-- attributes
access_step : (ts mid rest : List Lexeme) (r : Parser) (h k : Operand) (f : BareExpr) → IsParsed ts r (Some h) mid → h.precedence ≡ precedences.Member
    → Accesses mid (bare_expr h.expr) f rest → AreLexemes rest → k.precedence ≡ precedences.Member → bare_expr k.expr ≡ f → IsParsed ts r (Some k) rest
access_step ts mid rest r h k f p l a lex m e = record {
  no_values = p.no_values;
  lexemes = lex;
  so_far = moved ts rest (open_groups r) (open_groups r) (waits r) (waits r) (Some (precedences.Member, f)) (Some (bare_operand k)) refl refl
      (pair precedences.Member k.precedence f (bare_expr k.expr) (sym m) (sym e))
      (access_parsed ts (open_groups r) (waits r) (bare_expr h.expr) f mid rest
      (moved ts mid (open_groups r) (open_groups r) (waits r) (waits r) (Some (bare_operand h)) (Some (precedences.Member, bare_expr h.expr)) refl refl
      (pair h.precedence precedences.Member (bare_expr h.expr) (bare_expr h.expr) l refl) p.so_far) a);
}

pub bracket_parsed : (ts : List Lexeme) (r : Parser) (h k : Operand) (q c : Token) (t0 t1 t2 : TokenStream) (w : List ℕ) (key : Text)
    → IsParsed ts r (Some h) (lexeme kinds.OpenSquare w ∷ here t0) → h.precedence ≡ precedences.Member → q.kind ≡ kinds.Quoted → IsTaken t0 q t1
    → (IsTokenText q.text.now kinds.Quoted → IsTextOf q.text.now key) → c.kind ≡ kinds.CloseSquare → IsTaken t1 c t2
    → k.precedence ≡ precedences.Member → bare_expr k.expr ≡ GetAttr (bare_expr h.expr) key → IsParsed ts r (Some k) (here t2)
bracket_parsed ts r h k q c t0 t1 t2 w key p l isq tq text isc tc m e =
    let same : here t0 ≡ lexeme kinds.Quoted q.text.now ∷ lexeme kinds.CloseSquare c.text.now ∷ here t2 =
    taken_is t0 t1 q kinds.Quoted isq tq ∙ ap (λ x. lexeme kinds.Quoted q.text.now ∷ x) (taken_is t1 t2 c kinds.CloseSquare isc tc) in
    let p2 = subst (λ x. IsParsed ts r (Some h) (lexeme kinds.OpenSquare w ∷ x)) same p in
    access_step ts (lexeme kinds.OpenSquare w ∷ lexeme kinds.Quoted q.text.now ∷ lexeme kinds.CloseSquare c.text.now ∷ here t2) (here t2) r h k
    (GetAttr (bare_expr h.expr) key) p2 l (index (text p2.lexemes.1.0) no_access) p2.lexemes.1.1.1 m e

pub dot_parsed : (ts : List Lexeme) (r : Parser) (h k : Operand) (n : Token) (t0 t1 t2 : TokenStream) (w : List ℕ) (key : Text)
    → IsParsed ts r (Some h) (lexeme kinds.Dot w ∷ here t0) → h.precedence ≡ precedences.Member → n.kind ≡ kinds.Word → IsTaken t0 n t1 → IsUntouched t1 t2
    → key ≡ n.text.now → k.precedence ≡ precedences.Member → bare_expr k.expr ≡ GetAttr (bare_expr h.expr) key → IsParsed ts r (Some k) (here t2)
dot_parsed ts r h k n t0 t1 t2 w key p l isn tn u is m e =
    let same : here t0 ≡ lexeme kinds.Word n.text.now ∷ here t2 =
    taken_is t0 t1 n kinds.Word isn tn ∙ ap (λ x. lexeme kinds.Word n.text.now ∷ x) (untouched_here t1 t2 u) in
    let p2 = subst (λ x. IsParsed ts r (Some h) (lexeme kinds.Dot w ∷ x)) same p in
    access_step ts (lexeme kinds.Dot w ∷ lexeme kinds.Word n.text.now ∷ here t2) (here t2) r h k
    (GetAttr (bare_expr h.expr) n.text.now) p2 l (attribute no_access) p2.lexemes.1.1 m (e ∙ ap (GetAttr (bare_expr h.expr)) is)

pub dot_method : (ts : List Lexeme) (r : Parser) (h : Operand) (n o : Token) (t0 t1 t2 : TokenStream) (w : List ℕ) (key : Text)
    → IsParsed ts r (Some h) (lexeme kinds.Dot w ∷ here t0) → h.precedence ≡ precedences.Member → n.kind ≡ kinds.Word → IsTaken t0 n t1
    → o.kind ≡ kinds.OpenRound → IsTaken t1 o t2 → key ≡ n.text.now
    → IsOpenUpTo ts (open_groups r) (waits r) (in_row (method_arguments key) (bare_expr h.expr ∷ [])) (here t2) × AreLexemes (here t2)
dot_method ts r h n o t0 t1 t2 w key p l isn tn iso tok is =
    let same : here t0 ≡ lexeme kinds.Word n.text.now ∷ lexeme kinds.OpenRound o.text.now ∷ here t2 =
    taken_is t0 t1 n kinds.Word isn tn ∙ ap (λ x. lexeme kinds.Word n.text.now ∷ x) (taken_is t1 t2 o kinds.OpenRound iso tok) in
    let p2 = subst (λ x. IsParsed ts r (Some h) (lexeme kinds.Dot w ∷ x)) same p in
    let mid = lexeme kinds.Dot w ∷ lexeme kinds.Word n.text.now ∷ lexeme kinds.OpenRound o.text.now ∷ here t2 in (
      subst (λ m. IsOpenUpTo ts (open_groups r) (waits r) (in_row (method_arguments m) (bare_expr h.expr ∷ [])) (here t2)) (sym is)
          (method_parsed ts (open_groups r) (waits r) (bare_expr h.expr) w n.text.now o.text.now (here t2)
          (moved ts mid (open_groups r) (open_groups r) (waits r) (waits r) (Some (bare_operand h)) (Some (precedences.Member, bare_expr h.expr)) refl refl
          (pair h.precedence precedences.Member (bare_expr h.expr) (bare_expr h.expr) l refl) p2.so_far)),
      p2.lexemes.1.1.1,
    )

-- ---- tests

pub test_step : (ts mid rest : List Lexeme) (r : Parser) (h k : Operand) (f : BareExpr) → IsParsed ts r (Some h) mid → WaitsBelow precedences.Relation r
    → 4 ≤ precedence_number h.precedence → Tests mid (bare_expr h.expr) f rest → AreLexemes rest → k.precedence ≡ precedences.Relation → bare_expr k.expr ≡ f
    → IsParsed ts r (Some k) rest
test_step ts mid rest r h k f p below tight t lex m e = record {
  no_values = p.no_values;
  lexemes = lex;
  so_far = moved ts rest (open_groups r) (open_groups r) (waits r) (waits r) (Some (precedences.Relation, f)) (Some (bare_operand k)) refl refl
      (pair precedences.Relation k.precedence f (bare_expr k.expr) (sym m) (sym e))
      (test_parsed ts (open_groups r) (waits r) h.precedence (bare_expr h.expr) f mid rest p.so_far below tight t);
}

pub is_parsed : (ts : List Lexeme) (r : Parser) (h k : Operand) (first : Token) (t0 t1 t2 t3 : TokenStream) (w : List ℕ) (text : Text) (n : BareName)
    → IsParsed ts r (Some h) (lexeme kinds.Is w ∷ here t0) → WaitsBelow precedences.Relation r → 4 ≤ precedence_number h.precedence → first.kind ≡ kinds.Word
    → IsTaken t0 first t1 → (first.kind ≡ kinds.Word → ArePathIds (from first t1) text (here t2)) → IsNameOf text n
    → (AreLexemes (here t1) → AreLexemes (here t2)) → IsUntouched t2 t3 → k.precedence ≡ precedences.Relation → bare_expr k.expr ≡ Is (bare_expr h.expr) n
    → IsParsed ts r (Some k) (here t3)
is_parsed ts r h k first t0 t1 t2 t3 w text n p below tight word taken ids name lex u m e =
    let at = taken_here t0 t1 first taken in
    let path : IsPath (here t0) n (here t2) =
    record { path = text; ids = subst (λ x. ArePathIds x text (here t2)) (sym at) (ids word); name = name } in
    subst (λ x. IsParsed ts r (Some k) x) (untouched_here t2 t3 u)
    (test_step ts (lexeme kinds.Is w ∷ here t0) (here t2) r h k (Is (bare_expr h.expr) n) p below tight (grammar.is path)
    (lex (subst AreLexemes at p.lexemes.1).1) m e)

pub is_in_step : (ts : List Lexeme) (r s : Parser) (h x : Operand) (again : Expr Unit) (first o : Token) (t0 t1 t2 t3 : TokenStream) (w : List ℕ) (text : Text)
    (n : BareName) → IsParsed ts r (Some h) (lexeme kinds.Is w ∷ here t0) → WaitsBelow precedences.Relation r → 4 ≤ precedence_number h.precedence
    → first.kind ≡ kinds.Word → IsTaken t0 first t1 → (first.kind ≡ kinds.Word → ArePathIds (from first t1) text (here t2)) → IsNameOf text n
    → (AreLexemes (here t1) → AreLexemes (here t2)) → o.kind ≡ kinds.In → IsTaken t2 o t3 → bare_expr x.expr ≡ Is (bare_expr h.expr) n
    → bare_expr again ≡ bare_expr h.expr → s.operations.items ≡ r.operations.items ++ (operations.IsIn x again ∷ []) → s.groups ≡ r.groups
    → s.nodes ≡ r.nodes → IsParsed ts s None (here t3)
is_in_step ts r s h x again first o t0 t1 t2 t3 w text n p below tight word taken ids name lex iso tok e same ops gs ns =
    let at = taken_here t0 t1 first taken in
    let behind = taken_is t2 t3 o kinds.In iso tok in
    let path : IsPath (here t0) n (lexeme kinds.In o.text.now ∷ here t3) = record {
      path = text;
      ids = subst (λ y. ArePathIds (here t0) text y) behind (subst (λ x. ArePathIds x text (here t2)) (sym at) (ids word));
      name = name;
    } in
    let a = bare_expr h.expr in
    record {
      no_values = λ k. ap (λ x. get_by (λ s. bytes_eq k (rc_str_bytes s)) x.values.now) ns ∙ p.no_values k;
      lexemes = (subst AreLexemes behind (lex (subst AreLexemes at p.lexemes.1).1)).1;
      so_far = moved ts (here t3) (open_groups r) (open_groups s) (waits r ++ (is_of_in (Is a n) a ∷ [])) (waits s) None None
          (ap (λ gs. map open_group gs.items) (sym gs))
          (sym (ap (map waiting) ops ∙ (waits_pushed r.operations.items (operations.IsIn x again)
          ∙ ap (λ y. waits r ++ (y ∷ [])) (ap (λ b. is_of_in b (bare_expr again)) e ∙ ap (is_of_in (Is a n)) same)))) refl
          (is_in_parsed ts (open_groups r) (waits r) h.precedence a w o.text.now n (here t0) (here t3) p.so_far below tight path);
    }

pub kind_parsed : (ts rest : List Lexeme) (r : Parser) (h : Option Operand) (t : Token) (k : TokenKind) → IsParsed ts r h (lexeme_of t ∷ rest) → t.kind ≡ k
    → IsParsed ts r h (lexeme k t.text.now ∷ rest)
kind_parsed ts rest r h t k p e = subst (λ l. IsParsed ts r h (l ∷ rest)) (kind_is t k e) p

-- ---- what an operand begins with

pub opens : (ts rest : List Lexeme) (r : Parser) (t : Token) (g : GroupKind) → IsParsed ts r None (lexeme_of t ∷ rest)
    → IsOpened (last_of None (waits r)) (lexeme_of t ∷ rest) (grouped g) rest → IsOpenParsed ts r g rest
opens ts rest r t g p o = record {
  no_values = p.no_values;
  lexemes = p.lexemes.1;
  so_far = before_primary ts (open_groups r) (waits r) (λ below at. IsOpened below at (grouped g) rest) (lexeme_of t ∷ rest) p.so_far o;
}

pub record_opens : (ts rest : List Lexeme) (r : Parser) (t : Token) (ps : List (RcStr Global × Expr Unit)) → IsParsed ts r None (lexeme_of t ∷ rest)
    → t.kind ≡ kinds.OpenCurly → ps ≡ [] → IsRecordParsed ts r ps rest
record_opens ts rest r t ps p k e = record {
  no_values = p.no_values;
  lexemes = p.lexemes.1;
  so_far = subst (λ qs. IsRecordUpTo ts (open_groups r) (waits r) (meant_pairs bare_expr qs) rest) (sym e)
      (before_primary ts (open_groups r) (waits r)
      (λ below at. (o : List ℕ) × (us : List Lexeme) × (at ≡ lexeme kinds.OpenCurly o ∷ us) × AreFields us [] rest) (lexeme_of t ∷ rest) p.so_far
      (t.text.now, rest, ap (λ l. l ∷ rest) (kind_is t kinds.OpenCurly k), no_fields));
}

pub primary_at : (t : Token) (rest : List Lexeme) (k : TokenKind) (e : BareExpr) → t.kind ≡ k → Primary (lexeme k t.text.now ∷ rest) e rest
    → Primary (lexeme_of t ∷ rest) e rest
primary_at t rest k e is p = subst (λ l. Primary (l ∷ rest) e rest) (sym (kind_is t k is)) p

pub alone_at : (t : Token) (rest : List Lexeme) (k : TokenKind) → t.kind ≡ k → is_number_alone (lexeme k t.text.now ∷ rest) ≡ false
    → is_number_alone (lexeme_of t ∷ rest) ≡ false
alone_at t rest k is e = ap (λ l. is_number_alone (l ∷ rest)) (kind_is t k is) ∙ e

next_in : (end : Token) (ts : List Token) → end.kind ≡ kinds.End → (first_or end ts).kind ≡ first_kind (lexemes_of ts)
next_in end [] h = h
next_in end (t ∷ ts) h = refl

pub next_kind : (t : TokenStream) → HasEnd t → (next_of t).kind ≡ first_kind (here t)
next_kind t h = next_in (end_of t) (rest_of t) h
