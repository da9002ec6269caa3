-- Groups that end or go on, over the parser's own parts.
use Rattle.std.proofs.Common.{◌≡◌, ◌≤◌, ◌<◌, ℕ, false, List, [], ◌∷◌, ◌++◌, Option, Some, None, map, refl, sym, ◌∙◌, ap, subst}
use Rattle.std.specs.HashMap.{get_by}
use Rattle.std.specs.Str.{bytes_eq}
use Rattle.std.specs.Rc.{rc_str_bytes}
use Rattle.cedar_terms.specs.declared.ops.UnaryOp.TheVariants as Unary
use Rattle.cedar_exprs.specs.BareExpr.{bare_expr}
use Rattle.cedar_terms.specs.declared.precedence.Precedence.TheVariants as precedences
use Rattle.cedar_lexer.specs.declared.token.Token.{Token}
use Rattle.semantics_grammar.specs.Grammar.{Primary}
use Rattle.semantics_grammar.specs.Lexemes.{Lexeme, lexeme_of}
use Rattle.semantics_grammar.specs.Written.{is_number_alone}
use Rattle.cedar_parser.specs.Waiting.{Waiting, between, last_of, Grouped}
use Rattle.cedar_parser.specs.SoFar.{IsParsedUpTo}
use Rattle.cedar_parser.specs.Meant.{IsParsed, IsOpenParsed, WaitsBelow, grouped, open_group, open_groups, bare_operand, waiting, waits}
use Rattle.cedar_parser.specs.declared.groups.Group.{Group}
use Rattle.cedar_parser.specs.declared.operand.Operand.{Operand}
use Rattle.cedar_parser.specs.declared.operand.Operation.TheVariants as operations
use Rattle.cedar_parser.specs.declared.parser.Parser.{Parser}
use Rattle.cedar_parser.proofs.Steps.{free, primary_parsed}
use Rattle.std.proofs.Common.{IfOk, Result, Ok, Err, true}
use Rattle.std.proofs.lemmas.Bool.{false≢true}
use Rattle.std.specs.Global.{Global}
use Rattle.std.specs.declared.rc.RcStr.{RcStr}
use Rattle.cedar_lexer.specs.declared.parse_failure.ParseFailure.{ParseFailure}
use Rattle.cedar_lexer.specs.declared.token.TokenKind.{TokenKind}
use Rattle.cedar_lexer.specs.declared.token.TokenKind.TheVariants as kinds
use Rattle.cedar_lexer.specs.declared.token_stream.TokenStream.{TokenStream}
use Rattle.semantics_grammar.specs.Lexemes.{lexeme}
use Rattle.cedar_parser.specs.Meant.{HasEnd, HasNoValues, IsRecordOperand, IsRowOperand, here}
use Rattle.cedar_parser.specs.SoFar.{IsOpenUpTo, IsRecordUpTo}
use Rattle.cedar_parser.specs.Waiting.{Row, in_record, in_row, closing_of}
use Rattle.cedar_parser.proofs.ParserSteps.{moved, pair}
use Rattle.cedar_exprs.specs.declared.expr.Expr.{Expr}
use Rattle.cedar_parser.specs.declared.groups.GroupKind.TheVariants as groups
use Rattle.cedar_parser.specs.Meant.{IsClosing, IsPushed, IsRecordTree}
use Rattle.cedar_builders.specs.Keys.{meant_pairs}
use denote.Enum.Bare.{sameb, same_true}
use Rattle.cedar_lexer.specs.contracts.token.TokenKind.{the_type}
use Rattle.std.proofs.Common.{⊎_elim, inl, inr, rules}
use Rattle.std.specs.Prelude.{◌^◌}
use Rattle.std.specs.Str.Parse.{digits_value, signed_digits_value}
use Rattle.cedar_terms.specs.Literals.{BareLiteral, LongLit}
use Rattle.cedar_builders.specs.BareExpr.{Lit}
use Rattle.semantics_grammar.specs.Grammar.{number}
use Rattle.cedar_parser.specs.SoFar.{IsFree}
use Rattle.cedar_parser.specs.Meant.{IsMinusPopped, IsNoMinus, IsParsedBehindMinus, first_kind}
use Rattle.cedar_parser.specs.Waiting.{is_of_in}
use Rattle.cedar_parser.proofs.Steps.{negative_parsed}
use Rattle.std.specs.Prelude.{◌⊎◌}
use Rattle.cedar_parser.specs.SoFar.{IsSign}
use Rattle.cedar_parser.specs.Waiting.{IsRowTree, Grouped, StandsOn, sign, otherwise, in_brackets, in_test, in_branch}
use Rattle.cedar_parser.proofs.ParserSteps.{none_below, waits_pushed, groups_pushed}
use Rattle.cedar_parser.proofs.Steps.{branch_end, brackets_end, field_end, item_end, record_end, row_end, sign_parsed, test_end}
use Rattle.cedar_terms.specs.declared.ops.UnaryOp.{UnaryOp}

-- the parser with what waits for a group
abbrev pub restored : Parser → Group → Parser
restored r g = record { nodes = r.nodes; operations = g.operations; groups = r.groups }

pub closing_parsed : (ts rest : List Lexeme) (r s : Parser) (g : Group) (h : Operand) → IsParsed ts r (Some h) rest → WaitsBelow precedences.Conditional r
    → r.groups.items ≡ s.groups.items ++ (g ∷ []) → s.nodes ≡ r.nodes → IsClosing ts s g h.expr rest
closing_parsed ts rest r s g h p below gs n = record {
  no_values = λ k. ap (λ x. get_by (λ s. bytes_eq k (rc_str_bytes s)) x.values.now) n ∙ p.no_values k;
  lexemes = p.lexemes;
  precedence = h.precedence;
  so_far = moved ts rest (open_groups r) (open_groups s ++ (open_group g ∷ [])) (waits r) [] (Some (bare_operand h)) (Some (bare_operand h))
      (ap (map open_group) gs ∙ groups_pushed s.groups.items g) (none_below (waits r) below) refl p.so_far;
}

-- the same at the kinds of the group and the token
closing_at : (ts rest : List Lexeme) (r : Parser) (g : Group) (e : Expr Unit) (t : Token) (x : Grouped) (k : TokenKind) (c : IsClosing ts r g e (lexeme_of t ∷ rest))
    → grouped g.kind ≡ x → t.kind ≡ k
    → IsParsedUpTo ts (open_groups r ++ ((map waiting g.operations.items, x) ∷ [])) [] (Some (c.precedence, bare_expr e)) (lexeme k t.text.now ∷ rest)
closing_at ts rest r g e t x k c a b =
    subst (λ l. IsParsedUpTo ts (open_groups r ++ ((map waiting g.operations.items, x) ∷ [])) [] (Some (c.precedence, bare_expr e)) (lexeme l t.text.now ∷ rest)) b
    (subst (λ y. IsParsedUpTo ts (open_groups r ++ ((map waiting g.operations.items, y) ∷ [])) [] (Some (c.precedence, bare_expr e)) (lexeme_of t ∷ rest)) a c.so_far)

pub round_closed : (ts rest : List Lexeme) (r : Parser) (g : Group) (e : Expr Unit) (t : Token) (h : Operand) → IsClosing ts r g e (lexeme_of t ∷ rest)
    → g.kind ≡ groups.Round → t.kind ≡ kinds.CloseRound → h.precedence ≡ precedences.Member → h.expr ≡ e → IsParsed ts (restored r g) (Some h) rest
round_closed ts rest r g e t h c is k m x = record {
  no_values = c.no_values;
  lexemes = c.lexemes.1;
  so_far = moved ts rest (open_groups r) (open_groups r) (waits (restored r g)) (waits (restored r g)) (Some (precedences.Member, bare_expr e)) (Some (bare_operand h))
      refl refl (pair precedences.Member h.precedence (bare_expr e) (bare_expr h.expr) (sym m) (sym (ap bare_expr x)))
      (brackets_end ts (open_groups r) (waits (restored r g)) c.precedence (bare_expr e) t.text.now rest
      (closing_at ts rest r g e t in_brackets kinds.CloseRound c (ap grouped is) k));
}

pub test_closed : (ts rest : List Lexeme) (r : Parser) (g : Group) (e : Expr Unit) (t : Token) → IsClosing ts r g e (lexeme_of t ∷ rest)
    → g.kind ≡ groups.If → t.kind ≡ kinds.Then → IsOpenParsed ts (restored r g) (groups.Then e) rest
test_closed ts rest r g e t c is k = record {
  no_values = c.no_values;
  lexemes = c.lexemes.1;
  so_far = test_end ts (open_groups r) (waits (restored r g)) c.precedence (bare_expr e) t.text.now rest
      (closing_at ts rest r g e t in_test kinds.Then c (ap grouped is) k);
}

pub branch_closed : (ts : List Lexeme) (r s : Parser) (g : Group) (test e : Expr Unit) (t : Token) (start : ℕ) (old : TokenStream)
    (res : Result (Option Operand) ParseFailure) → HasEnd old → IsClosing ts r g e (lexeme_of t ∷ here old) → g.kind ≡ groups.Then test
    → t.kind ≡ kinds.Else → IfOk res (λ h. (h ≡ None) × IsPushed (restored r g) (operations.Else start test e) s)
    → IfOk res (λ h. IsParsed ts s h (here old) × HasEnd old)
branch_closed ts r s g test e t start old (Err x) end c is k made = tt
branch_closed ts r s g test e t start old (Ok h) end c is k made =
    let p : IsParsed ts s None (here old) = record {
      no_values = λ n. ap (λ x. get_by (λ s. bytes_eq n (rc_str_bytes s)) x.values.now) made.1.2 ∙ c.no_values n;
      lexemes = c.lexemes.1;
      so_far = moved ts (here old) (open_groups r) (open_groups s) (waits (restored r g) ++ (otherwise (bare_expr test) (bare_expr e) ∷ [])) (waits s) None None
          (ap (λ gs. map open_group gs.items) (sym made.1.1))
          (sym (ap (map waiting) made.1.0 ∙ waits_pushed g.operations.items (operations.Else start test e))) refl
          (branch_end ts (open_groups r) (waits (restored r g)) (bare_expr test) c.precedence (bare_expr e) t.text.now (here old)
          (closing_at ts (here old) r g e t (in_branch (bare_expr test)) kinds.Else c (ap grouped is) k));
    } in
    (subst (λ o. IsParsed ts s o (here old)) (sym made.0) p, end)

pub sign_step : (ts rest : List Lexeme) (r s : Parser) (op : UnaryOp) (start n : ℕ) (t : Token) → IsParsed ts r None (lexeme_of t ∷ rest)
    → IsSign op t.kind → StandsOn (last_of None (waits r)) (sign op n) → n < 4
    → s.operations.items ≡ r.operations.items ++ (operations.Prefix op start n ∷ []) → s.groups ≡ r.groups → s.nodes ≡ r.nodes → IsParsed ts s None rest
sign_step ts rest r s op start n t p is on few o g m = record {
  no_values = λ k. ap (λ x. get_by (λ s. bytes_eq k (rc_str_bytes s)) x.values.now) m ∙ p.no_values k;
  lexemes = p.lexemes.1;
  so_far = moved ts rest (open_groups r) (open_groups s) (waits r ++ (sign op n ∷ [])) (waits s) None None
      (ap (λ gs. map open_group gs.items) (sym g)) (sym (ap (map waiting) o ∙ waits_pushed r.operations.items (operations.Prefix op start n))) refl
      (sign_parsed ts (open_groups r) (waits r) op n t.kind t.text.now rest p.so_far is on few);
}

exprs_pushed : (xs : List (Expr Unit)) (x : Expr Unit) → map bare_expr (xs ++ (x ∷ [])) ≡ map bare_expr xs ++ (bare_expr x ∷ [])
exprs_pushed [] x = refl
exprs_pushed (y ∷ xs) x = ap (λ ws. bare_expr y ∷ ws) (exprs_pushed xs x)

pairs_pushed : (xs : List (RcStr Global × Expr Unit)) (k : RcStr Global) (x : Expr Unit)
    → meant_pairs bare_expr (xs ++ ((k, x) ∷ [])) ≡ meant_pairs bare_expr xs ++ ((rc_str_bytes k, bare_expr x) ∷ [])
pairs_pushed [] k x = refl
pairs_pushed (y ∷ xs) k x = ap (λ ws. (rc_str_bytes y.0, bare_expr y.1) ∷ ws) (pairs_pushed xs k x)

-- a comma behind an item
pub item_closed : (ts rest : List Lexeme) (r : Parser) (g : Group) (e : Expr Unit) (t : Token) (row : Row) (xs ys : List (Expr Unit))
    → IsClosing ts r g e (lexeme_of t ∷ rest) → grouped g.kind ≡ in_row row (map bare_expr xs) → t.kind ≡ kinds.Comma → ys ≡ xs ++ (e ∷ [])
    → IsOpenUpTo ts (open_groups r) (waits (restored r g)) (in_row row (map bare_expr ys)) rest
item_closed ts rest r g e t row xs ys c is k new =
    subst (λ es. IsOpenUpTo ts (open_groups r) (waits (restored r g)) (in_row row es) rest) (sym (ap (map bare_expr) new ∙ exprs_pushed xs e))
    (item_end ts (open_groups r) (waits (restored r g)) row (map bare_expr xs) c.precedence (bare_expr e) t.text.now rest
    (closing_at ts rest r g e t (in_row row (map bare_expr xs)) kinds.Comma c is k))

-- the bracket behind the last item
pub last_item_closed : (ts : List Lexeme) (r s : Parser) (g : Group) (e : Expr Unit) (t : Token) (row : Row) (xs ys : List (Expr Unit)) (old : TokenStream)
    (res : Result (Option Operand) ParseFailure) → HasEnd old → IsClosing ts r g e (lexeme_of t ∷ here old) → grouped g.kind ≡ in_row row (map bare_expr xs)
    → t.kind ≡ closing_of row → ys ≡ xs ++ (e ∷ []) → s ≡ restored r g → (HasNoValues r.nodes → IfOk res (IsRowOperand row (map bare_expr ys)))
    → IfOk res (λ h. IsParsed ts s h (here old) × HasEnd old)
last_item_closed ts r s g e t row xs ys old (Err x) end c is k new same made = tt
last_item_closed ts r s g e t row xs ys old (Ok None) end c is k new same made = absurd (made c.no_values)
last_item_closed ts r s g e t row xs ys old (Ok (Some h)) end c is k new same made =
    let m = made c.no_values in
    let p : IsParsed ts (restored r g) (Some h) (here old) = record {
      no_values = c.no_values;
      lexemes = c.lexemes.1;
      so_far = moved ts (here old) (open_groups r) (open_groups r) (waits (restored r g)) (waits (restored r g)) (Some (precedences.Member, bare_expr h.expr))
          (Some (bare_operand h)) refl refl (pair precedences.Member h.precedence (bare_expr h.expr) (bare_expr h.expr) (sym m.0) refl)
          (row_end ts (open_groups r) (waits (restored r g)) row (map bare_expr xs) c.precedence (bare_expr e) (bare_expr h.expr) t.text.now (here old)
          (closing_at ts (here old) r g e t (in_row row (map bare_expr xs)) (closing_of row) c is k)
          (subst (λ es. IsRowTree row es (bare_expr h.expr)) (ap (map bare_expr) new ∙ exprs_pushed xs e) m.1));
    } in
    (subst (λ s. IsParsed ts s (Some h) (here old)) (sym same) p, end)

pub field_closed : (ts rest : List Lexeme) (r : Parser) (g : Group) (e : Expr Unit) (t : Token) (key : RcStr Global) (xs ys : List (RcStr Global × Expr Unit))
    → IsClosing ts r g e (lexeme_of t ∷ rest) → grouped g.kind ≡ in_record (meant_pairs bare_expr xs) (rc_str_bytes key) → t.kind ≡ kinds.Comma
    → ys ≡ xs ++ ((key, e) ∷ []) → IsRecordUpTo ts (open_groups r) (waits (restored r g)) (meant_pairs bare_expr ys) rest
field_closed ts rest r g e t key xs ys c is k new =
    subst (λ es. IsRecordUpTo ts (open_groups r) (waits (restored r g)) es rest) (sym (ap (meant_pairs bare_expr) new ∙ pairs_pushed xs key e))
    (field_end ts (open_groups r) (waits (restored r g)) (meant_pairs bare_expr xs) (rc_str_bytes key) c.precedence (bare_expr e) t.text.now rest
    (closing_at ts rest r g e t (in_record (meant_pairs bare_expr xs) (rc_str_bytes key)) kinds.Comma c is k))

pub last_field_closed : (ts : List Lexeme) (r s : Parser) (g : Group) (e : Expr Unit) (t : Token) (key : RcStr Global) (xs ys : List (RcStr Global × Expr Unit))
    (old : TokenStream) (res : Result (Option Operand) ParseFailure) → HasEnd old → IsClosing ts r g e (lexeme_of t ∷ here old)
    → grouped g.kind ≡ in_record (meant_pairs bare_expr xs) (rc_str_bytes key) → t.kind ≡ kinds.CloseCurly → ys ≡ xs ++ ((key, e) ∷ [])
    → s ≡ restored r g → IfOk res (IsRecordOperand (meant_pairs bare_expr ys)) → IfOk res (λ h. IsParsed ts s h (here old) × HasEnd old)
last_field_closed ts r s g e t key xs ys old (Err x) end c is k new same made = tt
last_field_closed ts r s g e t key xs ys old (Ok None) end c is k new same made = absurd made
last_field_closed ts r s g e t key xs ys old (Ok (Some h)) end c is k new same made =
    let all = ap (meant_pairs bare_expr) new ∙ pairs_pushed xs key e in
    let m : IsRecordTree (meant_pairs bare_expr xs ++ ((rc_str_bytes key, bare_expr e) ∷ [])) (bare_expr h.expr) =
    subst (λ ps. IsRecordTree ps (bare_expr h.expr)) all made.1 in
    let p : IsParsed ts (restored r g) (Some h) (here old) = record {
      no_values = c.no_values;
      lexemes = c.lexemes.1;
      so_far = moved ts (here old) (open_groups r) (open_groups r) (waits (restored r g)) (waits (restored r g)) _
          (Some (bare_operand h)) refl refl (pair precedences.Member h.precedence _ (bare_expr h.expr) (sym made.0) (sym m.1))
          (record_end ts (open_groups r) (waits (restored r g)) (meant_pairs bare_expr xs) (rc_str_bytes key) c.precedence (bare_expr e) t.text.now (here old)
          (closing_at ts (here old) r g e t (in_record (meant_pairs bare_expr xs) (rc_str_bytes key)) kinds.CloseCurly c is k) m.0);
    } in
    (subst (λ s. IsParsed ts s (Some h) (here old)) (sym same) p, end)

-- which of two kinds it is
pub is_comma : (k : TokenKind) → true ≡ sameb the_type k kinds.Comma → k ≡ kinds.Comma
is_comma k e = same_true the_type (search rules) k kinds.Comma (sym e)

pub no_comma : (k l : TokenKind) → false ≡ sameb the_type k kinds.Comma → (k ≡ kinds.Comma) ⊎ (k ≡ l) → k ≡ l
no_comma k l e = ⊎_elim (λ h. absurd (false≢true (e ∙ ap (λ x. sameb the_type x kinds.Comma) h))) (λ h. h)

-- ---- numbers

number_lexeme : (t : Token) (rest : List Lexeme) → t.kind ≡ kinds.Digits → lexeme_of t ∷ rest ≡ lexeme kinds.Digits t.text.now ∷ rest
number_lexeme t rest e = ap (λ k. lexeme k t.text.now ∷ rest) e

pub positive_parsed : (ts rest : List Lexeme) (r : Parser) (h : Operand) (t : Token) (l : BareLiteral) → IsParsed ts r None (lexeme_of t ∷ rest)
    → t.kind ≡ kinds.Digits → IsFree (last_of None (waits r)) (lexeme_of t ∷ rest)
    → (digits_value 10 t.text.now < 2 ^ 63) × (l ≡ LongLit (signed_digits_value 10 t.text.now)) → h.precedence ≡ precedences.Member → bare_expr h.expr ≡ Lit l
    → IsParsed ts r (Some h) rest
positive_parsed ts rest r h t l p k f fits m e =
    let q : Primary (lexeme_of t ∷ rest) (Lit (LongLit (signed_digits_value 10 t.text.now))) rest =
    subst (λ x. Primary x (Lit (LongLit (signed_digits_value 10 t.text.now))) rest) (sym (number_lexeme t rest k)) (number fits.0) in
    record {
      no_values = p.no_values;
      lexemes = p.lexemes.1;
      so_far = moved ts rest (open_groups r) (open_groups r) (waits r) (waits r) (Some (precedences.Member, Lit (LongLit (signed_digits_value 10 t.text.now))))
          (Some (bare_operand h)) refl refl
          (pair precedences.Member h.precedence (Lit (LongLit (signed_digits_value 10 t.text.now))) (bare_expr h.expr) (sym m) (sym (e ∙ ap Lit fits.1)))
          (primary_parsed ts (open_groups r) (waits r) (Lit (LongLit (signed_digits_value 10 t.text.now))) (lexeme_of t ∷ rest) rest p.so_far f q);
    }

pub negative_step : (ts rest : List Lexeme) (r : Parser) (h : Operand) (t : Token) (l : BareLiteral) → IsParsedBehindMinus ts r (lexeme_of t ∷ rest)
    → t.kind ≡ kinds.Digits → (digits_value 10 t.text.now ≤ 2 ^ 63) × (l ≡ LongLit (signed_digits_value 10 (45 ∷ t.text.now)))
    → h.precedence ≡ precedences.Unary → bare_expr h.expr ≡ Lit l → IsParsed ts r (Some h) rest
negative_step ts rest r h t l p k fits m e = record {
  no_values = p.no_values;
  lexemes = p.lexemes.1;
  so_far = moved ts rest (open_groups r) (open_groups r) (waits r) (waits r) (Some (precedences.Unary, Lit (LongLit (signed_digits_value 10 (45 ∷ t.text.now)))))
      (Some (bare_operand h)) refl refl
      (pair precedences.Unary h.precedence (Lit (LongLit (signed_digits_value 10 (45 ∷ t.text.now)))) (bare_expr h.expr) (sym m) (sym (e ∙ ap Lit fits.1)))
      (negative_parsed ts (open_groups r) (waits r) p.before t.text.now rest
      (subst (IsParsedUpTo ts (open_groups r) (waits r ++ (sign Unary.Neg p.before ∷ [])) None) (number_lexeme t rest k) p.so_far) fits.0);
}

-- no minus takes the number
pub free_of : (below : Option Waiting) (ts : List Lexeme) → IsNoMinus below → IsFree below ts
free_of None ts h = tt
free_of (Some (sign Unary.Neg n)) ts h = absurd h
free_of (Some (sign Unary.Not n)) ts h = tt
free_of (Some (sign Unary.IsEmpty n)) ts h = tt
free_of (Some (between o a)) ts h = tt
free_of (Some (is_of_in t a)) ts h = tt
free_of (Some (otherwise a b)) ts h = tt

-- an attribute or an index follows
pub free_before : (below : Option Waiting) (t : Token) (k : TokenKind) (rest : List Lexeme) → t.kind ≡ kinds.Digits → k ≡ first_kind rest
    → (k ≡ kinds.Dot) ⊎ (k ≡ kinds.OpenSquare) → IsFree below (lexeme_of t ∷ rest)
free_before below t k rest d e c = free below (lexeme_of t ∷ rest) (ap is_number_alone (number_lexeme t rest d) ∙ not_alone t.text.now rest (⊎_elim (λ x. inl (sym e ∙ x)) (λ x. inr (sym e ∙ x)) c))
  where
    not_alone : (w : List ℕ) (rest : List Lexeme) → (first_kind rest ≡ kinds.Dot) ⊎ (first_kind rest ≡ kinds.OpenSquare)
        → is_number_alone (lexeme kinds.Digits w ∷ rest) ≡ false
    not_alone w [] h = ⊎_elim (λ e. cc) (λ e. cc) h
    not_alone w (lexeme k v ∷ ts) h =
        ⊎_elim (λ e. ap (λ x. is_number_alone (lexeme kinds.Digits w ∷ lexeme x v ∷ ts)) e) (λ e. ap (λ x. is_number_alone (lexeme kinds.Digits w ∷ lexeme x v ∷ ts)) e) h

-- a minus was taken
pub behind_minus : (ts rest : List Lexeme) (r s : Parser) → IsParsed ts r None rest → IsMinusPopped r s → IsParsedBehindMinus ts s rest
behind_minus ts rest r s p q = record {
  no_values = λ k. ap (λ x. get_by (λ s. bytes_eq k (rc_str_bytes s)) x.values.now) q.3 ∙ p.no_values k;
  lexemes = p.lexemes;
  before = q.0;
  so_far = moved ts rest (open_groups r) (open_groups s) (waits r) (waits s ++ (sign Unary.Neg q.0 ∷ [])) None None
      (ap (λ gs. map open_group gs.items) (sym q.2)) q.1 refl p.so_far;
}
