-- The steps of the parser at names, keys and patterns.
use Rattle.std.proofs.Common.{◌≡◌, ◌≤◌, ℕ, List, [], ◌∷◌, ◌++◌, None, Some, map, refl, sym, ◌∙◌, ap, subst}
use Rattle.std.specs.Global.{Global}
use Rattle.std.specs.Rc.{rc_str_bytes}
use Rattle.std.specs.declared.rc.RcStr.{RcStr}
use Rattle.cedar_names.specs.Names.{BareName, IsNameOf}
use Rattle.cedar_terms.specs.Ops.{var_text}
use Rattle.cedar_terms.specs.Precedences.{precedence_number}
use Rattle.cedar_terms.specs.declared.pattern.PatternElem.{PatternElem}
use Rattle.cedar_terms.specs.declared.precedence.Precedence.TheVariants as precedences
use Rattle.cedar_terms.specs.declared.var.Var.{Var as Variable}
use Rattle.cedar_builders.specs.BareExpr.{Text, BareExpr, HasAttr, Like, Var}
use Rattle.cedar_exprs.specs.BareExpr.{bare_expr}
use Rattle.cedar_exprs.specs.declared.expr.Expr.{Expr}
use Rattle.cedar_lexer.specs.Grammar.{IsTokenText}
use Rattle.cedar_lexer.specs.TokenStreams.{IsTaken, IsUntouched, end_of}
use Rattle.cedar_lexer.specs.declared.token.Token.{Token}
use Rattle.cedar_lexer.specs.declared.token.TokenKind.TheVariants as kinds
use Rattle.cedar_lexer.specs.declared.token_stream.TokenStream.{TokenStream}
use Rattle.semantics_grammar.specs.Grammar.{Primary}
use Rattle.semantics_grammar.specs.Grammar as grammar
use Rattle.semantics_grammar.specs.Lexemes.{Lexeme, lexeme}
use Rattle.semantics_grammar.specs.Written.{AreKeys, ArePathIds, IsPath, IsPatternOf, last_key}
use Rattle.cedar_parser.specs.Meant.{AreKeysTaken, AreLexemes, HasEnd, IsKeyTaken, IsLeafTaken, IsParsed, WaitsBelow, bare_operand, from, here, open_groups, waits}
use Rattle.cedar_parser.specs.SoFar.{AreRowItems, IsOpenUpTo, IsOpened, IsParsedUpTo, no_items}
use Rattle.cedar_parser.specs.Waiting.{arguments, in_row, last_of}
use Rattle.cedar_parser.specs.declared.operand.Operand.{Operand}
use Rattle.cedar_parser.specs.declared.parser.Parser.{Parser}
use Rattle.cedar_parser.proofs.ParserSteps.{moved, pair}
use Rattle.cedar_parser.proofs.Paths.{key_taken, variable_path}
use Rattle.cedar_parser.proofs.Steps.{before_primary, free, primary_parsed}
use Rattle.cedar_parser.proofs.TakenSteps.{end_kept, taken_is, test_step, untouched_here}

word_first : (first : Token) (t : TokenStream) → first.kind ≡ kinds.Word → from first t ≡ lexeme kinds.Word first.text.now ∷ here t
word_first first t word = ap (λ k. lexeme k first.text.now ∷ here t) word

-- a primary that begins with an identifier
leaf_parsed : (ts : List Lexeme) (r : Parser) (h : Operand) (first : Token) (t0 : TokenStream) (e : BareExpr) (rest : List Lexeme)
    → IsParsed ts r None (from first t0) → first.kind ≡ kinds.Word → Primary (lexeme kinds.Word first.text.now ∷ here t0) e rest → AreLexemes rest
    → h.precedence ≡ precedences.Member → bare_expr h.expr ≡ e → IsParsed ts r (Some h) rest
leaf_parsed ts r h first t0 e rest p word q lex m is = record {
  no_values = p.no_values;
  lexemes = lex;
  so_far = moved ts rest (open_groups r) (open_groups r) (waits r) (waits r) (Some (precedences.Member, e)) (Some (bare_operand h)) refl refl
      (pair precedences.Member h.precedence e (bare_expr h.expr) (sym m) (sym is))
      (primary_parsed ts (open_groups r) (waits r) e (lexeme kinds.Word first.text.now ∷ here t0) rest
      (subst (λ x. IsParsedUpTo ts (open_groups r) (waits r) None x) (word_first first t0 word) p.so_far)
      (free (last_of None (waits r)) (lexeme kinds.Word first.text.now ∷ here t0) refl) q);
}

-- an entity
pub entity_step : (ts : List Lexeme) (r : Parser) (h : Operand) (first o : Token) (path : Text) (t0 t1 t2 t3 : TokenStream) (x : Expr Unit)
    → HasEnd t0 → IsParsed ts r None (from first t0) → first.kind ≡ kinds.Word → (first.kind ≡ kinds.Word → ArePathIds (from first t0) path (here t1))
    → (AreLexemes (here t0) → AreLexemes (here t1)) → end_of t1 ≡ end_of t0 → o.kind ≡ kinds.Colons → IsTaken t1 o t2
    → ((us : List Lexeme) (w colons : List ℕ) → ArePathIds (lexeme kinds.Word w ∷ us) path (lexeme kinds.Colons colons ∷ here t2)
    → AreLexemes (here t2) → IsLeafTaken (lexeme kinds.Word w ∷ us) x t2 t3)
    → h.precedence ≡ precedences.Member → h.expr ≡ x → IsParsed ts r (Some h) (here t3) × HasEnd t3
entity_step ts r h first o path t0 t1 t2 t3 x end p word ids lex same_end colons taken leaf m is =
    let same = taken_is t1 t2 o kinds.Colons colons taken in
    let ids2 = subst (λ y. ArePathIds y path (lexeme kinds.Colons o.text.now ∷ here t2)) (word_first first t0 word)
    (subst (ArePathIds (from first t0) path) same (ids word)) in
    let l = leaf (here t0) first.text.now o.text.now ids2 (subst AreLexemes same (lex p.lexemes.1)).1 in (
      leaf_parsed ts r h first t0 (bare_expr x) (here t3) p word l.0 l.1 m (ap bare_expr is),
      end_kept t0 t3 (l.2 ∙ (taken.1 ∙ same_end)) end,
    )

-- the call of a function is open
pub function_opens : (ts : List Lexeme) (r : Parser) (first o : Token) (path : Text) (t0 t1 t2 t3 : TokenStream) (n : BareName) (xs : List (Expr Unit))
    → HasEnd t0 → IsParsed ts r None (from first t0) → first.kind ≡ kinds.Word → (first.kind ≡ kinds.Word → ArePathIds (from first t0) path (here t1))
    → (AreLexemes (here t0) → AreLexemes (here t1)) → end_of t1 ≡ end_of t0 → IsUntouched t1 t2 → o.kind ≡ kinds.OpenRound → IsTaken t2 o t3
    → IsNameOf path n → xs ≡ []
    → IsOpenUpTo ts (open_groups r) (waits r) (in_row (arguments n) (map bare_expr xs)) (here t3) × AreLexemes (here t3) × HasEnd t3
function_opens ts r first o path t0 t1 t2 t3 n xs end p word ids lex same_end u round taken name none =
    let same = untouched_here t1 t2 u ∙ taken_is t2 t3 o kinds.OpenRound round taken in
    let at = lexeme kinds.Word first.text.now ∷ here t0 in
    let ids2 : ArePathIds at path (lexeme kinds.OpenRound o.text.now ∷ here t3) =
    subst (λ y. ArePathIds y path (lexeme kinds.OpenRound o.text.now ∷ here t3)) (word_first first t0 word)
    (subst (ArePathIds (from first t0) path) same (ids word)) in
    let way : IsPath at n (lexeme kinds.OpenRound o.text.now ∷ here t3) = record { path = path; ids = ids2; name = name } in
    let row : AreRowItems at (arguments n) [] (here t3) = (first.text.now, o.text.now, here t3, here t0, refl, way, no_items) in (
      subst (λ ys. IsOpenUpTo ts (open_groups r) (waits r) (in_row (arguments n) (map bare_expr ys)) (here t3)) (sym none)
          (before_primary ts (open_groups r) (waits r) (λ below us. IsOpened below us (in_row (arguments n) []) (here t3)) at
          (subst (λ x. IsParsedUpTo ts (open_groups r) (waits r) None x) (word_first first t0 word) p.so_far) row),
      (subst AreLexemes same (lex p.lexemes.1)).1,
      end_kept t0 t3 (taken.1 ∙ (u.1 ∙ same_end)) end,
    )

-- a variable
pub variable_step : (ts : List Lexeme) (r : Parser) (h : Operand) (first : Token) (path : Text) (t0 t1 t2 t3 : TokenStream) (x : Expr Unit)
    → HasEnd t0 → IsParsed ts r None (from first t0) → first.kind ≡ kinds.Word → (first.kind ≡ kinds.Word → ArePathIds (from first t0) path (here t1))
    → (AreLexemes (here t0) → AreLexemes (here t1)) → end_of t1 ≡ end_of t0 → IsUntouched t1 t2 → IsUntouched t2 t3
    → (v : Variable) × (path ≡ var_text v) × (bare_expr x ≡ Var v)
    → h.precedence ≡ precedences.Member → h.expr ≡ x → IsParsed ts r (Some h) (here t3) × HasEnd t3
variable_step ts r h first path t0 t1 t2 t3 x end p word ids lex same_end u u2 v m is =
    let same = untouched_here t1 t2 u ∙ untouched_here t2 t3 u2 in
    let ids2 = subst (λ y. ArePathIds y path (here t1)) (word_first first t0 word) (ids word) in (
      leaf_parsed ts r h first t0 (Var v.0) (here t3) p word
          (subst (Primary (lexeme kinds.Word first.text.now ∷ here t0) (Var v.0)) same (variable_path v.0 ids2 v.1))
          (subst AreLexemes same (lex p.lexemes.1)) m (ap bare_expr is ∙ v.2),
      end_kept t0 t3 (u2.1 ∙ (u.1 ∙ same_end)) end,
    )

-- ---- tests

texts_pushed : (xs : List (RcStr Global)) (x : RcStr Global) → map rc_str_bytes (xs ++ (x ∷ [])) ≡ map rc_str_bytes xs ++ (rc_str_bytes x ∷ [])
texts_pushed [] x = refl
texts_pushed (y ∷ xs) x = ap (λ ts. rc_str_bytes y ∷ ts) (texts_pushed xs x)

-- one more key behind `has`
pub more_keys : (old t0 mid new : TokenStream) (d : Token) (j : RcStr Global) (xs ys : List (RcStr Global))
    → AreKeysTaken old (map rc_str_bytes xs) t0 → d.kind ≡ kinds.Dot → IsTaken t0 d mid → (AreLexemes (here mid) → IsKeyTaken mid j new)
    → ys ≡ xs ++ (j ∷ []) → AreKeysTaken old (map rc_str_bytes ys) new
more_keys old t0 mid new d j xs ys h dot taken key push =
    let k = key (subst AreLexemes (taken_is t0 mid d kinds.Dot dot taken) h.lexemes).1 in
    let same : map rc_str_bytes ys ≡ map rc_str_bytes xs ++ (rc_str_bytes j ∷ []) = ap (map rc_str_bytes) push ∙ texts_pushed xs j in
    record {
      keys = λ ts first p.
          subst (λ zs. AreKeys ts first zs (here new)) (sym same)
          (key_taken ts t0 new d mid k.0 first (rc_str_bytes j) (map rc_str_bytes xs) (h.keys ts first p) dot taken k.2 k.1);
      lexemes = k.3;
      end = k.4 ∙ (taken.1 ∙ h.end);
    }

pub has_step : (ts : List Lexeme) (r : Parser) (h k : Operand) (t0 t1 t2 t3 : TokenStream) (w : List ℕ) (key : RcStr Global) (xs : List (RcStr Global))
    → HasEnd t0 → IsParsed ts r (Some h) (lexeme kinds.Has w ∷ here t0) → WaitsBelow precedences.Relation r → 4 ≤ precedence_number h.precedence
    → (AreLexemes (here t0) → IsKeyTaken t0 key t1) → (AreLexemes (here t1) → AreKeysTaken t1 (map rc_str_bytes xs) t2) → IsUntouched t2 t3
    → k.precedence ≡ precedences.Relation → bare_expr k.expr ≡ HasAttr (bare_expr h.expr) (rc_str_bytes key) (map rc_str_bytes xs)
    → IsParsed ts r (Some k) (here t3) × HasEnd t3
has_step ts r h k t0 t1 t2 t3 w key xs end p below tight first more u m e =
    let f = first p.lexemes.1 in
    let l = more f.3 in
    let head : AreKeys (here t0) (rc_str_bytes key) [] (here t1) = subst (λ x. AreKeys x (rc_str_bytes key) [] (here t1)) (sym f.2) (last_key f.1) in
    let keys = subst (AreKeys (here t0) (rc_str_bytes key) (map rc_str_bytes xs)) (untouched_here t2 t3 u) (l.keys (here t0) (rc_str_bytes key) head) in (
      test_step ts (lexeme kinds.Has w ∷ here t0) (here t3) r h k (HasAttr (bare_expr h.expr) (rc_str_bytes key) (map rc_str_bytes xs)) p below tight
          (grammar.has keys) (subst AreLexemes (untouched_here t2 t3 u) l.lexemes) m e,
      end_kept t0 t3 (u.1 ∙ (l.end ∙ f.4)) end,
    )

pub like_step : (ts : List Lexeme) (r : Parser) (h k : Operand) (q : Token) (t0 t1 : TokenStream) (w : List ℕ) (pattern : List PatternElem)
    → HasEnd t0 → IsParsed ts r (Some h) (lexeme kinds.Like w ∷ here t0) → WaitsBelow precedences.Relation r → 4 ≤ precedence_number h.precedence
    → q.kind ≡ kinds.Quoted → IsTaken t0 q t1 → (IsTokenText q.text.now kinds.Quoted → IsPatternOf q.text.now pattern)
    → k.precedence ≡ precedences.Relation → bare_expr k.expr ≡ Like (bare_expr h.expr) pattern → IsParsed ts r (Some k) (here t1) × HasEnd t1
like_step ts r h k q t0 t1 w pattern end p below tight quoted taken meant m e =
    let p2 = subst (λ x. IsParsed ts r (Some h) (lexeme kinds.Like w ∷ x)) (taken_is t0 t1 q kinds.Quoted quoted taken) p in (
      test_step ts (lexeme kinds.Like w ∷ lexeme kinds.Quoted q.text.now ∷ here t1) (here t1) r h k (Like (bare_expr h.expr) pattern) p2 below tight
          (grammar.like (meant p2.lexemes.1.0)) p2.lexemes.1.1 m e,
      end_kept t0 t1 taken.1 end,
    )
