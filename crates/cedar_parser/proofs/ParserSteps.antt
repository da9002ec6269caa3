-- The steps of the parser, over its own parts.
use Rattle.std.proofs.Common.{◌≡◌, ◌≤◌, ◌<◌, ◌+◌, ◌-◌, length, length-append, get_or, false, List, [], ◌∷◌, ◌++◌, Option, Some, None, map, refl, sym, ◌∙◌, ap, subst, arith}
use Rattle.std.specs.HashMap.{get_by}
use Rattle.std.specs.Str.{bytes_eq}
use Rattle.std.specs.Rc.{rc_str_bytes}
use Rattle.cedar_builders.specs.BareExpr.{BareExpr}
use Rattle.cedar_exprs.specs.BareExpr.{bare_expr}
use Rattle.cedar_terms.specs.Precedences.{precedence_number}
use Rattle.cedar_terms.specs.declared.precedence.Precedence.{Precedence}
use Rattle.cedar_terms.specs.declared.precedence.Precedence.TheVariants as precedences
use Rattle.cedar_lexer.specs.declared.token.Token.{Token}
use Rattle.semantics_grammar.specs.Grammar.{Primary, Stands}
use Rattle.semantics_grammar.specs.Lexemes.{Lexeme, lexeme_of}
use Rattle.semantics_grammar.specs.Written.{is_number_alone}
use Rattle.cedar_parser.specs.Waiting.{Waiting, waiting_precedence, waiting_tree, operator_precedences, operator_of, between, last_of, IsBelow, BareOperand, Group as OpenGroup, Grouped}
use Rattle.cedar_parser.specs.SoFar.{IsParsedUpTo}
use Rattle.cedar_parser.specs.Meant.{IsParsed, IsOpenParsed, IsPopped, WaitsBelow, grouped, open_group, open_groups, bare_operand, operator, waiting, waits}
use Rattle.cedar_parser.specs.declared.groups.Group.{Group}
use Rattle.cedar_parser.specs.declared.groups.GroupKind.{GroupKind}
use Rattle.cedar_parser.specs.declared.operand.Operand.{Operand}
use Rattle.cedar_parser.specs.declared.operand.Operation.{Operation}
use Rattle.cedar_parser.specs.declared.operand.Operation.TheVariants as operations
use Rattle.cedar_parser.specs.declared.infix.Infix.{Infix}
use Rattle.cedar_parser.specs.declared.parser.Parser.{Parser}
use Rattle.std.specs.List.{slice_get}
use Rattle.std.proofs.lemmas.Option.{get_or_from_slice_get, slice_get-get_or, slice_get_within}
use Rattle.std.proofs.Math.Seq.{get_or-append_seam}
use Rattle.cedar_parser.proofs.Operators.{none_some, some_one}
use Rattle.std.specs.Option.{option_to_list}
use Rattle.cedar_parser.proofs.Waits.{last_is}
use Rattle.cedar_parser.proofs.Steps.{all_parsed, applied, free, group_open, operator_parsed, primary_parsed}

-- the same, of what is equal
pub moved : (ts rest : List Lexeme) (gs gs2 : List OpenGroup) (ws ws2 : List Waiting) (h k : Option BareOperand) → gs ≡ gs2 → ws ≡ ws2 → h ≡ k
    → IsParsedUpTo ts gs ws h rest → IsParsedUpTo ts gs2 ws2 k rest
moved ts rest gs gs2 ws ws2 h k a b c p =
    subst (λ o. IsParsedUpTo ts gs2 ws2 o rest) c (subst (λ w. IsParsedUpTo ts gs2 w h rest) b (subst (λ x. IsParsedUpTo ts x ws h rest) a p))

abbrev pub some_operand : Precedence → BareExpr → Option BareOperand
some_operand l e = Some (l, e)

pub pair : (l m : Precedence) (e f : BareExpr) → l ≡ m → e ≡ f → some_operand l e ≡ some_operand m f
pair l m e f a b = ap (λ x. some_operand x e) a ∙ ap (some_operand m) b

pub waits_pushed : (xs : List Operation) (x : Operation) → map waiting (xs ++ (x ∷ [])) ≡ map waiting xs ++ (waiting x ∷ [])
waits_pushed [] x = refl
waits_pushed (y ∷ xs) x = ap (λ ws. waiting y ∷ ws) (waits_pushed xs x)

pub groups_pushed : (xs : List Group) (x : Group) → map open_group (xs ++ (x ∷ [])) ≡ map open_group xs ++ (open_group x ∷ [])
groups_pushed [] x = refl
groups_pushed (y ∷ xs) x = ap (λ ws. open_group y ∷ ws) (groups_pushed xs x)

pub literal_parsed : (ts rest : List Lexeme) (r : Parser) (h : Operand) (t : Token) (e : BareExpr) → IsParsed ts r None (lexeme_of t ∷ rest)
    → Primary (lexeme_of t ∷ rest) e rest → is_number_alone (lexeme_of t ∷ rest) ≡ false → h.precedence ≡ precedences.Member → bare_expr h.expr ≡ e
    → IsParsed ts r (Some h) rest
literal_parsed ts rest r h t e p q f l is = record {
  no_values = p.no_values;
  lexemes = p.lexemes.1;
  so_far = moved ts rest (open_groups r) (open_groups r) (waits r) (waits r) (Some (precedences.Member, e)) (Some (bare_operand h)) refl refl
      (pair precedences.Member h.precedence e (bare_expr h.expr) (sym l) (sym is))
      (primary_parsed ts (open_groups r) (waits r) e (lexeme_of t ∷ rest) rest p.so_far (free (last_of None (waits r)) (lexeme_of t ∷ rest) f) q);
}

pub applied_parsed : (ts rest : List Lexeme) (r s : Parser) (o : Operation) (h k : Operand) → IsParsed ts r (Some h) rest → IsPopped r o s
    → k.precedence ≡ waiting_precedence (waiting o) → bare_expr k.expr ≡ waiting_tree (waiting o) (bare_expr h.expr) → IsParsed ts s (Some k) rest
applied_parsed ts rest r s o h k p q l e =
    let w : waits r ≡ waits s ++ (waiting o ∷ []) = ap (map waiting) q.0 ∙ waits_pushed s.operations.items o in
    let g : open_groups r ≡ open_groups s = ap (λ gs. map open_group gs.items) (sym q.1) in
    let a : IsParsedUpTo ts (open_groups s) (waits s ++ (waiting o ∷ [])) (Some (bare_operand h)) rest =
    moved ts rest (open_groups r) (open_groups s) (waits r) (waits s ++ (waiting o ∷ [])) (Some (bare_operand h)) (Some (bare_operand h)) g w refl p.so_far in
    record {
      no_values = λ n. ap (λ x. get_by (λ s. bytes_eq n (rc_str_bytes s)) x.values.now) q.2 ∙ p.no_values n;
      lexemes = p.lexemes;
      so_far = moved ts rest (open_groups s) (open_groups s) (waits s) (waits s)
          (Some (waiting_precedence (waiting o), waiting_tree (waiting o) (bare_expr h.expr))) (Some (bare_operand k)) refl refl
          (pair (waiting_precedence (waiting o)) k.precedence (waiting_tree (waiting o) (bare_expr h.expr)) (bare_expr k.expr) (sym l) (sym e))
          (applied ts (open_groups s) (waits s) (waiting o) h.precedence (bare_expr h.expr) rest a);
    }

pub infix_parsed : (ts rest : List Lexeme) (r s : Parser) (h : Operand) (op : Infix) (t : Token) → IsParsed ts r (Some h) (lexeme_of t ∷ rest)
    → operator_of t.kind ≡ Some (operator op) → WaitsBelow (operator_precedences (operator op)).0 r
    → precedence_number (operator_precedences (operator op)).1 ≤ precedence_number h.precedence → s.operations.items ≡ r.operations.items ++ (operations.Infix op h ∷ [])
    → s.groups ≡ r.groups → s.nodes ≡ r.nodes → IsParsed ts s None rest
infix_parsed ts rest r s h op t p is below tight o g n =
    let w : waits s ≡ waits r ++ (between (operator op) (bare_expr h.expr) ∷ []) = ap (map waiting) o ∙ waits_pushed r.operations.items (operations.Infix op h) in
    record {
      no_values = λ k. ap (λ x. get_by (λ s. bytes_eq k (rc_str_bytes s)) x.values.now) n ∙ p.no_values k;
      lexemes = p.lexemes.1;
      so_far = moved ts rest (open_groups r) (open_groups s) (waits r ++ (between (operator op) (bare_expr h.expr) ∷ [])) (waits s) None None
          (ap (λ gs. map open_group gs.items) (sym g)) (sym w) refl
          (operator_parsed ts (open_groups r) (waits r) h.precedence (bare_expr h.expr) t.kind t.text.now (operator op) rest p.so_far is below tight);
    }

abbrev record_pair : List Waiting → Grouped → OpenGroup
record_pair ws g = (ws, g)

same_group : (ws vs : List Waiting) (x y : Grouped) → ws ≡ vs → x ≡ y → record_pair ws x ≡ record_pair vs y
same_group ws vs x y a b = ap (λ u. record_pair u x) a ∙ ap (record_pair vs) b

pub opened_parsed : (ts rest : List Lexeme) (r s : Parser) (kind : GroupKind) (g : Group) → IsOpenParsed ts r kind rest → s.nodes ≡ r.nodes
    → s.groups.items ≡ r.groups.items ++ (g ∷ []) → g.kind ≡ kind → g.operations ≡ r.operations → s.operations.items ≡ [] → IsParsed ts s None rest
opened_parsed ts rest r s kind g p n gs k o e =
    let h : open_group g ≡ (waits r, grouped kind) = same_group (map waiting g.operations.items) (waits r) (grouped g.kind) (grouped kind) (ap (λ os. map waiting os.items) o) (ap grouped k) in
    let a : open_groups s ≡ open_groups r ++ ((waits r, grouped kind) ∷ []) =
    ap (map open_group) gs ∙ (groups_pushed r.groups.items g ∙ ap (λ x. open_groups r ++ (x ∷ [])) h) in
    record {
      no_values = λ k. ap (λ x. get_by (λ s. bytes_eq k (rc_str_bytes s)) x.values.now) n ∙ p.no_values k;
      lexemes = p.lexemes;
      so_far = moved ts rest (open_groups r ++ ((waits r, grouped kind) ∷ [])) (open_groups s) [] (waits s) None None (sym a) (ap (map waiting) (sym e)) refl
          (group_open ts (open_groups r) (waits r) (grouped kind) rest p.so_far);
    }

-- what waits last
last_some : (w : Waiting) (ws : List Waiting) → (v : Waiting) × (last_of (Some w) ws ≡ Some v)
last_some w [] = (w, refl)
last_some w (v ∷ ws) = last_some v ws

-- nothing binds less tightly than a conditional
pub none_below : (ws : List Waiting) → IsBelow precedences.Conditional (last_of None ws) → ws ≡ []
none_below [] h = refl
none_below (w ∷ ws) h =
    let v = last_some w ws in
    let k : IsBelow precedences.Conditional (Some v.0) = subst (IsBelow precedences.Conditional) v.1 h in
    absurd (omega (arith, k))

pub ended : (ts : List Lexeme) (r : Parser) (h : Operand) → IsParsed ts r (Some h) [] → WaitsBelow precedences.Conditional r → r.groups.items ≡ []
    → Stands ts (bare_expr h.expr)
ended ts r h p below g =
    all_parsed ts h.precedence (bare_expr h.expr)
    (moved ts [] (open_groups r) [] (waits r) [] (Some (bare_operand h)) (Some (bare_operand h)) (ap (map open_group) g) (none_below (waits r) below) refl p.so_far)

-- ---- the last of a list

unsnoc : {A : Type 0} (y : A) (ys : List A) → (front : List A) × (l : A) × (y ∷ ys ≡ front ++ (l ∷ []))
unsnoc y [] = ([], y, refl)
unsnoc y (z ∷ zs) = let u = unsnoc z zs in (y ∷ u.0, u.1, ap (λ xs. y ∷ xs) u.2)

pub none_left : {A : Type 0} (xs : List A) → None ≡ slice_get xs (length xs - 1) → xs ≡ []
none_left [] h = refl
none_left (y ∷ ys) h = absurd (none_some (h ∙ slice_get-get_or (y ∷ ys) (length (y ∷ ys) - 1) y (omega arith)))

pub last_waits : (xs : List Operation) (x : Operation) → Some x ≡ slice_get xs (length xs - 1) → last_of None (map waiting xs) ≡ Some (waiting x)
last_waits [] x h = let k = slice_get_within [] (length {A = Operation} [] - 1) x (sym h) in absurd (omega (arith, k))
last_waits (y ∷ ys) x h =
    let u = unsnoc y ys in
    let k : get_or (u.0 ++ (u.1 ∷ [])) (length (u.0 ++ (u.1 ∷ [])) - 1) x ≡ x =
    subst (λ xs. get_or xs (length xs - 1) x ≡ x) u.2 (get_or_from_slice_get (y ∷ ys) (length (y ∷ ys) - 1) x x (sym h)) in
    let n : length (u.0 ++ (u.1 ∷ [])) ≡ length u.0 + length (u.1 ∷ []) = length-append u.0 (u.1 ∷ []) in
    let m : length (u.0 ++ (u.1 ∷ [])) - 1 ≡ length u.0 = omega (arith, n) in
    let e : u.1 ≡ x = sym (get_or-append_seam u.0 u.1 [] x) ∙ subst (λ i. get_or (u.0 ++ (u.1 ∷ [])) i x ≡ x) m k in
    ap (λ xs. last_of None (map waiting xs)) u.2 ∙ (ap (last_of None) (waits_pushed u.0 u.1)
    ∙ (last_is None (map waiting u.0) (waiting u.1) ∙ ap (λ o. Some (waiting o)) e))

pub below_last : (r : Parser) (least : Precedence) (xs : List Operation) (o : Operation) → xs ≡ r.operations.items → Some o ≡ slice_get xs (length xs - 1)
    → precedence_number (waiting_precedence (waiting o)) < precedence_number least → WaitsBelow least r
below_last r least xs o e h k = subst (IsBelow least) (sym (ap (λ ys. last_of None (map waiting ys)) (sym e) ∙ last_waits xs o h)) k

pub parser_last : (r : Parser) (xs : List Operation) (o : Operation) → xs ≡ r.operations.items → Some o ≡ slice_get xs (length xs - 1)
    → last_of None (waits r) ≡ Some (waiting o)
parser_last r xs o e h = ap (λ ys. last_of None (map waiting ys)) (sym e) ∙ last_waits xs o h

pub parser_empty : (r : Parser) (xs : List Operation) → xs ≡ r.operations.items → None ≡ slice_get xs (length xs - 1) → last_of None (waits r) ≡ None
parser_empty r xs e h = ap (λ ys. last_of None (map waiting ys)) (sym e ∙ none_left xs h)

-- what is popped is the last
pub last_popped : (xs ys : List Operation) (o : Option Operation) (x : Operation) → xs ≡ ys ++ option_to_list o → Some x ≡ slice_get xs (length xs - 1)
    → ((0 < length xs) → (z : Operation) × (o ≡ Some z)) → map waiting xs ≡ map waiting ys ++ (waiting x ∷ [])
last_popped xs ys None x e h some =
    let k = slice_get_within xs (length xs - 1) x (sym h) in absurd (none_some (some (omega (arith, k))).1)
last_popped xs ys (Some z) x e h some =
    let a : map waiting xs ≡ map waiting ys ++ (waiting z ∷ []) = ap (map waiting) e ∙ waits_pushed ys z in
    let b : Some (waiting z) ≡ Some (waiting x) = sym (ap (last_of None) a ∙ last_is None (map waiting ys) (waiting z)) ∙ last_waits xs x h in
    a ∙ ap (λ w. map waiting ys ++ (w ∷ [])) (some_one b)
