-- What stands in the text, as the parser goes on.
use Rattle.std.proofs.Common.{◌≡◌, ◌++◌, ℕ, ◌≤◌, List, [], ◌∷◌, map, Option, None, Some, Result, Ok, Err, IfOk, length, refl, sym, ◌∙◌, ap, subst, arith}
use Rattle.std.proofs.Common.{Ordering, Less, Equal, Greater, fold}
use Rattle.std.specs.List.{flat_map}
use Rattle.std.specs.BTreeMap.{insert_entry}
use Rattle.std.specs.Cmp.Lexicographic.{slice_cmp}
use Rattle.std.specs.Ordering.{match_ordering, nat_cmp}
use Rattle.std.specs.Global.{Global}
use Rattle.std.specs.declared.rc.RcStr.{RcStr}
use Rattle.std.specs.HashMap.{get_by}
use Rattle.std.specs.Str.{bytes_eq}
use Rattle.std.specs.Rc.{rc_str_bytes}
use Rattle.std.proofs.lemmas.Grind.{flat_map-append}
use Rattle.std.proofs.lemmas.List.{append_assoc, append-nil}
use Rattle.cedar_exprs.specs.declared.expr.Expr.{Expr}
use Rattle.cedar_exprs.specs.Walks.{children}
use Rattle.cedar_lexer.specs.declared.token.Span.{Span}
use Rattle.cedar_parser.specs.declared.groups.Group.{Group}
use Rattle.cedar_parser.specs.declared.operand.Operand.{Operand}
use Rattle.cedar_parser.specs.declared.operand.Operation.{Operation}
use Rattle.cedar_parser.specs.declared.nodes.Nodes.{Nodes}
use Rattle.cedar_parser.specs.declared.parser.Parser.{Parser}
use Rattle.cedar_parser.specs.Meant.{HasNoValues, IsPopped}
use Rattle.cedar_builders.specs.BareExpr.{BareExpr, Text}
use Rattle.cedar_builders.specs.Keys.{keyed}
use Rattle.cedar_exprs.specs.RecordPairs.{record_values}
use Rattle.cedar_exprs.specs.BareExpr.{expr_place}
use Rattle.cedar_exprs.specs.MadeNode.{IsMadeBy, builder_place}
use Rattle.cedar_exprs.specs.declared.builder.ExprBuilder.{ExprBuilder}
use Rattle.cedar_lexer.specs.TokenStreams.{IsTaken}
use Rattle.cedar_lexer.specs.declared.parse_failure.ParseFailure.{ParseFailure}
use Rattle.cedar_lexer.specs.declared.token.Token.{Token}
use Rattle.cedar_lexer.specs.declared.token_stream.TokenStream.{TokenStream}
use Rattle.cedar_parser.specs.Meant.{waiting}
use Rattle.cedar_parser.specs.Refused.{IsBefore, next_start, start_of}
use Rattle.cedar_parser.proofs.InOrder.{taken, here}
use Rattle.cedar_parser.specs.Places.{IsGroupPlaced, around, items_of, IsPlaced, ArePlaced, placed, none_placed, and_placed, IsNodeAt, AreOpenUpTo, IsPlacedUpTo, ArePartsPlaced, operands_of, waiting_part, group_parts, open_parts, place_of, source_of}

pub wider : {s : List ℕ} {a b : ℕ} {e : Expr Unit} (c d : ℕ) → c ≤ a → b ≤ d → IsPlaced s a b e → IsPlaced s c d e
wider c d l r (placed p is src f m t below) = placed p is src (omega (arith, l, f)) m (omega (arith, t, r)) below

pub all_wider : {s : List ℕ} {a b : ℕ} {es : List (Expr Unit)} (c d : ℕ) → c ≤ a → b ≤ d → ArePlaced s a b es → ArePlaced s c d es
all_wider c d l r none_placed = none_placed
all_wider c d l r (and_placed h hs) = and_placed (wider c d l r h) (all_wider c d l r hs)

-- what stands between two places: they are in order
pub in_order : {s : List ℕ} {a b : ℕ} {e : Expr Unit} → IsPlaced s a b e → a ≤ b
in_order (placed p is src f m t below) = omega (arith, f, m, t)

-- a node over what stands within its piece
pub over : (n : Nodes) (span : Span) (es : List (Expr Unit)) (e : Expr Unit) → IsNodeAt n span es e → span.start ≤ span.stop
    → ArePlaced (source_of n) span.start span.stop es → IsPlaced (source_of n) span.start span.stop e
over n span es e is m h =
    placed (record { start = span.start; stop = span.stop; src = source_of n }) is.place refl (omega arith) m (omega arith)
    (subst (ArePlaced (source_of n) span.start span.stop) (sym is.over) h)

-- the same, where a node was made
pub over_all : {E : Type 0} (n : Nodes) (span : Span) (es : List (Expr Unit)) (result : Result (Expr Unit) E) → IfOk result (IsNodeAt n span es)
    → span.start ≤ span.stop → ArePlaced (source_of n) span.start span.stop es → IfOk result (IsPlaced (source_of n) span.start span.stop)
over_all n span es (Ok e) is m h = over n span es e is m h
over_all n span es (Err e) is m h = tt

-- a node that a builder with this place makes
pub made_over : {E : Type 0} (n : Nodes) (span : Span) (b : ExprBuilder Unit) (t : BareExpr) (es : List (Expr Unit)) (result : Result (Expr Unit) E)
    → IfOk result (IsMadeBy b t es) → builder_place b ≡ Some (place_of n span) → span.start ≤ span.stop
    → ArePlaced (source_of n) span.start span.stop es → IfOk result (IsPlaced (source_of n) span.start span.stop)
made_over n span b t es (Ok e) is p m h = over n span es e (record { place = is.place ∙ p; over = is.over }) m h
made_over n span b t es (Err e) is p m h = tt

pub two_placed : {s : List ℕ} {a b : ℕ} {e f : Expr Unit} → IsPlaced s a b e → IsPlaced s a b f → ArePlaced s a b (e ∷ f ∷ [])
two_placed h k = and_placed h (and_placed k none_placed)

pub first_placed : {s : List ℕ} {a b : ℕ} {e : Expr Unit} {es : List (Expr Unit)} → ArePlaced s a b (e ∷ es) → IsPlaced s a b e
first_placed (and_placed h hs) = h

pub rest_placed : {s : List ℕ} {a b : ℕ} {e : Expr Unit} {es : List (Expr Unit)} → ArePlaced s a b (e ∷ es) → ArePlaced s a b es
rest_placed (and_placed h hs) = hs

module _ (s : List ℕ) where
  pub later : (from at to at2 to2 : ℕ) (ps : List (ℕ × List (Expr Unit))) → at ≤ at2 → to ≤ to2 → ArePartsPlaced s from at to ps → ArePartsPlaced s from at2 to2 ps
  later from at to at2 to2 [] a t h = omega (arith, a, h)
  later from at to at2 to2 (p ∷ ps) a t h = (h.0, all_wider p.0 to2 (omega arith) t h.1, later p.0 at to at2 to2 ps a t h.2)

  pub pop_part : (from at to : ℕ) (ps : List (ℕ × List (Expr Unit))) (p : ℕ × List (Expr Unit)) → ArePartsPlaced s from at to (ps ++ (p ∷ []))
      → ArePartsPlaced s from p.0 to ps × ArePlaced s p.0 to p.1 × (p.0 ≤ at)
  pop_part from at to [] p h = h
  pop_part from at to (q ∷ ps) p h = let k = pop_part q.0 at to ps p h.2 in ((h.0, h.1, k.0), k.1, k.2)

  pub push_part : (from at to : ℕ) (ps : List (ℕ × List (Expr Unit))) (p : ℕ × List (Expr Unit)) → ArePartsPlaced s from p.0 to ps
      → ArePlaced s p.0 to p.1 → p.0 ≤ at → ArePartsPlaced s from at to (ps ++ (p ∷ []))
  push_part from at to [] p h es l = (h, es, l)
  push_part from at to (q ∷ ps) p h es l = (h.0, h.1, push_part q.0 at to ps p h.2 es l)

pub parts_pushed : (xs : List Operation) (x : Operation) → map waiting_part (xs ++ (x ∷ [])) ≡ map waiting_part xs ++ (waiting_part x ∷ [])
parts_pushed [] x = refl
parts_pushed (y ∷ xs) x = ap (λ ws. waiting_part y ∷ ws) (parts_pushed xs x)

-- one more waits
pub waiting_pushed : (r s : Parser) (o : Operation) → s.operations.items ≡ r.operations.items ++ (o ∷ []) → s.groups ≡ r.groups
    → open_parts s ≡ open_parts r ++ (waiting_part o ∷ [])
waiting_pushed r s o e g =
    ap (λ gs. flat_map group_parts gs.items ++ map waiting_part s.operations.items) g
    ∙ ap (λ ws. flat_map group_parts r.groups.items ++ ws) (ap (map waiting_part) e ∙ parts_pushed r.operations.items o)
    ∙ sym (append_assoc (flat_map group_parts r.groups.items) (map waiting_part r.operations.items) (waiting_part o ∷ []))

no_more : (r s : Parser) → s.nodes ≡ r.nodes → HasNoValues r.nodes → HasNoValues s.nodes
no_more r s n h k = ap (λ x. get_by (λ t. bytes_eq k (rc_str_bytes t)) x.values.now) n ∙ h k

-- the last that waits is applied to the operand
pub applied_placed : (source : List ℕ) (to : ℕ) (r s : Parser) (o : Operation) (h k : Operand) → IsPlacedUpTo source to r (Some h) → IsPopped r o s
    → k.span.start ≡ start_of o → k.span.stop ≡ h.span.stop
    → (start_of o ≤ h.span.start → ArePlaced source (start_of o) h.span.stop (operands_of o) → IsPlaced source h.span.start h.span.stop h.expr
    → IsPlaced source k.span.start k.span.stop k.expr)
    → IsPlacedUpTo source to s (Some k)
applied_placed source to r s o h k p q start stop applies =
    let e : open_parts r ≡ open_parts s ++ (waiting_part o ∷ []) = waiting_pushed s r o q.0 (sym q.1) in
    let a = pop_part source 0 h.span.start h.span.stop (open_parts s) (waiting_part o)
    (subst (ArePartsPlaced source 0 h.span.start h.span.stop) e p.0.stands) in (
      record {
        no_values = no_more r s q.2 p.0.no_values;
        source_is = ap source_of q.2 ∙ p.0.source_is;
        stands = later source 0 (start_of o) h.span.stop k.span.start k.span.stop (open_parts s) (omega (arith, start)) (omega (arith, stop)) a.0;
      },
      applies a.2 a.1 p.1,
      omega (arith, stop, p.2),
    )

-- one more waits
pub wait_placed : (source : List ℕ) (at to : ℕ) (r s : Parser) (o : Operation) → AreOpenUpTo source (start_of o) to r
    → s.operations.items ≡ r.operations.items ++ (o ∷ []) → s.groups ≡ r.groups → s.nodes ≡ r.nodes
    → ArePlaced source (start_of o) to (operands_of o) → start_of o ≤ at → AreOpenUpTo source at to s
wait_placed source at to r s o p e g n es l = record {
  no_values = no_more r s n p.no_values;
  source_is = ap source_of n ∙ p.source_is;
  stands =
      subst (ArePartsPlaced source 0 at to) (sym (waiting_pushed r s o e g))
      (push_part source 0 at to (open_parts r) (waiting_part o) p.stands es l);
}

-- further on
pub open_later : (source : List ℕ) (at to at2 to2 : ℕ) (r : Parser) → at ≤ at2 → to ≤ to2 → AreOpenUpTo source at to r → AreOpenUpTo source at2 to2 r
open_later source at to at2 to2 r a t p = record {
  no_values = p.no_values;
  source_is = p.source_is;
  stands = later source 0 at to at2 to2 (open_parts r) a t p.stands;
}

pub placed_later : (source : List ℕ) (to to2 : ℕ) (r : Parser) (h : Option Operand) → to ≤ to2 → IsPlacedUpTo source to r h → IsPlacedUpTo source to2 r h
placed_later source to to2 r None t p = open_later source to to to2 to2 r t t p
placed_later source to to2 r (Some h) t p = (p.0, p.1, omega (arith, t, p.2))

-- an operator and its left operand wait
pub operator_placed : (source : List ℕ) (to : ℕ) (r s : Parser) (o : Operation) (h : Operand) → IsPlacedUpTo source to r (Some h)
    → s.operations.items ≡ r.operations.items ++ (o ∷ []) → s.groups ≡ r.groups → s.nodes ≡ r.nodes → start_of o ≡ h.span.start
    → ArePlaced source h.span.start h.span.stop (operands_of o) → IsPlacedUpTo source to s None
operator_placed source to r s o h p e g n start es =
    let m = in_order p.1 in
    wait_placed source to to r s o
    (open_later source h.span.start h.span.stop (start_of o) to r (omega (arith, start)) p.2 p.0)
    e g n (all_wider (start_of o) to (omega (arith, start)) p.2 es) (omega (arith, start, m, p.2))

-- an operand behind what is open
pub operand_placed : (source : List ℕ) (at to : ℕ) (r : Parser) (h : Operand) (start stop : ℕ) (e : Expr Unit) → AreOpenUpTo source at to r
    → h.span.start ≡ start → h.span.stop ≡ stop → h.expr ≡ e → at ≤ start → to ≤ stop → IsPlaced source start stop e
    → IsPlacedUpTo source stop r (Some h)
operand_placed source at to r h start stop e p a b x l m q = (
  open_later source at to h.span.start h.span.stop r (omega (arith, a, l)) (omega (arith, b, m)) p,
  subst (λ y. IsPlaced source h.span.start h.span.stop y) (sym x) (wider h.span.start h.span.stop (omega (arith, a)) (omega (arith, b)) q),
  omega (arith, b),
)

-- a leaf behind what is open
pub leaf_placed : (source : List ℕ) (at to : ℕ) (r : Parser) (h : Operand) (span : Span) (e : Expr Unit) → AreOpenUpTo source at to r
    → h.span ≡ span → h.expr ≡ e → IsNodeAt r.nodes span [] e → at ≤ span.start → to ≤ span.stop → span.start ≤ span.stop
    → IsPlacedUpTo source span.stop r (Some h)
leaf_placed source at to r h span e p a x n l m o =
    operand_placed source at to r h span.start span.stop e p (ap (λ s. s.start) a) (ap (λ s. s.stop) a) x l m
    (subst (λ t. IsPlaced t span.start span.stop e) p.source_is (over r.nodes span [] e n o none_placed))

groups_flat : (gs : List Group) (g : Group) → flat_map group_parts (gs ++ (g ∷ [])) ≡ flat_map group_parts gs ++ group_parts g
groups_flat gs g = flat_map-append group_parts gs (g ∷ []) ∙ ap (λ ps. flat_map group_parts gs ++ ps) (append-nil (group_parts g))

-- a group is what waits around it, and one part more
pub group_flat : (r s : Parser) (g : Group) → s.operations.items ≡ [] → s.groups.items ≡ r.groups.items ++ (g ∷ [])
    → open_parts s ≡ open_parts (around r g) ++ ((g.start, items_of g.kind) ∷ [])
group_flat r s g o gs =
    ap (λ os. flat_map group_parts s.groups.items ++ map waiting_part os) o
    ∙ append-nil (flat_map group_parts s.groups.items)
    ∙ ap (flat_map group_parts) gs
    ∙ groups_flat r.groups.items g
    ∙ sym (append_assoc (flat_map group_parts r.groups.items) (map waiting_part g.operations.items) ((g.start, items_of g.kind) ∷ []))

-- a group is opened
pub group_placed : (source : List ℕ) (to : ℕ) (r s : Parser) (g : Group) → AreOpenUpTo source g.start to r → g.operations ≡ r.operations
    → s.operations.items ≡ [] → s.groups.items ≡ r.groups.items ++ (g ∷ []) → s.nodes ≡ r.nodes
    → ArePlaced source g.start to (items_of g.kind) → g.start ≤ to → IsPlacedUpTo source to s None
group_placed source to r s g p same o gs n es l = record {
  no_values = no_more r s n p.no_values;
  source_is = ap source_of n ∙ p.source_is;
  stands =
      subst (ArePartsPlaced source 0 to to) (sym (group_flat r s g o gs))
      (push_part source 0 to to (open_parts (around r g)) (g.start, items_of g.kind)
      (subst (λ os. ArePartsPlaced source 0 g.start to (flat_map group_parts r.groups.items ++ map waiting_part os.items)) (sym same) p.stands) es l);
}

-- a group is closed
pub group_left : (source : List ℕ) (to : ℕ) (r s : Parser) (g : Group) (h : Operand) → IsPlacedUpTo source to r (Some h) → r.operations.items ≡ []
    → r.groups.items ≡ s.groups.items ++ (g ∷ []) → s.nodes ≡ r.nodes → IsGroupPlaced source to s g h.expr
group_left source to r s g h p o gs n =
    let a = pop_part source 0 h.span.start h.span.stop (open_parts (around s g)) (g.start, items_of g.kind)
    (subst (ArePartsPlaced source 0 h.span.start h.span.stop) (group_flat s r g o gs) p.0.stands) in
    record {
      outside = record {
        no_values = no_more r s n p.0.no_values;
        source_is = ap source_of n ∙ p.0.source_is;
        stands = later source 0 g.start h.span.stop g.start to (open_parts (around s g)) (omega arith) p.2 a.0;
      };
      items = all_wider g.start to (omega arith) p.2 a.1;
      expr = wider g.start to a.2 p.2 p.1;
    }

-- one item more
pub and_last : {s : List ℕ} {a b : ℕ} (es : List (Expr Unit)) (e : Expr Unit) → ArePlaced s a b es → IsPlaced s a b e → ArePlaced s a b (es ++ (e ∷ []))
and_last [] e none_placed h = and_placed h none_placed
and_last (x ∷ es) e (and_placed k ks) h = and_placed k (and_last es e ks h)

-- ---- steps

pub step_later : (source : List ℕ) (to to2 : ℕ) (r : Parser) (result : Result (Option Operand) ParseFailure) → to ≤ to2
    → IfOk result (IsPlacedUpTo source to r) → IfOk result (IsPlacedUpTo source to2 r)
step_later source to to2 r (Ok h) t p = placed_later source to to2 r h t p
step_later source to to2 r (Err e) t p = tt

-- a copy stands where the first does
pub copy_placed : {s : List ℕ} {a b : ℕ} (e copy : Expr Unit) → expr_place copy ≡ expr_place e → children copy ≡ children e → IsPlaced s a b e
    → IsPlaced s a b copy
copy_placed e copy p c (placed q is src f m t below) = placed q (p ∙ is) src f m t (subst (ArePlaced _ q.start q.stop) (sym c) below)

-- a node over an operand, which ends further on
pub longer_placed : (source : List ℕ) (to stop to2 : ℕ) (r : Parser) (h k : Operand) → IsPlacedUpTo source to r (Some h) → k.span.start ≡ h.span.start
    → k.span.stop ≡ stop → IsNodeAt r.nodes k.span (h.expr ∷ []) k.expr → to ≤ stop → stop ≤ to2 → IsPlacedUpTo source to2 r (Some k)
longer_placed source to stop to2 r h k p start end node l m =
    let o = in_order p.1 in (
      open_later source h.span.start h.span.stop k.span.start k.span.stop r (omega (arith, start)) (omega (arith, p.2, l, end)) p.0,
      subst (λ t. IsPlaced t k.span.start k.span.stop k.expr) p.0.source_is
          (over r.nodes k.span (h.expr ∷ []) k.expr node (omega (arith, o, start, end, p.2, l))
          (subst (λ t. ArePlaced t k.span.start k.span.stop (h.expr ∷ [])) (sym p.0.source_is)
          (and_placed (wider k.span.start k.span.stop (omega (arith, start)) (omega (arith, end, p.2, l)) p.1) none_placed))),
      omega (arith, end, m),
    )

none_waiting : (xs : List Operation) → map waiting xs ≡ [] → xs ≡ []
none_waiting [] h = refl
none_waiting (x ∷ xs) h = absurd (let n = ap length h in omega (arith, n))

-- a group is closed, within which nothing waits
pub closing_placed : (source : List ℕ) (to : ℕ) (r s : Parser) (g : Group) (h : Operand) → IsPlacedUpTo source to r (Some h)
    → map waiting r.operations.items ≡ [] → r.groups.items ≡ s.groups.items ++ (g ∷ []) → s.nodes ≡ r.nodes → IsGroupPlaced source to s g h.expr
closing_placed source to r s g h p ops gs n = group_left source to r s g h p (none_waiting r.operations.items ops) gs n

-- nothing is open yet
pub begun_placed : (to : ℕ) (r : Parser) → r.operations.items ≡ [] → r.groups.items ≡ [] → HasNoValues r.nodes
    → IsPlacedUpTo (source_of r.nodes) to r None
begun_placed to r ops gs none = record {
  no_values = none;
  source_is = refl;
  stands =
      let e : open_parts r ≡ [] = ap (λ os. flat_map group_parts r.groups.items ++ map waiting_part os) ops
      ∙ ap (λ gs. flat_map group_parts gs ++ []) gs in
      subst (ArePartsPlaced (source_of r.nodes) 0 to to) (sym e) (omega arith);
}

-- the next token begins where the tokens did that were left, or later
pub next_begins : (at : ℕ) (old new : TokenStream) (t : Token) → IsBefore at old → IsTaken old t new → next_start old ≤ t.span.start
next_begins at old new t b h = let k = taken (next_start old) old new t (here at old b) h in k.0.first

-- the whole
pub ended_placed : (source : List ℕ) (to stop : ℕ) (r : Parser) (h : Option Operand) (result : Result (Expr Unit) ParseFailure) → to ≤ stop
    → IsPlacedUpTo source to r h
    → IfOk result (λ e. (s : List ℕ) (t : ℕ) → IsPlacedUpTo s t r h → IsPlaced s 0 t e) → IfOk result (IsPlaced source 0 stop)
ended_placed source to stop r h (Ok e) l p made = wider 0 stop (omega arith) l (made source to p)
ended_placed source to stop r h (Err e) l p made = tt

-- ---- groups

pub group_later : (source : List ℕ) (to to2 : ℕ) (r : Parser) (g : Group) (e : Expr Unit) → to ≤ to2 → IsGroupPlaced source to r g e
    → IsGroupPlaced source to2 r g e
group_later source to to2 r g e t h = record {
  outside = open_later source g.start to g.start to2 (around r g) (omega arith) t h.outside;
  items = all_wider g.start to2 (omega arith) t h.items;
  expr = wider g.start to2 (omega arith) t h.expr;
}

-- ---- the fields of a record

abbrev values_in : {A : Type 0} → List (A × Expr Unit) → List (Expr Unit)
values_in ps = map (λ p. p.1) ps

pub pair_last : {A : Type 0} {s : List ℕ} {a b : ℕ} (ps : List (A × Expr Unit)) (k : A) (v : Expr Unit) → ArePlaced s a b (values_in ps) → IsPlaced s a b v
    → ArePlaced s a b (values_in (ps ++ ((k, v) ∷ [])))
pair_last [] k v h p = and_placed p none_placed
pair_last (q ∷ ps) k v h p = and_placed (first_placed h) (pair_last ps k v (rest_placed h) p)

choose_placed : {s : List ℕ} {a b : ℕ} (o : Ordering) (xs ys zs : List (Text × Expr Unit)) → ArePlaced s a b (values_in xs) → ArePlaced s a b (values_in ys)
    → ArePlaced s a b (values_in zs) → ArePlaced s a b (values_in (match_ordering o xs ys zs))
choose_placed Less xs ys zs h k l = h
choose_placed Equal xs ys zs h k l = k
choose_placed Greater xs ys zs h k l = l

put_placed : {s : List ℕ} {a b : ℕ} (es : List (Text × Expr Unit)) (k : Text) (v : Expr Unit) → ArePlaced s a b (values_in es) → IsPlaced s a b v
    → ArePlaced s a b (values_in (insert_entry (slice_cmp nat_cmp) es k v))
put_placed [] k v h p = and_placed p none_placed
put_placed (e ∷ es) k v h p =
    choose_placed (slice_cmp nat_cmp k e.0) ((k, v) ∷ e ∷ es) ((e.0, v) ∷ es) (e ∷ insert_entry (slice_cmp nat_cmp) es k v)
    (and_placed p h) (and_placed p (rest_placed h)) (and_placed (first_placed h) (put_placed es k v (rest_placed h) p))

all_put : {s : List ℕ} {a b : ℕ} (es ps : List (Text × Expr Unit)) → ArePlaced s a b (values_in es) → ArePlaced s a b (values_in ps)
    → ArePlaced s a b (values_in (fold (λ xs p. insert_entry (slice_cmp nat_cmp) xs p.0 p.1) es ps))
all_put es [] h k = h
all_put es (p ∷ ps) h k = all_put (insert_entry (slice_cmp nat_cmp) es p.0 p.1) ps (put_placed es p.0 p.1 h (first_placed k)) (rest_placed k)

keyed_placed : {s : List ℕ} {a b : ℕ} (ps : List (RcStr Global × Expr Unit)) → ArePlaced s a b (values_in ps) → ArePlaced s a b (values_in (keyed ps))
keyed_placed [] h = none_placed
keyed_placed (p ∷ ps) h = and_placed (first_placed h) (keyed_placed ps (rest_placed h))

pub record_placed : {s : List ℕ} {a b : ℕ} (ps : List (RcStr Global × Expr Unit)) → ArePlaced s a b (values_in ps) → ArePlaced s a b (record_values ps)
record_placed ps h = all_put [] (keyed ps) none_placed (keyed_placed ps h)

-- the last that waits is taken
pub wait_left : (source : List ℕ) (at to : ℕ) (r s : Parser) (o : Operation) → AreOpenUpTo source at to r
    → r.operations.items ≡ s.operations.items ++ (o ∷ []) → s.groups ≡ r.groups → s.nodes ≡ r.nodes
    → (start_of o ≤ at) × AreOpenUpTo source (start_of o) to s
wait_left source at to r s o p e g n =
    let a = pop_part source 0 at to (open_parts s) (waiting_part o)
    (subst (ArePartsPlaced source 0 at to) (waiting_pushed s r o e (sym g)) p.stands) in (
      a.2,
      record {
        no_values = no_more r s n p.no_values;
        source_is = ap source_of n ∙ p.source_is;
        stands = a.0;
      },
    )
