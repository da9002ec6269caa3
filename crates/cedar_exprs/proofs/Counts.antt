-- Counts of entries.
use Rattle.std.proofs.Common.{◌≡◌, ℕ, suc, ◌+◌, ◌≤◌, ◌<◌, ◌∷◌, max, List, [], ◌++◌, map, length, drop, refl, sym, ap, ◌∙◌, subst, arith}
use Rattle.std.proofs.Math.ListN.{get_or}
use Rattle.std.proofs.lemmas.List.{drop_more}
use Rattle.cedar_builders.specs.Count.{total, count_is}
use Rattle.cedar_builders.specs.Walks.{need, need_from}
use Rattle.cedar_exprs.specs.BareExpr.{bare_expr}
use Rattle.cedar_exprs.specs.Entries.{entries_at, entries_left, all_entries, nodes_left, IsAdded}
use Rattle.cedar_exprs.specs.Steps.{nodes, item_nodes}
use Rattle.cedar_exprs.specs.Walks.{children, needs}
use Rattle.cedar_exprs.specs.declared.walks.entries.Count.{Count}
use Rattle.cedar_exprs.specs.declared.expr.Expr.{Expr}
use Rattle.cedar_exprs.proofs.BareWalks.{children_bare}
use Rattle.cedar_exprs.proofs.Stacks.{need_is, needs_one, placed}
use denote.Ref.{Bor}

-- numbers that come later, where it is known that one more is needed
later : (i j : ℕ) (ns : List ℕ) → max (i + 1) (need_from (i + j) ns) ≡ max (i + 1) (i + need_from j ns)
later i j [] = omega arith
later i j (n ∷ ns) =
    let rest : max (i + 1) (need_from (i + (j + 1)) ns) ≡ max (i + 1) (i + need_from (j + 1) ns) = later i (j + 1) ns in
    let same : i + (j + 1) ≡ i + j + 1 = omega arith in
    let rest' : max (i + 1) (need_from (i + j + 1) ns) ≡ max (i + 1) (i + need_from (j + 1) ns) = subst (λ k. max (i + 1) (need_from k ns) ≡ max (i + 1) (i + need_from (j + 1) ns)) same rest in
    omega (arith, rest')

module _ {T : Type 0} where
  of_row : (es : List (Expr T)) → total (map bare_expr es) ≡ item_nodes es
  of_row [] = refl
  of_row (e ∷ es) = ap (λ n. nodes e + n) (of_row es)

  -- a node and those below it
  pub nodes_is : (e : Expr T) → nodes e ≡ suc (item_nodes (children e))
  nodes_is e = count_is (bare_expr e) ∙ ap (λ es. suc (total es)) (sym (children_bare e)) ∙ ap suc (of_row (children e))

  -- a node needs the entry that it has, and what its children need
  pub gives_way : (below : ℕ) (e : Expr T) (most : ℕ) → below < most → max most (need_from below (needs (children e))) ≡ max most (below + need (bare_expr e))
  gives_way below e most h =
      let ns = needs (children e) in
      let same : below + 0 ≡ below = omega arith in
      let one : max (below + 1) (need_from below ns) ≡ max (below + 1) (below + need_from 0 ns) = subst (λ k. max (below + 1) (need_from k ns) ≡ max (below + 1) (below + need_from 0 ns)) same (later below 0 ns) in
      omega (arith, one, need_is e, h)

  -- one more that is left
  pub entries-snoc : (ps : List (Bor (Expr T) × ℕ)) (p : Bor (Expr T) × ℕ) → entries_left (ps ++ p ∷ []) ≡ max (entries_left ps) (entries_at p)
  entries-snoc [] p = omega arith
  entries-snoc (q ∷ ps) p = omega (arith, entries-snoc ps p)

  pub nodes-snoc : (ps : List (Bor (Expr T) × ℕ)) (p : Bor (Expr T) × ℕ) → nodes_left (ps ++ p ∷ []) ≡ nodes_left ps + nodes p.0.now
  nodes-snoc [] p = omega arith
  nodes-snoc (q ∷ ps) p = omega (arith, nodes-snoc ps p)

-- what is left of a row is its next member and what is left then
pub next_of : {A : Type 0} (xs : List A) (i : ℕ) (x : A) → i < length xs → x ≡ get_or xs i x → drop i xs ≡ x ∷ drop (i + 1) xs
next_of xs i x lt is = drop_more xs i x lt ∙ ap (λ y. y ∷ drop (i + 1) xs) (sym is)

module _ {T : Type 0} where
  pub none_added : (c : Count T) (below : ℕ) → 1 ≤ c.most → IsAdded c below [] c
  none_added c below h = (omega (arith, h), omega arith)

  -- one and then others
  pub then_added : (a b c : Count T) (below : ℕ) (e : Expr T) (es : List (Expr T)) → IsAdded a below (e ∷ []) b → IsAdded b (below + 1) es c → IsAdded a below (e ∷ es) c
  then_added a b c below e es one more = (omega (arith, one.0, more.0, needs_one e), omega (arith, one.1, more.1))

  -- to a count that has room for them
  pub room_added : (a b c : Count T) (below : ℕ) (es : List (Expr T)) → below < a.most → b.most ≡ max a.most (below + length es) → b.left.items ≡ a.left.items → IsAdded b below es c → IsAdded a below es c
  room_added a b c below es h most left added = (
    omega (arith, added.0, most, ap entries_left left, placed below es, h),
    omega (arith, added.1, ap nodes_left left),
  )

  -- from these that are left, so many entries below them, to all
  abbrev pub IsRest : Count T → ℕ → List (Expr T) → Count T → ℕ → List (Expr T) → Type 0
  IsRest first below es now under rest = (under + length rest ≤ now.most) × (1 ≤ now.most) × ((new : Count T) → IsAdded now under rest new → IsAdded first below es new)

  pub rest_begins : (first : Count T) (below : ℕ) (es rest : List (Expr T)) → rest ≡ es → below + length es ≤ first.most → 1 ≤ first.most → IsRest first below es first below rest
  rest_begins first below es rest is room one = (omega (arith, ap length is, room), one, λ new more. subst (λ es. IsAdded first below es new) is more)

  pub rest_goes_on : (first now next : Count T) (below under : ℕ) (es all rest : List (Expr T)) (e : Expr T) → all ≡ e ∷ rest → IsAdded now under (e ∷ []) next → next.most ≡ now.most → IsRest first below es now under all → IsRest first below es next (under + 1) rest
  rest_goes_on first now next below under es all rest e is added most h = (
    omega (arith, ap length is, most, h.0),
    omega (arith, most, h.1),
    λ new more. h.2 new (subst (λ es. IsAdded now under es new) (sym is) (then_added now next new under e rest added more)),
  )

  pub rest_ends : (first now : Count T) (below under : ℕ) (es rest : List (Expr T)) → rest ≡ [] → IsRest first below es now under rest → IsAdded first below es now
  rest_ends first now below under es rest is h = h.2 now (subst (λ es. IsAdded now under es now) (sym is) (none_added now under h.1))

  -- a node that was left is counted
  module _ (most : ℕ) (all left : List (Bor (Expr T) × ℕ)) (node : Bor (Expr T)) (below : ℕ) (a b : Count T) (popped : all ≡ left ++ (node, below) ∷ []) (waits : a.most ≡ max most (below + 1)) (same : a.left.items ≡ left) (added : IsAdded a below (children node.now) b) where
    pub still_all : all_entries b ≡ max most (entries_left all)
    still_all =
        let one : below < a.most = omega (arith, waits) in
        omega (arith, ap entries_left popped, entries-snoc left (node, below), waits, ap entries_left same, added.0, gives_way below node.now a.most one, needs_one node.now)

    pub fewer_left : suc (nodes_left b.left.items) ≤ nodes_left all
    fewer_left = omega (arith, ap nodes_left popped, nodes-snoc left (node, below), ap nodes_left same, added.1, nodes_is node.now)
