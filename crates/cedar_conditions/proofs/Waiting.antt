-- A walk that puts the children of each node behind all others: the nodes seen, and those that
-- wait with all below them, are the nodes of the tree.
use Rattle.std.proofs.Common.{Bor, ◌≡◌, ◌≤◌, ◌<◌, ◌+◌, ◌-◌, ◌^◌, ◌++◌, ℕ, suc, true, false, List, [], ◌∷◌, Option, Some, None, option_map, map, take, drop, length, refl, sym, ap, ◌∙◌, subst, arith, slice_get, get_or, min, max}
use Rattle.std.specs.List.{All}
use Rattle.std.specs.List.Sorted.{IsPermutation}
use Rattle.std.specs.Option.{option_copied}
use Rattle.std.specs.Slice.{IsItemAt}
use Rattle.std.proofs.lemmas.List.{append-nil, append_assoc, drop-append-le, drop_all, drop_more, length-append, length-map, length-take, take_all, take_more, take-append-le, take-append-drop}
use Rattle.std.proofs.lemmas.List.Elements.{All-append, All-cons, All-from_get_or, All-get_or, All-nil}
use Rattle.std.proofs.lemmas.List.Sorted.{IsPermutation-append_comm, IsPermutation-append_right, IsPermutation-cons, IsPermutation-refl, IsPermutation-trans, length_permutation}
use Rattle.std.proofs.lemmas.Option.{get_or_from_slice_get, slice_get-map, slice_get_read, slice_get_within}
use Rattle.cedar_builders.specs.BareExpr.{BareExpr, Set, Record}
use Rattle.cedar_builders.specs.Walks.{children, forward, walk, walk_is}
use Rattle.cedar_conditions.specs.Conditions.{around_children, is_container, node_first, nodes, nodes_within}

-- a node, and those below it
abbrev pub below : ℕ × BareExpr → List (ℕ × BareExpr)
below x = nodes_within x.1 x.0

abbrev pub all_below : List (ℕ × BareExpr) → List (ℕ × BareExpr)
all_below xs = forward (map below xs)

-- trees around which are so many sets and records
abbrev pub at_depth : ℕ → List BareExpr → List (ℕ × BareExpr)
at_depth m cs = map (λ c. (m, c)) cs

abbrev pub children_of : ℕ × BareExpr → List (ℕ × BareExpr)
children_of x = at_depth (around_children x.1 x.0) (children x.1)

below_children : (m : ℕ) (cs : List BareExpr)
    → forward (map (λ f. f m) (map (walk node_first) cs)) ≡ all_below (at_depth m cs)
below_children m [] = refl
below_children m (c ∷ cs) = ap (λ xs. nodes_within c m ++ xs) (below_children m cs)

-- a node, and those below its children
below_is : (x : ℕ × BareExpr) → below x ≡ x ∷ all_below (children_of x)
below_is x =
    ap (λ f. f x.0) (walk_is node_first x.1)
    ∙ ap (λ xs. (x.0, x.1) ∷ xs) (below_children (around_children x.1 x.0) (children x.1))

all_below-append : (xs ys : List (ℕ × BareExpr))
    → all_below (xs ++ ys) ≡ all_below xs ++ all_below ys
all_below-append [] ys = refl
all_below-append (x ∷ xs) ys =
    ap (λ zs. below x ++ zs) (all_below-append xs ys)
    ∙ sym (append_assoc (below x) (all_below xs) (all_below ys))

-- the first of the nodes were seen, and the others wait; no depth is greater than their number
pub record IsSoFar (e : BareExpr) (at : ℕ) (ws : List (ℕ × BareExpr)) : Type 0 where
  pub all : IsPermutation (nodes e) (take at ws ++ all_below (drop at ws))
  pub within : at ≤ length ws
  pub depths : All (λ x. x.0 ≤ at) ws

pub begins : (e : BareExpr) (ws : List (ℕ × BareExpr)) → ws ≡ (0, e) ∷ [] → IsSoFar e 0 ws
begins e ws is = subst (IsSoFar e 0) (sym is) (record {
  all = subst (IsPermutation (nodes e)) (sym (append-nil (nodes e))) (IsPermutation-refl (nodes e));
  within = omega arith;
  depths = All-cons (λ x. x.0 ≤ 0) (0, e) [] (omega arith) (All-nil (λ x. x.0 ≤ 0));
})

deeper : (n : ℕ) (d : ℕ × BareExpr) (ws : List (ℕ × BareExpr))
    → All (λ x. x.0 ≤ n) ws → All (λ x. x.0 ≤ n + 1) ws
deeper n d ws h =
    All-from_get_or (λ x. x.0 ≤ n + 1) ws d
    (λ i lt. let is = All-get_or (λ x. x.0 ≤ n) ws i d lt h in omega (arith, is))

all_at : (m n : ℕ) → m ≤ n → (cs : List BareExpr) → All (λ x. x.0 ≤ n) (at_depth m cs)
all_at m n le [] = All-nil (λ x. x.0 ≤ n)
all_at m n le (c ∷ cs) = All-cons (λ x. x.0 ≤ n) (m, c) (at_depth m cs) le (all_at m n le cs)

one_more : (e : BareExpr) (n : ℕ) → around_children e n ≤ n + 1
one_more (Set es) n = omega arith
one_more (Record fs) n = omega arith
one_more _ n = omega arith

-- a node that waits is seen, and its children wait
pub goes_on : (e : BareExpr) (at : ℕ) (ws new : List (ℕ × BareExpr)) (x : ℕ × BareExpr)
    → slice_get ws at ≡ Some x → new ≡ ws ++ children_of x → IsSoFar e at ws
    → IsSoFar e (at + 1) new
goes_on e at ws new x some is h =
    let lt = slice_get_within ws at x some in
    let first : get_or ws at x ≡ x = get_or_from_slice_get ws at x x some in
    let cs = children_of x in
    let seen = take at ws in
    let rest = drop (at + 1) ws in
    let cut : drop at ws ≡ x ∷ rest = drop_more ws at x lt ∙ ap (λ y. y ∷ rest) first in
    let taken : take (at + 1) (ws ++ cs) ≡ seen ++ (x ∷ []) =
    take-append-le (at + 1) ws cs (omega (arith, lt)) ∙ take_more ws at x lt
    ∙ ap (λ y. seen ++ (y ∷ [])) first in
    let left : drop (at + 1) (ws ++ cs) ≡ rest ++ cs = drop-append-le (at + 1) ws cs (omega (arith, lt)) in
    let old : seen ++ all_below (drop at ws) ≡ seen ++ (x ∷ (all_below cs ++ all_below rest)) =
    ap (λ ys. seen ++ all_below ys) cut ∙ ap (λ ys. seen ++ (ys ++ all_below rest)) (below_is x) in
    let later : take (at + 1) (ws ++ cs) ++ all_below (drop (at + 1) (ws ++ cs))
    ≡ seen ++ (x ∷ (all_below rest ++ all_below cs)) =
    ap (λ ys. ys ++ all_below (drop (at + 1) (ws ++ cs))) taken
    ∙ ap (λ ys. (seen ++ (x ∷ [])) ++ all_below ys) left
    ∙ ap (λ ys. (seen ++ (x ∷ [])) ++ ys) (all_below-append rest cs)
    ∙ append_assoc seen (x ∷ []) (all_below rest ++ all_below cs) in
    let turned : IsPermutation (seen ++ (x ∷ (all_below cs ++ all_below rest))) (seen ++ (x ∷ (all_below rest ++ all_below cs))) =
    IsPermutation-append_right seen _ _
    (IsPermutation-cons x _ _ (IsPermutation-append_comm (all_below cs) (all_below rest))) in
    subst (IsSoFar e (at + 1)) (sym is) (record {
      all =
          subst (IsPermutation (nodes e)) (sym later)
          (IsPermutation-trans (nodes e) _ _ (subst (IsPermutation (nodes e)) old h.all) turned);
      within = omega (arith, lt, length-append ws cs);
      depths =
          let deep = one_more x.1 x.0 in
          let here : x.0 ≤ at = subst (λ y. y.0 ≤ at) first (All-get_or (λ y. y.0 ≤ at) ws at x lt h.depths) in
          All-append (λ y. y.0 ≤ at + 1) ws cs (deeper at x ws h.depths)
          (all_at (around_children x.1 x.0) (at + 1) (omega (arith, deep, here)) (children x.1));
    })

-- how deep a node is that waits
pub depth_at : (e : BareExpr) (at : ℕ) (ws : List (ℕ × BareExpr)) (x : ℕ × BareExpr)
    → slice_get ws at ≡ Some x → IsSoFar e at ws → x.0 ≤ at
depth_at e at ws x some h =
    let lt = slice_get_within ws at x some in
    subst (λ y. y.0 ≤ at) (get_or_from_slice_get ws at x x some)
    (All-get_or (λ y. y.0 ≤ at) ws at x lt h.depths)

-- where none waits all were seen
pub ends : (e : BareExpr) (at : ℕ) (ws : List (ℕ × BareExpr)) → length ws ≤ at → IsSoFar e at ws
    → IsPermutation (nodes e) ws
ends e at ws le h =
    subst (IsPermutation (nodes e))
    (ap (λ ys. ys ++ all_below (drop at ws)) (take_all at ws le)
    ∙ ap (λ ys. ws ++ all_below ys) (drop_all at ws le) ∙ append-nil ws) h.all

-- there are as many nodes at least as were seen
pub at_least : (e : BareExpr) (at : ℕ) (ws : List (ℕ × BareExpr)) → IsSoFar e at ws
    → at ≤ length (nodes e)
at_least e at ws h =
    let same = length_permutation (nodes e) (take at ws ++ all_below (drop at ws)) h.all in
    let long = length-append (take at ws) (all_below (drop at ws)) in
    let short = length-take at ws in
    let in_ws = h.within in
    omega (arith, same, long, short, in_ws)

-- what `get` and `copied` give
pub shown_at : {A B : Type 0} (f : A → B) (xs ys : List A) (i : ℕ) (r : Option (Bor A)) (x : A)
    → IsItemAt ys i r → option_copied r ≡ Some x → ys ≡ xs → slice_get (map f xs) i ≡ Some (f x)
shown_at f xs ys i None x h is same = absurd (cc)
shown_at f xs ys i (Some b) x h is same =
    slice_get-map f xs i
    ∙ ap (option_map f)
    (ap (λ zs. slice_get zs i) (sym same)
    ∙ slice_get_read ys (length ys) i b.now refl h.3.0 h.1 ∙ is)

pub none_at : {A B : Type 0} (f : A → B) (xs ys : List A) (i : ℕ) (r : Option (Bor A))
    → IsItemAt ys i r → option_copied r ≡ None → ys ≡ xs → length (map f xs) ≤ i
none_at f xs ys i None h is same = omega (arith, h.3, ap length same, length-map xs f)
none_at f xs ys i (Some b) h is same = absurd (cc)
