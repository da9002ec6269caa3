-- Stacks of expressions: what they still give, and the entries that they need.
use Rattle.std.proofs.Common.{◌≡◌, ℕ, ◌+◌, ◌≤◌, ◌∷◌, max, List, [], ◌++◌, map, length, refl, sym, ap, ◌∙◌, subst, arith, append_assoc, append-nil}
use Rattle.std.proofs.lemmas.List.{length-append, length-map}
use Rattle.cedar_builders.specs.Walks as bare
use Rattle.cedar_builders.specs.Walks.{backward, need, need_from}
use Rattle.cedar_exprs.specs.BareExpr.{bare_expr}
use Rattle.cedar_exprs.specs.Walks.{children, positions, referents, given_by, needs, need_of}
use Rattle.cedar_exprs.specs.declared.expr.Expr.{Expr}
use Rattle.cedar_exprs.proofs.BareWalks.{children_bare}
use Rattle.cedar_exprs.proofs.WalkSteps.{walk_is}
use denote.Ref.{Bor}

-- ---- needs

one_more : (a b : ℕ) → 1 ≤ b → 1 ≤ max a b
one_more a b h = omega (arith, h)

some_needed : (i : ℕ) (ns : List ℕ) → 1 ≤ need_from i ns
some_needed i [] = omega arith
some_needed i (n ∷ ns) = one_more (i + n) _ (some_needed (i + 1) ns)

shifted : (i j : ℕ) (ns : List ℕ) → need_from (i + j) ns ≤ i + need_from j ns
shifted i j [] = omega arith
shifted i j (n ∷ ns) =
    let rest : need_from (i + (j + 1)) ns ≤ i + need_from (j + 1) ns = shifted i (j + 1) ns in
    let same : i + (j + 1) ≡ i + j + 1 = omega arith in
    let rest' : need_from (i + j + 1) ns ≤ i + need_from (j + 1) ns = subst (λ k. need_from k ns ≤ i + need_from (j + 1) ns) same rest in
    omega (arith, rest')

max_grows : (a b c : ℕ) → b ≤ c → max a b ≤ max a c
max_grows a b c h = omega (arith, h)

-- a node in whose place its children stand
replaced : (i : ℕ) (ms ns : List ℕ) → need_from i (ms ++ ns) ≤ need_from i (ms ++ need_from 0 ns ∷ [])
replaced i [] ns =
    let h : need_from (i + 0) ns ≤ i + need_from 0 ns = shifted i 0 ns in
    let same : i + 0 ≡ i = omega arith in
    let h' : need_from i ns ≤ i + need_from 0 ns = subst (λ k. need_from k ns ≤ i + need_from 0 ns) same h in
    omega (arith, h')
replaced i (m ∷ ms) ns = max_grows (i + m) _ _ (replaced (i + 1) ms ns)

module _ {T : Type 0} where
  -- an expression needs what its children do
  pub need_is : (e : Expr T) → need (bare_expr e) ≡ need_of (children e)
  need_is e =
      bare.walk_is (λ e below. need_from 0 below) (bare_expr e)
      ∙ ap (λ es. need_from 0 (map need es)) (sym (children_bare e))

  pub needs_one : (e : Expr T) → 1 ≤ need (bare_expr e)
  needs_one e = subst (λ n. 1 ≤ n) (sym (need_is e)) (some_needed 0 (needs (children e)))

  -- each needs a place of its own
  pub placed : (i : ℕ) (es : List (Expr T)) → i + length es ≤ max i (need_from i (needs es))
  placed i [] = omega arith
  placed i (e ∷ es) =
      let one = needs_one e in
      let h : i + 1 + length es ≤ max (i + 1) (need_from (i + 1) (needs es)) = placed (i + 1) es in
      omega (arith, one, h)

  length_fits : (es : List (Expr T)) → length es ≤ need_of es
  length_fits es = omega (arith, placed 0 es)

  needs_both : (es fs : List (Expr T)) → needs (es ++ fs) ≡ needs es ++ needs fs
  needs_both [] fs = refl
  needs_both (e ∷ es) fs = ap (λ ns. need (bare_expr e) ∷ ns) (needs_both es fs)

  -- the children fit in the place of their node
  children_fit : (es : List (Expr T)) (e : Expr T) → need_of (es ++ children e) ≤ need_of (es ++ e ∷ [])
  children_fit es e =
      subst (λ n. n ≤ need_of (es ++ e ∷ [])) (sym (ap (need_from 0) (needs_both es (children e))))
      (subst (λ n. need_from 0 (needs es ++ needs (children e)) ≤ n) (ap (λ n. need_from 0 (needs es ++ n ∷ [])) (sym (need_is e)) ∙ sym (ap (need_from 0) (needs_both es (e ∷ []))))
      (replaced 0 (needs es) (needs (children e))))

-- ---- what is given

module _ {T : Type 0} where
  positions_is : (e : Expr T) → positions e ≡ e ∷ given_by (children e)
  positions_is e = walk_is (λ e below. e ∷ backward below) e

  given_both : (es fs : List (Expr T)) → given_by (es ++ fs) ≡ given_by fs ++ given_by es
  given_both [] fs = sym (append-nil (given_by fs))
  given_both (e ∷ es) fs = ap (λ xs. xs ++ positions e) (given_both es fs) ∙ append_assoc (given_by fs) (given_by es) (positions e)

  -- a node gives way to its children
  gives_node : (es : List (Expr T)) (e : Expr T) → given_by (es ++ e ∷ []) ≡ e ∷ given_by (es ++ children e)
  gives_node es e = given_both es (e ∷ []) ∙ ap (λ xs. xs ++ given_by es) (positions_is e) ∙ ap (λ xs. e ∷ xs) (sym (given_both es (children e)))

-- a place is left where not all is on the stack yet
pub place_left : {A : Type 0} (xs ys : List (Bor A)) (x : A) (all left m : List A) (cap cap0 : ℕ) → all ≡ x ∷ left → referents xs ++ all ≡ referents ys ++ m → cap ≡ cap0 → length ys + length m ≤ cap0 → length xs + 1 ≤ cap
place_left xs ys x all left m cap cap0 steps same kept fits =
    let here : length (referents xs) ≡ length xs = length-map xs (λ x. x.now) in
    let there : length (referents ys) ≡ length ys = length-map ys (λ x. x.now) in
    let left_is : length (referents xs ++ all) ≡ length (referents xs) + length all = length-append (referents xs) all in
    let right_is : length (referents ys ++ m) ≡ length (referents ys) + length m = length-append (referents ys) m in
    let both : length (referents xs ++ all) ≡ length (referents ys ++ m) = ap length same in
    let first : length all ≡ length (x ∷ left) = ap length steps in
    omega (arith, here, there, left_is, right_is, both, first, kept, fits)

referents_both : {A : Type 0} (xs ys : List (Bor A)) → referents (xs ++ ys) ≡ referents xs ++ referents ys
referents_both [] ys = refl
referents_both (x ∷ xs) ys = ap (λ zs. x.now ∷ zs) (referents_both xs ys)

-- what was pushed is behind what was there
pub pushed : {A : Type 0} (xs ys : List (Bor A)) (x : Bor A) (all left w : List A) → ys ≡ xs ++ x ∷ [] → all ≡ x.now ∷ left → referents xs ++ all ≡ w → referents ys ++ left ≡ w
pushed xs ys x all left w is steps h =
    ap (λ zs. referents zs ++ left) is
    ∙ ap (λ zs. zs ++ left) (referents_both xs (x ∷ []))
    ∙ append_assoc (referents xs) (x.now ∷ []) left
    ∙ ap (λ zs. referents xs ++ zs) (sym steps)
    ∙ h

module _ {T : Type 0} (all left : List (Bor (Expr T))) (e : Bor (Expr T)) (popped : all ≡ left ++ e ∷ []) where
  all_shown : referents all ≡ referents left ++ e.now ∷ []
  all_shown = ap referents popped ∙ referents_both left (e ∷ [])

  -- the children of what was on top fit in its place
  pub still_fit : (room : ℕ) → need_of (referents all) ≤ room → need_of (referents left ++ children e.now) ≤ room
  still_fit room h =
      let same : need_of (referents all) ≡ need_of (referents left ++ e.now ∷ []) = ap need_of all_shown in
      let fit = children_fit (referents left) e.now in
      omega (arith, same, fit, h)

  pub count_fits : (room : ℕ) → need_of (referents all) ≤ room → length left + length (children e.now) ≤ room
  count_fits room h =
      let here : length (referents left) ≡ length left = length-map left (λ x. x.now) in
      let both : length (referents left ++ children e.now) ≡ length (referents left) + length (children e.now) = length-append (referents left) (children e.now) in
      let few = length_fits (referents left ++ children e.now) in
      let fit = still_fit room h in
      omega (arith, here, both, few, fit)

  pub gives_top : (next : List (Expr T)) → next ≡ referents left ++ children e.now → given_by (referents all) ≡ e.now ∷ given_by next
  gives_top next is = ap given_by all_shown ∙ gives_node (referents left) e.now ∙ ap (λ es. e.now ∷ given_by es) (sym is)
