-- A walk by tasks: what its tasks and its results make together.
use Rattle.std.proofs.Common.{◌≡◌, ℕ, suc, ◌+◌, ◌*◌, ◌≤◌, List, [], ◌∷◌, ◌++◌, length, map, reverse, Result, Ok, Err, refl, sym, ap, ◌∙◌, subst, arith, take, append_assoc, append-nil}
use Rattle.std.proofs.lemmas.List.{length-append, length-map, map-append, reverse-append, reverse-reverse, append_cancel_left}
use Rattle.std.proofs.Math.Seq.{take-append_seam}
use Rattle.cedar_builders.specs.BareExpr.{BareExpr}
use Rattle.cedar_builders.specs.Count.{count, total, count_is}
use Rattle.cedar_builders.specs.Fold.{on_one, on_two, and_then}
use Rattle.cedar_builders.specs.NodeByNode.{gathered, strict_at, IsMadeByNodes}
use Rattle.cedar_builders.specs.Walks.{children}
use Rattle.cedar_exprs.specs.PostOrder.{BareTask, to_visit, to_make, visits, bare_tasks, bare_task, children_of, last_first, Takes, IsPut, IsAnswer, IsBegun}
use Rattle.cedar_exprs.specs.BareExpr.{bare_expr}
use Rattle.cedar_exprs.specs.declared.expr.Expr.{Expr}
use Rattle.cedar_exprs.specs.declared.walks.post_order.Task.{Task}
use Rattle.cedar_exprs.specs.declared.walks.post_order.PostOrderFault.{PostOrderFault}
use Rattle.cedar_exprs.specs.declared.walks.post_order.PostOrderFault.TheVariants.{Refused, Memory}
use Rattle.cedar_exprs.proofs.BareWalks.{children_bare}

-- the steps that tasks still take
abbrev pub steps : List BareTask → ℕ
steps [] = 0
steps (to_visit e ∷ ts) = 2 * count e + steps ts
steps (to_make e ∷ ts) = 1 + steps ts

steps-append : (ts us : List BareTask) → steps (ts ++ us) ≡ steps ts + steps us
steps-append [] us = omega arith
steps-append (to_visit e ∷ ts) us = omega (arith, steps-append ts us)
steps-append (to_make e ∷ ts) us = omega (arith, steps-append ts us)

steps-visits : (es : List BareExpr) → steps (visits es) ≡ 2 * total es
steps-visits [] = refl
steps-visits (e ∷ es) = omega (arith, steps-visits es)

-- the tasks with the first to do first
abbrev pub first_first : List BareTask → List BareTask
first_first = reverse

module _ {M F : Type 0} (f : BareExpr → Result M F) (root : BareExpr) where
  -- what follows from a result: the claim, or that its error is the root's
  abbrev pub After : {A : Type 0} → Result A F → (A → Type 0) → Type 0
  After (Ok a) K = K a
  After (Err x) K = f root ≡ Err x

  -- the tasks, the first to do first, end with what the root gives
  abbrev pub Fits : List BareTask → List M → Type 0
  Fits [] rs = (m : M) × (rs ≡ m ∷ []) × (f root ≡ Ok m)
  Fits (to_visit e ∷ ts) rs = After (f e) (λ m. Fits ts (rs ++ m ∷ []))
  Fits (to_make e ∷ ts) rs = (base : List M) × (ms : List M) × (rs ≡ base ++ ms) × (gathered f (children e) ≡ Ok ms) × After (f e) (λ m. Fits ts (base ++ m ∷ []))

  shifted : (g : Result (List M) F) (ts : List BareTask) (rs : List M) (m : M) → After (on_one (λ ms. m ∷ ms) g) (λ ms. Fits ts (rs ++ ms)) → After g (λ ms. Fits ts ((rs ++ m ∷ []) ++ ms))
  shifted (Ok ms) ts rs m h = subst (Fits ts) (sym (append_assoc rs (m ∷ []) ms)) h
  shifted (Err x) ts rs m h = h

  -- tasks for each of a list give what is gathered over the list
  visit_all : (es : List BareExpr) (ts : List BareTask) (rs : List M) → After (gathered f es) (λ ms. Fits ts (rs ++ ms)) → Fits (visits es ++ ts) rs
  visit_all [] ts rs h = subst (Fits ts) (append-nil rs) h
  visit_all (e ∷ es) ts rs h =
      (elim (f e) as (λ r. After (on_two (λ m ms. m ∷ ms) r (gathered f es)) (λ ms. Fits ts (rs ++ ms)) → After r (λ m. Fits (visits es ++ ts) (rs ++ m ∷ []))) [
        | Ok m ↦ λ k. visit_all es ts (rs ++ m ∷ []) (shifted (gathered f es) ts rs m k)
        | Err x ↦ λ k. k
      ]) h

  readied : (e : BareExpr) (ts : List BareTask) (rs : List M) (g : Result (List M) F) → gathered f (children e) ≡ g → f e ≡ and_then (λ _. f e) g → After (f e) (λ m. Fits ts (rs ++ m ∷ []))
      → After g (λ ms. Fits (to_make e ∷ ts) (rs ++ ms))
  readied e ts rs (Ok ms) is strict h = (rs, ms, refl, is, h)
  readied e ts rs (Err x) is strict h = subst (λ r. After r (λ m. Fits ts (rs ++ m ∷ []))) strict h

  -- a tree gives way to its children and then itself
  visited : (e : BareExpr) (ts : List BareTask) (rs : List M) → f e ≡ strict_at f e → Fits (to_visit e ∷ ts) rs → Fits (visits (children e) ++ to_make e ∷ ts) rs
  visited e ts rs strict h = visit_all (children e) (to_make e ∷ ts) rs (readied e ts rs (gathered f (children e)) refl strict h)

  passed_one : (es : List BareExpr) (ts : List BareTask) (rs ms : List M) (m : M) (g : Result (List M) F) → gathered f es ≡ g → on_two (λ m ns. m ∷ ns) (Ok m) g ≡ Ok ms
      → ((ns : List M) → gathered f es ≡ Ok ns → Fits ts ((rs ++ m ∷ []) ++ ns)) → Fits ts (rs ++ ms)
  passed_one es ts rs ms m (Ok ns) is more rest = let same : m ∷ ns ≡ ms = cc in subst (λ xs. Fits ts (rs ++ xs)) same (subst (Fits ts) (append_assoc rs (m ∷ []) ns) (rest ns is))
  passed_one es ts rs ms m (Err x) is more rest = cc

  -- trees that gave something are visited no more
  passed : (es : List BareExpr) (ts : List BareTask) (rs ms : List M) → gathered f es ≡ Ok ms → Fits (visits es ++ ts) rs → Fits ts (rs ++ ms)
  passed [] ts rs ms is h = let same : [] ≡ ms = cc in subst (λ xs. Fits ts (rs ++ xs)) same (subst (Fits ts) (sym (append-nil rs)) h)
  passed (e ∷ es) ts rs ms is h =
      (elim (f e) as (λ r. on_two (λ m ns. m ∷ ns) r (gathered f es) ≡ Ok ms → After r (λ m. Fits (visits es ++ ts) (rs ++ m ∷ [])) → Fits ts (rs ++ ms)) [
        | Ok m ↦ λ k l. passed_one es ts rs ms m (gathered f es) refl k (λ ns given. passed es ts (rs ++ m ∷ []) ns given l)
        | Err x ↦ λ k l. cc
      ]) is h

  -- an error ends it all
  ended : (e : BareExpr) (x : F) (K : M → Type 0) → f e ≡ Err x → After (f e) K → f root ≡ Err x
  ended e x K is h = subst (λ r. After r K) is h

  gone_on : (e : BareExpr) (m : M) (K : M → Type 0) → f e ≡ Ok m → After (f e) K → K m
  gone_on e m K is h = subst (λ r. After r K) is h

gathered_more-length : {M F : Type 0} (r : Result M F) (g : Result (List M) F) (n : ℕ) (ms : List M) → ((ns : List M) → g ≡ Ok ns → length ns ≡ n) → on_two (λ m ns. m ∷ ns) r g ≡ Ok ms → length ms ≡ suc n
gathered_more-length (Ok m) (Ok ns) n ms more is = let same : m ∷ ns ≡ ms = cc in sym (ap length same) ∙ ap suc (more ns refl)
gathered_more-length (Ok m) (Err x) n ms more is = cc
gathered_more-length (Err x) g n ms more is = cc

pub gathered-length : {M F : Type 0} (f : BareExpr → Result M F) (es : List BareExpr) (ms : List M) → gathered f es ≡ Ok ms → length ms ≡ length es
gathered-length f [] ms is = let same : [] ≡ ms = cc in sym (ap length same)
gathered-length f (e ∷ es) ms is = gathered_more-length (f e) (gathered f es) (length es) ms (λ ns. gathered-length f es ns) is

-- a list whose image is in two parts
parted : {X M : Type 0} (g : X → M) (xs : List X) (base ms : List M) → map g xs ≡ base ++ ms → (rest : List X) × (last : List X) × (xs ≡ rest ++ last) × (map g rest ≡ base) × (map g last ≡ ms)
parted g xs [] ms is = ([], xs, refl, refl, is)
parted g [] (m ∷ base) ms is = cc
parted g (x ∷ xs) (m ∷ base) ms is =
    let more = parted g xs base ms (cc) in
    let here : g x ≡ m = cc in
    (x ∷ more.0, more.1, ap (λ ys. x ∷ ys) more.2, rw (here, more.3) refl, more.4)

same_front : {X : Type 0} (a b c d : List X) → a ++ b ≡ c ++ d → length b ≡ length d → a ≡ c
same_front a b c d is count =
    let left : length (a ++ b) ≡ length a + length b = length-append a b in
    let right : length (c ++ d) ≡ length c + length d = length-append c d in
    let long : length a ≡ length c = omega (arith, ap length is) in
    sym (take-append_seam a b) ∙ ap (λ n. take n (a ++ b)) long ∙ ap (take (length c)) is ∙ take-append_seam c d

steps-reverse : (ts : List BareTask) → steps (reverse ts) ≡ steps ts
steps-reverse [] = refl
steps-reverse (t ∷ ts) =
    let turned : steps (reverse (t ∷ ts)) ≡ steps (reverse ts ++ t ∷ []) = ap steps (reverse-append (t ∷ []) ts) in
    let two = steps-append (reverse ts) (t ∷ []) in
    let front : steps (t ∷ ts) ≡ steps (t ∷ []) + steps ts = steps-append (t ∷ []) ts in
    omega (arith, turned, two, front, steps-reverse ts)

total-append : (es us : List BareExpr) → total (es ++ us) ≡ total es + total us
total-append [] us = omega arith
total-append (e ∷ es) us = omega (arith, total-append es us)

-- what is left after the first of the children were made, and the others put onto the tasks
pub fewer_begun : (all ts new : List BareTask) (e : BareExpr) (first later : List BareExpr) → all ≡ ts ++ to_visit e ∷ [] → children e ≡ first ++ later → new ≡ (ts ++ to_make e ∷ []) ++ reverse (visits later) → suc (steps new) ≤ steps all
fewer_begun all ts new e first later was kids is =
    let a = ap steps was ∙ steps-append ts (to_visit e ∷ []) in
    let b = ap steps is ∙ steps-append (ts ++ to_make e ∷ []) (reverse (visits later)) in
    let c = steps-append ts (to_make e ∷ []) in
    let d = steps-reverse (visits later) ∙ steps-visits later in
    let k = ap total kids ∙ total-append first later in
    omega (arith, a, b, c, d, k, count_is e)

-- what is left after a tree gave way to its children
pub fewer_steps : (all ts new : List BareTask) (e : BareExpr) → all ≡ ts ++ to_visit e ∷ [] → new ≡ (ts ++ to_make e ∷ []) ++ reverse (visits (children e)) → suc (steps new) ≤ steps all
fewer_steps all ts new e was is = fewer_begun all ts new e [] (children e) was refl is

pub fewer_by_one : (all ts : List BareTask) (e : BareExpr) → all ≡ ts ++ to_make e ∷ [] → suc (steps ts) ≤ steps all
fewer_by_one all ts e was = let a = ap steps was ∙ steps-append ts (to_make e ∷ []) in omega (arith, a)

pub leaf_leaves : (all ts : List BareTask) (e : BareExpr) → all ≡ ts ++ to_visit e ∷ [] → suc (steps ts) ≤ steps all
leaf_leaves all ts e was = let a = ap steps was ∙ steps-append ts (to_visit e ∷ []) in omega (arith, a, count_is e)

top_first : (all ts : List BareTask) (t : BareTask) → all ≡ ts ++ t ∷ [] → reverse all ≡ t ∷ reverse ts
top_first all ts t is = ap reverse is ∙ reverse-append ts (t ∷ [])

module _ {M F : Type 0} (f : BareExpr → Result M F) (root : BareExpr) (all ts : List BareTask) (e : BareExpr) where
  -- a tree gives way to itself and its children, of which the first are made at once
  pub begun_fits : (first later : List BareExpr) (ms : List M) (new : List BareTask) (rs : List M) → f e ≡ strict_at f e → all ≡ ts ++ to_visit e ∷ [] → children e ≡ first ++ later
      → gathered f first ≡ Ok ms → new ≡ (ts ++ to_make e ∷ []) ++ reverse (visits later) → Fits f root (first_first all) rs → Fits f root (first_first new) (rs ++ ms)
  begun_fits first later ms new rs strict was kids given is h =
      let now : reverse new ≡ visits later ++ to_make e ∷ reverse ts =
      ap reverse is ∙ reverse-append (ts ++ to_make e ∷ []) (reverse (visits later))
      ∙ ap (λ xs. xs ++ reverse (ts ++ to_make e ∷ [])) (reverse-reverse (visits later))
      ∙ ap (λ xs. visits later ++ xs) (reverse-append ts (to_make e ∷ [])) in
      let cut : visits (children e) ++ to_make e ∷ reverse ts ≡ visits first ++ (visits later ++ to_make e ∷ reverse ts) =
      ap (λ es. visits es ++ to_make e ∷ reverse ts) kids ∙ ap (λ xs. xs ++ to_make e ∷ reverse ts) (map-append to_visit first later)
      ∙ append_assoc (visits first) (visits later) (to_make e ∷ reverse ts) in
      let there = visited f root e (reverse ts) rs strict (subst (λ xs. Fits f root xs rs) (top_first all ts (to_visit e) was) h) in
      subst (λ xs. Fits f root xs (rs ++ ms)) (sym now)
      (passed f root first (visits later ++ to_make e ∷ reverse ts) rs ms given (subst (λ xs. Fits f root xs rs) cut there))

  -- the same where none of them is
  pub visit_fits : (new : List BareTask) (rs : List M) → f e ≡ strict_at f e → all ≡ ts ++ to_visit e ∷ [] → new ≡ (ts ++ to_make e ∷ []) ++ reverse (visits (children e))
      → Fits f root (first_first all) rs → Fits f root (first_first new) rs
  visit_fits new rs strict was is h = subst (Fits f root (first_first new)) (append-nil rs) (begun_fits [] (children e) [] new rs strict was refl refl is h)

  -- a refusal of a child is the root's
  pub begun_ends : (x : F) (rs : List M) → f e ≡ strict_at f e → all ≡ ts ++ to_visit e ∷ [] → gathered f (children e) ≡ Err x → Fits f root (first_first all) rs → f root ≡ Err x
  begun_ends x rs strict was given h =
      ended f root e x (λ m. Fits f root (reverse ts) (rs ++ m ∷ [])) (strict ∙ ap (and_then (λ _. f e)) given) (subst (λ xs. Fits f root xs rs) (top_first all ts (to_visit e) was) h)

  module _ {X : Type 0} (g : X → M) (done : List X) (was : all ≡ ts ++ to_make e ∷ []) (h : Fits f root (first_first all) (map g done)) where
    here : Fits f root (to_make e ∷ reverse ts) (map g done)
    here = subst (λ xs. Fits f root xs (map g done)) (top_first all ts (to_make e) was) h

    long : (last : List X) (ms : List M) → map g last ≡ ms → gathered f (children e) ≡ Ok ms → length last ≡ length (children e)
    long last ms same given = sym (length-map last g) ∙ ap length same ∙ gathered-length f (children e) ms given

    pub make_room : length (children e) ≤ length done
    make_room =
        let k = here in
        let p = parted g done k.0 k.1 k.2 in
        let both : length done ≡ length p.0 + length p.1 = ap length p.2 ∙ length-append p.0 p.1 in
        omega (arith, long p.1 k.1 p.4 k.3, both)

    module _ {IsMadeOf : BareExpr → List M → Result M F → Type 0} (law : IsMadeByNodes f IsMadeOf) (new : List X) (r : Result M F) (made : Takes (length (children e)) (λ last. IsMadeOf e (map g last) r) done new) where
      -- what was made of the last results is what the node gives, and the results before them stay
      gives : (f e ≡ r) × (map g new ≡ here.0)
      gives =
          let k = here in
          let p = parted g done k.0 k.1 k.2 in
          let same_long : length p.1 ≡ length made.0 = long p.1 k.1 p.4 k.3 ∙ sym made.2 in
          let front : p.0 ≡ new = same_front p.0 p.1 new made.0 (sym p.2 ∙ made.1) same_long in
          let back : p.1 ≡ made.0 = append_cancel_left new p.1 made.0 (ap (λ xs. xs ++ p.1) (sym front) ∙ sym p.2 ∙ made.1) in
          let given : gathered f (children e) ≡ Ok (map g made.0) = k.3 ∙ ap Ok (sym p.4 ∙ ap (map g) back) in
          (law.of_children e (map g made.0) r given made.3, ap (map g) (sym front) ∙ p.3)

    pub make_fits : {IsMadeOf : BareExpr → List M → Result M F → Type 0} → IsMadeByNodes f IsMadeOf → (new : List X) (out : X) (next : List X) → Takes (length (children e)) (λ last. IsMadeOf e (map g last) (Ok (g out))) done new → next ≡ new ++ out ∷ []
        → Fits f root (first_first ts) (map g next)
    make_fits law new out next made is =
        let k = here in
        let n = gives law new (Ok (g out)) made in
        let all_now : k.0 ++ g out ∷ [] ≡ map g next = ap (λ xs. xs ++ g out ∷ []) (sym n.1) ∙ sym (map-append g new (out ∷ [])) ∙ ap (map g) (sym is) in
        subst (Fits f root (reverse ts)) all_now (gone_on f root e (g out) (λ m. Fits f root (reverse ts) (k.0 ++ m ∷ [])) n.0 k.4)

    pub make_ends : {IsMadeOf : BareExpr → List M → Result M F → Type 0} → IsMadeByNodes f IsMadeOf → (new : List X) (x : F) → Takes (length (children e)) (λ last. IsMadeOf e (map g last) (Err x)) done new → f root ≡ Err x
    make_ends law new x made = let k = here in ended f root e x (λ m. Fits f root (reverse ts) (k.0 ++ m ∷ [])) (gives law new (Err x) made).0 k.4

-- a leaf that is to be visited is made at once
module _ {M F : Type 0} (f : BareExpr → Result M F) (root : BareExpr) (all ts : List BareTask) (e : BareExpr) {X : Type 0} (g : X → M) (done : List X)
    (was : all ≡ ts ++ to_visit e ∷ []) (h : Fits f root (first_first all) (map g done)) (leaf : children e ≡ []) {IsMadeOf : BareExpr → List M → Result M F → Type 0} (law : IsMadeByNodes f IsMadeOf) where
  made_at_once : Fits f root (first_first (ts ++ to_make e ∷ [])) (map g done)
  made_at_once =
      subst (λ xs. Fits f root xs (map g done)) (sym (reverse-append ts (to_make e ∷ [])))
      (map g done, [], sym (append-nil (map g done)), ap (gathered f) leaf, subst (λ xs. Fits f root xs (map g done)) (top_first all ts (to_visit e) was) h)

  pub leaf_fits : (new : List X) (out : X) (next : List X) → Takes (length (children e)) (λ last. IsMadeOf e (map g last) (Ok (g out))) done new → next ≡ new ++ out ∷ [] → Fits f root (first_first ts) (map g next)
  leaf_fits = make_fits f root (ts ++ to_make e ∷ []) ts e g done refl made_at_once law

  pub leaf_ends : (new : List X) (x : F) → Takes (length (children e)) (λ last. IsMadeOf e (map g last) (Err x)) done new → f root ≡ Err x
  leaf_ends = make_ends f root (ts ++ to_make e ∷ []) ts e g done refl made_at_once law

-- what is made of a leaf
module _ {M F : Type 0} (f : BareExpr → Result M F) (e : BareExpr) {X : Type 0} (g : X → M) (leaf : children e ≡ []) {IsMadeOf : BareExpr → List M → Result M F → Type 0} (law : IsMadeByNodes f IsMadeOf) where
  none_taken : (last : List X) → length last ≡ length (children e) → last ≡ []
  none_taken [] long = refl
  none_taken (x ∷ last) long = let short : length (children e) ≡ 0 = ap length leaf in absurd (omega (arith, long, short))

  -- it is what the leaf gives, and no result is taken off
  pub leaf_gives : (done new : List X) (r : Result M F) → Takes (length (children e)) (λ last. IsMadeOf e (map g last) r) done new → (f e ≡ r) × (new ≡ done)
  leaf_gives done new r made =
      let none = none_taken made.0 made.2 in (
        law.of_children e [] r (ap (gathered f) leaf) (subst (λ last. IsMadeOf e (map g last) r) none made.3),
        sym (append-nil new) ∙ ap (λ last. new ++ last) (sym none) ∙ sym made.1,
      )

module _ {M F : Type 0} (f : BareExpr → Result M F) where
  all_past : (r : Result M F) (g more : Result (List M) F) (ms us : List M) → ((ns : List M) → g ≡ Ok ns → more ≡ Ok (ns ++ us)) → on_two (λ m ns. m ∷ ns) r g ≡ Ok ms → on_two (λ m ns. m ∷ ns) r more ≡ Ok (ms ++ us)
  all_past (Ok m) (Ok ns) more ms us h is = let same : m ∷ ns ≡ ms = cc in ap (on_two (λ m ns. m ∷ ns) (Ok m)) (h ns refl) ∙ ap (λ xs. Ok (xs ++ us)) same
  all_past (Ok m) (Err x) more ms us h is = cc
  all_past (Err x) g more ms us h is = cc

  -- one tree more gives its own behind what those before it gave
  pub gathered_push : (es : List BareExpr) (e : BareExpr) (ms : List M) (m : M) → gathered f es ≡ Ok ms → f e ≡ Ok m → gathered f (es ++ e ∷ []) ≡ Ok (ms ++ m ∷ [])
  gathered_push [] e ms m is here = let same : [] ≡ ms = cc in ap (λ r. on_two (λ m ns. m ∷ ns) r (Ok [])) here ∙ ap (λ xs. Ok (xs ++ m ∷ [])) same
  gathered_push (d ∷ es) e ms m is here = all_past (f d) (gathered f es) (gathered f (es ++ e ∷ [])) ms (m ∷ []) (λ ns given. gathered_push es e ns m given here) is

  refused_past : (r : Result M F) (g more : Result (List M) F) (ms : List M) (x : F) → ((ns : List M) → g ≡ Ok ns → more ≡ Err x) → on_two (λ m ns. m ∷ ns) r g ≡ Ok ms → on_two (λ m ns. m ∷ ns) r more ≡ Err x
  refused_past (Ok m) (Ok ns) more ms x h is = ap (on_two (λ m ns. m ∷ ns) (Ok m)) (h ns refl)
  refused_past (Ok m) (Err y) more ms x h is = cc
  refused_past (Err y) g more ms x h is = cc

  -- a refusal behind trees that gave something is the first of them all
  pub gathered_refused : (es : List BareExpr) (e : BareExpr) (later : List BareExpr) (ms : List M) (x : F) → gathered f es ≡ Ok ms → f e ≡ Err x → gathered f (es ++ e ∷ later) ≡ Err x
  gathered_refused [] e later ms x is here = ap (λ r. on_two (λ m ns. m ∷ ns) r (gathered f later)) here
  gathered_refused (d ∷ es) e later ms x is here = refused_past (f d) (gathered f es) (gathered f (es ++ e ∷ later)) ms x (λ ns given. gathered_refused es e later ns x given here) is

-- a row whose leaf is refused
pub refusal_begins : {X R M F : Type 0} (f : BareExpr → Result M F) (g : X → M) (h : R → F) {IsMadeOf : BareExpr → List M → Result M F → Type 0} → IsMadeByNodes f IsMadeOf
    → (es first later : List BareExpr) (e : BareExpr) (ms : List M) (tasks all : List BareTask) (start done new : List X) (fault : PostOrderFault R) (answer : Result Unit (PostOrderFault R))
    → children e ≡ [] → es ≡ first ++ e ∷ later → gathered f first ≡ Ok ms → answer ≡ Err fault → IsPut g h (IsMadeOf e) (length (children e)) done new (Err fault) → IsBegun g h f es tasks all start new answer
refusal_begins f g h law es first later e ms tasks all start done new (Refused r) answer leaf same given is made =
    subst (IsBegun g h f es tasks all start new) (sym is)
    (ap (gathered f) same ∙ gathered_refused f first e later ms (h r) given (leaf_gives f e g leaf law done new (Err (h r)) made).0)
refusal_begins f g h law es first later e ms tasks all start done new Memory answer leaf same given is made =
    subst (IsBegun g h f es tasks all start new) (sym is) tt

-- a refusal in a row is the root's
pub begun_answer : {X R M F : Type 0} (f : BareExpr → Result M F) (root : BareExpr) (g : X → M) (h : R → F) (es : List BareExpr) (tasks new : List BareTask) (done made : List X) (fault : PostOrderFault R) (answer : Result X (PostOrderFault R))
    → ((x : F) → gathered f es ≡ Err x → f root ≡ Err x) → answer ≡ Err fault → IsBegun g h f es tasks new done made (Err fault) → IsAnswer g h (f root) answer
begun_answer f root g h es tasks new done made (Refused r) answer ends is begun = subst (IsAnswer g h (f root)) (sym is) (ends (h r) begun)
begun_answer f root g h es tasks new done made Memory answer ends is begun = subst (IsAnswer g h (f root)) (sym is) tt

-- the children of an expression with a row
pub row_children : {T : Type 0} (e : Expr T) (row : List (Expr T)) → children_of e ≡ row → children (bare_expr e) ≡ map bare_expr row
row_children e row is = sym (children_bare e) ∙ ap (map bare_expr) is

-- the tasks with one on top
pub snoc_tasks : {T : Type 0} (all ts : List (Task T)) (t u : Task T) → all ≡ ts ++ t ∷ [] → t ≡ u → bare_tasks all ≡ bare_tasks ts ++ bare_task u ∷ []
snoc_tasks all ts t u was is = ap bare_tasks was ∙ map-append bare_task ts (t ∷ []) ∙ ap (λ v. bare_tasks ts ++ bare_task v ∷ []) is

pub snoc_then : {T : Type 0} (all ts : List (Task T)) (t : Task T) (more next : List BareTask) → all ≡ ts ++ t ∷ [] → next ≡ bare_tasks all ++ more → next ≡ (bare_tasks ts ++ bare_task t ∷ []) ++ more
snoc_then all ts t more next was is = is ∙ ap (λ us. us ++ more) (snoc_tasks all ts t t was refl)

-- tasks for the children of an expression are tasks for those of its tree
pub below : {T : Type 0} (all ts : List BareTask) (e : Expr T) → all ≡ ts ++ last_first (children_of e) → all ≡ ts ++ reverse (visits (children (bare_expr e)))
below all ts e is = is ∙ ap (λ es. ts ++ reverse (visits es)) (children_bare e)

-- a refusal ends the walk
pub refusal_ends : {X R M F : Type 0} (f : BareExpr → Result M F) (root : BareExpr) (g : X → M) (h : R → F) (IsMadeOf : List M → Result M F → Type 0) (n : ℕ) (all rest : List X) (fault : PostOrderFault R) (answer : Result X (PostOrderFault R))
    → ((x : F) → Takes n (λ last. IsMadeOf (map g last) (Err x)) all rest → f root ≡ Err x) → answer ≡ Err fault → IsPut g h IsMadeOf n all rest (Err fault) → IsAnswer g h (f root) answer
refusal_ends f root g h IsMadeOf n all rest (Refused r) answer ends is made = subst (IsAnswer g h (f root)) (sym is) (ends (h r) made)
refusal_ends f root g h IsMadeOf n all rest Memory answer ends is made = subst (IsAnswer g h (f root)) (sym is) tt
