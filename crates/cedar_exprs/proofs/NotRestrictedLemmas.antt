-- The first node of a kind that no restricted expression has, from a node to its children.
use Rattle.std.proofs.Common.{◌≡◌, ◌+◌, ◌<◌, arith, length, List, [], ◌∷◌, ◌++◌, map, reverse, append_assoc, Bool, true, false, Option, Some, None, refl, sym, ap, ◌∙◌, ◌↔◌, Result, Ok, Err}
use Rattle.std.specs.List.{find}
use Rattle.std.specs.Option.{option_or, is_none}
use Rattle.std.specs.Result.{is_ok, IsErrAnd}
use Rattle.std.proofs.lemmas.Bool.{false≢true}
use Rattle.std.proofs.lemmas.List.{length-append, map-append, reverse-append}
use Rattle.std.proofs.lemmas.List.Folds.{find-append}
use Rattle.cedar_builders.specs.Restricted.{is_restricted_node, is_restricted, IsRestricted}
use Rattle.cedar_builders.specs.Walks.{forward}
use Rattle.cedar_exprs.specs.BareExpr.{bare_expr}
use Rattle.cedar_exprs.specs.Waiting.{next_first}
use Rattle.cedar_exprs.specs.Walks.{children, preorder, referents}
use Rattle.cedar_exprs.specs.FirstNodes.{InPreorder, fails, at_node, decided, first_of_all}
use Rattle.cedar_exprs.specs.NotRestricted.{first_not_restricted, first_not_restricted_of}
use Rattle.cedar_exprs.specs.declared.expr.Expr.{Expr}
use Rattle.cedar_exprs.proofs.WalkSteps.{walk_is, counted, fewer_below}
use Rattle.cedar_exprs.proofs.BareWalks.{preorder_bare}
use denote.Ref.{Bor}

in_preorder : {T : Type 0} → InPreorder T
in_preorder = record { order = walk_is (λ e below. e ∷ forward below); trees = preorder_bare }

module _ {T : Type 0} where
  -- a node of another kind is the first itself
  pub first_itself : (e : Expr T) → is_restricted_node (bare_expr e) ≡ false → Some e ≡ first_not_restricted e
  first_itself e h = sym (at_node in_preorder is_restricted_node false e h)

  -- a node of one of the five kinds has the first of its children's
  pub first_below : (e : Expr T) → is_restricted_node (bare_expr e) ≡ true → first_not_restricted_of (children e) ≡ first_not_restricted e
  first_below e h = sym (at_node in_preorder is_restricted_node true e h)

-- one turn over the nodes that wait: a node of one of the five kinds gives way to its children
module _ {T : Type 0} where
  forward_both : (ds es : List (Expr T)) → forward (map preorder (ds ++ es)) ≡ forward (map preorder ds) ++ forward (map preorder es)
  forward_both [] es = refl
  forward_both (d ∷ ds) es = ap (λ xs. preorder d ++ xs) (forward_both ds es) ∙ sym (append_assoc (preorder d) (forward (map preorder ds)) (forward (map preorder es)))

  first_of_both : (ds es : List (Expr T)) → first_not_restricted_of (ds ++ es) ≡ option_or (first_not_restricted_of ds) (first_not_restricted_of es)
  first_of_both ds es = ap (find (fails is_restricted_node)) (forward_both ds es) ∙ find-append (fails is_restricted_node) (forward (map preorder ds)) (forward (map preorder es))

  module _ (e : Expr T) (es next : List (Expr T)) (pushed : next ≡ children e ++ es) where
    pub gives_way : (w : Option (Expr T)) → is_restricted_node (bare_expr e) ≡ true → first_not_restricted_of (e ∷ es) ≡ w → first_not_restricted_of next ≡ w
    gives_way w passes h =
        ap first_not_restricted_of pushed ∙ first_of_both (children e) es ∙ ap (λ r. option_or r (first_not_restricted_of es)) (first_below e passes) ∙ sym (first_of_all is_restricted_node e es) ∙ h

    pub fewer_wait : counted next < counted (e ∷ es)
    fewer_wait =
        let new : counted next ≡ counted (children e) + counted es = ap length (ap (λ ds. forward (map preorder ds)) pushed ∙ forward_both (children e) es) ∙ length-append (forward (map preorder (children e))) (forward (map preorder es)) in
        let old : counted (e ∷ es) ≡ length (preorder e) + counted es = length-append (preorder e) (forward (map preorder es)) in
        omega (arith, new, old, fewer_below e)

-- the last that waits comes next
pub next_is : {T : Type 0} (all rest : List (Bor (Expr T))) (e : Bor (Expr T)) → all ≡ rest ++ e ∷ [] → next_first all ≡ e.now ∷ next_first rest
next_is {T} all rest e is = ap next_first is ∙ ap reverse (map-append (λ (x : Bor (Expr T)). x.now) rest (e ∷ [])) ∙ reverse-append (referents rest) (e.now ∷ [])

module _ {T : Type 0} (e : Expr T) where
  all_pass : is_none (first_not_restricted e) ≡ is_restricted (bare_expr e)
  all_pass = decided in_preorder is_restricted_node e

  -- where none is found, the expression is restricted
  pub restricted : first_not_restricted e ≡ None → IsRestricted (bare_expr e)
  restricted h = sym all_pass ∙ ap is_none h

  -- where one is found, it is not: who refuses it succeeds exactly on restricted expressions
  pub refused : (succeeds : Bool) (x : Expr T) → Some x ≡ first_not_restricted e → succeeds ≡ false → (succeeds ≡ true) ↔ IsRestricted (bare_expr e)
  refused succeeds x h not_so =
      (λ is. absurd (false≢true (sym not_so ∙ is)), λ is. absurd (false≢true (ap is_none h ∙ all_pass ∙ is)))

-- an answer with an error is no success
pub no_success : {A E : Type 0} (r : Result A E) (P : E → Type 0) → IsErrAnd r P → is_ok r ≡ false
no_success (Ok x) P h = absurd h
no_success (Err e) P h = refl
