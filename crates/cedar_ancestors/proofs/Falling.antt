-- Numbers that fall along each step leave no cycle.
use Rattle.std.proofs.Common.{ℕ, ◌<◌, ◌≤◌, List, [], ◌∷◌, length, get_or, subst, ⊎_elim, arith}
use Rattle.std.specs.Global.{Global}
use Rattle.std.specs.List.{All, Contains}
use Rattle.std.specs.declared.vec.Vec.{Vec}
use Rattle.std.proofs.lemmas.Bool.{cases_lt}
use Rattle.std.proofs.lemmas.List.Elements.{All-contains}
use Rattle.cedar_ancestors.specs.Reaching.{one, more}
use Rattle.cedar_ancestors.specs.Tables.{IsInRow, IsAbove, IsAcyclic}
use Rattle.cedar_ancestors.proofs.Closing.{none_past, row_at_is}

-- the rows so far have numbers below that of their index
abbrev pub AllFall : List (Vec ℕ Global) → List ℕ → ℕ → Type 0
AllFall table ranks n = (x : ℕ) → x < n → (d : Vec ℕ Global) → All (λ y. get_or ranks y 0 < get_or ranks x 0) (get_or table x d).items

module _ (table : List (Vec ℕ Global)) (ranks : List ℕ) (f : (x y : ℕ) → IsInRow table x y → get_or ranks y 0 < get_or ranks x 0) where
  falls : {x y : ℕ} → IsAbove table x y → get_or ranks y 0 < get_or ranks x 0
  falls {x} {y} (one r) = f x y r
  falls {x} {y} (more {y = k} r p) = omega (arith, f x k r, falls p)

some_row : (table : List (Vec ℕ Global)) (x : ℕ) → x < length table → Vec ℕ Global
some_row [] x lt = absurd (omega arith)
some_row (row ∷ rows) x lt = row

pub acyclic_from_falls : (table : List (Vec ℕ Global)) (ranks : List ℕ) (n : ℕ) → length table ≤ n → AllFall table ranks n → IsAcyclic table
acyclic_from_falls table ranks n all f x h =
    let step : (a b : ℕ) → IsInRow table a b → get_or ranks b 0 < get_or ranks a 0 = λ a b r. ⊎_elim
    (λ (lt : a < length table).
    let d = some_row table a lt in
    All-contains (λ y. get_or ranks y 0 < get_or ranks a 0) (get_or table a d).items b (f a (omega arith) d) (subst (λ (xs : List ℕ). Contains xs b) (row_at_is table a d lt) r))
    (λ (le : length table ≤ a). absurd (none_past table a b le r))
    (cases_lt a (length table)) in
    omega (arith, falls table ranks step h)
