-- A value that is being written, with all that waits for it.
use Rattle.std.proofs.Common.{◌≡◌, ℕ, ◌<◌, ◌≤◌, ◌+◌, ◌*◌, List, [], ◌∷◌, ◌++◌, refl, sym, ap, subst, ◌∙◌, arith, Option}
use Rattle.std.specs.List.{AllByRecursion}
use Rattle.cedar_names.specs.Place.{Place}
use Rattle.cedar_builders.specs.BareExpr.{BareExpr}
use Rattle.cedar_exprs.specs.BareExpr.{bare_expr}
use Rattle.cedar_exprs.specs.declared.expr.Expr.{Expr}
use Rattle.semantics_values.specs.BareValue.{BareCall}
use Rattle.semantics_values.specs.ValueExpr.{value_expr}
use Rattle.cedar_values.specs.BareValues.{kind_of, bare_value_kind, bare_value, value_place}
use Rattle.cedar_values.specs.Counts.{nodes}
use Rattle.cedar_values.specs.Rows.{filled, row_place, row_left, step_tree, step_place, step_left, IsRow, IsStep}
use Rattle.cedar_values.specs.declared.to_expr.Step.{Step}
use Rattle.cedar_values.specs.declared.to_expr.Step.TheVariants.{Made, Into}
use Rattle.cedar_values.specs.declared.to_expr.Waiting.{Waiting}
use Rattle.cedar_values.specs.declared.value.Value.{Value}
use Rattle.cedar_values.specs.declared.value.ValueKind.{ValueKind}
use Rattle.cedar_values.proofs.Levels.{value_tree}
use denote.Ref.{Bor}

-- an expression and its place
abbrev pub Placed : Type 0
Placed = BareExpr × Option Place

-- the expression of the outermost, by that of what comes next
abbrev pub rebuilt : {X : Type 0} → (X → BareCall) → List (Waiting X) → Placed → Placed
rebuilt C [] x = x
rebuilt C (w ∷ ws) x = (filled C w (rebuilt C ws x).0, row_place w)

-- what a step goes on to
abbrev pub step_placed : {X : Type 0} → (X → BareCall) → Step X → Placed
step_placed C s = (step_tree C s, step_place s)

-- the turns that are left where these wait
abbrev pub turns : {X : Type 0} → List (Waiting X) → ℕ
turns [] = 0
turns (w ∷ ws) = 1 + 2 * row_left w + turns ws

abbrev pub AreRows : {X : Type 0} → List (Waiting X) → Type 0
AreRows = AllByRecursion IsRow

module _ {X : Type 0} where
  rebuilt-snoc : (C : X → BareCall) (ws : List (Waiting X)) (w : Waiting X) (x : Placed) → rebuilt C (ws ++ w ∷ []) x ≡ rebuilt C ws (filled C w x.0, row_place w)
  rebuilt-snoc C [] w x = refl
  rebuilt-snoc C (v ∷ ws) w x = ap (λ (y : Placed). (filled C v y.0, row_place v)) (rebuilt-snoc C ws w x)

  turns-snoc : (ws : List (Waiting X)) (w : Waiting X) → turns (ws ++ w ∷ []) ≡ turns ws + (1 + 2 * row_left w)
  turns-snoc [] w = omega arith
  turns-snoc (v ∷ ws) w = omega (arith, turns-snoc ws w)

  rows-snoc : (ws : List (Waiting X)) (w : Waiting X) → AreRows ws → IsRow w → AreRows (ws ++ w ∷ [])
  rows-snoc [] w h k = (k, tt)
  rows-snoc (v ∷ ws) w h k = (h.0, rows-snoc ws w h.1 k)

  rows_but_last : (ws : List (Waiting X)) (w : Waiting X) → AreRows (ws ++ w ∷ []) → AreRows ws
  rows_but_last [] w h = tt
  rows_but_last (v ∷ ws) w h = (h.0, rows_but_last ws w h.1)

  last_row : (ws : List (Waiting X)) (w : Waiting X) → AreRows (ws ++ w ∷ []) → IsRow w
  last_row [] w h = h.0
  last_row (v ∷ ws) w h = last_row ws w h.1

  -- into a value: what waits for it is put behind the others
  module _ (C : X → BareCall) (all ws : List (Waiting X)) (w : Waiting X) (v : Bor (Value X)) (old : Step X) (is : all ≡ ws ++ w ∷ []) (was : old ≡ Into w v) (k : ValueKind X) (kind : k ≡ kind_of v.now) where
    in_value : bare_value v.now ≡ bare_value_kind k
    in_value = value_tree v.now ∙ ap bare_value_kind (sym kind)

    pub into_rebuilt : (p : Option Place) (next : Step X) (x : Placed) → p ≡ value_place v.now → step_tree C next ≡ value_expr C (bare_value_kind k) → step_place next ≡ p → rebuilt C ws (step_placed C old) ≡ x → rebuilt C all (step_placed C next) ≡ x
    into_rebuilt p next x place tree here h =
        ap (λ us. rebuilt C us (step_placed C next)) is
        ∙ rebuilt-snoc C ws w (step_placed C next)
        ∙ ap (λ t. rebuilt C ws (filled C w t, row_place w)) (tree ∙ sym (ap (value_expr C) in_value))
        ∙ sym (ap (λ s. rebuilt C ws (step_placed C s)) was)
        ∙ h

    pub into_rows : AreRows ws → IsStep old → AreRows all
    into_rows h k = subst AreRows (sym is) (rows-snoc ws w h (subst IsStep was k))

    pub into_fewer : (next : Step X) → step_left next < nodes (bare_value_kind k) → turns all + 2 * step_left next < turns ws + 2 * step_left old
    into_fewer next less =
        let a = ap turns is ∙ turns-snoc ws w in
        let b : step_left old ≡ nodes (bare_value v.now) + row_left w = ap step_left was in
        omega (arith, a, b, ap nodes in_value, less)

  -- back to what waits, with the expression of what comes next
  module _ (C : X → BareCall) (all ws : List (Waiting X)) (w : Waiting X) (e : Expr Unit) (old : Step X) (is : all ≡ ws ++ w ∷ []) (was : old ≡ Made e) where
    pub back_rebuilt : (next : Step X) (x : Placed) → step_tree C next ≡ filled C w (bare_expr e) → step_place next ≡ row_place w → rebuilt C all (step_placed C old) ≡ x → rebuilt C ws (step_placed C next) ≡ x
    back_rebuilt next x tree place h =
        (λ i. rebuilt C ws (tree i, place i)) ∙ sym ((λ i. rebuilt C (is i) (step_placed C (was i))) ∙ rebuilt-snoc C ws w (step_placed C (Made e))) ∙ h

    pub back_rows : AreRows all → AreRows ws
    back_rows h = rows_but_last ws w (subst AreRows is h)

    pub back_row : AreRows all → IsRow w
    back_row h = last_row ws w (subst AreRows is h)

    pub back_fewer : (next : Step X) → step_left next ≤ row_left w → turns ws + 2 * step_left next < turns all + 2 * step_left old
    back_fewer next less =
        let a = ap turns is ∙ turns-snoc ws w in
        let b : step_left old ≡ 0 = ap step_left was in
        omega (arith, a, b, less)
