-- Walks by tasks: what a task asks for, what one step does, and what a walk answers.
use Rattle.std.specs.Prelude.{◌≡◌, ⊤, ℕ, List, [], ◌∷◌, ◌++◌, length, map, reverse, Result, Ok, Err}
use Rattle.cedar_builders.specs.BareExpr.{BareExpr}
use Rattle.cedar_builders.specs.NodeByNode.{gathered}
use Rattle.cedar_exprs.specs.BareExpr.{bare_expr}
use Rattle.cedar_exprs.specs.Walks.{children}
use Rattle.cedar_exprs.specs.declared.expr.Expr.{Expr}
use Rattle.cedar_exprs.specs.declared.walks.post_order.Task.{Task}
use Rattle.cedar_exprs.specs.declared.walks.post_order.Task.TheVariants.{Visit, Make}
use Rattle.cedar_exprs.specs.declared.walks.post_order.PostOrderFault.{PostOrderFault}
use Rattle.cedar_exprs.specs.declared.walks.post_order.PostOrderFault.TheVariants.{Refused, Memory}

-- to walk over a tree, or to make what its root gives when its children are done
pub data BareTask : Type 0 where
  to_visit : BareExpr → BareTask
  to_make : BareExpr → BareTask

abbrev pub bare_task : {T : Type 0} → Task T → BareTask
bare_task (Visit e) = to_visit (bare_expr e.now)
bare_task (Make e) = to_make (bare_expr e.now)

abbrev pub bare_tasks : {T : Type 0} → List (Task T) → List BareTask
bare_tasks = map bare_task

abbrev pub visits : List BareExpr → List BareTask
visits = map to_visit

-- to walk over expressions, the last first
abbrev pub last_first : {T : Type 0} → List (Expr T) → List BareTask
last_first es = reverse (visits (map bare_expr es))

abbrev pub children_of : {T : Type 0} → Expr T → List (Expr T)
children_of = children

-- the answer is what is wanted, its meaning or its refusal's, unless memory runs out
abbrev pub IsAnswer : {X R M F : Type 0} → (X → M) → (R → F) → Result M F → Result X (PostOrderFault R) → Type 0
IsAnswer meaning_of fault_of wanted (Ok x) = wanted ≡ Ok (meaning_of x)
IsAnswer meaning_of fault_of wanted (Err (Refused r)) = wanted ≡ Err (fault_of r)
IsAnswer meaning_of fault_of wanted (Err Memory) = ⊤

-- the last n of some results are taken off, and this holds of them
abbrev pub Takes : {X : Type 0} → ℕ → (List X → Type 0) → List X → List X → Type 0
Takes {X} n P all rest = (last : List X) × (all ≡ rest ++ last) × (length last ≡ n) × P last

-- the answer is made of the last n results, which are taken off, unless memory runs out
abbrev pub IsMade : {X R M F : Type 0} → (X → M) → (R → F) → (List M → Result M F → Type 0) → ℕ → List X → List X → Result X (PostOrderFault R) → Type 0
IsMade meaning_of fault_of IsMadeOf n all rest (Ok x) = Takes n (λ last. IsMadeOf (map meaning_of last) (Ok (meaning_of x))) all rest
IsMade meaning_of fault_of IsMadeOf n all rest (Err (Refused r)) = Takes n (λ last. IsMadeOf (map meaning_of last) (Err (fault_of r))) all rest
IsMade meaning_of fault_of IsMadeOf n all rest (Err Memory) = ⊤

-- what is made of the last n results is put in their place, unless memory runs out
abbrev pub IsPut : {X R M F : Type 0} → (X → M) → (R → F) → (List M → Result M F → Type 0) → ℕ → List X → List X → Result Unit (PostOrderFault R) → Type 0
IsPut {X} meaning_of fault_of IsMadeOf n all new (Ok _) = (out : X) × (rest : List X) × (new ≡ rest ++ out ∷ []) × Takes n (λ last. IsMadeOf (map meaning_of last) (Ok (meaning_of out))) all rest
IsPut meaning_of fault_of IsMadeOf n all new (Err (Refused r)) = Takes n (λ last. IsMadeOf (map meaning_of last) (Err (fault_of r))) all new
IsPut meaning_of fault_of IsMadeOf n all new (Err Memory) = ⊤

-- the first of some trees are made, one after the other, and walks over the others put onto the tasks;
-- or a refusal is the first of them all
abbrev pub IsBegun : {X R M F : Type 0} → (X → M) → (R → F) → (BareExpr → Result M F) → List BareExpr → List BareTask → List BareTask → List X → List X → Result Unit (PostOrderFault R) → Type 0
IsBegun {X} meaning_of fault_of answer es tasks all done new (Ok _) =
    (first : List BareExpr) × (later : List BareExpr) × (made : List X) × (es ≡ first ++ later) × (gathered answer first ≡ Ok (map meaning_of made))
    × (new ≡ done ++ made) × (all ≡ tasks ++ reverse (visits later))
IsBegun meaning_of fault_of answer es tasks all done new (Err (Refused r)) = gathered answer es ≡ Err (fault_of r)
IsBegun meaning_of fault_of answer es tasks all done new (Err Memory) = ⊤
