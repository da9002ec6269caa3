-- The first node that is no literal, set or record (`NotValue` of Cedar's `value.rs`).
use Rattle.std.specs.Prelude.{◌≡◌, ⊤, Bool, true, false, List, Option, Some, option_map, Result, Ok, Err}
use Rattle.cedar_exprs.specs.BareExpr.{expr_place}
use Rattle.cedar_exprs.specs.FirstNodes.{first_failing, first_failing_of}
use Rattle.cedar_exprs.specs.declared.expr.Expr.{Expr}
use Rattle.semantics_values.specs.Reading.{is_readable_node}
use Rattle.cedar_values.specs.declared.not_value.NotValue.{NotValue}
use Rattle.cedar_values.specs.declared.not_value.NotValue.TheVariants as error

-- the first such node in preorder
abbrev pub first_not_readable : {T : Type 0} → Expr T → Option (Expr T)
first_not_readable = first_failing is_readable_node

-- the same in a list of expressions
abbrev pub first_not_readable_of : {T : Type 0} → List (Expr T) → Option (Expr T)
first_not_readable_of = first_failing_of is_readable_node

-- the refusal has the place of the node that was found, or memory ran out
abbrev pub IsNotValueAt : {T : Type 0} → Option (Expr T) → NotValue → Type 0
IsNotValueAt found (error.NotValue loc) = option_map expr_place found ≡ Some loc
IsNotValueAt found error.Memory = ⊤

-- an answer just where it is said to come, unless memory runs out
abbrev pub IsAnswerWhere : {A : Type 0} → Bool → Result A NotValue → Type 0
IsAnswerWhere b (Ok a) = b ≡ true
IsAnswerWhere b (Err (error.NotValue loc)) = b ≡ false
IsAnswerWhere b (Err error.Memory) = ⊤
