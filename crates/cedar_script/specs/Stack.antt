-- The state of a script: a stack of expressions, whose top stands first here, and what names are
-- bound to.
use Rattle.std.specs.Prelude.{◌≡◌, ◌≢◌, ℕ, ◌+◌, List, [], ◌∷◌, Option, Some, OnOk, Result, drop, take, reverse}
use Rattle.std.specs.Vec.{vec_len}
use Rattle.std.specs.declared.cmp.Ordering.{Ordering}
use Rattle.cedar_terms.specs.Types.{BareType}
use Rattle.cedar_builders.specs.BareExpr.{Text, BareExpr}
use Rattle.cedar_builders.specs.Environment.{Env}
use Rattle.semantics_values.specs.BareValue.{BareValue}
use Rattle.semantics_values.specs.Reading.{IsValueOf}
use Rattle.semantics_values.specs.ValueExpr.{value_expr}
use Rattle.semantics_values.specs.ValueTypes.{value_type}
use Rattle.cedar_exprs.specs.declared.expr.Expr.{Expr}
use Rattle.cedar_values.specs.Holders.{NoExtension, held_name, held_call, plain_env}
use Rattle.cedar_values.specs.ValueMaps.{ValueMap}
use Rattle.cedar_script.specs.declared.work.State.{State}

-- the expressions on a stack, the top first
abbrev pub Stack : Type 0
Stack = List (Expr Unit)

-- the stack of a state
abbrev pub stack_of : State → Stack
stack_of state = reverse state.stack.items

-- how many expressions are on it
abbrev pub depth : State → ℕ
depth state = vec_len state.stack

-- what names are bound to
abbrev pub Bindings : Type 0
Bindings = ValueMap NoExtension

abbrev pub bindings_of : State → Bindings
bindings_of state = state.bindings

-- the bindings stay; and where there is no error, so many expressions are taken and so many put in
-- their place
abbrev pub Exchanges : {A E : Type 0} → ℕ → ℕ → State → State → Result A E → Type 0
Exchanges taken put old new result =
    (bindings_of new ≡ bindings_of old) × OnOk result (depth new + taken ≡ depth old + put)

-- the type and the tree of what each name is bound to, as substitution sees it
abbrev pub environment : Bindings → Env
environment = plain_env

-- what a value binds a name to
abbrev pub binding_of : BareValue NoExtension → Option (BareType × BareExpr)
binding_of v = Some (value_type held_name v, value_expr held_call v)

-- what is bound once a name is: to this name the entry, and to every other what was
pub record IsBoundTo (name : Text) (entry : Option (BareType × BareExpr)) (old new : Env) : Type 0 where
  pub bound : new name ≡ entry
  pub kept : (other : Text) → other ≢ name → new other ≡ old other

-- the tree is that of a value, and the name is bound to this value; R is the order of extension
-- values, of which there are none
abbrev pub IsBoundToValueOf : (NoExtension → NoExtension → Ordering) → Text → BareExpr → Env → Env → Type 0
IsBoundToValueOf R name e old new = (v : BareValue NoExtension) × IsValueOf R e v × IsBoundTo name (binding_of v) old new

-- an expression with the property stands on the old stack
abbrev pub Pushes : (Expr Unit → Type 0) → Stack → Stack → Type 0
Pushes P old [] = ⊥
Pushes P old (e ∷ below) = P e × (below ≡ old)

-- the top has the property
abbrev pub TopHas : (Expr Unit → Type 0) → Stack → Type 0
TopHas P [] = ⊥
TopHas P (a ∷ below) = P a

-- an expression with the property stands in place of one, of two or of three, whose lowest is the
-- first
abbrev pub ReplacesOne : (Expr Unit → Expr Unit → Type 0) → Stack → Stack → Type 0
ReplacesOne P [] new = ⊥
ReplacesOne P (a ∷ below) new = Pushes (P a) below new

abbrev pub ReplacesTwo : (Expr Unit → Expr Unit → Expr Unit → Type 0) → Stack → Stack → Type 0
ReplacesTwo P [] new = ⊥
ReplacesTwo P (b ∷ below) new = ReplacesOne (λ a e. P a b e) below new

abbrev pub ReplacesThree : (Expr Unit → Expr Unit → Expr Unit → Expr Unit → Type 0) → Stack → Stack → Type 0
ReplacesThree P [] new = ⊥
ReplacesThree P (c ∷ below) new = ReplacesTwo (λ a b e. P a b c e) below new

-- an expression with the property stands in place of the topmost of this count, given the lowest
-- first
abbrev pub ReplacesMany : ℕ → (Stack → Expr Unit → Type 0) → Stack → Stack → Type 0
ReplacesMany count P old new = Pushes (P (reverse (take count old))) (drop count old) new
