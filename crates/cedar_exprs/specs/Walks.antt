-- Walks over whole expressions, with their places and data.
use Rattle.std.specs.Prelude.{ℕ, List, [], ◌∷◌, map}
use Rattle.cedar_builders.specs.Walks.{forward, backward, need, need_from}
use Rattle.cedar_exprs.specs.BareExpr.{ExprKind, bare_expr, kind_of}
use Rattle.cedar_exprs.specs.declared.expr.Expr.{Expr, Expr-F, para-Expr, roll-Expr}
use Rattle.cedar_exprs.specs.declared.expr.Expr.TheFolds.{map-Expr}
use Rattle.cedar_exprs.specs.declared.expr.KindOf.{KindOf}
use denote.Ref.{Bor}

-- what stands in the places of the children of a kind (`ExprKind` of Cedar's `expr.rs`): fields in order, values by key
abbrev pub parts : {E : Type 0} → KindOf E → List E
parts (KindOf.Lit l) = []
parts (KindOf.Var v) = []
parts (KindOf.Slot s) = []
parts (KindOf.Unknown u) = []
parts (KindOf.If a b c) = a.value ∷ b.value ∷ c.value ∷ []
parts (KindOf.And a b) = a.value ∷ b.value ∷ []
parts (KindOf.Or a b) = a.value ∷ b.value ∷ []
parts (KindOf.UnaryApp o a) = a.value ∷ []
parts (KindOf.BinaryApp o a b) = a.value ∷ b.value ∷ []
parts (KindOf.ExtensionFunctionApp n es) = es.value.items
parts (KindOf.GetAttr a k) = a.value ∷ []
parts (KindOf.HasAttr a ks) = a.value ∷ []
parts (KindOf.Like a p) = a.value ∷ []
parts (KindOf.Set es) = es.value.items
parts (KindOf.Record es) = map (λ e. e.1) es.value.entries
parts (KindOf.Is a n) = a.value ∷ []

-- the children of a kind
abbrev pub kind_children : {T : Type 0} → ExprKind T → List (Expr T)
kind_children = parts

-- the children of an expression
abbrev pub children : {T : Type 0} → Expr T → List (Expr T)
children e = kind_children (kind_of e)

-- what a step makes of an expression and of what it made of the children
module _ {T A : Type 0} (step : Expr T → List A → A) where
  -- of a node whose children come with what was made of them
  abbrev pub walked : Expr-F T (Expr T × A) → A
  walked e = step (roll-Expr T (map-Expr T (Expr T × A) (Expr T) (λ c. c.0) e)) (map (λ c. c.1) (parts e.expr_kind))

  unfoldable pub walk : Expr T → A
  walk = para-Expr T A walked

-- each node before its children, the first child first
abbrev pub preorder : {T : Type 0} → Expr T → List (Expr T)
preorder = walk (λ e below. e ∷ forward below)

-- each node before its children, the last child first (`expr_iterator.rs`)
abbrev pub positions : {T : Type 0} → Expr T → List (Expr T)
positions = walk (λ e below. e ∷ backward below)

-- what references show
abbrev pub referents : {A : Type 0} → List (Bor A) → List A
referents = map (λ x. x.now)

-- what a stack of expressions still gives, the last first
abbrev pub given_by : {T : Type 0} → List (Expr T) → List (Expr T)
given_by es = backward (map positions es)

-- the entries that it needs
abbrev pub needs : {T : Type 0} → List (Expr T) → List ℕ
needs es = map need (map bare_expr es)

abbrev pub need_of : {T : Type 0} → List (Expr T) → ℕ
need_of es = need_from 0 (needs es)
