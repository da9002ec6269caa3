-- Where the nodes of what is parsed stand in the text.
use Rattle.std.specs.Prelude.{◌≡◌, ◌++◌, ℕ, ◌≤◌, List, [], ◌∷◌, map}
use Rattle.std.specs.Prelude.{Option, None, Some, Result, IfOk}
use Rattle.std.specs.List.{flat_map}
use Rattle.std.specs.Rc.{rc_str_bytes}
use Rattle.cedar_names.specs.Place.{Place}
use Rattle.cedar_exprs.specs.declared.expr.Expr.{Expr}
use Rattle.cedar_exprs.specs.BareExpr.{expr_place}
use Rattle.cedar_exprs.specs.Walks.{children}
use Rattle.cedar_lexer.specs.declared.parse_failure.ParseFailure.{ParseFailure}
use Rattle.cedar_lexer.specs.declared.token.Span.{Span}
use Rattle.cedar_parser.specs.declared.groups.Group.{Group}
use Rattle.cedar_parser.specs.declared.groups.GroupKind.{GroupKind}
use Rattle.cedar_parser.specs.declared.groups.GroupKind.TheVariants as groups
use Rattle.cedar_parser.specs.declared.operand.Operand.{Operand}
use Rattle.cedar_parser.specs.declared.operand.Operation.{Operation}
use Rattle.cedar_parser.specs.declared.operand.Operation.TheVariants as operations
use Rattle.cedar_parser.specs.declared.nodes.Nodes.{Nodes}
use Rattle.cedar_parser.specs.declared.parser.Parser.{Parser}
use Rattle.cedar_parser.specs.Meant.{HasNoValues}
use Rattle.cedar_parser.specs.Refused.{start_of}

mutual
  -- `IsPlaced source from to e`: each node of the expression stands in the text `source`, between
  -- these two places, and its children stand within it
  pub data IsPlaced : List ℕ → ℕ → ℕ → Expr Unit → Type 0 where
    placed : {source : List ℕ} {from to : ℕ} {e : Expr Unit} (p : Place)
        → expr_place e ≡ Some p → p.src ≡ source
        → from ≤ p.start → p.start ≤ p.stop → p.stop ≤ to
        → ArePlaced source p.start p.stop (children e) → IsPlaced source from to e

  pub data ArePlaced : List ℕ → ℕ → ℕ → List (Expr Unit) → Type 0 where
    none_placed : {source : List ℕ} {from to : ℕ} → ArePlaced source from to []
    and_placed : {source : List ℕ} {from to : ℕ} {e : Expr Unit} {es : List (Expr Unit)}
        → IsPlaced source from to e → ArePlaced source from to es
        → ArePlaced source from to (e ∷ es)

-- the text in which nodes are made
abbrev pub source_of : Nodes → List ℕ
source_of n = rc_str_bytes n.source

-- a piece of that text
abbrev pub place_of : Nodes → Span → Place
place_of n s = record { start = s.start; stop = s.stop; src = source_of n }

-- a node at this piece of the text, with these children
pub record IsNodeAt (n : Nodes) (s : Span) (es : List (Expr Unit)) (e : Expr Unit) : Type 0 where
  pub place : expr_place e ≡ Some (place_of n s)
  pub over : children e ≡ es

-- the expressions of an operation that waits
abbrev pub operands_of : Operation → List (Expr Unit)
operands_of (operations.Prefix op start before) = []
operands_of (operations.Infix sign first) = first.expr ∷ []
operands_of (operations.IsIn is first) = is.expr ∷ first ∷ []
operands_of (operations.Else start test first) = test ∷ first ∷ []

-- the expressions of a group
abbrev pub items_of : GroupKind → List (Expr Unit)
items_of groups.Round = []
items_of groups.If = []
items_of (groups.Then test) = test ∷ []
items_of (groups.Row kind items) = items.items
items_of (groups.Record pairs key) = map (λ p. p.1) pairs.items

-- what is open: where it begins, and its expressions
abbrev pub waiting_part : Operation → ℕ × List (Expr Unit)
waiting_part o = (start_of o, operands_of o)

-- what waits for a group, and the group
abbrev pub group_parts : Group → List (ℕ × List (Expr Unit))
group_parts g = map waiting_part g.operations.items ++ ((g.start, items_of g.kind) ∷ [])

-- all that is open, the first first
abbrev pub open_parts : Parser → List (ℕ × List (Expr Unit))
open_parts r = flat_map group_parts r.groups.items ++ map waiting_part r.operations.items

-- each part begins where the one before it does, or later, and up to `at`; what stands in it does
-- so between its beginning and `to`
abbrev pub ArePartsPlaced : List ℕ → ℕ → ℕ → ℕ → List (ℕ × List (Expr Unit)) → Type 0
ArePartsPlaced source from at to [] = from ≤ at
ArePartsPlaced source from at to (p ∷ ps) =
    (from ≤ p.0) × ArePlaced source p.0 to p.1 × ArePartsPlaced source p.0 at to ps

-- nothing was put in for a name, and what is open stands in the text: it begins up to `at`, and
-- ends up to `to`
pub record AreOpenUpTo (source : List ℕ) (at to : ℕ) (r : Parser) : Type 0 where
  pub no_values : HasNoValues r.nodes
  pub source_is : source_of r.nodes ≡ source
  pub stands : ArePartsPlaced source 0 at to (open_parts r)

-- what is open and the operand stand in the text up to this place, and what is open begins before
-- the operand does
abbrev pub IsPlacedUpTo : List ℕ → ℕ → Parser → Option Operand → Type 0
IsPlacedUpTo source to r None = AreOpenUpTo source to to r
IsPlacedUpTo source to r (Some h) =
    AreOpenUpTo source h.span.start h.span.stop r
    × IsPlaced source h.span.start h.span.stop h.expr × (h.span.stop ≤ to)

-- the parser outside a group
abbrev pub around : Parser → Group → Parser
around r g = record { nodes = r.nodes; operations = g.operations; groups = r.groups }

-- what is around a group, what it holds and the expression behind that stand in the text up to this
-- place
pub record IsGroupPlaced (source : List ℕ) (to : ℕ) (r : Parser) (g : Group) (e : Expr Unit)
    : Type 0 where
  pub outside : AreOpenUpTo source g.start to (around r g)
  pub items : ArePlaced source g.start to (items_of g.kind)
  pub expr : IsPlaced source g.start to e

-- what stood in the text up to a place before a step does so up to a place behind it
abbrev pub PlacesOn : ℕ → Parser → Option Operand → ℕ → Parser
    → Result (Option Operand) ParseFailure → Type 0
PlacesOn at old h to new result =
    (source : List ℕ) → IsPlacedUpTo source at old h → IfOk result (IsPlacedUpTo source to new)
