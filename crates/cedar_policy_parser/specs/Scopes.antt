-- What scopes are parsed from.
use Rattle.std.specs.Prelude.{◌≡◌, ℕ, true, List, ◌∷◌, Option, Some, None}
use Rattle.cedar_names.specs.declared.slot.SlotId.{SlotId}
use Rattle.cedar_terms.specs.Entities.{BareEntityUID}
use Rattle.cedar_terms.specs.Literals.{BareLiteral, EntityLit}
use Rattle.cedar_terms.specs.Ops.{var_text}
use Rattle.cedar_terms.specs.declared.var.Var.{Var as Variable}
use Rattle.cedar_terms.specs.declared.var.Var.TheVariants as variables
use Rattle.cedar_builders.specs.BareExpr.{BareExpr, Lit, Slot}
use Rattle.cedar_lexer.specs.declared.token.TokenKind.TheVariants as kinds
use Rattle.semantics_grammar.specs.Lexemes.{Lexeme, lexeme}
use Rattle.semantics_policies.specs.Conditions.{entity_tree}
use Rattle.semantics_policies.specs.Grammar.{IsActionScope, IsScope, IsWholeScope, is_action}
use Rattle.semantics_policies.specs.Policies.{ActionConstraint, ScopeConstraint}
use Rattle.cedar_policies.specs.Policies.{bare_action, bare_scope}
use Rattle.cedar_policy_parser.specs.Streams.{BeginsWithExpr}
use Rattle.cedar_policy_parser.specs.declared.scope.Scope.{Scope}

-- the entity that a literal is
abbrev pub literal_entity : BareLiteral → Option BareEntityUID
literal_entity (EntityLit u) = Some u
literal_entity l = None

-- the entity that a tree is the literal of
abbrev pub entity_of : BareExpr → Option BareEntityUID
entity_of (Lit l) = literal_entity l
entity_of e = None

-- the slot that a tree is
abbrev pub slot_of : BareExpr → Option SlotId
slot_of (Slot s) = Some s
slot_of e = None

-- the tokens begin with some that stand for this entity, which is an action, and the rest follows
pub record BeginsWithAction (ts : List Lexeme) (u : BareEntityUID) (rest : List Lexeme) : Type 0 where
  pub entity : BeginsWithExpr ts (entity_tree u) rest
  pub action : is_action u ≡ true

-- behind any variable and `is` the tokens say this, and then the rest
abbrev pub IsScopeBehindIs : SlotId → List Lexeme → ScopeConstraint → List Lexeme → Type 0
IsScopeBehindIs s ts c rest =
    (v : Variable) (w i : List ℕ) → w ≡ var_text v → IsScope v s (lexeme kinds.Word w ∷ lexeme kinds.Is i ∷ ts) c rest

-- behind `action in` the tokens say this, and then the rest
abbrev pub IsActionBehindIn : List Lexeme → ActionConstraint → List Lexeme → Type 0
IsActionBehindIn ts c rest =
    (w i : List ℕ) → w ≡ var_text variables.Action → IsActionScope (lexeme kinds.Word w ∷ lexeme kinds.In i ∷ ts) c rest

-- what a whole scope says, and then the rest
abbrev pub IsWholeScopeOf : List Lexeme → Scope → List Lexeme → Type 0
IsWholeScopeOf ts s rest = IsWholeScope ts (bare_scope s.principal) (bare_action s.action) (bare_scope s.resource) rest

-- it says this of the principal, the action and the resource
pub record IsScopeOf (s : Scope) (p : ScopeConstraint) (a : ActionConstraint) (r : ScopeConstraint) : Type 0 where
  pub principal : bare_scope s.principal ≡ p
  pub action : bare_action s.action ≡ a
  pub resource : bare_scope s.resource ≡ r
