-- Where the parser refuses nothing: a part is answered and the rest is left, unless memory runs out.
use Rattle.std.specs.Prelude.{◌≡◌, ℕ, Bool, true, List, [], ◌∷◌, map, IsTrue, MatchResult, Result}
use Rattle.std.specs.List.{list_all}
use Rattle.cedar_names.specs.Names.{BareName}
use Rattle.cedar_names.specs.declared.slot.SlotId.{SlotId}
use Rattle.cedar_terms.specs.Entities.{BareEntityUID}
use Rattle.cedar_terms.specs.declared.var.Var.{Var as Variable}
use Rattle.cedar_builders.specs.BareExpr.{Text, BareExpr, Set, trees_of}
use Rattle.cedar_builders.specs.Keys.{are_distinct}
use Rattle.cedar_lexer.specs.Groups.{IsGroupEnd}
use Rattle.cedar_lexer.specs.declared.parse_failure.ParseFailure.{ParseFailure}
use Rattle.cedar_lexer.specs.declared.parse_failure.ParseFailure.TheVariants as failure
use Rattle.cedar_lexer.specs.declared.token.TokenKind.{TokenKind}
use Rattle.cedar_lexer.specs.declared.token.TokenKind.TheVariants as kinds
use Rattle.cedar_lexer.specs.declared.token_stream.TokenStream.{TokenStream}
use Rattle.semantics_grammar.specs.Lexemes.{Lexeme, lexeme, kinds_of_lexemes}
use Rattle.semantics_grammar.specs.Written.{IsPath}
use Rattle.cedar_parser.specs.Ahead.{ends_path}
use Rattle.cedar_parser.specs.Meant.{here}
use Rattle.semantics_policies.specs.Conditions.{entity_tree, operand_tree}
use Rattle.semantics_policies.specs.Grammar.{AreAnnotations, AreClauses, IsActionScope, IsAnnotation, IsScope, is_action}
use Rattle.semantics_policies.specs.Policies.{EntityOrSlot, ScopeConstraint, is_of, is_of_in, ActionConstraint, action_in, action_in_set, Clause}
use Rattle.cedar_policy_parser.specs.Streams.{BeginsWithExpr}

-- the first token is of this kind
abbrev pub Begins : TokenKind → List Lexeme → Type 0
Begins k [] = ⊥
Begins k (lexeme l w ∷ ts) = l ≡ k

-- nothing follows, or what ends a group of tokens
abbrev pub IsEnd : Bool → List Lexeme → Type 0
IsEnd comma ts = IsGroupEnd comma (kinds_of_lexemes ts)

-- this is answered and the rest is left, unless memory ran out
abbrev pub Gives : {A B : Type 0} → (A → B) → B → List Lexeme → TokenStream → Result A ParseFailure → Type 0
Gives f x rest new result = MatchResult result (λ r. (f r ≡ x) × (here new ≡ rest)) (λ e. e ≡ failure.Memory)

-- where the tokens begin with a part, that is answered and the rest is left, unless memory ran out
abbrev pub Completes : {A B : Type 0} → (A → B) → (List Lexeme → B → List Lexeme → Type 0) → TokenStream → TokenStream
    → Result A ParseFailure → Type 0
Completes {B = B} f P old new result = (x : B) (rest : List Lexeme) → P (here old) x rest → Gives f x rest new result

-- ---- parts, behind which a group of tokens ends

-- some tokens that stand for this tree
abbrev pub IsExprUpTo : List Lexeme → BareExpr → List Lexeme → Type 0
IsExprUpTo ts e rest = BeginsWithExpr ts e rest × IsEnd true rest

-- an entity, or this slot
abbrev pub IsOperandUpTo : SlotId → List Lexeme → EntityOrSlot → List Lexeme → Type 0
IsOperandUpTo s ts o rest = IsExprUpTo ts (operand_tree s o) rest

-- an action
abbrev pub IsActionUpTo : List Lexeme → BareEntityUID → List Lexeme → Type 0
IsActionUpTo ts u rest = IsExprUpTo ts (entity_tree u) rest × (is_action u ≡ true)

-- what stands behind `action in`: an action, or a set of actions
pub data IsBehindIn : List Lexeme → ActionConstraint → List Lexeme → Type 0 where
  one : {u : BareEntityUID} {ts rest : List Lexeme} → IsActionUpTo ts u rest → IsBehindIn ts (action_in u) rest
  more : {us : List BareEntityUID} {ts rest : List Lexeme} → IsExprUpTo ts (Set (trees_of (map entity_tree us))) rest
      → list_all is_action us ≡ true → IsBehindIn ts (action_in_set us) rest

-- a path, behind which it does not go on
abbrev pub IsPathUpTo : List Lexeme → BareName → List Lexeme → Type 0
IsPathUpTo ts n rest = IsPath ts n rest × (ends_path rest ≡ true)

-- behind a type: nothing, or `in` with an entity or this slot
abbrev pub BehindType : SlotId → BareName → List Lexeme → ScopeConstraint → List Lexeme → Type 0
BehindType s n (lexeme kinds.In j ∷ ts) c rest = (o : EntityOrSlot) × IsOperandUpTo s ts o rest × (c ≡ is_of_in n o)
BehindType s n ts c rest = (ts ≡ rest) × (c ≡ is_of n)

-- what stands behind `is`: a type, and maybe what the entities are in
pub record IsBehindIs (s : SlotId) (ts : List Lexeme) (c : ScopeConstraint) (rest : List Lexeme) : Type 0 where
  pub name : BareName
  pub behind : List Lexeme
  pub path : IsPathUpTo ts name behind
  pub left : BehindType s name behind c rest

-- what the scope says of a variable
abbrev pub IsScopeUpTo : Variable → SlotId → List Lexeme → ScopeConstraint → List Lexeme → Type 0
IsScopeUpTo v s ts c rest = IsScope v s ts c rest × IsEnd true rest

-- what it says of the action
abbrev pub IsActionScopeUpTo : List Lexeme → ActionConstraint → List Lexeme → Type 0
IsActionScopeUpTo ts c rest = IsActionScope ts c rest × IsEnd true rest

-- ---- parts, behind which others stand

-- behind `@` an annotation, and then no bracket
pub record IsAnnotationUpTo (ts : List Lexeme) (a : Text × Text) (rest : List Lexeme) : Type 0 where
  pub at : List ℕ
  pub annotation : IsAnnotation (lexeme kinds.At at ∷ ts) a rest
  pub ends : Begins kinds.OpenRound rest → ⊥

-- annotations, of which no two have the same key, and then a word
pub record AreAnnotationsUpTo (ts : List Lexeme) (found : List (Text × Text)) (rest : List Lexeme) : Type 0 where
  pub all : AreAnnotations ts found rest
  pub keys : IsTrue (are_distinct (map (λ a. a.0) found))
  pub ends : Begins kinds.Word rest

-- clauses, and then a semicolon
abbrev pub AreClausesUpTo : List Lexeme → List Clause → List Lexeme → Type 0
AreClausesUpTo ts cs rest = AreClauses ts cs rest × Begins kinds.Semicolon rest
