-- The grammar of policies (Cedar's `grammar.lalrpop`, and what it makes of its nodes): which tokens are policies. A relation says that the tokens begin with
-- a part, and what follows; an expression is tokens of its own, which the grammar of conditions reads.
use Rattle.std.specs.Prelude.{◌≡◌, Bool, true, false, not, ℕ, List, [], ◌∷◌, ◌++◌, codes, map, IsTrue}
use Rattle.std.specs.List.{list_all}
use Rattle.std.specs.Str.{bytes_eq}
use Rattle.cedar_names.specs.Names.{BareName}
use Rattle.cedar_names.specs.declared.slot.SlotId.{SlotId}
use Rattle.cedar_names.specs.declared.slot.SlotId.TheVariants as slots
use Rattle.cedar_terms.specs.Entities.{BareEntityUID}
use Rattle.cedar_terms.specs.Ops.{var_text}
use Rattle.cedar_terms.specs.declared.var.Var.{Var as Variable}
use Rattle.cedar_terms.specs.declared.var.Var.TheVariants as variables
use Rattle.cedar_builders.specs.BareExpr.{Text, BareExpr, Set, trees_of}
use Rattle.cedar_builders.specs.Keys.{are_distinct}
use Rattle.cedar_lexer.specs.declared.token.TokenKind.{TokenKind}
use Rattle.cedar_lexer.specs.declared.token.TokenKind.TheVariants as kinds
use Rattle.semantics_grammar.specs.Grammar.{Stands}
use Rattle.semantics_grammar.specs.Lexemes.{Lexeme, lexeme}
use Rattle.semantics_grammar.specs.Written.{IsPath, IsTextOf}
use Rattle.semantics_policies.specs.Conditions.{entity_tree, operand_tree}
use Rattle.semantics_policies.specs.Policies.{Effect, permit, forbid, EntityOrSlot, ScopeConstraint, any, equals, is_in, is_of, is_of_in, ActionConstraint, any_action, action_equals, action_in, action_in_set, Clause, when_true, unless_true, BarePolicy}

-- a token that is a word, whatever use the grammar of conditions has for it
abbrev pub is_word_kind : TokenKind → Bool
is_word_kind kinds.Word = true
is_word_kind kinds.True = true
is_word_kind kinds.False = true
is_word_kind kinds.If = true
is_word_kind kinds.Then = true
is_word_kind kinds.Else = true
is_word_kind kinds.In = true
is_word_kind kinds.Is = true
is_word_kind kinds.Like = true
is_word_kind kinds.Has = true
is_word_kind k = false

-- `@key("text")`, or `@key`, whose text is empty, and then the rest
pub data IsAnnotation : List Lexeme → Text × Text → List Lexeme → Type 0 where
  with_text : {at k o q c : List ℕ} {kind : TokenKind} {t : Text} {rest : List Lexeme} → is_word_kind kind ≡ true → IsTextOf q t
      → IsAnnotation
      (lexeme kinds.At at ∷ lexeme kind k ∷ lexeme kinds.OpenRound o ∷ lexeme kinds.Quoted q ∷ lexeme kinds.CloseRound c ∷ rest) (k, t) rest
  without_text : {at k : List ℕ} {kind : TokenKind} {rest : List Lexeme} → is_word_kind kind ≡ true
      → IsAnnotation (lexeme kinds.At at ∷ lexeme kind k ∷ rest) (k, []) rest

-- annotations, one behind the other, and then the rest
pub data AreAnnotations : List Lexeme → List (Text × Text) → List Lexeme → Type 0 where
  no_annotations : {rest : List Lexeme} → AreAnnotations rest [] rest
  annotation : {a : Text × Text} {more : List (Text × Text)} {ts us rest : List Lexeme} → IsAnnotation ts a us → AreAnnotations us more rest
      → AreAnnotations ts (a ∷ more) rest

-- the word of an effect
abbrev pub effect_text : Effect → Text
effect_text permit = codes "permit"
effect_text forbid = codes "forbid"

-- what the scope says of a variable, whose slot this is: the variable, and maybe a constraint, and then the rest
pub data IsScope (v : Variable) (s : SlotId) : List Lexeme → ScopeConstraint → List Lexeme → Type 0 where
  unconstrained : {w : List ℕ} {rest : List Lexeme} → w ≡ var_text v → IsScope v s (lexeme kinds.Word w ∷ rest) any rest
  equal : {w e : List ℕ} {o : EntityOrSlot} {ts rest : List Lexeme} → w ≡ var_text v → Stands ts (operand_tree s o)
      → IsScope v s (lexeme kinds.Word w ∷ lexeme kinds.Equal e ∷ (ts ++ rest)) (equals o) rest
  within : {w i : List ℕ} {o : EntityOrSlot} {ts rest : List Lexeme} → w ≡ var_text v → Stands ts (operand_tree s o)
      → IsScope v s (lexeme kinds.Word w ∷ lexeme kinds.In i ∷ (ts ++ rest)) (is_in o) rest
  of_type : {w i : List ℕ} {n : BareName} {ts rest : List Lexeme} → w ≡ var_text v → IsPath ts n rest
      → IsScope v s (lexeme kinds.Word w ∷ lexeme kinds.Is i ∷ ts) (is_of n) rest
  of_type_within : {w i j : List ℕ} {n : BareName} {o : EntityOrSlot} {ts us rest : List Lexeme} → w ≡ var_text v
      → IsPath us n (lexeme kinds.In j ∷ (ts ++ rest)) → Stands ts (operand_tree s o)
      → IsScope v s (lexeme kinds.Word w ∷ lexeme kinds.Is i ∷ us) (is_of_in n o) rest

-- whether an entity is an action: the last name of its type is `Action`
abbrev pub is_action : BareEntityUID → Bool
is_action u = bytes_eq u.entity_type.basename (codes "Action")

-- what the scope says of the action, and then the rest
pub data IsActionScope : List Lexeme → ActionConstraint → List Lexeme → Type 0 where
  any_of_them : {w : List ℕ} {rest : List Lexeme} → w ≡ var_text variables.Action → IsActionScope (lexeme kinds.Word w ∷ rest) any_action rest
  equal_to : {w e : List ℕ} {u : BareEntityUID} {ts rest : List Lexeme} → w ≡ var_text variables.Action → is_action u ≡ true
      → Stands ts (entity_tree u)
      → IsActionScope (lexeme kinds.Word w ∷ lexeme kinds.Equal e ∷ (ts ++ rest)) (action_equals u) rest
  within_one : {w i : List ℕ} {u : BareEntityUID} {ts rest : List Lexeme} → w ≡ var_text variables.Action → is_action u ≡ true
      → Stands ts (entity_tree u)
      → IsActionScope (lexeme kinds.Word w ∷ lexeme kinds.In i ∷ (ts ++ rest)) (action_in u) rest
  within_set : {w i : List ℕ} {us : List BareEntityUID} {ts rest : List Lexeme} → w ≡ var_text variables.Action
      → list_all is_action us ≡ true → Stands ts (Set (trees_of (map entity_tree us)))
      → IsActionScope (lexeme kinds.Word w ∷ lexeme kinds.In i ∷ (ts ++ rest)) (action_in_set us) rest

-- whether a token is a slot
abbrev pub is_slot_token : Lexeme → Bool
is_slot_token (lexeme kinds.Slot w) = true
is_slot_token (lexeme k w) = false

-- tokens without a slot that stand for this tree
pub record IsClauseOf (ts : List Lexeme) (e : BareExpr) : Type 0 where
  pub stands : Stands ts e
  pub no_slot : IsTrue (list_all (λ t. not (is_slot_token t)) ts)

-- `when` or `unless` with an expression in curly brackets, and then the rest
pub data IsClause : List Lexeme → Clause → List Lexeme → Type 0 where
  when_clause : {w o : List ℕ} (c : List ℕ) {e : BareExpr} {ts rest : List Lexeme} → w ≡ codes "when" → IsClauseOf ts e
      → IsClause (lexeme kinds.Word w ∷ lexeme kinds.OpenCurly o ∷ (ts ++ (lexeme kinds.CloseCurly c ∷ rest))) (when_true e) rest
  unless_clause : {w o : List ℕ} (c : List ℕ) {e : BareExpr} {ts rest : List Lexeme} → w ≡ codes "unless" → IsClauseOf ts e
      → IsClause (lexeme kinds.Word w ∷ lexeme kinds.OpenCurly o ∷ (ts ++ (lexeme kinds.CloseCurly c ∷ rest))) (unless_true e) rest

-- clauses, one behind the other, and then the rest
pub data AreClauses : List Lexeme → List Clause → List Lexeme → Type 0 where
  no_clauses : {rest : List Lexeme} → AreClauses rest [] rest
  clause : {c : Clause} {cs : List Clause} {ts us rest : List Lexeme} → IsClause ts c us → AreClauses us cs rest → AreClauses ts (c ∷ cs) rest

-- the end of a scope: a round bracket, with maybe a comma before it, and then the rest
pub data EndsScope : List Lexeme → List Lexeme → Type 0 where
  closed : {c : List ℕ} {rest : List Lexeme} → EndsScope (lexeme kinds.CloseRound c ∷ rest) rest
  comma_closed : {m c : List ℕ} {rest : List Lexeme} → EndsScope (lexeme kinds.Comma m ∷ lexeme kinds.CloseRound c ∷ rest) rest

-- what stands between the round brackets of a policy, and then the rest
pub record IsWholeScope (ts : List Lexeme) (p : ScopeConstraint) (a : ActionConstraint) (r : ScopeConstraint) (rest : List Lexeme) : Type 0 where
  pub before_action : List Lexeme
  pub before_resource : List Lexeme
  pub before_end : List Lexeme
  pub first_comma : List ℕ
  pub second_comma : List ℕ
  pub principal : IsScope variables.Principal slots.Principal ts p (lexeme kinds.Comma first_comma ∷ before_action)
  pub action : IsActionScope before_action a (lexeme kinds.Comma second_comma ∷ before_resource)
  pub resource : IsScope variables.Resource slots.Resource before_resource r before_end
  pub end : EndsScope before_end rest

-- a policy, and then the rest; no two of its annotations have the same key
pub record IsPolicy (ts : List Lexeme) (p : BarePolicy) (rest : List Lexeme) : Type 0 where
  pub scope : List Lexeme
  pub before_clauses : List Lexeme
  pub bracket : List ℕ
  pub semicolon : List ℕ
  pub annotations : AreAnnotations ts p.annotations (lexeme kinds.Word (effect_text p.effect) ∷ lexeme kinds.OpenRound bracket ∷ scope)
  pub constraints : IsWholeScope scope p.principal p.action p.resource before_clauses
  pub clauses : AreClauses before_clauses p.clauses (lexeme kinds.Semicolon semicolon ∷ rest)
  pub keys : IsTrue (are_distinct (map (λ a. a.0) p.annotations))

-- the tokens are these policies, one behind the other
pub data ArePolicies : List Lexeme → List BarePolicy → Type 0 where
  no_policies : ArePolicies [] []
  policy : {p : BarePolicy} {ps : List BarePolicy} {ts rest : List Lexeme} → IsPolicy ts p rest → ArePolicies rest ps → ArePolicies ts (p ∷ ps)
