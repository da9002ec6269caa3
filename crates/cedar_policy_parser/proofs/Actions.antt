-- An action, or a set of actions, and what its tree has to be.
use Rattle.std.proofs.Common.{◌≡◌, true, List, [], ◌∷◌, map, Some, None, refl, sym, ◌∙◌, ap}
use Rattle.std.specs.Global.{Global}
use Rattle.std.specs.List.{list_all}
use Rattle.std.specs.declared.rc.Rc.{Rc}
use Rattle.std.proofs.lemmas.List.Folds.{list_all-map}
use Rattle.cedar_terms.specs.Entities.{BareEntityUID, bare_entity_uid}
use Rattle.cedar_terms.specs.Literals.{EntityLit}
use Rattle.cedar_terms.specs.declared.entity.EntityUID.{EntityUID}
use Rattle.cedar_builders.specs.BareExpr.{BareExpr, BareExprs, Lit, Set, no_trees, tree, trees_of}
use Rattle.cedar_lexer.specs.declared.parse_failure.ParseFailure.{ParseFailure}
use Rattle.cedar_lexer.specs.declared.parse_failure.ParseFailure.TheVariants as failure
use Rattle.semantics_grammar.specs.Lexemes.{Lexeme}
use Rattle.cedar_parser.proofs.Operators.{none_some}
use Rattle.semantics_policies.specs.Conditions.{entity_tree}
use Rattle.semantics_policies.specs.Grammar.{is_action}
use Rattle.semantics_policies.specs.Policies.{ActionConstraint, action_in, action_in_set}
use Rattle.cedar_policy_parser.specs.Complete.{IsBehindIn, one, more, IsExprUpTo}
use Rattle.cedar_policy_parser.specs.Scopes.{entity_of}
use Rattle.cedar_policy_parser.proofs.Constraints.{both_maps}
use Rattle.cedar_policy_parser.proofs.EntityTrees.{same_entity, some_entity}

-- the tree is an action, or a set of actions
pub data IsTreeOf (e : BareExpr) : ActionConstraint → Type 0 where
  of_one : {u : BareEntityUID} → e ≡ entity_tree u → is_action u ≡ true → IsTreeOf e (action_in u)
  of_set : {us : List BareEntityUID} → e ≡ Set (trees_of (map entity_tree us)) → list_all is_action us ≡ true → IsTreeOf e (action_in_set us)

-- no other failure is told
pub actions_refused : (c : ActionConstraint) (ts rest : List Lexeme) (e : ParseFailure)
    → ((x : BareExpr) (rest : List Lexeme) → IsExprUpTo ts x rest → e ≡ failure.Memory) → IsBehindIn ts c rest → e ≡ failure.Memory
actions_refused c ts rest e complete (one {u = u} h) = complete (entity_tree u) rest h.0
actions_refused c ts rest e complete (more {us = us} h a) = complete (Set (trees_of (map entity_tree us))) rest h

-- what was parsed is an action, or a set of actions
pub actions_tree : (c : ActionConstraint) (ts left rest : List Lexeme) (e : BareExpr)
    → ((x : BareExpr) (rest : List Lexeme) → IsExprUpTo ts x rest → (e ≡ x) × (left ≡ rest)) → IsBehindIn ts c rest → IsTreeOf e c × (left ≡ rest)
actions_tree c ts left rest e complete (one {u = u} h) = let g = complete (entity_tree u) rest h.0 in (of_one g.0 h.1, g.1)
actions_tree c ts left rest e complete (more {us = us} h k) =
    let g = complete (Set (trees_of (map entity_tree us))) rest h in (of_set g.0 k, g.1)

-- ---- one action

pub one_is : (c : ActionConstraint) (u : BareEntityUID) (e : BareExpr) → Some u ≡ entity_of e → IsTreeOf e c → (action_in u ≡ c) × (is_action u ≡ true)
one_is c u e h (of_one {u = v} t a) =
    let same = same_entity v u e t h in (ap action_in same, ap is_action same ∙ a)
one_is c u e h (of_set t a) = absurd (none_some (sym (h ∙ ap entity_of t)))

-- ---- a set of actions

-- the actions whose trees are the members of this set
pub record IsSetOf (c : ActionConstraint) (e : BareExpr) : Type 0 where
  pub uids : List BareEntityUID
  pub tree_is : e ≡ Set (trees_of (map entity_tree uids))
  pub actions : list_all is_action uids ≡ true
  pub all : c ≡ action_in_set uids

pub set_is : (c : ActionConstraint) (e : BareExpr) → None ≡ entity_of e → IsTreeOf e c → IsSetOf c e
set_is c e h (of_one {u = v} t a) = absurd (some_entity v e t h)
set_is c e h (of_set {us = us} t a) = record { uids = us; tree_is = t; actions = a; all = refl }

abbrev in_set : BareExpr → BareExprs
in_set (Set es) = es
in_set e = no_trees

abbrev list_of : BareExprs → List BareExpr
list_of no_trees = []
list_of (tree e es) = e ∷ list_of es

listed : (es : List BareExpr) → list_of (trees_of es) ≡ es
listed [] = refl
listed (e ∷ es) = ap (λ l. e ∷ l) (listed es)

-- a set has one list of members
pub members_are : (e : BareExpr) (xs ys : List BareExpr) → e ≡ Set (trees_of xs) → e ≡ Set (trees_of ys) → xs ≡ ys
members_are e xs ys h k = sym (listed xs) ∙ (ap (λ x. list_of (in_set x)) (sym h ∙ k) ∙ listed ys)

abbrev uids_in : List BareExpr → List BareEntityUID
uids_in [] = []
uids_in (Lit (EntityLit u) ∷ es) = u ∷ uids_in es
uids_in (e ∷ es) = uids_in es

uids_of : (us : List BareEntityUID) → uids_in (map entity_tree us) ≡ us
uids_of [] = refl
uids_of (u ∷ us) = ap (λ l. u ∷ l) (uids_of us)

-- entities that have the same trees
pub same_uids : (xs : List (Rc EntityUID Global)) (us : List BareEntityUID)
    → map (λ u. entity_tree (bare_entity_uid u.value)) xs ≡ map entity_tree us → map (λ u. bare_entity_uid u.value) xs ≡ us
same_uids xs us h =
    let uid : Rc EntityUID Global → BareEntityUID = λ u. bare_entity_uid u.value in
    sym (uids_of (map uid xs)) ∙ (ap uids_in (sym (both_maps entity_tree uid xs) ∙ h) ∙ uids_of us)

-- the actions that were found in the members of a set
pub set_found : (xs : List (Rc EntityUID Global)) (c : ActionConstraint) (e : BareExpr) (ms : List BareExpr) → IsSetOf c e → e ≡ Set (trees_of ms)
    → ms ≡ map (λ u. entity_tree (bare_entity_uid u.value)) xs
    → (action_in_set (map (λ u. bare_entity_uid u.value) xs) ≡ c) × (list_all (λ u. is_action (bare_entity_uid u.value)) xs ≡ true)
set_found xs c e ms s t m =
    let uid : Rc EntityUID Global → BareEntityUID = λ u. bare_entity_uid u.value in
    let same : map uid xs ≡ s.uids = same_uids xs s.uids (sym m ∙ members_are e ms (map entity_tree s.uids) t s.tree_is) in
    (ap action_in_set same ∙ sym s.all, sym (list_all-map is_action uid xs) ∙ (ap (list_all is_action) same ∙ s.actions))
