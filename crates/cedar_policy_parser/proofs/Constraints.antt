-- What scopes say, part by part.
use Rattle.std.proofs.Common.{◌≡◌, ℕ, true, List, [], ◌∷◌, map, Result, Ok, Err, refl, sym, ◌∙◌, ap, subst}
use Rattle.std.specs.Global.{Global}
use Rattle.std.specs.List.{list_all}
use Rattle.std.specs.declared.rc.Rc.{Rc}
use Rattle.std.proofs.lemmas.List.Folds.{list_all-map}
use Rattle.cedar_names.specs.Names.{BareName}
use Rattle.cedar_names.specs.declared.slot.SlotId.{SlotId}
use Rattle.cedar_terms.specs.Entities.{BareEntityUID, bare_entity_uid}
use Rattle.cedar_terms.specs.declared.entity.EntityUID.{EntityUID}
use Rattle.cedar_terms.specs.Ops.{var_text}
use Rattle.cedar_terms.specs.declared.var.Var.{Var as Variable}
use Rattle.cedar_terms.specs.declared.var.Var.TheVariants as variables
use Rattle.cedar_builders.specs.BareExpr.{BareExpr, Set, trees_of}
use Rattle.cedar_lexer.specs.declared.parse_failure.ParseFailure.{ParseFailure}
use Rattle.cedar_lexer.specs.declared.token.Token.{Token}
use Rattle.cedar_lexer.specs.declared.token.TokenKind.TheVariants as kinds
use Rattle.cedar_lexer.specs.declared.token_stream.TokenStream.{TokenStream}
use Rattle.semantics_grammar.specs.Lexemes.{Lexeme, lexeme}
use Rattle.semantics_grammar.specs.Written.{IsPath}
use Rattle.cedar_parser.specs.Meant.{here}
use Rattle.semantics_policies.specs.Conditions.{entity_tree, operand_tree}
use Rattle.semantics_policies.specs.Grammar.{EndsScope, closed, comma_closed, IsActionScope, any_of_them, equal_to, within_one, within_set, is_action, IsScope, unconstrained, equal, within, of_type, of_type_within}
use Rattle.semantics_policies.specs.Policies.{EntityOrSlot, ScopeConstraint, any, equals, is_in, is_of, is_of_in, ActionConstraint, any_action, action_equals, action_in, action_in_set}
use Rattle.cedar_policy_parser.specs.Scopes.{BeginsWithAction, IsActionBehindIn, IsScopeBehindIs}
use Rattle.cedar_policy_parser.specs.Streams.{BeginsWithExpr, IsRest, IsTokenTaken, Parses}
use Rattle.cedar_policy_parser.proofs.EntityTrees.{entity_found, slot_is}
use Rattle.cedar_policy_parser.proofs.Taken.{rest_rest, within_rest}

-- two tokens in front
front : (k l : Lexeme) (t0 t1 t2 : List Lexeme) → t0 ≡ k ∷ t1 → t1 ≡ l ∷ t2 → t0 ≡ k ∷ l ∷ t2
front k l t0 t1 t2 h i = h ∙ ap (λ t. k ∷ t) i

pub any_said : (v : Variable) (s : SlotId) (w : List ℕ) (t0 t1 t2 : List Lexeme) → w ≡ var_text v → t0 ≡ lexeme kinds.Word w ∷ t1 → t2 ≡ t1
    → IsScope v s t0 any t2
any_said v s w t0 t1 t2 wv h e =
    subst (λ x. IsScope v s x any t2) (sym (h ∙ ap (λ t. lexeme kinds.Word w ∷ t) (sym e))) (unconstrained wv)

pub equal_said : (v : Variable) (s : SlotId) (o : EntityOrSlot) (w q : List ℕ) (t0 t1 t2 t3 : List Lexeme) → w ≡ var_text v
    → t0 ≡ lexeme kinds.Word w ∷ t1 → t1 ≡ lexeme kinds.Equal q ∷ t2 → BeginsWithExpr t2 (operand_tree s o) t3 → IsScope v s t0 (equals o) t3
equal_said v s o w q t0 t1 t2 t3 wv h i b =
    subst (λ x. IsScope v s x (equals o) t3)
    (sym (front _ _ t0 t1 t2 h i ∙ ap (λ t. lexeme kinds.Word w ∷ lexeme kinds.Equal q ∷ t) b.split)) (equal wv b.stands)

pub in_said : (v : Variable) (s : SlotId) (o : EntityOrSlot) (w q : List ℕ) (t0 t1 t2 t3 : List Lexeme) → w ≡ var_text v
    → t0 ≡ lexeme kinds.Word w ∷ t1 → t1 ≡ lexeme kinds.In q ∷ t2 → BeginsWithExpr t2 (operand_tree s o) t3 → IsScope v s t0 (is_in o) t3
in_said v s o w q t0 t1 t2 t3 wv h i b =
    subst (λ x. IsScope v s x (is_in o) t3)
    (sym (front _ _ t0 t1 t2 h i ∙ ap (λ t. lexeme kinds.Word w ∷ lexeme kinds.In q ∷ t) b.split)) (within wv b.stands)

pub is_said : (v : Variable) (s : SlotId) (c : ScopeConstraint) (w q : List ℕ) (t0 t1 t2 t3 : List Lexeme) → w ≡ var_text v
    → t0 ≡ lexeme kinds.Word w ∷ t1 → t1 ≡ lexeme kinds.Is q ∷ t2 → IsScopeBehindIs s t2 c t3 → IsScope v s t0 c t3
is_said v s c w q t0 t1 t2 t3 wv h i b = subst (λ x. IsScope v s x c t3) (sym (front _ _ t0 t1 t2 h i)) (b v w q wv)

pub type_said : (s : SlotId) (n : BareName) (t0 t1 t2 : List Lexeme) → IsPath t0 n t1 → t2 ≡ t1 → IsScopeBehindIs s t0 (is_of n) t2
type_said s n t0 t1 t2 p e v w i wv = of_type wv (subst (IsPath t0 n) (sym e) p)

pub type_in_said : (s : SlotId) (n : BareName) (o : EntityOrSlot) (j : List ℕ) (t0 t1 t2 t3 : List Lexeme) → IsPath t0 n t1
    → t1 ≡ lexeme kinds.In j ∷ t2 → BeginsWithExpr t2 (operand_tree s o) t3 → IsScopeBehindIs s t0 (is_of_in n o) t3
type_in_said s n o j t0 t1 t2 t3 p e b v w i wv =
    of_type_within wv (subst (IsPath t0 n) (e ∙ ap (λ t. lexeme kinds.In j ∷ t) b.split) p) b.stands

pub any_action_said : (w : List ℕ) (t0 t1 t2 : List Lexeme) → w ≡ var_text variables.Action → t0 ≡ lexeme kinds.Word w ∷ t1 → t2 ≡ t1
    → IsActionScope t0 any_action t2
any_action_said w t0 t1 t2 wv h e =
    subst (λ x. IsActionScope x any_action t2) (sym (h ∙ ap (λ t. lexeme kinds.Word w ∷ t) (sym e))) (any_of_them wv)

pub action_said : (u : BareEntityUID) (w q : List ℕ) (t0 t1 t2 t3 : List Lexeme) → w ≡ var_text variables.Action
    → t0 ≡ lexeme kinds.Word w ∷ t1 → t1 ≡ lexeme kinds.Equal q ∷ t2 → BeginsWithAction t2 u t3 → IsActionScope t0 (action_equals u) t3
action_said u w q t0 t1 t2 t3 wv h i b =
    subst (λ x. IsActionScope x (action_equals u) t3)
    (sym (front _ _ t0 t1 t2 h i ∙ ap (λ t. lexeme kinds.Word w ∷ lexeme kinds.Equal q ∷ t) b.entity.split))
    (equal_to wv b.action b.entity.stands)

pub actions_said : (c : ActionConstraint) (w q : List ℕ) (t0 t1 t2 t3 : List Lexeme) → w ≡ var_text variables.Action
    → t0 ≡ lexeme kinds.Word w ∷ t1 → t1 ≡ lexeme kinds.In q ∷ t2 → IsActionBehindIn t2 c t3 → IsActionScope t0 c t3
actions_said c w q t0 t1 t2 t3 wv h i b = subst (λ x. IsActionScope x c t3) (sym (front _ _ t0 t1 t2 h i)) (b w q wv)

pub one_action_said : (u : BareEntityUID) (t0 t1 : List Lexeme) → BeginsWithAction t0 u t1 → IsActionBehindIn t0 (action_in u) t1
one_action_said u t0 t1 b w i wv =
    subst (λ x. IsActionScope x (action_in u) t1) (sym (ap (λ t. lexeme kinds.Word w ∷ lexeme kinds.In i ∷ t) b.entity.split))
    (within_one wv b.action b.entity.stands)

-- ---- the same of the streams from which the parts are taken

pub any_parsed : (v : Variable) (s : SlotId) (w : Token) (t0 t1 : TokenStream) → w.text.now ≡ var_text v → IsTokenTaken kinds.Word w t0 t1
    → IsScope v s (here t0) any (here t1) × IsRest t0 t1
any_parsed v s w t0 t1 wv h = (any_said v s w.text.now (here t0) (here t1) (here t1) wv h.first refl, h.rest)

pub equal_parsed : (v : Variable) (s : SlotId) (o : EntityOrSlot) (w q : Token) (t0 t1 t2 t3 : TokenStream) → w.text.now ≡ var_text v
    → IsTokenTaken kinds.Word w t0 t1 → IsTokenTaken kinds.Equal q t1 t2 → BeginsWithExpr (here t2) (operand_tree s o) (here t3) × IsRest t2 t3
    → IsScope v s (here t0) (equals o) (here t3) × IsRest t0 t3
equal_parsed v s o w q t0 t1 t2 t3 wv h i b = (
  equal_said v s o w.text.now q.text.now (here t0) (here t1) (here t2) (here t3) wv h.first i.first b.0,
  rest_rest t0 t1 t3 h.rest (rest_rest t1 t2 t3 i.rest b.1),
)

pub in_parsed : (v : Variable) (s : SlotId) (o : EntityOrSlot) (w q : Token) (t0 t1 t2 t3 : TokenStream) → w.text.now ≡ var_text v
    → IsTokenTaken kinds.Word w t0 t1 → IsTokenTaken kinds.In q t1 t2 → BeginsWithExpr (here t2) (operand_tree s o) (here t3) × IsRest t2 t3
    → IsScope v s (here t0) (is_in o) (here t3) × IsRest t0 t3
in_parsed v s o w q t0 t1 t2 t3 wv h i b = (
  in_said v s o w.text.now q.text.now (here t0) (here t1) (here t2) (here t3) wv h.first i.first b.0,
  rest_rest t0 t1 t3 h.rest (rest_rest t1 t2 t3 i.rest b.1),
)

-- what is parsed behind a variable and `is`, or why it is not
pub is_parsed : {A : Type 0} (f : A → ScopeConstraint) (v : Variable) (s : SlotId) (w q : Token) (t0 t1 t2 t3 : TokenStream) (r : Result A ParseFailure)
    → w.text.now ≡ var_text v → IsTokenTaken kinds.Word w t0 t1 → IsTokenTaken kinds.Is q t1 t2
    → Parses (λ ts c rest. IsScopeBehindIs s ts (f c) rest) t2 t3 r → Parses (λ ts c rest. IsScope v s ts (f c) rest) t0 t3 r
is_parsed f v s w q t0 t1 t2 t3 (Ok c) wv h i b = (
  is_said v s (f c) w.text.now q.text.now (here t0) (here t1) (here t2) (here t3) wv h.first i.first b.0,
  rest_rest t0 t1 t3 h.rest (rest_rest t1 t2 t3 i.rest b.1),
)
is_parsed f v s w q t0 t1 t2 t3 (Err e) wv h i b = within_rest t0 t1 e h.rest (within_rest t1 t2 e i.rest b)

pub type_parsed : (s : SlotId) (n : BareName) (t0 t1 : TokenStream) → IsPath (here t0) n (here t1) × IsRest t0 t1
    → IsScopeBehindIs s (here t0) (is_of n) (here t1) × IsRest t0 t1
type_parsed s n t0 t1 h = (type_said s n (here t0) (here t1) (here t1) h.0 refl, h.1)

pub type_in_parsed : (s : SlotId) (n : BareName) (o : EntityOrSlot) (j : Token) (t0 t1 t2 t3 : TokenStream)
    → IsPath (here t0) n (here t1) × IsRest t0 t1 → IsTokenTaken kinds.In j t1 t2
    → BeginsWithExpr (here t2) (operand_tree s o) (here t3) × IsRest t2 t3
    → IsScopeBehindIs s (here t0) (is_of_in n o) (here t3) × IsRest t0 t3
type_in_parsed s n o j t0 t1 t2 t3 h i b = (
  type_in_said s n o j.text.now (here t0) (here t1) (here t2) (here t3) h.0 i.first b.0,
  rest_rest t0 t1 t3 h.1 (rest_rest t1 t2 t3 i.rest b.1),
)

pub any_action_parsed : (w : Token) (t0 t1 : TokenStream) → w.text.now ≡ var_text variables.Action → IsTokenTaken kinds.Word w t0 t1
    → IsActionScope (here t0) any_action (here t1) × IsRest t0 t1
any_action_parsed w t0 t1 wv h = (any_action_said w.text.now (here t0) (here t1) (here t1) wv h.first refl, h.rest)

pub action_parsed : (u : BareEntityUID) (w q : Token) (t0 t1 t2 t3 : TokenStream) → w.text.now ≡ var_text variables.Action
    → IsTokenTaken kinds.Word w t0 t1 → IsTokenTaken kinds.Equal q t1 t2 → BeginsWithAction (here t2) u (here t3) × IsRest t2 t3
    → IsActionScope (here t0) (action_equals u) (here t3) × IsRest t0 t3
action_parsed u w q t0 t1 t2 t3 wv h i b = (
  action_said u w.text.now q.text.now (here t0) (here t1) (here t2) (here t3) wv h.first i.first b.0,
  rest_rest t0 t1 t3 h.rest (rest_rest t1 t2 t3 i.rest b.1),
)

-- what is parsed behind `action in`, or why it is not
pub actions_parsed : {A : Type 0} (f : A → ActionConstraint) (w q : Token) (t0 t1 t2 t3 : TokenStream) (r : Result A ParseFailure)
    → w.text.now ≡ var_text variables.Action → IsTokenTaken kinds.Word w t0 t1 → IsTokenTaken kinds.In q t1 t2
    → Parses (λ ts c rest. IsActionBehindIn ts (f c) rest) t2 t3 r → Parses (λ ts c rest. IsActionScope ts (f c) rest) t0 t3 r
actions_parsed f w q t0 t1 t2 t3 (Ok c) wv h i b = (
  actions_said (f c) w.text.now q.text.now (here t0) (here t1) (here t2) (here t3) wv h.first i.first b.0,
  rest_rest t0 t1 t3 h.rest (rest_rest t1 t2 t3 i.rest b.1),
)
actions_parsed f w q t0 t1 t2 t3 (Err e) wv h i b = within_rest t0 t1 e h.rest (within_rest t1 t2 e i.rest b)

-- an entity that is an action
pub action_found : (u : BareEntityUID) (e : BareExpr) (t0 t1 : TokenStream) → e ≡ entity_tree u → is_action u ≡ true
    → BeginsWithExpr (here t0) e (here t1) × IsRest t0 t1 → BeginsWithAction (here t0) u (here t1) × IsRest t0 t1
action_found u e t0 t1 is a b = (record { entity = subst (λ x. BeginsWithExpr (here t0) x (here t1)) is b.0; action = a }, b.1)

pub one_action_parsed : (u : BareEntityUID) (e : BareExpr) (t0 t1 : TokenStream) → e ≡ entity_tree u → is_action u ≡ true
    → BeginsWithExpr (here t0) e (here t1) × IsRest t0 t1 → IsActionBehindIn (here t0) (action_in u) (here t1) × IsRest t0 t1
one_action_parsed u e t0 t1 is a b = (one_action_said u (here t0) (here t1) (action_found u e t0 t1 is a b).0, b.1)

-- a map of a map
pub both_maps : {A B C : Type 0} (g : B → C) (f : A → B) (xs : List A) → map (λ x. g (f x)) xs ≡ map g (map f xs)
both_maps g f [] = refl
both_maps g f (x ∷ xs) = ap (λ l. g (f x) ∷ l) (both_maps g f xs)

pub more_actions_parsed : (xs : List (Rc EntityUID Global)) (ms : List BareExpr) (e : BareExpr) (t0 t1 : TokenStream) → e ≡ Set (trees_of ms)
    → ms ≡ map (λ u. entity_tree (bare_entity_uid u.value)) xs → list_all (λ u. is_action (bare_entity_uid u.value)) xs ≡ true
    → BeginsWithExpr (here t0) e (here t1) × IsRest t0 t1
    → IsActionBehindIn (here t0) (action_in_set (map (λ u. bare_entity_uid u.value) xs)) (here t1) × IsRest t0 t1
more_actions_parsed xs ms e t0 t1 is all a b = (
  λ w i wv.
      (let uid : Rc EntityUID Global → BareEntityUID = λ u. bare_entity_uid u.value in
      let tree : e ≡ Set (trees_of (map entity_tree (map uid xs))) = is ∙ ap (λ l. Set (trees_of l)) (all ∙ both_maps entity_tree uid xs) in
      let x = subst (λ x. BeginsWithExpr (here t0) x (here t1)) tree b.0 in
      let actions : list_all is_action (map uid xs) ≡ true = list_all-map is_action uid xs ∙ a in
      subst (λ ts. IsActionScope ts (action_in_set (map uid xs)) (here t1)) (sym (ap (λ t. lexeme kinds.Word w ∷ lexeme kinds.In i ∷ t) x.split))
      (within_set wv actions x.stands)),
  b.1,
)

-- ---- the end of a scope

pub closed_parsed : (c : Token) (t0 t1 : TokenStream) → IsTokenTaken kinds.CloseRound c t0 t1 → EndsScope (here t0) (here t1) × IsRest t0 t1
closed_parsed c t0 t1 h = (subst (λ x. EndsScope x (here t1)) (sym h.first) closed, h.rest)

pub comma_closed_parsed : (m c : Token) (t0 t1 t2 : TokenStream) → IsTokenTaken kinds.Comma m t0 t1 → IsTokenTaken kinds.CloseRound c t1 t2
    → EndsScope (here t0) (here t2) × IsRest t0 t2
comma_closed_parsed m c t0 t1 t2 h i = (
  subst (λ x. EndsScope x (here t2)) (sym (front _ _ (here t0) (here t1) (here t2) h.first i.first)) comma_closed,
  rest_rest t0 t1 t2 h.rest i.rest,
)

-- an operand whose tree is this one
pub operand_parsed : (e tree : BareExpr) (t0 t1 : TokenStream) → e ≡ tree → BeginsWithExpr (here t0) e (here t1) × IsRest t0 t1
    → BeginsWithExpr (here t0) tree (here t1) × IsRest t0 t1
operand_parsed e tree t0 t1 is b = (subst (λ x. BeginsWithExpr (here t0) x (here t1)) is b.0, b.1)

-- ---- what the functions of the scope cite

pub ruleset close_rules = (closed_parsed, comma_closed_parsed, within_rest)

pub ruleset constraint_rules = (any_parsed, equal_parsed, in_parsed, is_parsed, within_rest)

pub ruleset type_rules = (type_parsed, type_in_parsed, within_rest)

pub ruleset operand_rules = (operand_parsed, entity_found, slot_is)

pub ruleset action_constraint_rules = (any_action_parsed, action_parsed, actions_parsed, within_rest)

pub ruleset action_rules = (action_found, entity_found)

pub ruleset actions_rules = (one_action_parsed, more_actions_parsed, entity_found)
