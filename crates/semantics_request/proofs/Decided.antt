-- What is decided stays where more is known.
use Rattle.std.proofs.Common.{◌≡◌, ◌≢◌, refl, sym, ap, subst, ◌∙◌, Bool, true, false, List, Option, Some, None, Result, Ok, Err}
use Rattle.std.proofs.lemmas.Bool.{true≢false, false≢true}
use Rattle.std.specs.declared.cmp.Ordering.{Ordering}
use Rattle.cedar_names.specs.Names.{BareName}
use Rattle.cedar_terms.specs.Entities.{BareEntityUID}
use Rattle.cedar_terms.specs.Literals.{StringLit, EntityLit}
use Rattle.cedar_terms.specs.Types.{BareType}
use Rattle.cedar_terms.specs.declared.ops.BinaryOp.{BinaryOp}
use Rattle.cedar_terms.specs.declared.ops.BinaryOp.TheVariants as Binary
use Rattle.cedar_builders.specs.BareExpr.{Text, BareExpr}
use Rattle.cedar_builders.specs.Environment.{own, bound, fold}
use Rattle.cedar_builders.specs.Fold.{fold_with}
use Rattle.cedar_builders.specs.Ops.{Ops}
use Rattle.semantics_values.specs.BareValue.{BareCall, BareValue, LitValue}
use Rattle.semantics_values.specs.Laws.{BindsPlainValues}
use Rattle.semantics_eval.specs.Outcomes.{Mistake, Fault, Open, By, Outcome, settled}
use Rattle.semantics_eval.specs.Rows.{all_values}
use Rattle.semantics_request.specs.Entities.{Dereference, NotKnown, NoSuchEntity, Data, found_at, is_found_at, is_under_listed, entities_in, under, attribute, has_attribute, tag, has_tag}
use Rattle.semantics_request.specs.Requests.{value_of, Functions, Knowledge}
use Rattle.semantics_request.specs.Evaluator.{known_or_open, call_by, apply_over, compared_or, apply_by, request_ops}
use Rattle.semantics_request.specs.Laws.{IsFuller, DecidedStays}
use Rattle.semantics_request.proofs.Steady.{AllRelated, values_keep}
use Rattle.semantics_request.proofs.Related.{Alike, Related, both_ok, refused, KeepOps, related}
use Rattle.semantics_request.proofs.Answered.{by_request, keep_ops}
use Rattle.semantics_request.proofs.Below.{Below, undecided, same, below_steady, asks_all}
use Rattle.semantics_request.proofs.Outcomes.{AskLaws, IsPlainTree, has_meaning}

abbrev pub is_open : Fault → Bool
is_open Open = true
is_open (By m) = false

module _ {X : Type 0} where
  abbrev Under : Outcome X → Outcome X → Type 0
  Under = Below is_open (BareValue X)

  -- a variable
  variable_below : (x y : Option (BareValue X)) → ((t : BareValue X) → x ≡ Some t → y ≡ Some t)
      → Under (known_or_open x) (known_or_open y)
  variable_below None y h = undecided refl
  variable_below (Some t) y h = subst (λ z. Under (Ok t) (known_or_open z)) (sym (h t refl)) same

  -- whether anything is known of an entity
  abbrev is_found : Dereference X → Bool
  is_found NotKnown = false
  is_found f = true

  found : (f : Dereference X) → is_found f ≡ true → f ≢ NotKnown
  found f h e = true≢false (sym h ∙ ap is_found e)

  -- what is asked of an entity
  entity_below : (op : Dereference X → Outcome X) → op NotKnown ≡ Err Open → (x y : Dereference X)
      → (x ≢ NotKnown → y ≡ x) → Under (op x) (op y)
  entity_below op e NotKnown y h = subst (λ z. Under z (op y)) (sym e) (undecided refl)
  entity_below op e NoSuchEntity y h =
      subst (λ z. Under (op NoSuchEntity) (op z)) (sym (h (found NoSuchEntity refl))) same
  entity_below op e (Data d) y h =
      subst (λ z. Under (op (Data d)) (op z)) (sym (h (found (Data d) refl))) same

  listed_below : (u : BareEntityUID) (o : Option (List BareEntityUID)) (x y : Dereference X)
      → (x ≢ NotKnown → y ≡ x) → Under (is_under_listed u x o) (is_under_listed u y o)
  listed_below u None x y h = same
  listed_below u (Some vs) x y h = entity_below (λ f. is_under_listed u f (Some vs)) refl x y h

module _ {X : Type 0} (R : X → X → Ordering) (E : X → X → Bool) (laws : AskLaws X) (C : X → BareCall)
    (T : Functions X) (k l : Knowledge X) (full : IsFuller k l) (plain : BindsPlainValues C l.bindings) where
  at_under : (t w : BareValue X) → Under (under k.entities t w) (under l.entities t w)
  at_under (LitValue (EntityLit u)) w =
      listed_below u (entities_in w) (k.entities u) (l.entities u) (full.entities u)
  at_under t w = same

  at_tag : (t w : BareValue X) → Under (tag k.entities t w) (tag l.entities t w)
  at_tag (LitValue (EntityLit u)) (LitValue (StringLit j)) =
      entity_below (found_at (λ d. d.tags) j) refl (k.entities u) (l.entities u) (full.entities u)
  at_tag t w = same

  at_has_tag : (t w : BareValue X) → Under (has_tag k.entities t w) (has_tag l.entities t w)
  at_has_tag (LitValue (EntityLit u)) (LitValue (StringLit j)) =
      entity_below (is_found_at (λ d. d.tags) j) refl (k.entities u) (l.entities u) (full.entities u)
  at_has_tag t w = same

  pub at_two : (o : BinaryOp) (t w : BareValue X)
      → Under (apply_over R E k.entities o t w) (apply_over R E l.entities o t w)
  at_two Binary.In t w = at_under t w
  at_two Binary.GetTag t w = at_tag t w
  at_two Binary.HasTag t w = at_has_tag t w
  at_two o t w = same

  -- where the table compares extension values, both compare alike
  at_both : (o : BinaryOp) (t w : BareValue X)
      → Under (apply_by R E T k.entities o t w) (apply_by R E T l.entities o t w)
  at_both Binary.Less t w = same
  at_both Binary.LessEq t w = same
  at_both o t w = at_two o t w

  pub at_get : (j : Text) (t : BareValue X) → Under (attribute k.entities j t) (attribute l.entities j t)
  at_get j (LitValue (EntityLit u)) =
      entity_below (found_at (λ d. d.attributes) j) refl (k.entities u) (l.entities u)
      (full.entities u)
  at_get j t = same

  pub at_has : (j : Text) (t : BareValue X)
      → Under (has_attribute k.entities j t) (has_attribute l.entities j t)
  at_has j (LitValue (EntityLit u)) =
      entity_below (is_found_at (λ d. d.attributes) j) refl (k.entities u) (l.entities u)
      (full.entities u)
  at_has j t = same

  at_call : (n : BareName) (x : Option (List (BareValue X) → Result (BareValue X) Mistake))
      (ms ns : List (Outcome X)) → AllRelated Under ms ns
      → Related Alike Under (call_by n x ms) (call_by n x ns)
  at_call n None ms ns h = refused refl
  at_call n (Some f) ms ns h =
      both_ok
      ((below_steady is_open).step (List (BareValue X)) (BareValue X) (λ ts. settled (f ts))
      (λ ts. settled (f ts)) (all_values ms) (all_values ns)
      (values_keep (Below is_open) (below_steady is_open) ms ns h) (λ ts. same))

  abbrev old : Ops (Outcome X) BareName
  old = request_ops R E T k.request k.entities

  abbrev new : Ops (Outcome X) BareName
  new = request_ops R E T l.request l.entities

  abbrev AreBelow : Result (Outcome X) BareName → Result (Outcome X) BareName → Type 0
  AreBelow = Related Alike Under

  keep : KeepOps Alike (λ a. true) Under old new
  keep =
      keep_ops R E (Below is_open) (below_steady is_open) Alike (λ a. true)
      (by_request R E T k.request k.entities) (by_request R E T l.request l.entities)
      (λ v h. variable_below (value_of k.request v) (value_of l.request v) (full.request v))
      (λ s h. same) at_both at_get at_has (λ n h. at_call n (T.call n))

  -- a bound tree, of which no unknown is bound
  of_bound : (e : BareExpr) → AreBelow (fold_with old (own old) e) (fold_with new (own new) e)
  of_bound e =
      related laws.by_children Alike (λ a. true) Under old new keep (own old) (own new)
      (λ n t h. both_ok same) e (asks_all e)

  bindings : (x y : Option (BareType × BareExpr))
      → ((r : BareType × BareExpr) → x ≡ Some r → y ≡ Some r)
      → ((r : BareType × BareExpr) → y ≡ Some r → IsPlainTree C r.1)
      → (n : Text) (t : Option BareType) → AreBelow (bound old x n t) (bound new y n t)
  bindings None None h p n t = both_ok same
  bindings None (Some r) h p n t =
      let m = has_meaning laws C r.1 (p r refl) new (own new) in
      subst (AreBelow (Ok (Err Open))) (sym m.1) (both_ok (undecided refl))
  bindings (Some r) y h p n t =
      subst (λ z. AreBelow (bound old (Some r) n t) (bound new z n t)) (sym (h r refl)) (of_bound r.1)

  below : (e : BareExpr) → AreBelow (fold old k.bindings e) (fold new l.bindings e)
  below e =
      related laws.by_children Alike (λ a. true) Under old new keep
      (λ n t. bound old (k.bindings n) n t) (λ n t. bound new (l.bindings n) n t)
      (λ n t h. bindings (k.bindings n) (l.bindings n) (full.bindings n) (plain n) n t) e (asks_all e)

decided : {X : Type 0} {r s : Result (Outcome X) BareName} → Related Alike Under r s
    → r ≢ Ok (Err Open) → s ≡ r
decided (both_ok same) closed = refl
decided (both_ok (undecided {f = Open} p)) closed = absurd (closed refl)
decided (both_ok (undecided {f = By m} p)) closed = absurd (false≢true p)
decided (refused h) closed = h

pub decided_stays : {X : Type 0} (R : X → X → Ordering) (E : X → X → Bool) → AskLaws X
    → DecidedStays R E
decided_stays R E laws C T k l full plain e = decided (below R E laws C T k l full plain e)
