-- Where all that is asked for is known, no outcome is open.
use Rattle.std.proofs.Common.{◌≡◌, ◌≢◌, refl, subst, Bool, true, false, List, Option, Some, None, Result, Ok, Err}
use Rattle.std.proofs.lemmas.Bool.{false≢true}
use Rattle.std.specs.Option.{is_some}
use Rattle.std.specs.Prelude.{ok_or}
use Rattle.std.specs.Ordering.{is_lt, is_le}
use Rattle.std.specs.declared.cmp.Ordering.{Ordering}
use Rattle.cedar_names.specs.Names.{BareName}
use Rattle.cedar_names.specs.declared.slot.SlotId.{SlotId}
use Rattle.cedar_terms.specs.Entities.{BareEntityUID}
use Rattle.cedar_terms.specs.Literals.{StringLit, EntityLit}
use Rattle.cedar_terms.specs.Types.{BareType}
use Rattle.cedar_terms.specs.declared.ops.BinaryOp.{BinaryOp}
use Rattle.cedar_terms.specs.declared.ops.BinaryOp.TheVariants as Binary
use Rattle.cedar_terms.specs.declared.var.Var.{Var as Variable}
use Rattle.cedar_builders.specs.BareExpr.{Text, BareExpr}
use Rattle.cedar_builders.specs.Environment.{own, bound, fold}
use Rattle.cedar_builders.specs.Fold.{and_then}
use Rattle.cedar_builders.specs.Ops.{Ops}
use Rattle.semantics_values.specs.BareValue.{BareCall, BareValue, LitValue, ExtensionValue, BarePairs}
use Rattle.semantics_values.specs.Laws.{BindsPlainValues}
use Rattle.semantics_eval.specs.Outcomes.{Mistake, Missing, Fault, Open, By, Outcome, settled}
use Rattle.semantics_eval.specs.Attributes.{value_at, get_in, has_in}
use Rattle.semantics_eval.specs.Operators.{apply_two}
use Rattle.semantics_eval.specs.Rows.{all_values}
use Rattle.semantics_simplify.specs.Asks.{Ask, OfVar, OfSlot, asks_only}
use Rattle.semantics_request.specs.Entities.{Entity, Dereference, NotKnown, NoSuchEntity, Data, Entities, found_at, is_found_at, is_under_listed, entities_in, under, attribute, has_attribute, tag, has_tag}
use Rattle.semantics_request.specs.Requests.{value_of, Functions, Knowledge}
use Rattle.semantics_request.specs.Evaluator.{known_or_open, call_by, compared_or, is_ordered, apply_by, request_ops}
use Rattle.semantics_request.specs.Laws.{is_known, NeverOpen}
use Rattle.semantics_request.proofs.Steady.{IsSteady, AllRelated, values_keep, settled_keeps}
use Rattle.semantics_request.proofs.Related.{Alike, Related, both_ok, refused, KeepOps, related}
use Rattle.semantics_request.proofs.Answered.{by_request, keep_ops}
use Rattle.semantics_request.proofs.Outcomes.{AskLaws, IsPlainTree, asks_nothing}

-- a value or a mistake
abbrev IsSettled : {A : Type 0} → Result A Fault → Type 0
IsSettled (Ok a) = Unit {0}
IsSettled (Err Open) = ⊥
IsSettled (Err (By m)) = Unit {0}

-- of the first of two outcomes
abbrev Settled : (A : Type 0) → Result A Fault → Result A Fault → Type 0
Settled A x y = IsSettled x

settled_after : {A C : Type 0} (f : A → Result C Fault) (x : Result A Fault) → IsSettled x
    → ((a : A) → IsSettled (f a)) → IsSettled (and_then f x)
settled_after f (Ok a) h l = l a
settled_after f (Err Open) h l = h
settled_after f (Err (By m)) h l = tt

settled_steady : IsSteady Settled
settled_steady = record {
  ok = λ A a. tt;
  mistake = λ A m. tt;
  step = λ A C f g x y h l. settled_after f x h l;
}

module _ {X : Type 0} where
  is_settled : (r : Result (BareValue X) Mistake) → IsSettled (settled r)
  is_settled = settled_keeps Settled settled_steady

  variable_settled : (x : Option (BareValue X)) → is_some x ≡ true → IsSettled (known_or_open x)
  variable_settled None h = false≢true h
  variable_settled (Some t) h = tt

  found_settled : (f : Entity X → BarePairs X) (j : Text) (x : Dereference X) → x ≢ NotKnown
      → IsSettled (found_at f j x)
  found_settled f j NotKnown h = absurd (h refl)
  found_settled f j NoSuchEntity h = tt
  found_settled f j (Data d) h = is_settled (ok_or (value_at j (f d)) Missing)

  is_found_settled : (f : Entity X → BarePairs X) (j : Text) (x : Dereference X) → x ≢ NotKnown
      → IsSettled (is_found_at f j x)
  is_found_settled f j NotKnown h = absurd (h refl)
  is_found_settled f j NoSuchEntity h = tt
  is_found_settled f j (Data d) h = tt

  listed_settled : (u : BareEntityUID) (o : Option (List BareEntityUID)) (x : Dereference X)
      → x ≢ NotKnown → IsSettled (is_under_listed u x o)
  listed_settled u None x h = tt
  listed_settled u (Some vs) NotKnown h = absurd (h refl)
  listed_settled u (Some vs) NoSuchEntity h = tt
  listed_settled u (Some vs) (Data d) h = tt

module _ {X : Type 0} (R : X → X → Ordering) (E : X → X → Bool) (laws : AskLaws X) (C : X → BareCall)
    (T : Functions X) (k : Knowledge X) (there : (u : BareEntityUID) → k.entities u ≢ NotKnown)
    (plain : BindsPlainValues C k.bindings) where
  abbrev s : Entities X
  s = k.entities

  at_under : (t w : BareValue X) → IsSettled (under s t w)
  at_under (LitValue (EntityLit u)) w = listed_settled u (entities_in w) (s u) (there u)
  at_under t w = tt

  at_tag : (t w : BareValue X) → IsSettled (tag s t w)
  at_tag (LitValue (EntityLit u)) (LitValue (StringLit j)) =
      found_settled (λ d. d.tags) j (s u) (there u)
  at_tag t w = tt

  at_has_tag : (t w : BareValue X) → IsSettled (has_tag s t w)
  at_has_tag (LitValue (EntityLit u)) (LitValue (StringLit j)) =
      is_found_settled (λ d. d.tags) j (s u) (there u)
  at_has_tag t w = tt

  at_ordered : (g : Ordering → Bool) (o : Option Ordering) → IsSettled (is_ordered {X = X} g o)
  at_ordered g None = tt
  at_ordered g (Some o) = tt

  at_compared : (g : Ordering → Bool) (t w : BareValue X) (m : Outcome X) → IsSettled m
      → IsSettled (compared_or T.compare g t w m)
  at_compared g (ExtensionValue x c) (ExtensionValue y d) m h = at_ordered g (T.compare x y)
  at_compared g (ExtensionValue x c) w m h = h
  at_compared g t w m h = h

  at_two : (o : BinaryOp) (t w : BareValue X) → IsSettled (apply_by R E T s o t w)
  at_two Binary.In t w = at_under t w
  at_two Binary.GetTag t w = at_tag t w
  at_two Binary.HasTag t w = at_has_tag t w
  at_two Binary.Less t w = at_compared is_lt t w _ (is_settled (apply_two R E Binary.Less t w))
  at_two Binary.LessEq t w = at_compared is_le t w _ (is_settled (apply_two R E Binary.LessEq t w))
  at_two o t w = is_settled (apply_two R E o t w)

  at_get : (j : Text) (t : BareValue X) → IsSettled (attribute s j t)
  at_get j (LitValue (EntityLit u)) = found_settled (λ d. d.attributes) j (s u) (there u)
  at_get j t = is_settled (get_in j t)

  at_has : (j : Text) (t : BareValue X) → IsSettled (has_attribute s j t)
  at_has j (LitValue (EntityLit u)) = is_found_settled (λ d. d.attributes) j (s u) (there u)
  at_has j t = is_settled (has_in j t)

  at_call : (n : BareName) (x : Option (List (BareValue X) → Result (BareValue X) Mistake))
      (ms ns : List (Outcome X)) → AllRelated (Settled (BareValue X)) ms ns
      → Related Alike (Settled (BareValue X)) (call_by n x ms) (call_by n x ns)
  at_call n None ms ns h = refused refl
  at_call n (Some f) ms ns h =
      both_ok
      (settled_after (λ ts. settled (f ts)) (all_values ms)
      (values_keep Settled settled_steady ms ns h) (λ ts. is_settled (f ts)))

  abbrev ops : Ops (Outcome X) BareName
  ops = request_ops R E T k.request k.entities

  abbrev AreSettled : Result (Outcome X) BareName → Result (Outcome X) BareName → Type 0
  AreSettled = Related Alike (Settled (BareValue X))

  -- where what passes is known, and no slot does
  keep : (P : Ask → Bool)
      → ((v : Variable) → P (OfVar v) ≡ true → is_some (value_of k.request v) ≡ true)
      → ((l : SlotId) → P (OfSlot l) ≡ true → ⊥)
      → KeepOps Alike P (Settled (BareValue X)) ops ops
  keep P of_var of_slot =
      keep_ops R E Settled settled_steady Alike P (by_request R E T k.request k.entities)
      (by_request R E T k.request k.entities)
      (λ v h. variable_settled (value_of k.request v) (of_var v h)) (λ l h. of_slot l h) at_two
      at_get at_has (λ n h. at_call n (T.call n))

  bindings : (x : Option (BareType × BareExpr))
      → ((r : BareType × BareExpr) → x ≡ Some r → IsPlainTree C r.1)
      → is_some x ≡ true → (n : Text) (t : Option BareType)
      → AreSettled (bound ops x n t) (bound ops x n t)
  bindings None p h n t = absurd (false≢true h)
  bindings (Some r) p h n t =
      related laws.by_children Alike (λ a. false) (Settled (BareValue X)) ops ops
      (keep (λ a. false) (λ v i. absurd (false≢true i)) (λ l i. false≢true i)) (own ops) (own ops)
      (λ m u i. absurd (false≢true i)) r.1 (asks_nothing laws C r.1 (p r refl))

  inside : {m n : Outcome X} → AreSettled (Ok m) (Ok n) → IsSettled m
  inside (both_ok h) = h

  never : (e : BareExpr) → asks_only (is_known k) e ≡ true → fold ops k.bindings e ≢ Ok (Err Open)
  never e asked is_open =
      inside
      (subst (λ z. AreSettled z z) is_open
      (related laws.by_children Alike (is_known k) (Settled (BareValue X)) ops ops
      (keep (is_known k) (λ v h. h) (λ l h. false≢true h))
      (λ n t. bound ops (k.bindings n) n t) (λ n t. bound ops (k.bindings n) n t)
      (λ n t h. bindings (k.bindings n) (plain n) h n t) e asked))

pub never_open : {X : Type 0} (R : X → X → Ordering) (E : X → X → Bool) → AskLaws X → NeverOpen R E
never_open R E laws C T k there plain = never R E laws C T k there plain
