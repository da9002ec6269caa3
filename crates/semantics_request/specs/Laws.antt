-- The laws of evaluation over what is known of a request, over the definitions alone.
use Rattle.std.specs.Prelude.{◌≡◌, ◌≢◌, Bool, true, false, ◌||◌, IsTrue, is_some, is_ok, Some, Ok, Err}
use Rattle.std.specs.declared.cmp.Ordering.{Ordering}
use Rattle.cedar_names.specs.Names.{BareName}
use Rattle.cedar_terms.specs.Types.{BareType}
use Rattle.cedar_terms.specs.Entities.{BareEntityUID}
use Rattle.cedar_terms.specs.declared.var.Var.{Var as Variable}
use Rattle.cedar_builders.specs.BareExpr.{Text, BareExpr}
use Rattle.cedar_builders.specs.Environment.{fold}
use Rattle.cedar_builders.specs.Trees.{tree_ops, sure}
use Rattle.semantics_values.specs.BareValue.{BareCall, BareValue}
use Rattle.semantics_values.specs.Laws.{BindsPlainValues}
use Rattle.semantics_eval.specs.Outcomes.{Mistake, Store, Open, By}
use Rattle.semantics_eval.specs.Evaluator.{evaluator_ops}
use Rattle.semantics_simplify.specs.Asks.{Ask, OfVar, OfSlot, OfUnknown, OfCall, asks_only}
use Rattle.semantics_simplify.specs.Simplified.{Known, tree_of}
use Rattle.semantics_simplify.specs.Simplifier.{simplified}
use Rattle.semantics_request.specs.Entities.{NotKnown, Entities, both_stores}
use Rattle.semantics_request.specs.Requests.{value_of, Functions, Knowledge}
use Rattle.semantics_request.specs.Evaluator.{evaluated}
use Rattle.semantics_request.specs.Put.{IsPlainRequest, of_entities_alone, with_none_bound, put}
use Rattle.semantics_request.specs.Residuals.{known_variable, residual}

-- what the first knows, the second knows too
pub record IsFuller {X : Type 0} (k l : Knowledge X) : Type 0 where
  pub request :
      (v : Variable) (t : BareValue X)
      → value_of k.request v ≡ Some t → value_of l.request v ≡ Some t
  pub entities :
      (u : BareEntityUID) → k.entities u ≢ NotKnown → l.entities u ≡ k.entities u
  pub bindings :
      (n : Text) (r : BareType × BareExpr) → k.bindings n ≡ Some r → l.bindings n ≡ Some r

-- whether it is known what is asked for: a variable, an unknown; a call is answered by the table
abbrev pub is_known : {X : Type 0} → Knowledge X → Ask → Bool
is_known k (OfVar v) = is_some (value_of k.request v)
is_known k (OfSlot s) = false
is_known k (OfUnknown n t) = is_some (k.bindings n)
is_known k (OfCall n) = true

-- whether each function that is called is in the table
abbrev pub is_callable : {X : Type 0} → Functions X → Ask → Bool
is_callable T (OfCall n) = is_some (T.call n)
is_callable T a = true

-- R and E are the order and the equality of extension values
module _ {X : Type 0} (R : X → X → Ordering) (E : X → X → Bool) where
  -- what the closed evaluator decides, no request, no store and no table changes: a value, or a
  -- mistake that is not one of the store
  pub record ClosedStays : Type 0 where
    pub value :
        (T : Functions X) (k : Knowledge X) (e : BareExpr) (t : BareValue X)
        → fold (evaluator_ops R E) k.bindings e ≡ Ok (Ok t) → evaluated R E T k e ≡ Ok (Ok t)
    pub mistake :
        (T : Functions X) (k : Knowledge X) (e : BareExpr) (m : Mistake) → m ≢ Store
        → fold (evaluator_ops R E) k.bindings e ≡ Ok (Err (By m))
        → evaluated R E T k e ≡ Ok (Err (By m))

  -- an outcome that is not open, or a call that is refused, is the same where more is known
  abbrev pub DecidedStays : Type 0
  DecidedStays =
      (C : X → BareCall) (T : Functions X) (k l : Knowledge X) → IsFuller k l
      → BindsPlainValues C l.bindings → (e : BareExpr)
      → evaluated R E T k e ≢ Ok (Err Open) → evaluated R E T l e ≡ evaluated R E T k e

  -- where each entity is known, and each variable and each unknown of a tree, and it has no slot,
  -- its outcome is not open
  abbrev pub NeverOpen : Type 0
  NeverOpen =
      (C : X → BareCall) (T : Functions X) (k : Knowledge X)
      → ((u : BareEntityUID) → k.entities u ≢ NotKnown)
      → BindsPlainValues C k.bindings → (e : BareExpr) → IsTrue (asks_only (is_known k) e)
      → evaluated R E T k e ≢ Ok (Err Open)

  -- where each function that a tree calls is in the table, it is not refused
  abbrev pub NeverRefused : Type 0
  NeverRefused =
      (C : X → BareCall) (T : Functions X) (k : Knowledge X) → BindsPlainValues C k.bindings
      → (e : BareExpr) → IsTrue (asks_only (is_callable T) e)
      → (n : BareName) → evaluated R E T k e ≢ Err n

  -- to put what is bound first is to evaluate with it
  abbrev pub PutFirst : Type 0
  PutFirst =
      (T : Functions X) (k : Knowledge X) (e : BareExpr)
      → evaluated R E T (with_none_bound k) (sure (fold tree_ops k.bindings e))
      ≡ evaluated R E T k e

  -- and to put the request and what is bound into a condition first, if the request's values are
  -- plain, is to evaluate with them
  abbrev pub RequestPutFirst : Type 0
  RequestPutFirst =
      (C : X → BareCall) (T : Functions X) (k : Knowledge X) → IsPlainRequest R k.request
      → (e : BareExpr) → evaluated R E T (of_entities_alone k) (put C k e) ≡ evaluated R E T k e

  -- to simplify a condition first changes no outcome
  abbrev pub SimplifiedFirst : Type 0
  SimplifiedFirst =
      (C : X → BareCall) (T : Functions X) (k : Knowledge X) → BindsPlainValues C k.bindings
      → (e : BareExpr)
      → evaluated R E T k (tree_of C (simplified R E C e)) ≡ evaluated R E T k e

  -- nor does it, where more is known, to take the residual that was made before; and a value that
  -- was known then is the outcome
  pub record ResidualFirst : Type 0 where
    pub outcome :
        (C : X → BareCall) (T : Functions X) (k l : Knowledge X) → IsFuller k l
        → BindsPlainValues C l.bindings → (e : BareExpr)
        → evaluated R E T l (tree_of C (residual R E C k e)) ≡ evaluated R E T l e
    pub known :
        (C : X → BareCall) (T : Functions X) (k l : Knowledge X) → IsFuller k l
        → BindsPlainValues C l.bindings → (e : BareExpr) (t : BareValue X)
        → residual R E C k e ≡ Known t → evaluated R E T l e ≡ Ok (Ok t)

  -- whether it is answered, as a variable whose value may be written or a bound unknown, or passes
  abbrev pub is_answered_or : (X → BareCall) → Knowledge X → (Ask → Bool) → Ask → Bool
  is_answered_or C k Q (OfVar v) =
      is_ok (known_variable R E C k (value_of k.request v)) || Q (OfVar v)
  is_answered_or C k Q (OfUnknown n t) = is_some (k.bindings n) || Q (OfUnknown n t)
  is_answered_or C k Q a = Q a

  -- the residual of a condition asks only for what the condition asks for, and for nothing answered
  abbrev pub ResidualAsksNoMore : Type 0
  ResidualAsksNoMore =
      (C : X → BareCall) (k : Knowledge X) → BindsPlainValues C k.bindings
      → (Q : Ask → Bool) (e : BareExpr) → IsTrue (asks_only (is_answered_or C k Q) e)
      → IsTrue (asks_only Q (tree_of C (residual R E C k e)))

  -- a store may be given in parts: what is decided by the first part stays where another is added
  abbrev pub StoreInParts : Type 0
  StoreInParts =
      (C : X → BareCall) (T : Functions X) (k : Knowledge X) (s : Entities X)
      → BindsPlainValues C k.bindings → (e : BareExpr) → evaluated R E T k e ≢ Ok (Err Open)
      → evaluated R E T (record k { entities = both_stores k.entities s }) e ≡ evaluated R E T k e
