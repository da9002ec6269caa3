-- The operations of two evaluators keep a steady relation where what differs between them does.
use Rattle.std.proofs.Common.{◌≡◌, refl, ap, Bool, true, false, List, [], ◌∷◌, Result, Ok, Err}
use Rattle.std.specs.declared.cmp.Ordering.{Ordering}
use Rattle.cedar_names.specs.Names.{BareName}
use Rattle.cedar_names.specs.declared.slot.SlotId.{SlotId}
use Rattle.cedar_terms.specs.declared.ops.BinaryOp.{BinaryOp}
use Rattle.cedar_terms.specs.declared.var.Var.{Var as Variable}
use Rattle.cedar_builders.specs.BareExpr.{Text}
use Rattle.cedar_builders.specs.Fold.{and_then}
use Rattle.cedar_builders.specs.Ops.{Ops}
use Rattle.semantics_values.specs.BareValue.{BareValue, LitValue}
use Rattle.semantics_eval.specs.Outcomes.{Fault, Open, Outcome, settled, truth, if_outcome}
use Rattle.semantics_eval.specs.Attributes.{get_in, has_in, has_path, like_in, is_in}
use Rattle.semantics_eval.specs.Operators.{apply_one, apply_two}
use Rattle.semantics_eval.specs.Evaluator.{evaluator_ops}
use Rattle.semantics_simplify.specs.Asks.{Ask, OfVar, OfSlot, OfCall}
use Rattle.semantics_request.specs.Entities.{Entities, attribute, has_attribute}
use Rattle.semantics_request.specs.Requests.{Request, value_of, Functions}
use Rattle.semantics_request.specs.Evaluator.{known_or_open, then_two, path_by, call_by, apply_by, request_ops}
use Rattle.semantics_request.proofs.Steady.{IsSteady, AllRelated, then_keeps, strict_keeps, then_two_keeps, if_keeps, and_keeps, or_keeps, path_keeps, set_keeps, record_keeps}
use Rattle.semantics_request.proofs.Related.{Refusals, Related, KeepOps}

-- what an evaluator is asked
pub record Answers (X : Type 0) : Type 0 where
  pub variable : Variable → Outcome X
  pub two : BinaryOp → BareValue X → BareValue X → Outcome X
  pub get : Text → BareValue X → Outcome X
  pub has : Text → BareValue X → Outcome X
  pub call : BareName → List (Outcome X) → Result (Outcome X) BareName

module _ {X : Type 0} (R : X → X → Ordering) (E : X → X → Bool) where
  -- the evaluator of these answers
  abbrev pub ops_by : Answers X → Ops (Outcome X) BareName
  ops_by a = record (evaluator_ops R E) {
    var_of = a.variable;
    binary_of = λ o. then_two (a.two o);
    call_of = a.call;
    get_of = λ m k. and_then (a.get k) m;
    has_of = path_by a.has a.get;
  }

  -- those of a request, a store and a table
  abbrev pub by_request : Functions X → Request X → Entities X → Answers X
  by_request T q s = record {
    variable = λ v. known_or_open (value_of q v);
    two = apply_by R E T s;
    get = attribute s;
    has = has_attribute s;
    call = λ n. call_by n (T.call n);
  }

  pub request_is : (T : Functions X) (q : Request X) (s : Entities X)
      → request_ops R E T q s ≡ ops_by (by_request T q s)
  request_is T q s = refl

  -- those of the closed evaluator
  abbrev pub closed : Answers X
  closed = record {
    variable = λ v. Err Open;
    two = λ o t u. settled (apply_two R E o t u);
    get = λ k t. settled (get_in k t);
    has = λ k t. settled (has_in k t);
    call = λ n ms. Err n;
  }

  pub path_is : (m : Outcome X) (k : Text) (ks : List Text)
      → has_path m k ks ≡ path_by closed.has closed.get m k ks
  path_is m k [] = refl
  path_is m k (j ∷ js) =
      ap (λ n. if_outcome (and_then (closed.has k) m) n (Ok (truth false)))
      (path_is (and_then (closed.get k) m) j js)

  pub closed_is : evaluator_ops R E ≡ ops_by closed
  closed_is = λ i. record (ops_by closed) { has_of = λ m k ks. path_is m k ks i }

  module _ (Q : (A : Type 0) → Result A Fault → Result A Fault → Type 0) (k : IsSteady Q)
      (r : Refusals) (P : Ask → Bool) (a b : Answers X)
      (at_var : (v : Variable) → P (OfVar v) ≡ true → Q (BareValue X) (a.variable v) (b.variable v))
      (at_slot : (s : SlotId) → P (OfSlot s) ≡ true → Q (BareValue X) (Err Open) (Err Open))
      (at_two : (o : BinaryOp) (t u : BareValue X) → Q (BareValue X) (a.two o t u) (b.two o t u))
      (at_get : (j : Text) (t : BareValue X) → Q (BareValue X) (a.get j t) (b.get j t))
      (at_has : (j : Text) (t : BareValue X) → Q (BareValue X) (a.has j t) (b.has j t))
      (at_call : (n : BareName) → P (OfCall n) ≡ true → (ms ns : List (Outcome X))
      → AllRelated (Q (BareValue X)) ms ns
      → Related r (Q (BareValue X)) (a.call n ms) (b.call n ns)) where
    pub keep_ops : KeepOps r P (Q (BareValue X)) (ops_by a) (ops_by b)
    keep_ops = record {
      lit = λ l. k.ok (BareValue X) (LitValue l);
      var = at_var;
      slot = at_slot;
      if_then = if_keeps Q k;
      and = and_keeps Q k;
      or = or_keeps Q k;
      unary = λ o. strict_keeps Q k (apply_one o);
      binary = λ o m n u w. then_two_keeps Q k (a.two o) (b.two o) (at_two o) m n u w;
      call = at_call;
      get = λ j. then_keeps Q k (a.get j) (b.get j) (at_get j);
      has = λ j js m n. path_keeps Q k a.has b.has a.get b.get at_has at_get m n j js;
      like = λ p. strict_keeps Q k (like_in p);
      set = set_keeps Q k R;
      rec = record_keeps Q k;
      is = λ n. strict_keeps Q k (is_in n);
    }
