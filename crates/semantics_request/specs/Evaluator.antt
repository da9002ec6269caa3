-- The evaluator of conditions, as a builder: the closed evaluator, but for what a request, a store
-- of entities and a table of functions answer (Cedar's `Evaluator`).
use Rattle.std.specs.Prelude.{Bool, false, List, [], ◌∷◌, Option, Some, None, Result, Ok, Err}
use Rattle.std.specs.Ordering.{is_lt, is_le}
use Rattle.std.specs.declared.cmp.Ordering.{Ordering}
use Rattle.cedar_names.specs.Names.{BareName}
use Rattle.cedar_terms.specs.declared.ops.BinaryOp.{BinaryOp}
use Rattle.cedar_terms.specs.declared.ops.BinaryOp.TheVariants as Binary
use Rattle.cedar_builders.specs.BareExpr.{Text, BareExpr}
use Rattle.cedar_builders.specs.Environment.{fold}
use Rattle.cedar_builders.specs.Fold.{and_then}
use Rattle.cedar_builders.specs.Lawful.{Lawful}
use Rattle.cedar_builders.specs.Ops.{Ops}
use Rattle.semantics_values.specs.BareValue.{BareValue, ExtensionValue}
use Rattle.semantics_eval.specs.Outcomes.{Mistake, WrongType, Open, By, Outcome, settled, truth, if_outcome}
use Rattle.semantics_eval.specs.Operators.{apply_two}
use Rattle.semantics_eval.specs.Rows.{all_values}
use Rattle.semantics_eval.specs.Evaluator.{evaluator_ops, evaluator_lawful}
use Rattle.semantics_request.specs.Entities.{Entities, under, attribute, has_attribute, tag, has_tag}
use Rattle.semantics_request.specs.Requests.{Request, value_of, Functions, Knowledge}

-- a value, if it is known
abbrev pub known_or_open : {X : Type 0} → Option (BareValue X) → Outcome X
known_or_open None = Err Open
known_or_open (Some t) = Ok t

-- an operation on two values: the first fault in their place answers
abbrev pub then_two :
    {X : Type 0} → (BareValue X → BareValue X → Outcome X) → Outcome X → Outcome X → Outcome X
then_two f m n = and_then (λ t. and_then (f t) n) m

-- whether there is a path of attributes, where `has` and `get` say which there are: a fault or
-- false at the first attribute answers, else its value is asked for the rest
abbrev pub path_by :
    {X : Type 0} → (Text → BareValue X → Outcome X) → (Text → BareValue X → Outcome X)
    → Outcome X → Text → List Text → Outcome X
path_by has get m k [] = and_then (has k) m
path_by has get m k (j ∷ js) =
    if_outcome (and_then (has k) m) (path_by has get (and_then (get k) m) j js) (Ok (truth false))

-- a call, by the function of that name: refused where there is none
abbrev pub call_by :
    {X : Type 0} → BareName → Option (List (BareValue X) → Result (BareValue X) Mistake)
    → List (Outcome X) → Result (Outcome X) BareName
call_by n None ms = Err n
call_by n (Some f) ms = Ok (and_then (λ ts. settled (f ts)) (all_values ms))

-- whether an order is one that an operator asks for: a mistake where there is none
abbrev pub is_ordered : {X : Type 0} → (Ordering → Bool) → Option Ordering → Outcome X
is_ordered f None = Err (By WrongType)
is_ordered f (Some o) = Ok (truth (f o))

-- a comparison: two extension values by an order of their own, all else by the other outcome
abbrev pub compared_or :
    {X : Type 0} → (X → X → Option Ordering) → (Ordering → Bool) → BareValue X → BareValue X
    → Outcome X → Outcome X
compared_or O f (ExtensionValue x c) (ExtensionValue y d) m = is_ordered f (O x y)
compared_or O f t u m = m

-- R and E are the order and the equality of extension values
module _ {X : Type 0} (R : X → X → Ordering) (E : X → X → Bool) where
  -- an operator on two values: the store answers three of them
  abbrev pub apply_over : Entities X → BinaryOp → BareValue X → BareValue X → Outcome X
  apply_over s Binary.In t u = under s t u
  apply_over s Binary.GetTag t u = tag s t u
  apply_over s Binary.HasTag t u = has_tag s t u
  apply_over s o t u = settled (apply_two R E o t u)

  module _ (T : Functions X) where
    -- the same, where the table compares extension values
    abbrev pub apply_by : Entities X → BinaryOp → BareValue X → BareValue X → Outcome X
    apply_by s Binary.Less t u = compared_or T.compare is_lt t u (apply_over s Binary.Less t u)
    apply_by s Binary.LessEq t u = compared_or T.compare is_le t u (apply_over s Binary.LessEq t u)
    apply_by s o t u = apply_over s o t u

    abbrev pub request_ops : Request X → Entities X → Ops (Outcome X) BareName
    request_ops q s = record (evaluator_ops R E) {
      var_of = λ v. known_or_open (value_of q v);
      binary_of = λ o. then_two (apply_by s o);
      call_of = λ n. call_by n (T.call n);
      get_of = λ m k. and_then (attribute s k) m;
      has_of = path_by (has_attribute s) (attribute s);
    }

    -- it is lawful
    pub request_lawful : (q : Request X) (s : Entities X) → Lawful (request_ops q s)
    request_lawful q s = record {
      and_of_literals = (evaluator_lawful R E).and_of_literals;
      or_of_literals = (evaluator_lawful R E).or_of_literals;
    }

    -- the outcome of a condition, by what is known
    abbrev pub evaluated : Knowledge X → BareExpr → Result (Outcome X) BareName
    evaluated k = fold (request_ops k.request k.entities) k.bindings
