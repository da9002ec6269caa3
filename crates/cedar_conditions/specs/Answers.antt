-- What the answer to a condition says.
use Rattle.std.specs.Prelude.{◌≡◌, ◌⊎◌, Bool, Result, Ok, Err, string_bytes, ⊤}
use Rattle.std.specs.declared.cmp.Ordering.{Ordering}
use Rattle.cedar_names.specs.Names.{BareName}
use Rattle.cedar_terms.specs.declared.precedence.Precedence.{Precedence}
use Rattle.cedar_builders.specs.BareExpr.{Text, BareExpr}
use Rattle.cedar_builders.specs.Environment.{empty, fold}
use Rattle.semantics_values.specs.BareValue.{BareCall, BareValue}
use Rattle.semantics_values.specs.ValueExpr.{value_expr}
use Rattle.semantics_eval.specs.Outcomes.{Mistake, Open, By, Outcome}
use Rattle.semantics_simplify.specs.Simplified.{tree_of}
use Rattle.semantics_printing.specs.PolicyTexts.{policy_text_ops}
use Rattle.semantics_request.specs.Evaluator.{evaluated}
use Rattle.semantics_request.specs.Requests.{Functions, Knowledge}
use Rattle.semantics_request.specs.Residuals.{residual}
use Rattle.cedar_parser.specs.Meant.{IsParse}
use Rattle.cedar_bindings.specs.Names.{Names, named}
use Rattle.cedar_conditions.specs.Conditions.{IsRefused, IsTaken}
use Rattle.cedar_conditions.specs.declared.answer.Answer.{Answer}
use Rattle.cedar_conditions.specs.declared.answer.Answer.TheVariants.{Value, Residual, Fault, NoCondition}

-- the text of a tree in Cedar's syntax
abbrev pub IsTextOf : BareExpr → Text → Type 0
IsTextOf e s = (p : Precedence) × (fold policy_text_ops empty e ≡ Ok (s, p))

-- nothing is decided: a part is not known, or a call is refused
abbrev pub IsUndecided : {X : Type 0} → Result (Outcome X) BareName → Type 0
IsUndecided (Ok (Ok v)) = ⊥
IsUndecided (Ok (Err Open)) = ⊤
IsUndecided (Ok (Err (By m))) = ⊥
IsUndecided (Err n) = ⊤

-- the answer is the text of a value, where C says the canonical call of an extension value
abbrev pub IsValueText : {X : Type 0} → (X → BareCall) → BareValue X → Answer → Type 0
IsValueText C v (Value s) = IsTextOf (value_expr C v) (string_bytes s)
IsValueText C v (Residual r) = ⊥
IsValueText C v (Fault p) = ⊥
IsValueText C v (NoCondition p) = ⊥

-- the answer is that the text is no condition
abbrev pub IsNoCondition : Answer → Type 0
IsNoCondition (NoCondition p) = ⊤
IsNoCondition (Value s) = ⊥
IsNoCondition (Residual r) = ⊥
IsNoCondition (Fault p) = ⊥

-- R and E are the order and the equality of extension values, T is the table of functions, and k is
-- what is known
module _ {X : Type 0} (R : X → X → Ordering) (E : X → X → Bool) (C : X → BareCall) (T : Functions X)
    (k : Knowledge X) where
  -- the answer to a tree: the text of its value, the mistake that evaluation meets, or, where
  -- nothing is decided, the text of its residual
  abbrev pub IsAnswerOf : BareExpr → Answer → Type 0
  IsAnswerOf e (Value s) =
      (v : BareValue X) × (evaluated R E T k e ≡ Ok (Ok v)) × IsValueText C v (Value s)
  IsAnswerOf e (Residual r) =
      IsUndecided (evaluated R E T k e)
      × IsTextOf (tree_of C (residual R E C k e)) (string_bytes r.text)
  IsAnswerOf e (Fault p) = (m : Mistake) × (evaluated R E T k e ≡ Ok (Err (By m)))
  IsAnswerOf e (NoCondition p) = ⊥

  -- the answer to a text: that of a tree which the text stands for and which is not refused, in which
  -- each variable and each unknown is what its name stands for; or that the text is no condition: it
  -- stands for no tree, or for one that is refused
  abbrev pub IsAnswerTo : Names → Text → Answer → Type 0
  IsAnswerTo names text (NoCondition p) =
      ((e : BareExpr) → IsParse text e → ⊥) ⊎ ((e : BareExpr) × IsParse text e × IsRefused text e)
  IsAnswerTo names text a =
      (e : BareExpr) × IsParse text e × IsTaken text e × IsAnswerOf (named names e) a
