-- The answer, by what the evaluator gave.
use Rattle.std.proofs.Common.{◌≡◌, ◌≢◌, inl, inr, Bool, Result, Ok, Err, IfOk, refl, ◌∙◌, ap, subst, sym}
use Rattle.std.specs.Prelude.{string_bytes}
use Rattle.std.specs.declared.cmp.Ordering.{Ordering}
use Rattle.cedar_names.specs.Names.{BareName}
use Rattle.cedar_terms.specs.declared.precedence.Precedence.{Precedence}
use Rattle.cedar_builders.specs.Answers.{Gives}
use Rattle.cedar_builders.specs.BareExpr.{Text, BareExpr}
use Rattle.cedar_builders.specs.Environment.{empty, fold}
use Rattle.cedar_builders.specs.declared.expr_builder.BuildFault.{BuildFault}
use Rattle.cedar_builders.specs.declared.expr_builder.BuildFault.TheVariants.{Build}
use Rattle.semantics_values.specs.BareValue.{BareCall, BareValue}
use Rattle.semantics_eval.specs.Outcomes as meant
use Rattle.semantics_simplify.specs.Simplified.{tree_of}
use Rattle.semantics_printing.specs.PolicyTexts.{policy_text_ops}
use Rattle.semantics_request.specs.Evaluator.{evaluated}
use Rattle.semantics_request.specs.Requests.{Functions, Knowledge}
use Rattle.semantics_request.specs.Residuals.{residual}
use Rattle.cedar_evaluator.specs.Outcomes.{bare_fault}
use Rattle.cedar_evaluator.specs.declared.fault.EvalFault.{EvalFault}
use Rattle.cedar_evaluator.specs.declared.fault.EvalFault.TheVariants.{Open, WrongType, Overflow, Missing, Store}
use Rattle.cedar_lexer.specs.declared.error.ParseError.{ParseError}
use Rattle.cedar_lexer.specs.declared.error.ParseError.TheVariants.{Memory as NoMemory, Syntax}
use Rattle.cedar_lexer.specs.declared.error.SyntaxError.{SyntaxError}
use Rattle.cedar_parser.specs.Meant.{IsParse}
use Rattle.cedar_bindings.specs.Names.{Names, named}
use Rattle.cedar_conditions.specs.Conditions.{IsRefused, IsTaken}
use Rattle.cedar_conditions.specs.Answers.{IsAnswerOf, IsAnswerTo, IsNoCondition, IsUndecided, IsValueText}
use Rattle.cedar_conditions.specs.declared.answer.Answer.{Answer}
use Rattle.cedar_conditions.specs.declared.answer.Residual.{Residual as Left}
use Rattle.cedar_conditions.specs.declared.problem.Problem.{Problem}
use Rattle.cedar_conditions.specs.declared.answer.Answer.TheVariants.{Value, Residual, Fault, NoCondition}

-- a fault that is not `Open` is a mistake
pub mistake_of : (f : EvalFault) → f ≢ Open → (m : meant.Mistake) × (bare_fault f ≡ meant.By m)
mistake_of Open h = elim (h refl) [ ]
mistake_of WrongType h = (meant.WrongType, refl)
mistake_of Overflow h = (meant.Overflow, refl)
mistake_of Missing h = (meant.Missing, refl)
mistake_of Store h = (meant.Store, refl)

-- a call that is refused decides nothing, nor does what is open
pub undecided_by_call : {X : Type 0} (o : Result (meant.Outcome X) BareName) (n : BareName) → o ≡ Err n → IsUndecided o
undecided_by_call o n is = subst IsUndecided (sym is) tt

pub undecided_by_refusal : {X D : Type 0} (name_of : D → BareName) (o : Result (meant.Outcome X) BareName) (b : BuildFault D) (d : D)
    → b ≡ Build d → Gives (λ x. x) name_of o (Err b) → IsUndecided o
undecided_by_refusal name_of o b d is h =
    undecided_by_call o (name_of d) (subst (λ x. Gives (λ y. y) name_of o (Err x)) is h)

pub undecided_by_fault : {X : Type 0} (o : Result (meant.Outcome X) BareName) → o ≡ Ok (Err meant.Open) → IsUndecided o
undecided_by_fault o is = subst IsUndecided (sym is) tt

-- a mistake is no want of memory
no_mistake : (s : SyntaxError) → Syntax s ≡ NoMemory → ⊥
no_mistake s is = absurd (cc)

module _ {X : Type 0} (R : X → X → Ordering) (E : X → X → Bool) (C : X → BareCall) (T : Functions X) (k : Knowledge X) where
  pub value_answer : (e : BareExpr) (v : BareValue X) (a : Answer)
      → evaluated R E T k e ≡ Ok (Ok v) → IsValueText C v a → IsAnswerOf R E C T k e a
  value_answer e v (Value s) is h = (v, is, h)
  value_answer e v (Residual r) is h = elim h [ ]
  value_answer e v (Fault p) is h = elim h [ ]
  value_answer e v (NoCondition p) is h = elim h [ ]

  -- the residual, printed
  pub residual_answer : (e r : BareExpr) (a : Left) (p : Precedence) → IsUndecided (evaluated R E T k e)
      → r ≡ tree_of C (residual R E C k e) → fold policy_text_ops empty r ≡ Ok (string_bytes a.text, p)
      → IsAnswerOf R E C T k e (Residual a)
  residual_answer e r a p none tree printed = (none, (p, ap (fold policy_text_ops empty) (sym tree) ∙ printed))

  pub fault_answer : (e : BareExpr) (f : EvalFault) (p : Problem)
      → evaluated R E T k e ≡ Ok (Err (bare_fault f)) → f ≢ Open → IsAnswerOf R E C T k e (Fault p)
  fault_answer e f p is closed = let m = mistake_of f closed in (m.0, is ∙ ap (λ x. Ok (Err x)) m.1)

  -- the answer to a tree is that to one which is the same
  pub answer_of : {Z : Type 0} (e f : BareExpr) (r : Result Answer Z) → e ≡ f
      → IfOk r (IsAnswerOf R E C T k e) → IfOk r (IsAnswerOf R E C T k f)
  answer_of e f r same h = subst (λ x. IfOk r (IsAnswerOf R E C T k x)) same h

  pub answer_to : (names : Names) (text : Text) (e : BareExpr) (a : Answer) → IsParse text e
      → IsTaken text e → IsAnswerOf R E C T k (named names e) a → IsAnswerTo R E C T k names text a
  answer_to names text e (NoCondition p) is taken h = elim h [ ]
  answer_to names text e (Value s) is taken h = (e, is, taken, h)
  answer_to names text e (Residual r) is taken h = (e, is, taken, h)
  answer_to names text e (Fault p) is taken h = (e, is, taken, h)

  pub no_expression : (names : Names) (text : Text) (a : Answer)
      → ((e : BareExpr) → IsParse text e → ⊥) → IsNoCondition a → IsAnswerTo R E C T k names text a
  no_expression names text (NoCondition p) none h = inl none
  no_expression names text (Value s) none h = elim h [ ]
  no_expression names text (Residual r) none h = elim h [ ]
  no_expression names text (Fault p) none h = elim h [ ]

  -- a text with a mistake stands for nothing
  pub refused_text : {Z : Type 0} (names : Names) (text : Text) (f : ParseError) (s : SyntaxError)
      (r : Result Answer Z) → f ≡ Syntax s → ((e : BareExpr) → IsParse text e → f ≡ NoMemory)
      → IfOk r IsNoCondition → IfOk r (IsAnswerTo R E C T k names text)
  refused_text names text f s (Ok a) is complete h =
      no_expression names text a (λ e parsed. no_mistake s (sym is ∙ complete e parsed)) h
  refused_text names text f s (Err e) is complete h = tt

  pub refused_tree : (names : Names) (text : Text) (e : BareExpr) (p : Problem) → IsParse text e
      → IsRefused text e → IsAnswerTo R E C T k names text (NoCondition p)
  refused_tree names text e p is refused = inr (e, is, refused)
