-- What follows from what an evaluator knows follows from all that it was made of.
use Rattle.std.proofs.Common.{◌≡◌, ℕ, Bool, List, Result, IfOk, subst}
use Rattle.std.specs.Prelude.{MatchResult}
use Rattle.std.specs.declared.cmp.Ordering.{Ordering}
use Rattle.cedar_builders.specs.BareExpr.{Text}
use Rattle.semantics_values.specs.BareValue.{BareCall}
use Rattle.semantics_request.specs.Requests.{Functions, Knowledge}
use Rattle.semantics_authorize.specs.Authorization.{authorized}
use Rattle.semantics_authorize.specs.Decisions.{Response}
use Rattle.cedar_decisions.specs.Decisions.{IfPolicies}
use Rattle.cedar_bindings.specs.Names.{Names}
use Rattle.cedar_conditions.specs.Answers.{IsAnswerTo}
use Rattle.cedar_conditions.specs.declared.answer.Answer.{Answer}

-- the same knowledge, part by part
pub same_knowledge : {X : Type 0} (k l : Knowledge X) → k.request ≡ l.request
    → k.entities ≡ l.entities → k.bindings ≡ l.bindings → k ≡ l
same_knowledge k l q e b = λ i. record { request = q i; entities = e i; bindings = b i }

-- the answer to a text by the same functions, knowledge and names
pub answered : {X D : Type 0} (R : X → X → Ordering) (E : X → X → Bool) (C : X → BareCall)
    (T S : Functions X) (k l : Knowledge X) (n m : Names) (text : Text) (result : Result Answer D)
    → T ≡ S → k ≡ l → n ≡ m → IfOk result (IsAnswerTo R E C T k n text)
    → IfOk result (IsAnswerTo R E C S l m text)
answered {X} R E C T S k l n m text result functions knowledge names =
    subst (λ (x : Functions X × Knowledge X × Names). IfOk result (IsAnswerTo R E C x.0 x.1 x.2 text))
    (λ i. (functions i, knowledge i, names i))

-- the response to the policies of a text by the same functions and knowledge
pub responded : {X A D : Type 0} (R : X → X → Ordering) (E : X → X → Bool) (bare : A → Response)
    (P : D → Type 0) (text : List ℕ) (T S : Functions X) (k l : Knowledge X) (result : Result A D)
    → T ≡ S → k ≡ l
    → IfPolicies text (λ ps. MatchResult result (λ r. bare r ≡ authorized R E T k ps) P)
    → IfPolicies text (λ ps. MatchResult result (λ r. bare r ≡ authorized R E S l ps) P)
responded {X} R E bare P text T S k l result functions knowledge =
    subst (λ (x : Functions X × Knowledge X). IfPolicies text (λ ps. MatchResult result (λ r. bare r ≡ authorized R E x.0 x.1 ps) P))
    (λ i. (functions i, knowledge i))
