-- Paths of attributes, by what is found at each step.
use Rattle.std.proofs.Common.{◌≡◌, false, is_some, List, [], ◌∷◌, Option, Some, None, Ok, Err, refl, ap, ◌∙◌}
use Rattle.cedar_terms.specs.Literals.{EntityLit}
use Rattle.cedar_builders.specs.BareExpr.{Text}
use Rattle.cedar_builders.specs.Fold.{on_one}
use Rattle.semantics_values.specs.BareValue.{BareValue, LitValue, RecordValue}
use Rattle.semantics_eval.specs.Attributes.{value_at}
use Rattle.semantics_eval.specs.Outcomes.{Fault, Missing, Outcome, settled, truth, if_outcome}
use Rattle.semantics_request.specs.Entities.{Dereference, NotKnown, NoSuchEntity, Data, Entities, attribute, found_at, has_attribute}
use Rattle.semantics_request.specs.Evaluator.{path_by}
use Rattle.std.specs.Prelude.{ok_or}
use Rattle.cedar_request_evaluator.specs.Attributes.{found_by, found_of}
use Rattle.cedar_request_evaluator.proofs.ByKind.{has_found}

module _ {X : Type 0} where
  -- what is at a key of a record
  of_value : (o : Option (BareValue X)) (v : BareValue X) → o ≡ Some v
      → settled (ok_or o Missing) ≡ Ok v
  of_value o v is = ap (λ p. settled (ok_or p Missing)) is

  got_of : (k : Text) (f : Dereference X) (v : BareValue X) → found_of k f ≡ Ok (Some v)
      → found_at (λ d. d.attributes) k f ≡ Ok v
  got_of k NotKnown v is = cc
  got_of k NoSuchEntity v is = cc
  got_of k (Data d) v is = let at : value_at k d.attributes ≡ Some v = cc in of_value _ v at

module _ {X : Type 0} (s : Entities X) where
  -- a value that is found is the attribute's
  got : (k : Text) (t v : BareValue X) → found_by s k t ≡ Ok (Some v) → attribute s k t ≡ Ok v
  got k (LitValue (EntityLit u)) v is = got_of k (s u) v is
  got k (RecordValue ps) v is =
      let at : value_at k ps ≡ Some v = cc in of_value _ v at
  got k t v is = cc

  abbrev path : Outcome X → Text → List Text → Outcome X
  path = path_by (has_attribute s) (attribute s)

  -- a fault in the value's place answers
  pub fault_path : (f : Fault) (k : Text) (js : List Text) → path (Err f) k js ≡ Err f
  fault_path f k [] = refl
  fault_path f k (j ∷ js) = refl

  -- the last attribute
  pub last_step : (t : BareValue X) (k : Text)
      → path (Ok t) k [] ≡ on_one (λ o. truth (is_some o)) (found_by s k t)
  last_step t k = has_found s k t

  -- an attribute that is there: its value is asked for the rest
  pub step : (t v : BareValue X) (k j : Text) (js : List Text) → found_by s k t ≡ Ok (Some v)
      → path (Ok t) k (j ∷ js) ≡ path (Ok v) j js
  step t v k j js is =
      ap (λ m. if_outcome m (path (attribute s k t) j js) (Ok (truth false)))
      (has_found s k t ∙ ap (on_one (λ o. truth (is_some o))) is)
      ∙ ap (λ m. path m j js) (got k t v is)

  -- one that is not there
  pub no_step : (t : BareValue X) (k j : Text) (js : List Text) → found_by s k t ≡ Ok None
      → path (Ok t) k (j ∷ js) ≡ Ok (truth false)
  no_step t k j js is =
      ap (λ m. if_outcome m (path (attribute s k t) j js) (Ok (truth false)))
      (has_found s k t ∙ ap (on_one (λ o. truth (is_some o))) is)

  -- one that has a fault
  pub fault_step : (t : BareValue X) (f : Fault) (k j : Text) (js : List Text)
      → found_by s k t ≡ Err f → path (Ok t) k (j ∷ js) ≡ Err f
  fault_step t f k j js is =
      ap (λ m. if_outcome m (path (attribute s k t) j js) (Ok (truth false)))
      (has_found s k t ∙ ap (on_one (λ o. truth (is_some o))) is)

pub ruleset path_laws = (step, no_step, fault_step, last_step)
