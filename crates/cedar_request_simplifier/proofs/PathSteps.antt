-- Paths of attributes, by what is found at each step, as far as it may be written.
use Rattle.std.proofs.Common.{◌≡◌, ℕ, ◌+◌, ◌<◌, true, false, is_some, refl, sym, ap, ◌∙◌, List, [], ◌∷◌, length, get_or, map, drop, Option, Some, None, Ok, Err}
use Rattle.std.proofs.lemmas.List.{drop_more}
use Rattle.std.specs.Prelude.{ok_or}
use Rattle.std.specs.declared.cmp.Ordering.{Ordering}
use Rattle.cedar_terms.specs.Literals.{EntityLit}
use Rattle.cedar_builders.specs.BareExpr.{Text}
use Rattle.cedar_builders.specs.Fold.{on_one}
use Rattle.semantics_values.specs.BareValue.{BareValue, LitValue, RecordValue}
use Rattle.semantics_values.specs.ValueExpr.{has_extension}
use Rattle.semantics_values.specs.WellFormed.{is_well_formed}
use Rattle.semantics_eval.specs.Attributes.{value_at}
use Rattle.semantics_eval.specs.Outcomes.{Fault, Open, Missing, Outcome, settled, truth, if_outcome}
use Rattle.semantics_request.specs.Entities.{Dereference, NotKnown, NoSuchEntity, Data, Entities, attribute, found_at, has_attribute, is_found_at}
use Rattle.semantics_request.specs.Evaluator.{path_by}
use Rattle.semantics_request.specs.Residuals.{plain_or_open}
use Rattle.cedar_request_evaluator.specs.Attributes.{found_by, found_of}
use Rattle.cedar_simplifier.specs.Simplified.{value_in}
use Rattle.cedar_request_simplifier.proofs.Operands.{known, residual}
use Rattle.cedar_request_simplifier.proofs.PlainValues.{is_plain, is_open}

-- the value of an attribute, by what is found
module _ {X : Type 0} where
  of_value : (o : Option (BareValue X)) (v : BareValue X) → o ≡ Some v
      → settled (ok_or o Missing) ≡ Ok v
  of_value o v is = ap (λ q. settled (ok_or q Missing)) is

  got_of : (k : Text) (f : Dereference X) (v : BareValue X) → found_of k f ≡ Ok (Some v)
      → found_at (λ d. d.attributes) k f ≡ Ok v
  got_of k NotKnown v is = cc
  got_of k NoSuchEntity v is = cc
  got_of k (Data d) v is = let at : value_at k d.attributes ≡ Some v = cc in of_value _ v at

  not_got_of : (k : Text) (f : Dereference X) → found_of k f ≡ Ok None
      → value_in (found_at (λ d. d.attributes) k f) ≡ None
  not_got_of k NotKnown is = cc
  not_got_of k NoSuchEntity is = refl
  not_got_of k (Data d) is =
      let at : value_at k d.attributes ≡ None = cc in
      ap (λ q. value_in (settled (ok_or q Missing))) at

  fault_of : (k : Text) (f : Dereference X) (m : Fault) → found_of k f ≡ Err m
      → value_in (found_at (λ d. d.attributes) k f) ≡ None
  fault_of k NotKnown m is = refl
  fault_of k NoSuchEntity m is = cc
  fault_of k (Data d) m is = cc

  has_found_of : (k : Text) (f : Dereference X)
      → is_found_at (λ d. d.attributes) k f ≡ on_one (λ o. truth (is_some o)) (found_of k f)
  has_found_of k NotKnown = refl
  has_found_of k NoSuchEntity = refl
  has_found_of k (Data d) = refl

  -- what has no value may not be written
  no_value : (R : X → X → Ordering) (m : Outcome X) → value_in m ≡ None
      → value_in (plain_or_open R m) ≡ None
  no_value R (Ok t) is = cc
  no_value R (Err f) is = refl

module _ {X : Type 0} (R : X → X → Ordering) (s : Entities X) where
  got : (k : Text) (t v : BareValue X) → found_by s k t ≡ Ok (Some v) → attribute s k t ≡ Ok v
  got k (LitValue (EntityLit u)) v is = got_of k (s u) v is
  got k (RecordValue ps) v is =
      let at : value_at k ps ≡ Some v = cc in of_value _ v at
  got k t v is = cc

  not_got : (k : Text) (t : BareValue X) → found_by s k t ≡ Ok None
      → value_in (attribute s k t) ≡ None
  not_got k (LitValue (EntityLit u)) is = not_got_of k (s u) is
  not_got k (RecordValue ps) is =
      let at : value_at k ps ≡ None = cc in ap (λ q. value_in (settled (ok_or q Missing))) at
  not_got k t is = cc

  fault_got : (k : Text) (t : BareValue X) (m : Fault) → found_by s k t ≡ Err m
      → value_in (attribute s k t) ≡ None
  fault_got k (LitValue (EntityLit u)) m is = fault_of k (s u) m is
  fault_got k (RecordValue ps) m is = cc
  fault_got k t m is = refl

  -- a value that is found is the attribute's, as far as it may be written
  pub attribute_found : (k : Text) (t v : BareValue X) → found_by s k t ≡ Ok (Some v)
      → plain_or_open R (attribute s k t) ≡ plain_or_open R (Ok v)
  attribute_found k t v is = ap (plain_or_open R) (got k t v is)

  pub attribute_not_found : (k : Text) (t : BareValue X) → found_by s k t ≡ Ok None
      → value_in (plain_or_open R (attribute s k t)) ≡ None
  attribute_not_found k t is = no_value R (attribute s k t) (not_got k t is)

  pub attribute_fault : (k : Text) (t : BareValue X) (m : Fault) → found_by s k t ≡ Err m
      → value_in (plain_or_open R (attribute s k t)) ≡ None
  attribute_fault k t m is = no_value R (attribute s k t) (fault_got k t m is)

  -- whether an attribute is there
  has_found : (k : Text) (t : BareValue X)
      → has_attribute s k t ≡ on_one (λ o. truth (is_some o)) (found_by s k t)
  has_found k (LitValue (EntityLit u)) = has_found_of k (s u)
  has_found k (RecordValue ps) = refl
  has_found k t = refl

  -- a path of attributes, as far as it may be written
  abbrev pub path : Outcome X → Text → List Text → Outcome X
  path = path_by (has_attribute s) (λ k t. plain_or_open R (attribute s k t))

  -- what is open has no path that is known
  pub open_path : (k : Text) (js : List Text) → value_in (path (Err Open) k js) ≡ None
  open_path k [] = refl
  open_path k (j ∷ js) = refl

  -- the last attribute
  pub last_step : (t : BareValue X) (k : Text)
      → path (Ok t) k [] ≡ on_one (λ o. truth (is_some o)) (found_by s k t)
  last_step t k = has_found k t

  abbrev chosen : Outcome X → Outcome X → Text → List Text → Outcome X
  chosen there m j js = if_outcome there (path m j js) (Ok (truth false))

  -- an attribute that is there and may be written: its value is asked for the rest
  pub step : (t v : BareValue X) (k j : Text) (js : List Text) → found_by s k t ≡ Ok (Some v)
      → is_well_formed R v ≡ true → has_extension v ≡ false
      → path (Ok t) k (j ∷ js) ≡ path (Ok v) j js
  step t v k j js is w h =
      ap (λ m. chosen m (plain_or_open R (attribute s k t)) j js)
      (has_found k t ∙ ap (on_one (λ o. truth (is_some o))) is)
      ∙ ap (λ m. path m j js) (attribute_found k t v is ∙ is_plain R v w h)

  -- one that is there, but may not be written
  pub open_step : (t v : BareValue X) (k j : Text) (js : List Text) → found_by s k t ≡ Ok (Some v)
      → is_well_formed R v ≡ true → has_extension v ≡ true
      → value_in (path (Ok t) k (j ∷ js)) ≡ None
  open_step t v k j js is w h =
      ap (λ m. value_in (chosen m (plain_or_open R (attribute s k t)) j js))
      (has_found k t ∙ ap (on_one (λ o. truth (is_some o))) is)
      ∙ ap (λ m. value_in (path m j js)) (attribute_found k t v is ∙ is_open R v w h)
      ∙ open_path j js

  -- one that is not there
  pub no_step : (t : BareValue X) (k j : Text) (js : List Text) → found_by s k t ≡ Ok None
      → path (Ok t) k (j ∷ js) ≡ Ok (truth false)
  no_step t k j js is =
      ap (λ m. chosen m (plain_or_open R (attribute s k t)) j js)
      (has_found k t ∙ ap (on_one (λ o. truth (is_some o))) is)

  -- one that has a fault
  pub fault_step : (t : BareValue X) (f : Fault) (k j : Text) (js : List Text)
      → found_by s k t ≡ Err f → path (Ok t) k (j ∷ js) ≡ Err f
  fault_step t f k j js is =
      ap (λ m. chosen m (plain_or_open R (attribute s k t)) j js)
      (has_found k t ∙ ap (on_one (λ o. truth (is_some o))) is)

  -- where an attribute is found at which others follow, the first of them is j
  module _ {K : Type 0} (f : K → Text) (ks : List K) (i : ℕ) (j : K) (within : i < length ks)
      (at : j ≡ get_or ks i j) (t v : BareValue X) (k : Text) (is : found_by s k t ≡ Ok (Some v))
      (w : is_well_formed R v ≡ true) (whole : Outcome X)
      (left : path (Ok t) k (map f (drop i ks)) ≡ whole) where
    rest : path (Ok t) k (f j ∷ map f (drop (i + 1) ks)) ≡ whole
    rest =
        ap (λ m. path (Ok t) k (f m ∷ map f (drop (i + 1) ks))) at
        ∙ sym (ap (λ xs. path (Ok t) k (map f xs)) (drop_more ks i j within)) ∙ left

    -- the path goes on from there
    pub goes_on : has_extension v ≡ false
        → path (Ok v) (f j) (map f (drop (i + 1) ks)) ≡ whole
    goes_on h = sym (step t v k (f j) (map f (drop (i + 1) ks)) is w h) ∙ rest

    -- or is not known
    pub ends_open : has_extension v ≡ true → None ≡ value_in whole
    ends_open h =
        sym (open_step t v k (f j) (map f (drop (i + 1) ks)) is w h) ∙ ap value_in rest

pub ruleset path_laws = (no_step, fault_step, last_step)

pub ruleset attribute_laws =
    (known, residual, attribute_found, attribute_not_found, attribute_fault)
