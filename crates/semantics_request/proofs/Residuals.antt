-- Residuals have the outcomes of the conditions that they were made of.
use Rattle.std.proofs.Common.{◌≡◌, refl, sym, ◌∙◌, ap, subst, Bool, true, false, not, ◌&&◌, List, ℤ, int_lt, int_le, Option, Some, None, Result, Ok, Err}
use Rattle.std.proofs.lemmas.Bool.{and_parts}
use Rattle.std.specs.Prelude.{if◌then◌else◌}
use Rattle.std.specs.Ordering.{is_lt, is_le}
use Rattle.std.specs.declared.cmp.Ordering.{Ordering}
use Rattle.cedar_names.specs.Names.{BareName}
use Rattle.cedar_terms.specs.Literals.{BoolLit}
use Rattle.cedar_terms.specs.Types.{BareType}
use Rattle.cedar_terms.specs.declared.ops.BinaryOp.{BinaryOp}
use Rattle.cedar_terms.specs.declared.ops.BinaryOp.TheVariants as Binary
use Rattle.cedar_builders.specs.BareExpr.{Text, BareExpr, Unknown}
use Rattle.cedar_builders.specs.Environment.{empty, own, bound, fold}
use Rattle.cedar_builders.specs.Fold.{fold_with}
use Rattle.cedar_builders.specs.Ops.{Ops}
use Rattle.cedar_builders.specs.Trees.{sure}
use Rattle.semantics_values.specs.BareValue.{BareCall, BareValue, LitValue, ExtensionValue}
use Rattle.semantics_values.specs.Laws.{BindsPlainValues}
use Rattle.semantics_values.specs.ValueExpr.{has_extension}
use Rattle.semantics_values.specs.WellFormed.{is_well_formed}
use Rattle.semantics_eval.specs.Outcomes.{WrongType, Store, Fault, Open, By, Outcome, settled}
use Rattle.semantics_eval.specs.Attributes.{get_in}
use Rattle.semantics_eval.specs.Longs.{compared}
use Rattle.semantics_eval.specs.Operators.{apply_two}
use Rattle.semantics_simplify.specs.Laws.{AsksByChildren}
use Rattle.semantics_simplify.specs.Simplified.{Simplified, tree_of, outcome_of}
use Rattle.semantics_simplify.specs.Simplifier.{simplified}
use Rattle.semantics_request.specs.Entities.{Entities, attribute, has_attribute}
use Rattle.semantics_request.specs.Requests.{Request, value_of, Functions, Knowledge}
use Rattle.semantics_request.specs.Evaluator.{known_or_open, path_by, apply_over, compared_or, apply_by, evaluated}
use Rattle.semantics_request.specs.Residuals.{plain_or_open, known_variable, known_two, known_attribute, residual}
use Rattle.semantics_request.specs.Laws.{IsFuller, SimplifiedFirst, ResidualFirst}
use Rattle.semantics_request.proofs.Steady.{path_keeps}
use Rattle.semantics_request.proofs.Answered.{Answers, ops_by, by_request, closed}
use Rattle.semantics_request.proofs.Below.{Below, undecided, same, below_steady, below_ok, may_go}
use Rattle.semantics_request.proofs.Below as closed_below
use Rattle.semantics_request.proofs.Decided.{is_open}
use Rattle.semantics_request.proofs.Decided as known_below
use Rattle.semantics_request.proofs.Outcomes.{AskLaws, IsAnswer, IsPlainTree}
use Rattle.semantics_simplify.specs.Plain.{IsPlain, literal, IfPlain, of_settled}
use Rattle.semantics_simplify.specs.Plain as plain
use Rattle.semantics_request.proofs.Means.{Means, no_value}
use Rattle.semantics_request.proofs.Means as kind
use Rattle.semantics_request.proofs.Sound.{simplifier_by, simplifier_is, Agree, sound}
use Rattle.semantics_simplify.specs.Sure.{Sure, sure_is}
use Rattle.semantics_request.proofs.Truths.{IsTruth, AreTruths, of_has, of_path, of_has_attribute, of_both}
use Rattle.semantics_request.proofs.Values.{EvaluatorLaws, bound_value}

module _ {X : Type 0} (R : X → X → Ordering) (E : X → X → Bool) where
  -- a Boolean is plain
  truth_plain : (t : BareValue X) → IsTruth (Ok t) → IsPlain R t
  truth_plain (LitValue (BoolLit b)) h = literal R (BoolLit b)
  truth_plain t h = absurd (no_value (By WrongType) t h)

  path_plain : (has get : Text → BareValue X → Outcome X)
      → ((k : Text) (t : BareValue X) → IsTruth (has k t))
      → (m : Outcome X) (k : Text) (ks : List Text) (t : BareValue X)
      → path_by has get m k ks ≡ Ok t → IsPlain R t
  path_plain has get h m k ks t is = truth_plain t (subst IsTruth is (of_path has get h m k ks))

  pub store_truths : (T : Functions X) (q : Request X) (s : Entities X)
      → AreTruths (by_request R E T q s)
  store_truths T q s = record { two = of_both s R E T; has = of_has_attribute s }

  -- what is below a value is that value
  kept : {P : Fault → Bool} {m n : Outcome X} {t : BareValue X} → Below P (BareValue X) m n
      → m ≡ Ok t → n ≡ Ok t
  kept {P} {m} {n} {t} h is = below_ok (subst (λ x. Below P (BareValue X) x n) is h)

module _ {X : Type 0} {R : X → X → Ordering} {E : X → X → Bool} (laws : EvaluatorLaws R E)
    (by_children : AsksByChildren) (T : Functions X) where
  -- what the closed evaluator answers, a store does
  closed_agrees : (q : Request X) (s : Entities X)
      → Agree laws (closed R E) (by_request R E T q s)
  closed_agrees q s = record {
    variable = λ v t is. absurd (no_value Open t is);
    two = λ o t u w h i is. (
      subst (IfPlain R) is (of_settled R (apply_two R E o t u) (plain.of_two R E o t u)),
      kept R E (closed_below.at_two by_children R E T q s o t u) is,
    );
    get = λ j t u h is. (
      subst (IfPlain R) is (of_settled R (get_in j t) (plain.of_get R j t h)),
      kept R E (closed_below.at_get by_children R E T q s j t) is,
    );
    path = λ j js t u h is. (
      path_plain R E (closed R E).has (closed R E).get of_has (Ok t) j js u is,
      kept R E
          (path_keeps (Below may_go) (below_steady may_go) (closed R E).has (has_attribute s)
          (closed R E).get (attribute s) (closed_below.at_has by_children R E T q s)
          (closed_below.at_get by_children R E T q s) (Ok t) (Ok t) j js same)
          is,
    );
  }

-- a value that was not opened is plain
module _ {X : Type 0} (R : X → X → Ordering) where
  abbrev Gives : Outcome X → BareValue X → Type 0
  Gives m t = m ≡ Ok t

  negated : (b : Bool) → not b ≡ true → b ≡ false
  negated true h = sym h
  negated false h = refl

  plain_if : (u : BareValue X) → (is_well_formed R u && not (has_extension u)) ≡ true → IsPlain R u
  plain_if u h =
      let p = and_parts (is_well_formed R u) (not (has_extension u)) h in
      record { well_formed = p.0; plain = negated (has_extension u) p.1 }

  was_plain : (m : Outcome X) (t : BareValue X) → Gives (plain_or_open R m) t
      → IsPlain R t × Gives m t
  was_plain (Err f) t is = absurd (no_value f t is)
  was_plain (Ok u) t is = go (is_well_formed R u && not (has_extension u)) refl is
    where
      go : (b : Bool) → (is_well_formed R u && not (has_extension u)) ≡ b
          → Gives (if b then Ok u else Err Open) t → IsPlain R t × Gives (Ok u) t
      go true h i = (subst (IfPlain R) i (plain_if u h), i)
      go false h i = absurd (no_value Open t i)

  -- to open a value keeps what is below
  opened : (m : Outcome X) → Below is_open (BareValue X) (plain_or_open R m) m
  opened (Err f) = same
  opened (Ok u) = go (is_well_formed R u && not (has_extension u))
    where
      go : (b : Bool) → Below is_open (BareValue X) (if b then Ok u else Err Open) (Ok u)
      go true = same
      go false = undecided refl

  below_both : {m n o : Outcome X} → Below is_open (BareValue X) m n
      → Below is_open (BareValue X) n o → Below is_open (BareValue X) m o
  below_both (undecided p) k = undecided p
  below_both same k = k

  given_variable : (x : Option (BareValue X)) (t : BareValue X) → Gives (known_or_open x) t
      → x ≡ Some t
  given_variable None t h = absurd (no_value Open t h)
  given_variable (Some u) t h = let e : u ≡ t = cc in ap Some e

-- what is known is
pub itself : {X : Type 0} {k : Knowledge X} → IsFuller k k
itself = record {
  request = λ v t h. h;
  entities = λ w h. refl;
  bindings = λ n r h. h;
}

-- a comparison that gives a value without a table of functions gives it with one
compared_kept : {X : Type 0} (T : Functions X) (f : ℤ → ℤ → Bool) (g : Ordering → Bool)
    (t u w : BareValue X) → settled (compared f t u) ≡ Ok w
    → compared_or T.compare g t u (settled (compared f t u)) ≡ Ok w
compared_kept T f g (ExtensionValue x c) (ExtensionValue y d) w is =
    absurd (no_value (By Store) w is)
compared_kept T f g (ExtensionValue x c) u w is = is
compared_kept T f g t u w is = is

-- what is known before, is so later
module _ {X : Type 0} {R : X → X → Ordering} {E : X → X → Bool} (laws : EvaluatorLaws R E)
    (asks : AskLaws X) (C : X → BareCall) (T : Functions X) (k l : Knowledge X) (full : IsFuller k l)
    (plain_bindings : BindsPlainValues C l.bindings) where
  abbrev pub before : Answers X
  before = record {
    variable = λ v. known_variable R E C k (value_of k.request v);
    two = known_two R E C k;
    get = known_attribute R E C k;
    has = has_attribute k.entities;
    call = λ n ms. Err n;
  }

  abbrev pub after : Answers X
  after = by_request R E T l.request l.entities

  two_below : (o : BinaryOp) (t u : BareValue X)
      → Below is_open (BareValue X) (apply_over R E k.entities o t u) (apply_over R E l.entities o t u)
  two_below = known_below.at_two R E asks C T k l full plain_bindings

  -- what a store answers, a table of functions does not change
  by_table : (o : BinaryOp) (t u w : BareValue X) → apply_over R E l.entities o t u ≡ Ok w
      → apply_by R E T l.entities o t u ≡ Ok w
  by_table Binary.Less t u w is = compared_kept T int_lt is_lt t u w is
  by_table Binary.LessEq t u w is = compared_kept T int_le is_le t u w is
  by_table o t u w is = is

  get_below : (j : Text) (t : BareValue X)
      → Below is_open (BareValue X) (attribute k.entities j t) (attribute l.entities j t)
  get_below = known_below.at_get R E asks C T k l full plain_bindings

  has_below : (j : Text) (t : BareValue X)
      → Below is_open (BareValue X) (has_attribute k.entities j t) (has_attribute l.entities j t)
  has_below = known_below.at_has R E asks C T k l full plain_bindings

  pub known_agrees : Agree laws before after
  known_agrees = record {
    variable = λ v t is.
        let p = was_plain R (known_or_open (value_of k.request v)) t is in
        let g = given_variable R (value_of k.request v) t p.1 in
        (p.0, ap known_or_open (full.request v t g));
    two = λ o t u w h i is.
        let p = was_plain R (apply_over R E k.entities o t u) w is in
        (p.0, by_table o t u w (kept R E (two_below o t u) p.1));
    get = λ j t u h is.
        let p = was_plain R (attribute k.entities j t) u is in
        (p.0, kept R E (get_below j t) p.1);
    path = λ j js t u h is. (
      path_plain R E before.has before.get (of_has_attribute k.entities) (Ok t) j js u is,
      kept R E
          (path_keeps (Below is_open) (below_steady is_open) before.has after.has before.get after.get
          has_below
          (λ i w. below_both R (opened R (attribute k.entities i w)) (get_below i w))
          (Ok t) (Ok t) j js same)
          is,
    );
  }

  -- what unknowns mean later
  abbrev pub meaning : Text → Option BareType → Result (Outcome X) BareName
  meaning n t = bound (ops_by R E after) (l.bindings n) n t

  bound_answers : (x : Option (BareType × BareExpr))
      → ((r : BareType × BareExpr) → x ≡ Some r → IsPlainTree C r.1)
      → (n : Text) (t : Option BareType) → IsAnswer (bound (ops_by R E after) x n t)
  bound_answers None p n t = tt
  bound_answers (Some r) p n t =
      subst IsAnswer
      (sym ((bound_value R E C r.1 (p r refl)).1 after (own (ops_by R E after)))) tt

  pub answers : (n : Text) (t : Option BareType) → IsAnswer (meaning n t)
  answers n t = bound_answers (l.bindings n) (plain_bindings n) n t

  abbrev Same : Simplified X → Result (Outcome X) BareName → Type 0
  Same = Means laws C after meaning

  abbrev pub ops : Ops (Simplified X) ⊥
  ops = simplifier_by R E C before

  -- an unknown that is left
  pub unknown_left : (n : Text) (t : Option BareType) → Sure Same (own ops n t) (meaning n t)
  unknown_left n t = kind.left laws C after meaning (Unknown n t) (meaning n t) refl

  -- one that is bound before is bound later
  bound_same : (r : BareType × BareExpr) (n : Text) (t : Option BareType)
      → l.bindings n ≡ Some r → IsPlainTree C r.1
      → Sure Same (fold_with ops (own ops) r.1) (meaning n t)
  bound_same r n t is p =
      let v = bound_value R E C r.1 p in
      subst (Sure Same (fold_with ops (own ops) r.1))
      (v.1 after meaning
      ∙ (sym (v.1 after (own (ops_by R E after)))
      ∙ sym (ap (λ x. bound (ops_by R E after) x n t) is)))
      (sound laws asks.by_children C before after known_agrees
      (store_truths R E T l.request l.entities) meaning answers (own ops) unknown_left r.1)

  pub bindings : (x : Option (BareType × BareExpr)) (n : Text) (t : Option BareType)
      → ((r : BareType × BareExpr) → x ≡ Some r → l.bindings n ≡ Some r)
      → Sure Same (bound ops x n t) (meaning n t)
  bindings None n t h = unknown_left n t
  bindings (Some r) n t h = bound_same r n t (h r refl) (plain_bindings n r (h r refl))

  pub left_means : (e : BareExpr) → Same (residual R E C k e) (evaluated R E T l e)
  left_means e =
      sure_is Same (fold ops k.bindings e) (evaluated R E T l e)
      (sound laws asks.by_children C before after known_agrees
      (store_truths R E T l.request l.entities) meaning answers
      (λ n t. bound ops (k.bindings n) n t)
      (λ n t. bindings (k.bindings n) n t (full.bindings n)) e)

pub residual_first : {X : Type 0} {R : X → X → Ordering} {E : X → X → Bool} → EvaluatorLaws R E
    → AskLaws X → ResidualFirst R E
residual_first {R = R} {E = E} laws asks = record {
  outcome = λ C T k l full plain e. (left_means laws asks C T k l full plain e).same;
  known = λ C T k l full plain e t is.
      ((left_means laws asks C T k l full plain e).value t (ap outcome_of is)).1;
}

-- the simplifier alone, which knows nothing of a store
module _ {X : Type 0} {R : X → X → Ordering} {E : X → X → Bool} (laws : EvaluatorLaws R E)
    (asks : AskLaws X) (C : X → BareCall) (T : Functions X) (k : Knowledge X)
    (plain_bindings : BindsPlainValues C k.bindings) where
  abbrev over : Answers X
  over = by_request R E T k.request k.entities

  abbrev meant : Text → Option BareType → Result (Outcome X) BareName
  meant n t = bound (ops_by R E over) (k.bindings n) n t

  abbrev fresh : Ops (Simplified X) ⊥
  fresh = simplifier_by R E C (closed R E)

  simplified_means : (e : BareExpr)
      → Means laws C over meant (sure (fold fresh empty e)) (evaluated R E T k e)
  simplified_means e =
      sure_is (Means laws C over meant) (fold fresh empty e) (evaluated R E T k e)
      (sound laws asks.by_children C (closed R E) over
      (closed_agrees laws asks.by_children T k.request k.entities)
      (store_truths R E T k.request k.entities) meant
      (answers laws asks C T k k itself plain_bindings) (own fresh)
      (λ n t. kind.left laws C over meant (Unknown n t) (meant n t) refl) e)

  pub simplified_same : (e : BareExpr)
      → evaluated R E T k (tree_of C (simplified R E C e)) ≡ evaluated R E T k e
  simplified_same e =
      ap (λ B. evaluated R E T k (tree_of C (sure (fold B empty e)))) (simplifier_is R E C)
      ∙ (simplified_means e).same

pub simplified_first : {X : Type 0} {R : X → X → Ordering} {E : X → X → Bool} → EvaluatorLaws R E
    → AskLaws X → SimplifiedFirst R E
simplified_first laws asks C T k plain = simplified_same laws asks C T k plain
