-- The closed evaluator, as a builder: what it makes of a tree is the tree's outcome.
use Rattle.std.specs.Prelude.{◌≡◌, Bool, true, false, ◌&&◌, ◌||◌, Ok, Err, refl}
use Rattle.std.specs.declared.cmp.Ordering.{Ordering}
use Rattle.cedar_names.specs.Names.{BareName}
use Rattle.cedar_builders.specs.Ops.{Ops}
use Rattle.cedar_builders.specs.Lawful.{Lawful}
use Rattle.semantics_values.specs.BareValue.{LitValue}
use Rattle.semantics_eval.specs.Outcomes.{Outcome, Open, truth, strict, strict_two, if_outcome, and_outcome, or_outcome}
use Rattle.semantics_eval.specs.Operators.{apply_one, apply_two}
use Rattle.semantics_eval.specs.Attributes.{get_in, has_path, like_in, is_in}
use Rattle.semantics_eval.specs.Rows.{set_outcome, record_outcome}

module _ {X : Type 0} (R : X → X → Ordering) (E : X → X → Bool) where
  -- unknowns, variables and slots are open, and a call is refused, by its name, whatever its
  -- arguments are
  abbrev pub evaluator_ops : Ops (Outcome X) BareName
  evaluator_ops = record {
    lit_of = λ l. Ok (LitValue l);
    var_of = λ v. Err Open;
    slot_of = λ s. Err Open;
    unknown_of = λ n t. Err Open;
    if_of = if_outcome;
    and_of = and_outcome;
    or_of = or_outcome;
    unary_of = λ o. strict (apply_one o);
    binary_of = λ o. strict_two (apply_two R E o);
    call_of = λ n ms. Err n;
    get_of = λ m k. strict (get_in k) m;
    has_of = has_path;
    like_of = λ m p. strict (like_in p) m;
    set_of = set_outcome R;
    record_of = record_outcome;
    is_of = λ m n. strict (is_in n) m;
  }

  and_of_truths : (a b : Bool)
      → and_outcome {X = X} (Ok (truth a)) (Ok (truth b)) ≡ Ok (truth (a && b))
  and_of_truths true b = refl
  and_of_truths false b = refl

  or_of_truths : (a b : Bool)
      → or_outcome {X = X} (Ok (truth a)) (Ok (truth b)) ≡ Ok (truth (a || b))
  or_of_truths true b = refl
  or_of_truths false b = refl

  -- it is lawful
  pub evaluator_lawful : Lawful evaluator_ops
  evaluator_lawful = record {
    and_of_literals = and_of_truths;
    or_of_literals = or_of_truths;
  }
