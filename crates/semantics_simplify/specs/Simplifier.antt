-- The simplifier, as a builder: what it makes of a tree means the same.
use Rattle.std.specs.Prelude.{◌≡◌, Bool, true, false, ◌&&◌, ◌||◌, Option, Some, None, Ok, map, refl, if◌then◌else◌}
use Rattle.std.specs.declared.cmp.Ordering.{Ordering}
use Rattle.cedar_builders.specs.BareExpr.{BareExpr, Var, Slot, Unknown, If, And, Or, UnaryApp, BinaryApp, ExtensionFunctionApp, GetAttr, HasAttr, Like, Set, Record, Is}
use Rattle.cedar_builders.specs.Ops.{Ops}
use Rattle.cedar_builders.specs.Environment.{Env, empty, fold}
use Rattle.cedar_builders.specs.Trees.{sure}
use Rattle.cedar_builders.specs.Lawful.{Lawful}
use Rattle.semantics_values.specs.BareValue.{BareCall, LitValue}
use Rattle.semantics_eval.specs.Outcomes.{truth, strict, strict_two}
use Rattle.semantics_eval.specs.Operators.{apply_one, apply_two}
use Rattle.semantics_eval.specs.Attributes.{get_in, has_path, like_in, is_in}
use Rattle.semantics_eval.specs.Rows.{set_outcome, record_outcome}
use Rattle.semantics_simplify.specs.Simplified.{Simplified, Known, Residual, tree_of, child_trees, child_fields, outcome_of, pair_outcomes, known_or, known_truth, calls_nothing, is_boolean}

-- the branch that a known test chooses, where the other one holds no call; else the node
abbrev pub branch_or : {X : Type 0} → BareExpr → Option Bool → Simplified X → Simplified X → Simplified X
branch_or node None q s = Residual node
branch_or node (Some true) q s = if calls_nothing s then q else Residual node
branch_or node (Some false) q s = if calls_nothing q then s else Residual node

-- `and` after its left side: the right side where that is true and this can only be a Boolean;
-- false where that is false and this holds no call; else the node
abbrev pub and_or : {X : Type 0} → BareExpr → Option Bool → Simplified X → Simplified X
and_or node None q = Residual node
and_or node (Some true) q = if is_boolean q then q else Residual node
and_or node (Some false) q = if calls_nothing q then Known (truth false) else Residual node

-- `or` after its left side: the same, with true and false swapped
abbrev pub or_or : {X : Type 0} → BareExpr → Option Bool → Simplified X → Simplified X
or_or node None q = Residual node
or_or node (Some true) q = if calls_nothing q then Known (truth true) else Residual node
or_or node (Some false) q = if is_boolean q then q else Residual node

-- R and E are the order and the equality of extension values, and C says the canonical call of one
module _ {X : Type 0} (R : X → X → Ordering) (E : X → X → Bool) (C : X → BareCall) where
  -- what the evaluator's operation makes of known values is known, if it is a value; else the
  -- node is a residual, over the operands' trees; a call is a residual whatever it calls
  abbrev pub simplifier_ops : Ops (Simplified X) ⊥
  simplifier_ops = record {
    lit_of = λ l. Known (LitValue l);
    var_of = λ v. Residual (Var v);
    slot_of = λ s. Residual (Slot s);
    unknown_of = λ n t. Residual (Unknown n t);
    if_of = λ p q s. branch_or (If (tree_of C p) (tree_of C q) (tree_of C s)) (known_truth p) q s;
    and_of = λ p q. and_or (And (tree_of C p) (tree_of C q)) (known_truth p) q;
    or_of = λ p q. or_or (Or (tree_of C p) (tree_of C q)) (known_truth p) q;
    unary_of = λ o p. known_or (UnaryApp o (tree_of C p)) (strict (apply_one o) (outcome_of p));
    binary_of = λ o p q.
        known_or (BinaryApp o (tree_of C p) (tree_of C q))
        (strict_two (apply_two R E o) (outcome_of p) (outcome_of q));
    call_of = λ n ps. Ok (Residual (ExtensionFunctionApp n (child_trees C ps)));
    get_of = λ p k. known_or (GetAttr (tree_of C p) k) (strict (get_in k) (outcome_of p));
    has_of = λ p k ks. known_or (HasAttr (tree_of C p) k ks) (has_path (outcome_of p) k ks);
    like_of = λ p m. known_or (Like (tree_of C p) m) (strict (like_in m) (outcome_of p));
    set_of = λ ps. known_or (Set (child_trees C ps)) (set_outcome R (map outcome_of ps));
    record_of = λ ps.
        known_or (Record (child_fields C ps)) (record_outcome (pair_outcomes ps));
    is_of = λ p n. known_or (Is (tree_of C p) n) (strict (is_in n) (outcome_of p));
  }

  -- what a tree is made, where names are bound
  abbrev pub simplified_in : Env → BareExpr → Simplified X
  simplified_in env e = sure (fold simplifier_ops env e)

  -- what it is made by itself
  abbrev pub simplified : BareExpr → Simplified X
  simplified = simplified_in empty

  and_of_truths : (a b : Bool)
      → simplifier_ops.and_of (Known (truth a)) (Known (truth b)) ≡ Known (truth (a && b))
  and_of_truths true b = refl
  and_of_truths false b = refl

  or_of_truths : (a b : Bool)
      → simplifier_ops.or_of (Known (truth a)) (Known (truth b)) ≡ Known (truth (a || b))
  or_of_truths true b = refl
  or_of_truths false b = refl

  -- it is lawful
  pub simplifier_lawful : Lawful simplifier_ops
  simplifier_lawful = record {
    and_of_literals = and_of_truths;
    or_of_literals = or_of_truths;
  }
