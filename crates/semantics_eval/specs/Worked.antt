-- Outcomes worked out by hand.
use Rattle.std.specs.Prelude.{◌≡◌, ℤ, pos, negsuc, Bool, true, false, List, [], ◌∷◌, Some, None, Result, Ok, Err, codes}
use Rattle.std.specs.declared.cmp.Ordering.{Ordering}
use Rattle.cedar_names.specs.Names.{BareName, unqualified}
use Rattle.cedar_terms.specs.Literals.{BoolLit, LongLit, StringLit}
use Rattle.cedar_terms.specs.Types.{LongType}
use Rattle.cedar_terms.specs.declared.ops.UnaryOp.TheVariants as Unary
use Rattle.cedar_terms.specs.declared.ops.BinaryOp.TheVariants as Binary
use Rattle.cedar_terms.specs.declared.var.Var.TheVariants as Variable
use Rattle.cedar_builders.specs.BareExpr.{BareExpr, Lit, Var, Unknown, If, And, Or, UnaryApp, BinaryApp, ExtensionFunctionApp, GetAttr, HasAttr, Set, Record, no_trees, trees_of, no_fields, field}
use Rattle.cedar_builders.specs.Environment.{Env, empty, fold}
use Rattle.semantics_values.specs.BareValue.{BareValue, LitValue, SetValue, values_of}
use Rattle.semantics_eval.specs.Outcomes.{Mistake, WrongType, Overflow, Missing, Store, Open, By, Outcome, truth}
use Rattle.semantics_eval.specs.Evaluator.{evaluator_ops}

abbrev bool : Bool → BareExpr
bool b = Lit (BoolLit b)

abbrev long : ℤ → BareExpr
long n = Lit (LongLit n)

abbrev one : BareExpr
one = long (pos 1)

abbrev two : BareExpr
two = long (pos 2)

abbrev set : List BareExpr → BareExpr
set es = Set (trees_of es)

-- an unknown, and an environment that binds it to 1
abbrev x : BareExpr
x = Unknown (codes "x") None

abbrev x_is_one : Env
x_is_one n = Some (LongType, one)

-- a call of `f`
abbrev call : BareExpr
call = ExtensionFunctionApp (unqualified (codes "f")) no_trees

-- {b: {a: 1}}
abbrev nested : BareExpr
nested = Record (field (codes "b") (Record (field (codes "a") one no_fields)) no_fields)

module _ {X : Type 0} where
  abbrev gives : BareValue X → Result (Outcome X) BareName
  gives t = Ok (Ok t)

  abbrev gives_long : ℤ → Result (Outcome X) BareName
  gives_long n = gives (LitValue (LongLit n))

  abbrev is : Bool → Result (Outcome X) BareName
  is b = gives (truth b)

  abbrev is_open : Result (Outcome X) BareName
  is_open = Ok (Err Open)

  abbrev fails : Mistake → Result (Outcome X) BareName
  fails m = Ok (Err (By m))

  abbrev refused : Result (Outcome X) BareName
  refused = Err (unqualified (codes "f"))

  module _ (R : X → X → Ordering) (E : X → X → Bool) where
    abbrev eval : BareExpr → Result (Outcome X) BareName
    eval = fold (evaluator_ops R E) empty

    abbrev eval_bound : BareExpr → Result (Outcome X) BareName
    eval_bound = fold (evaluator_ops R E) x_is_one

    pub record AreWorkedOutcomes : Type 0 where
      -- integers, at the ends of 64 bits
      pub greatest :
          eval (BinaryApp Binary.Add (long (pos 9223372036854775806)) one)
          ≡ gives_long (pos 9223372036854775807)
      pub above : eval (BinaryApp Binary.Add (long (pos 9223372036854775807)) one) ≡ fails Overflow
      pub least :
          eval (BinaryApp Binary.Sub (long (negsuc 9223372036854775806)) one)
          ≡ gives_long (negsuc 9223372036854775807)
      pub negated : eval (UnaryApp Unary.Neg (long (negsuc 9223372036854775807))) ≡ fails Overflow
      pub no_long : eval (BinaryApp Binary.Less one (bool true)) ≡ fails WrongType
      -- `and`, `or` and `if`
      pub and_false : eval (And (bool false) one) ≡ is false
      pub and_true : eval (And (bool true) one) ≡ fails WrongType
      pub and_open : eval (And x (bool false)) ≡ is_open
      pub and_bound : eval_bound (And x (bool false)) ≡ fails WrongType
      pub and_not_asked : eval (And (bool false) x) ≡ is false
      pub and_still_not_asked : eval_bound (And (bool false) x) ≡ is false
      pub or_true : eval (Or (bool true) one) ≡ is true
      pub or_false : eval (Or (bool false) one) ≡ fails WrongType
      pub if_true : eval (If (bool true) one x) ≡ gives_long (pos 1)
      pub if_open : eval (If x one two) ≡ is_open
      pub if_no_bool : eval (If one one two) ≡ fails WrongType
      -- calls
      pub and_call : eval (And (bool false) call) ≡ refused
      pub open_call : eval (set (x ∷ call ∷ [])) ≡ refused
      -- sets
      pub set_open : eval (set (x ∷ [])) ≡ is_open
      pub set_ascends :
          eval (set (two ∷ one ∷ two ∷ []))
          ≡ gives (SetValue (values_of (LitValue (LongLit (pos 1)) ∷ LitValue (LongLit (pos 2)) ∷ [])))
      pub same_set :
          eval (BinaryApp Binary.Eq (set (two ∷ one ∷ [])) (set (one ∷ two ∷ one ∷ []))) ≡ is true
      pub contains : eval (BinaryApp Binary.Contains (set (two ∷ one ∷ [])) one) ≡ is true
      pub contains_all :
          eval (BinaryApp Binary.ContainsAll (set (two ∷ one ∷ [])) (set (one ∷ []))) ≡ is true
      pub contains_not_all :
          eval (BinaryApp Binary.ContainsAll (set (one ∷ [])) (set (two ∷ one ∷ []))) ≡ is false
      pub contains_any :
          eval (BinaryApp Binary.ContainsAny (set (one ∷ [])) (set (two ∷ one ∷ []))) ≡ is true
      pub no_set : eval (BinaryApp Binary.Contains one (set [])) ≡ fails WrongType
      -- attributes
      pub get : eval (GetAttr (GetAttr nested (codes "b")) (codes "a")) ≡ gives_long (pos 1)
      pub missing : eval (GetAttr nested (codes "c")) ≡ fails Missing
      pub path : eval (HasAttr nested (codes "b") (codes "a" ∷ [])) ≡ is true
      pub no_path : eval (HasAttr nested (codes "b") (codes "c" ∷ [])) ≡ is false
      pub past_path :
          eval (HasAttr nested (codes "b") (codes "a" ∷ codes "c" ∷ [])) ≡ fails WrongType
      -- what is not known, and what the store alone knows; the first fault answers
      pub variable : eval (Var Variable.Principal) ≡ is_open
      pub tag : eval (BinaryApp Binary.GetTag (Lit (StringLit (codes "a"))) one) ≡ fails Store
      pub first_fault : eval (BinaryApp Binary.Less (BinaryApp Binary.In one one) x) ≡ fails Store
