-- What unknowns give, where the values of some names are kept.
use Rattle.std.specs.Prelude.{◌≡◌, ◌≢◌, Option, Some, None, option_map, Result, Ok}
use Rattle.std.specs.Global.{Global}
use Rattle.std.specs.HashMap.{HashMap, get_by}
use Rattle.std.specs.Rc.{rc_str_bytes}
use Rattle.std.specs.Str.{bytes_eq}
use Rattle.std.specs.declared.cmp.Ord as Ord
use Rattle.std.specs.declared.cmp.PartialEq as PartialEq
use Rattle.std.specs.declared.cmp.PartialOrd as PartialOrd
use Rattle.std.specs.declared.rc.RcStr.{RcStr}
use Rattle.cedar_terms.specs.Types.{BareType}
use Rattle.cedar_builders.specs.BareExpr.{Text, BareExpr, Unknown}
use Rattle.cedar_builders.specs.Environment.{Env, bound}
use Rattle.cedar_builders.specs.Ops.{Ops}
use Rattle.semantics_values.specs.BareValue.{BareValue}
use Rattle.cedar_values.specs.BareValues.{bare_value}
use Rattle.cedar_values.specs.WellFormedValues.{value_of}
use Rattle.cedar_values.specs.declared.well_formed.WellFormedValue.{WellFormedValue}

-- what a map has at a name
abbrev pub at_name : {V S : Type 0} → HashMap (RcStr Global) V S → Text → Option V
at_name m n = get_by (λ k. bytes_eq n (rc_str_bytes k)) m

-- what there is of the name of an unknown; of any other node there is nothing
abbrev pub of_unknown : {A : Type 0} → (Text → Option A) → BareExpr → Option A
of_unknown find (Unknown n t) = find n
of_unknown find _ = None

-- the values that a map keeps, where o, e and p are the comparisons of extension values
abbrev pub kept_in :
    {X S : Type 0} {o : Ord.Ghosts X} {e : PartialEq.Ghosts X} {p : PartialOrd.Ghosts X}
    → HashMap (RcStr Global) (WellFormedValue X o e p) S → Text → Option (BareValue X)
kept_in m n = option_map (λ w. bare_value (value_of w)) (at_name m n)

-- a map has this at a name, and at each other name what it had
pub record IsPutAt {V S : Type 0} (old : HashMap (RcStr Global) V S) (n : Text) (v : V)
    (new : HashMap (RcStr Global) V S) : Type 0 where
  pub here : at_name new n ≡ Some v
  pub others : (m : Text) → m ≢ n → at_name new m ≡ at_name old m

-- B makes the nodes, and V says what a value means
module _ {X M F : Type 0} (B : Ops M F) (V : BareValue X → M) where
  -- an unknown for which a value is kept gives that, any other what it is bound to
  abbrev pub given :
      Option (BareValue X) → Option (BareType × BareExpr) → Text → Option BareType → Result M F
  given (Some v) b n t = Ok (V v)
  given None b n t = bound B b n t

  -- the same, by name
  abbrev pub given_by :
      Env → (Text → Option (BareValue X)) → Text → Option BareType → Result M F
  given_by env kept n t = given (kept n) (env n) n t

  -- each value that is kept is what its name is bound to
  pub record AreKept (env : Env) (kept : Text → Option (BareValue X)) : Type 0 where
    pub at : (n : Text) (t : Option BareType) → given_by env kept n t ≡ bound B (env n) n t
