-- Values that are known to be well formed, and maps of them.
use Rattle.std.specs.Prelude.{Bool, Option}
use Rattle.std.specs.Global.{Global}
use Rattle.std.specs.HashMap.{HashMap}
use Rattle.std.specs.declared.cmp.Ord as Ord
use Rattle.std.specs.declared.cmp.Ordering.{Ordering}
use Rattle.std.specs.declared.cmp.PartialEq as PartialEq
use Rattle.std.specs.declared.cmp.PartialOrd as PartialOrd
use Rattle.std.specs.declared.hash.BuildHasherDefault.{BuildHasherDefault}
use Rattle.std.specs.declared.hash.FoldHasher.{FoldHasher}
use Rattle.std.specs.declared.rc.RcStr.{RcStr}
use Rattle.cedar_names.specs.Names.{BareName}
use Rattle.cedar_terms.specs.Types.{BareType}
use Rattle.cedar_builders.specs.BareExpr.{BareExpr}
use Rattle.cedar_builders.specs.Environment.{Env}
use Rattle.cedar_exprs.specs.RestrictedExprs.{env_of}
use Rattle.semantics_values.specs.BareValue.{BareCall}
use Rattle.semantics_values.specs.ValueExpr.{value_expr}
use Rattle.semantics_values.specs.ValueTypes.{value_type}
use Rattle.cedar_values.specs.BareValues.{bare_value}
use Rattle.cedar_values.specs.Holders.{NoExtension, held_call, held_name}
use Rattle.cedar_values.specs.declared.value.Value.{Value}
use Rattle.cedar_values.specs.declared.well_formed.WellFormedValue.{WellFormedValue}

-- o, e and p are the comparisons of extension values, by which a value is well formed
module _ {X : Type 0} {o : Ord.Ghosts X} {e : PartialEq.Ghosts X} {p : PartialOrd.Ghosts X} where
  -- the value itself
  abbrev pub value_of : WellFormedValue X o e p → Value X
  value_of w = w.value

  -- its type, where N says the name of an extension value's type
  abbrev pub type_of : (X → BareName) → WellFormedValue X o e p → BareType
  type_of N w = value_type N (bare_value (value_of w))

  -- the tree of its expression, where C says the canonical call of an extension value
  abbrev pub tree_of : (X → BareCall) → WellFormedValue X o e p → BareExpr
  tree_of C w = value_expr C (bare_value (value_of w))

-- well formed values by name, where R, E and P are the comparisons of extension values
abbrev pub WellFormedMap :
    (X : Type 0) → (X → X → Ordering) → (X → X → Bool) → (X → X → Option Ordering) → Type 0
WellFormedMap X R E P =
    HashMap (RcStr Global)
    (WellFormedValue X (record { cmp = R }) (record { eq = E }) (record { partial_cmp = P }))
    (BuildHasherDefault FoldHasher)

-- each name with the type and the expression of its value, where there are no extension values
abbrev pub well_formed_env :
    {R : NoExtension → NoExtension → Ordering} {E : NoExtension → NoExtension → Bool}
    {P : NoExtension → NoExtension → Option Ordering} → WellFormedMap NoExtension R E P → Env
well_formed_env = env_of (type_of held_name) (tree_of held_call)
