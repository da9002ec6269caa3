-- What names are bound to.
use Rattle.std.specs.Prelude.{◌≡◌, ◌≢◌, ◌⊎◌, List, [], ◌∷◌, Option, Some, None}
use Rattle.std.specs.Global.{Global}
use Rattle.std.specs.HashMap.{HashMap, get_by}
use Rattle.std.specs.Rc.{rc_str_bytes}
use Rattle.std.specs.Str.{bytes_eq}
use Rattle.std.specs.declared.cmp.Ordering.{Ordering}
use Rattle.std.specs.declared.hash.BuildHasherDefault.{BuildHasherDefault}
use Rattle.std.specs.declared.hash.FoldHasher.{FoldHasher}
use Rattle.std.specs.declared.rc.RcStr.{RcStr}
use Rattle.cedar_builders.specs.BareExpr.{Text, BareExpr, Unknown}
use Rattle.cedar_builders.specs.Environment.{Env}
use Rattle.semantics_values.specs.BareValue.{BareValue}
use Rattle.semantics_values.specs.Reading.{IsValueOf}
use Rattle.semantics_values.specs.ValueExpr.{value_expr}
use Rattle.semantics_values.specs.ValueTypes.{value_type}
use Rattle.cedar_values.specs.Holders.{NoExtension, held_call, held_name}
use Rattle.cedar_values.specs.WellFormedValues.{well_formed_env}
use Rattle.cedar_bindings.specs.Names.{Names, names_of}
use Rattle.cedar_bindings.specs.declared.bindings.Bindings.{Bindings}

-- the tree that a name stands for: an unknown of that name, where it has a value
abbrev pub names_in : Bindings → Names
names_in b = names_of b.named

-- the values of those unknowns
abbrev pub env_in : Bindings → Env
env_in b = well_formed_env b.values

-- a name is bound to what it was bound to
pub record IsKept (old new : Bindings) (n : Text) : Type 0 where
  pub name : names_in new n ≡ names_in old n
  pub value : env_in new n ≡ env_in old n

module _ (R : NoExtension → NoExtension → Ordering) where
  -- a name has the value of an expression
  pub record HasValueOf (b : Bindings) (n : Text) (e : BareExpr) : Type 0 where
    pub value : BareValue NoExtension
    pub of_expr : IsValueOf R e value
    pub named : names_in b n ≡ Some (Unknown n None)
    pub bound : env_in b n ≡ Some (value_type held_name value, value_expr held_call value)

  -- a name stands for an expression: for its value, or, where a call stands in it, for itself
  abbrev pub IsBoundTo : Bindings → Text → BareExpr → Type 0
  IsBoundTo b n e = HasValueOf b n e ⊎ (names_in b n ≡ Some e)

  -- one name was bound to an expression
  pub record IsBound (old : Bindings) (n : Text) (e : BareExpr) (new : Bindings) : Type 0 where
    pub bound : IsBoundTo new n e
    pub others : (k : Text) → k ≢ n → IsKept old new k

-- names were bound one after the other, each to its expression; as there are no extension values, any order of them serves
abbrev pub AreBound : Bindings → List (Text × BareExpr) → Bindings → Type 0
AreBound old [] new = new ≡ old
AreBound old (p ∷ ps) new =
    (R : NoExtension → NoExtension → Ordering) × (next : Bindings) × IsBound R old p.0 p.1 next × AreBound next ps new

-- a map has this at a name, and at each other name what it had
pub record IsPutAt {V : Type 0} (old : HashMap (RcStr Global) V (BuildHasherDefault FoldHasher)) (n : Text) (v : Option V)
    (new : HashMap (RcStr Global) V (BuildHasherDefault FoldHasher)) : Type 0 where
  pub here : get_by (λ k. bytes_eq n (rc_str_bytes k)) new ≡ v
  pub others : (m : Text) → m ≢ n
      → get_by (λ k. bytes_eq m (rc_str_bytes k)) new ≡ get_by (λ k. bytes_eq m (rc_str_bytes k)) old
