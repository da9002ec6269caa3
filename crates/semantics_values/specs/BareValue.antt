-- Value trees: values without places (`ValueKind` of Cedar's `value.rs`), one constructor a kind.
use Rattle.std.specs.Prelude.{◌≡◌, List, [], ◌∷◌, Option, refl}
use Rattle.std.proofs.Common.{ap}
use Rattle.cedar_names.specs.Names.{BareName}
use Rattle.cedar_terms.specs.Literals.{BareLiteral}
use Rattle.cedar_builders.specs.BareExpr.{Text, BareExprs}

-- a call that makes an extension value (`RepresentableExtensionValue` of Cedar's `extension.rs`)
pub record BareCall : Type 0 where
  pub func : BareName
  pub args : BareExprs

mutual
  -- a literal, a set's list of members, a record's list of pairs, or an extension value of X with the
  -- representation that was given for it, if any
  pub data BareValue (X : Type 0) : Type 0 where
    LitValue : BareLiteral → BareValue X
    SetValue : BareValues X → BareValue X
    RecordValue : BarePairs X → BareValue X
    ExtensionValue : X → Option BareCall → BareValue X

  -- the members of a set
  pub data BareValues (X : Type 0) : Type 0 where
    no_values : BareValues X
    value : BareValue X → BareValues X → BareValues X

  -- the keys and values of a record
  pub data BarePairs (X : Type 0) : Type 0 where
    no_pairs : BarePairs X
    pair : Text → BareValue X → BarePairs X → BarePairs X

-- the members of a list
abbrev pub values_of : {X : Type 0} → List (BareValue X) → BareValues X
values_of [] = no_values
values_of (t ∷ ts) = value t (values_of ts)

-- and back
abbrev pub list_of : {X : Type 0} → BareValues X → List (BareValue X)
list_of no_values = []
list_of (value t ts) = t ∷ list_of ts

-- the pairs of a list
abbrev pub pairs_of : {X : Type 0} → List (Text × BareValue X) → BarePairs X
pairs_of [] = no_pairs
pairs_of (p ∷ ps) = pair p.0 p.1 (pairs_of ps)

-- these two are inverse
pub values_of_list : {X : Type 0} (ts : BareValues X) → ts ≡ values_of (list_of ts)
values_of_list no_values = refl
values_of_list (value t ts) = ap (value t) (values_of_list ts)

pub list_of_values : {X : Type 0} (ts : List (BareValue X)) → list_of (values_of ts) ≡ ts
list_of_values [] = refl
list_of_values (t ∷ ts) = ap (λ us. t ∷ us) (list_of_values ts)
