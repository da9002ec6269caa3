-- What raw and conditional names say (Cedar's file `raw_name.rs`).
use Rattle.std.specs.Prelude.{◌≡◌, ℕ, List, [], ◌∷◌, Option, Some, None, map}
use Rattle.cedar_names.specs.declared.internal_name.InternalName.{InternalName}
use Rattle.cedar_names.specs.declared.raw_name.RawName.{RawName}
use Rattle.cedar_names.specs.declared.raw_name.ConditionalName.{ConditionalName}
use Rattle.cedar_names.specs.declared.raw_name.ReferenceType.{ReferenceType}
use Rattle.cedar_names.specs.Place.{Place}
use Rattle.cedar_names.specs.Names.{BareName, within, unqualified}
use Rattle.cedar_names.specs.InternalNames.{bare_internal_name, internal_name_place}

-- the raw name as it is written
abbrev pub written : RawName → InternalName
written r = r.0

-- a raw name without its place
abbrev pub bare_raw_name : RawName → BareName
bare_raw_name r = bare_internal_name (written r)

-- its place, if it has one
abbrev pub raw_name_place : RawName → Option Place
raw_name_place r = internal_name_place (written r)

-- the possibilities of a path and a basename in a namespace: within it and as written, or as
-- written alone where the path is not empty
abbrev pub possible_within : List (List ℕ) → List ℕ → BareName → List BareName
possible_within [] b ns = within ns b ∷ unqualified b ∷ []
possible_within (p ∷ ps) b ns = record { path = p ∷ ps; basename = b } ∷ []

-- the names that a raw name may stand for, the first before the others: as written alone where no
-- namespace is given (`conditionally_qualify_with` in `raw_name.rs`)
abbrev pub possible_names : BareName → Option BareName → List BareName
possible_names n None = n ∷ []
possible_names n (Some ns) = possible_within n.path n.basename ns

-- the raw name that was written
abbrev pub raw_of : ConditionalName → RawName
raw_of c = c.raw

-- the names that it may stand for, in order
abbrev pub possibilities_of : ConditionalName → List InternalName
possibilities_of c = c.possibilities.items

-- what the reference may be
abbrev pub kind_of : ConditionalName → ReferenceType
kind_of c = c.reference_type

-- two references have the same raw name, possibilities in order and kind (`ConditionalName` in
-- `raw_name.rs`)
pub record IsSameReference (c d : ConditionalName) : Type 0 where
  pub raw : bare_raw_name (raw_of c) ≡ bare_raw_name (raw_of d)
  pub possibilities :
      map bare_internal_name (possibilities_of c) ≡ map bare_internal_name (possibilities_of d)
  pub kind : kind_of c ≡ kind_of d

-- the second reference is a copy of the first: the same raw name, possibilities in order and kind,
-- with the same places
abbrev pub IsCopyOfReference : ConditionalName → ConditionalName → Type 0
IsCopyOfReference c copy =
    (map bare_internal_name (possibilities_of copy) ≡ map bare_internal_name (possibilities_of c))
    × (map internal_name_place (possibilities_of copy)
    ≡ map internal_name_place (possibilities_of c))
    × (bare_raw_name (raw_of copy) ≡ bare_raw_name (raw_of c))
    × (raw_name_place (raw_of copy) ≡ raw_name_place (raw_of c))
    × (kind_of copy ≡ kind_of c)
