-- What a name of the program says: its bare name and its place.
use Rattle.std.specs.Prelude.{◌≡◌, ℕ, List, length, Option, Some}
use Rattle.cedar_names.specs.declared.internal_name.InternalName.{InternalName}
use Rattle.cedar_names.specs.Place.{Place}
use Rattle.cedar_names.specs.Names.{BareName}
use Rattle.cedar_names.specs.PathsAndPlaces.{path_in, place_in}

-- a name without its place
abbrev pub bare_internal_name : InternalName → BareName
bare_internal_name n = record { path = path_in n.rest; basename = n.basename }

-- its place, if it has one
abbrev pub internal_name_place : InternalName → Option Place
internal_name_place n = place_in n.rest

-- the place is the whole text, in bytes
abbrev pub IsWholeOf : List ℕ → Option Place → Type 0
IsWholeOf s p = p ≡ Some (record { start = 0; stop = length s; src = s })
