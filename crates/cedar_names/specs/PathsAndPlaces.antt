-- The path and the place that a name keeps.
use Rattle.std.specs.Prelude.{ℕ, List, [], Option, Some, None}
use Rattle.cedar_names.specs.declared.path_and_place.PathAndPlace.{PathAndPlace}
use Rattle.cedar_names.specs.declared.path_and_place.PathAndPlace.TheVariants.{Neither, Path, Place, Both}
use Rattle.cedar_names.specs.Place as place

-- the identifiers of the path, where none is kept as no list
abbrev pub path_in : PathAndPlace → List (List ℕ)
path_in Neither = []
path_in (Path v) = v.items
path_in (Place _) = []
path_in (Both v _) = v.items

-- the place, if it is kept
abbrev pub place_in : PathAndPlace → Option place.Place
place_in Neither = None
place_in (Path _) = None
place_in (Place p) = Some p
place_in (Both _ p) = Some p
