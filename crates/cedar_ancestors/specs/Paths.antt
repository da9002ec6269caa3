-- Whether a key is an ancestor of another, as a test: by the keys that a path goes through.
use Rattle.std.specs.Prelude.{Bool, ◌||◌, ◌&&◌, List, [], ◌∷◌, map}
use Rattle.std.specs.declared.cmp.Ordering.{Ordering}
use Rattle.cedar_ancestors.specs.Keyed.{lists}

module _ {K V : Type 0} (R : K → K → Ordering) (P : V → List K) (m : List (K × V)) where
  -- whether a path of one or more steps, from child to parent, goes through some of these keys alone
  abbrev pub has_path : List K → K → K → Bool
  has_path [] child ancestor = lists R P m child ancestor
  has_path (k ∷ ks) child ancestor =
      has_path ks child ancestor || (has_path ks child k && has_path ks k ancestor)

  -- whether there is a path at all: it goes through keys that have entries
  abbrev pub is_ancestor : K → K → Bool
  is_ancestor = has_path (map (λ e. e.0) m)
