-- What stands below the items of a row, without its last one.
use Rattle.std.proofs.Common.{◌≡◌, ap, ◌∙◌, List, [], ◌∷◌, ◌++◌, Option, Some, None}
use Rattle.std.specs.List.{filter_map, cons_option}
use Rattle.std.proofs.lemmas.List.{append-nil}
use Rattle.std.proofs.lemmas.List.Elements.{filter_map-append}

module _ {I B : Type 0} (h : I → Option B) where
  behind : (all xs : List I) (x : I) → all ≡ xs ++ x ∷ [] → filter_map h all ≡ filter_map h xs ++ cons_option (h x) []
  behind all xs x is = ap (filter_map h) is ∙ filter_map-append h xs (x ∷ [])

  -- the last item was a leaf
  pub leaf_off : (all xs : List I) (x : I) → all ≡ xs ++ x ∷ [] → h x ≡ None → filter_map h all ≡ filter_map h xs
  leaf_off all xs x is leaf = behind all xs x is ∙ ap (λ b. filter_map h xs ++ cons_option b []) leaf ∙ append-nil (filter_map h xs)

  -- the last item was a branch
  pub branch_off : (all xs : List I) (x : I) (b : B) → all ≡ xs ++ x ∷ [] → h x ≡ Some b → filter_map h all ≡ filter_map h xs ++ b ∷ []
  branch_off all xs x b is branch = behind all xs x is ∙ ap (λ o. filter_map h xs ++ cons_option o []) branch
