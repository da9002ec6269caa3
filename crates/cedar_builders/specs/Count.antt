-- The nodes of a tree, counted.
use Rattle.std.specs.Prelude.{◌≡◌, ℕ, suc, ◌+◌, List, [], ◌∷◌, map, refl}
use Rattle.std.proofs.Common.{ap}
use Rattle.cedar_builders.specs.BareExpr.{BareExpr, BareExprs, no_trees, tree, BareFields, no_fields, field, ExtensionFunctionApp, Set, Record}
use Rattle.cedar_builders.specs.Walks.{children, members_of, values_of, walk, walk_all, walk_fields}

abbrev pub sum : List ℕ → ℕ
sum [] = 0
sum (n ∷ ns) = n + sum ns

-- one more than the nodes below
abbrev pub one_more : BareExpr → List ℕ → ℕ
one_more e ns = suc (sum ns)

-- how many nodes a tree has
abbrev pub count : BareExpr → ℕ
count = walk one_more

-- how many the trees of a list have
abbrev pub total : List BareExpr → ℕ
total es = sum (map count es)

in_members : (es : BareExprs) → walk_all one_more es ≡ map count (members_of es)
in_members no_trees = refl
in_members (tree e es) = ap (λ ns. count e ∷ ns) (in_members es)

in_values : (fs : BareFields) → walk_fields one_more fs ≡ map count (values_of fs)
in_values no_fields = refl
in_values (field k e fs) = ap (λ ns. count e ∷ ns) (in_values fs)

-- a node and those below it
pub count_is : (e : BareExpr) → count e ≡ suc (total (children e))
count_is (ExtensionFunctionApp n es) = ap (λ ns. suc (sum ns)) (in_members es)
count_is (Set es) = ap (λ ns. suc (sum ns)) (in_members es)
count_is (Record fs) = ap (λ ns. suc (sum ns)) (in_values fs)
count_is e = refl
