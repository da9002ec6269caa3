-- Substitution by restricted trees is the fold at the builder of trees.
use Rattle.std.proofs.Common.{◌≡◌, List, [], ◌∷◌, Option, Some, None, Result, Ok, Err, refl, ap}
use Rattle.cedar_terms.specs.Types.{BareType}
use Rattle.cedar_builders.specs.BareExpr.{Text, BareExpr, Lit, Var, Slot, Unknown, If, And, Or, UnaryApp, BinaryApp, ExtensionFunctionApp, GetAttr, HasAttr, Like, Set, Record, Is, BareExprs, no_trees, tree, trees_of, BareFields, no_fields, field, fields_of}
use Rattle.cedar_builders.specs.Fold.{fold_with, fold_all, fold_fields}
use Rattle.cedar_builders.specs.Environment.{Env, own, bound}
use Rattle.cedar_builders.specs.Trees.{tree_ops, sure, bound_tree, substituted, all_substituted, fields_substituted}
use Rattle.cedar_builders.specs.Laws.{SubstitutedByFold}

abbrev IsListed : Result (List BareExpr) ⊥ → BareExprs → Type 0
IsListed r es = (xs : List BareExpr) × (r ≡ Ok xs) × (trees_of xs ≡ es)

abbrev IsPaired : Result (List (Text × BareExpr)) ⊥ → BareFields → Type 0
IsPaired r fs = (xs : List (Text × BareExpr)) × (r ≡ Ok xs) × (fields_of xs ≡ fs)

-- where each unknown means the tree that it is bound to, the fold is substitution
module _ (env : Env) (at_unknown : Text → Option BareType → Result BareExpr ⊥) (known : (n : Text) (t : Option BareType) → at_unknown n t ≡ Ok (bound_tree (env n) (Unknown n t))) where
  mutual
    with_trees : (e : BareExpr) → fold_with tree_ops at_unknown e ≡ Ok (substituted env e)
    with_trees (Lit l) = refl
    with_trees (Var v) = refl
    with_trees (Slot s) = refl
    with_trees (Unknown n t) = known n t
    with_trees (If a b c) = rw (with_trees a, with_trees b, with_trees c)
    with_trees (And a b) = rw (with_trees a, with_trees b)
    with_trees (Or a b) = rw (with_trees a, with_trees b)
    with_trees (UnaryApp o a) = rw (with_trees a)
    with_trees (BinaryApp o a b) = rw (with_trees a, with_trees b)
    with_trees (ExtensionFunctionApp n es) = let h = all_trees es in rw h.1 (ap (λ xs. Ok (ExtensionFunctionApp n xs)) h.2)
    with_trees (GetAttr a k) = rw (with_trees a)
    with_trees (HasAttr a k ks) = rw (with_trees a)
    with_trees (Like a p) = rw (with_trees a)
    with_trees (Set es) = let h = all_trees es in rw h.1 (ap (λ xs. Ok (Set xs)) h.2)
    with_trees (Record fs) = let h = field_trees fs in rw h.1 (ap (λ xs. Ok (Record xs)) h.2)
    with_trees (Is a n) = rw (with_trees a)

    all_trees : (es : BareExprs) → IsListed (fold_all tree_ops at_unknown es) (all_substituted env es)
    all_trees no_trees = ([], refl, refl)
    all_trees (tree e es) =
        let h = all_trees es in
        (substituted env e ∷ h.0, rw (with_trees e, h.1), ap (tree (substituted env e)) h.2)

    field_trees : (fs : BareFields) → IsPaired (fold_fields tree_ops at_unknown fs) (fields_substituted env fs)
    field_trees no_fields = ([], refl, refl)
    field_trees (field k e fs) =
        let h = field_trees fs in
        ((k, substituted env e) ∷ h.0, rw (with_trees e, h.1), ap (field k (substituted env e)) h.2)

-- what never fails is its answer
pub answered : (r : Result BareExpr ⊥) → r ≡ Ok (sure r)
answered (Ok e) = refl
answered (Err e) = absurd e

bound_is : (o : Option (BareType × BareExpr)) (n : Text) (t : Option BareType) → bound tree_ops o n t ≡ Ok (bound_tree o (Unknown n t))
bound_is None n t = refl
bound_is (Some r) n t = answered (fold_with tree_ops (own tree_ops) r.1)

pub fold_at_trees : SubstitutedByFold
fold_at_trees env e = with_trees env _ (λ n t. bound_is (env n) n t) e
