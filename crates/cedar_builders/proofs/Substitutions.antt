-- The laws of substitution, from the one induction.
use Rattle.std.proofs.Common.{◌≡◌, refl, sym, ◌∙◌, ap, true, IsTrue, List, [], ◌∷◌, ◌++◌, Option, Some, None, Ok}
use Rattle.std.specs.Prelude.{All}
use Rattle.std.specs.List.{list_all}
use Rattle.std.specs.Option.{option_or}
use Rattle.std.proofs.lemmas.Bool.{false≢true}
use Rattle.std.proofs.lemmas.List.Elements.{All-head, All-tail}
use Rattle.std.proofs.lemmas.List.Folds.{list_all-append}
use Rattle.std.proofs.Math.Bool.{and-eq-true_iff}
use Rattle.cedar_names.specs.Names.{BareName}
use Rattle.cedar_terms.specs.Types.{BareType, LongType}
use Rattle.cedar_terms.specs.Literals.{BoolLit}
use Rattle.cedar_builders.specs.BareExpr.{Text, BareExpr, Lit, Unknown, ExtensionFunctionApp, Set, Record, BareExprs, no_trees, tree, trees_of, BareFields, no_fields, field, fields_of}
use Rattle.cedar_builders.specs.Ops.{Ops}
use Rattle.cedar_builders.specs.Fold.{fold_with, fold_all, fold_fields}
use Rattle.cedar_builders.specs.Environment.{Env, empty, own, bound, fold}
use Rattle.cedar_builders.specs.Trees.{tree_ops, sure}
use Rattle.cedar_builders.specs.Restricted.{is_restricted_node, IsRestricted, BindsRestricted}
use Rattle.cedar_builders.specs.Lawful.{Lawful}
use Rattle.cedar_builders.specs.Laws.{BuiltAfter, RebuiltTwice, SubstitutedTwice, RestrictedRebuilt, LeavesNode, BindsNone, ThenIsBoth, ThenIsNotAlwaysBoth, both, within, then}
use Rattle.cedar_builders.specs.Walks.{walk_all, walk_fields, forward, preorder}
use Rattle.cedar_builders.proofs.Walks.{All-of_append}
use Rattle.cedar_builders.proofs.TreeOps.{answered}
use Rattle.cedar_builders.proofs.Moved.{moved, sure_one, sure_two, sure_then}

-- the builder of trees is lawful
trees_are_lawful : Lawful tree_ops
trees_are_lawful = record { and_of_literals = λ a b. refl; or_of_literals = λ a b. refl }

module _ {M F : Type 0} (B : Ops M F) (laws : Lawful B) where
  built_bound : (o : Option (BareType × BareExpr)) (n : Text) (t : Option BareType) → fold_with B (own B) (sure (bound tree_ops o n t)) ≡ bound B o n t
  built_bound None n t = refl
  built_bound (Some r) n t = moved B laws (own B) (own tree_ops) r.1

  pub built_after : BuiltAfter B
  built_after env e =
      moved B laws (own B) (λ n t. bound tree_ops (env n) n t) e ∙ ap (λ u. fold_with B u e) (λ i n t. built_bound (env n) n t i)

  twice_bound : (env2 : Env) (o : Option (BareType × BareExpr)) (n : Text) (t : Option BareType) → fold B env2 (sure (bound tree_ops o n t)) ≡ bound B (option_or (within env2 o) (env2 n)) n t
  twice_bound env2 None n t = refl
  twice_bound env2 (Some r) n t =
      moved B laws (λ m s. bound B (env2 m) m s) (own tree_ops) r.1 ∙ sym (built_after env2 r.1)

  pub substituted_twice : SubstitutedTwice B
  substituted_twice env1 env2 e =
      moved B laws (λ n t. bound B (env2 n) n t) (λ n t. bound tree_ops (env1 n) n t) e ∙ ap (λ u. fold_with B u e) (λ i n t. twice_bound env2 (env1 n) n t i)

pub rebuilt_twice : RebuiltTwice
rebuilt_twice e = built_after tree_ops trees_are_lawful empty e

-- ---- a restricted tree none of whose unknowns is bound stays as it is

-- what is asked of a tree is asked of the positions of a row
abbrev in_order : BareExpr → List (List BareExpr) → List BareExpr
in_order e below = e ∷ forward below

module _ (env : Env) where
  abbrev Kept : List BareExpr → Type 0
  Kept es = IsTrue (list_all is_restricted_node es) × All (LeavesNode env) es

  both_kept : (xs ys : List BareExpr) → Kept (xs ++ ys) → Kept xs × Kept ys
  both_kept xs ys h =
      let r = (and-eq-true_iff (list_all is_restricted_node xs) (list_all is_restricted_node ys)).0 (sym (list_all-append is_restricted_node xs ys) ∙ h.0) in
      let k = All-of_append (LeavesNode env) xs ys h.1 in
      ((r.0, k.0), (r.1, k.1))

  rest_kept : (e : BareExpr) (es : List BareExpr) → is_restricted_node e ≡ true → Kept (e ∷ es) → Kept es
  rest_kept e es is h = (((and-eq-true_iff (is_restricted_node e) (list_all is_restricted_node es)).0 h.0).1, All-tail (LeavesNode env) e es h.1)

  mutual
    kept : (e : BareExpr) → Kept (preorder e) → sure (fold tree_ops env e) ≡ e
    kept (Lit l) h = refl
    kept (Unknown n t) h = let k : env n ≡ None = All-head (LeavesNode env) (Unknown n t) [] h.1 in simp k
    kept (ExtensionFunctionApp n es) h = simp (sure_then, kept_all es (rest_kept (ExtensionFunctionApp n es) _ refl h))
    kept (Set es) h = simp (sure_one, kept_all es (rest_kept (Set es) _ refl h))
    kept (Record fs) h = simp (sure_one, kept_fields fs (rest_kept (Record fs) _ refl h))
    kept e h = absurd (false≢true (h.0))

    kept_all : (es : BareExprs) → Kept (forward (walk_all in_order es)) → trees_of (sure (fold_all tree_ops (λ n t. bound tree_ops (env n) n t) es)) ≡ es
    kept_all no_trees h = refl
    kept_all (tree e es) h =
        let r = both_kept (preorder e) (forward (walk_all in_order es)) h in
        simp (sure_two, kept e r.0, kept_all es r.1)

    kept_fields : (fs : BareFields) → Kept (forward (walk_fields in_order fs)) → fields_of (sure (fold_fields tree_ops (λ n t. bound tree_ops (env n) n t) fs)) ≡ fs
    kept_fields no_fields h = refl
    kept_fields (field j e fs) h =
        let r = both_kept (preorder e) (forward (walk_fields in_order fs)) h in
        simp (sure_two, kept e r.0, kept_fields fs r.1)

-- nothing is bound where nothing is
none_bound : (e : BareExpr) → LeavesNode empty e
none_bound (Unknown n t) = refl
none_bound e = tt

pub restricted_rebuilt : RestrictedRebuilt
restricted_rebuilt e h = answered (fold tree_ops empty e) ∙ ap Ok (kept empty e (h, λ k d below. none_bound _))

kept_apart : (env2 : Env) (o r : Option (BareType × BareExpr)) → ((p : BareType × BareExpr) → o ≡ Some p → IsRestricted p.1) → ((p : BareType × BareExpr) → o ≡ Some p → BindsNone env2 p.1) → option_or (within env2 o) r ≡ option_or o r
kept_apart env2 None r h k = refl
kept_apart env2 (Some p) r h k = ap (λ e. Some (p.0, e)) (kept env2 p.1 (h p refl, k p refl))

pub then_is_both : ThenIsBoth
then_is_both env1 env2 h k = λ i n. kept_apart env2 (env1 n) (env2 n) (h n) (k n) i

-- ---- the first environment binds the empty name to a call of an unknown, and the second binds that unknown to a literal

some_name : BareName
some_name = record { path = []; basename = [] }

abbrev inner : BareExpr
inner = Unknown (0 ∷ []) None

abbrev truth : BareExpr
truth = Lit (BoolLit true)

abbrev first : Env
first [] = Some (LongType, ExtensionFunctionApp some_name (tree inner no_trees))
first (c ∷ cs) = None

abbrev second : Env
second [] = None
second (c ∷ cs) = Some (LongType, truth)

first_is_restricted : BindsRestricted first
first_is_restricted [] r h = rw (← (let e : (LongType, ExtensionFunctionApp some_name (tree inner no_trees)) ≡ r = cc in e)) refl
first_is_restricted (c ∷ cs) r h = cc

second_is_restricted : BindsRestricted second
second_is_restricted [] r h = cc
second_is_restricted (c ∷ cs) r h = rw (← (let e : (LongType, truth) ≡ r = cc in e)) refl

differ : fold tree_ops (then first second) (Unknown [] None) ≡ fold tree_ops (both first second) (Unknown [] None) → ⊥
differ e = cc

pub then_is_not_always_both : ThenIsNotAlwaysBoth
then_is_not_always_both = (first, second, Unknown [] None, first_is_restricted, second_is_restricted, differ)
