-- For any lawful operations: to substitute and then build is to build each bound unknown of its
-- tree.
use Rattle.std.proofs.Common.{◌≡◌, refl, sym, ◌∙◌, ap, Bool, ◌&&◌, ◌||◌, ◌∷◌, Option, Some, None, Result, Ok}
use Rattle.cedar_terms.specs.Literals.{BoolLit}
use Rattle.cedar_terms.specs.Types.{BareType}
use Rattle.cedar_builders.specs.BareExpr.{Text, BareExpr, Lit, Var, Slot, Unknown, If, And, Or, UnaryApp, BinaryApp, ExtensionFunctionApp, GetAttr, HasAttr, Like, Set, Record, Is, BareExprs, no_trees, tree, BareFields, no_fields, field}
use Rattle.cedar_builders.specs.Ops.{Ops}
use Rattle.cedar_builders.specs.Environment.{Env, empty, own, bound, fold}
use Rattle.cedar_builders.specs.Fold.{on_one, on_two, on_three, and_then, fold_with, fold_all, fold_fields}
use Rattle.cedar_builders.specs.Lawful.{Lawful}
use Rattle.cedar_builders.specs.Laws.{BuiltAfter, SubstitutedByFold}
use Rattle.cedar_builders.specs.Trees.{bool_of, folded, and_made, or_made, tree_ops, sure, bound_tree, substituted, all_substituted, fields_substituted}

-- the Boolean of a tree says which literal the tree is
is_literal : (e : BareExpr) (b : Bool) → bool_of e ≡ Some b → e ≡ Lit (BoolLit b)
is_literal (Lit (BoolLit c)) b h = cc
is_literal e b h = cc

-- `f` says what an unknown is made that is not bound
module _ {M F : Type 0} (B : Ops M F) (lawful : Lawful B)
    (f : Text → Option BareType → Result M F) where
  -- a node, or the literal in its place, is made of what its sides are made
  folded_built : (op : Bool → Bool → Bool) (h : M → M → M)
      → ((p q : Bool)
      → h (B.lit_of (BoolLit p)) (B.lit_of (BoolLit q)) ≡ B.lit_of (BoolLit (op p q)))
      → (a b node : BareExpr)
      → fold_with B f node ≡ on_two h (fold_with B f a) (fold_with B f b)
      → fold_with B f (folded op (bool_of a) (bool_of b) node)
      ≡ on_two h (fold_with B f a) (fold_with B f b)
  folded_built op h law a b node is = go (bool_of a) (bool_of b) refl refl
    where
      go : (x y : Option Bool) → bool_of a ≡ x → bool_of b ≡ y
          → fold_with B f (folded op x y node) ≡ on_two h (fold_with B f a) (fold_with B f b)
      go (Some p) (Some q) k l =
          ap Ok (sym (law p q))
          ∙ (λ i. on_two h (fold_with B f (sym (is_literal a p k) i))
          (fold_with B f (sym (is_literal b q l) i)))
      go (Some p) None k l = is
      go None y k l = is

  pub and_built : (a b : BareExpr)
      → fold_with B f (and_made a b) ≡ on_two B.and_of (fold_with B f a) (fold_with B f b)
  and_built a b = folded_built ◌&&◌ B.and_of lawful.and_of_literals a b (And a b) refl

  pub or_built : (a b : BareExpr)
      → fold_with B f (or_made a b) ≡ on_two B.or_of (fold_with B f a) (fold_with B f b)
  or_built a b = folded_built ◌||◌ B.or_of lawful.or_of_literals a b (Or a b) refl

  module _ (env : Env) where
    -- what the tree is made that an unknown becomes
    abbrev of_unknown : Text → Option BareType → Result M F
    of_unknown n t = fold_with B f (bound_tree (env n) (Unknown n t))

    mutual
      built : (e : BareExpr) → fold_with B f (substituted env e) ≡ fold_with B of_unknown e
      built (Lit l) = refl
      built (Var v) = refl
      built (Slot s) = refl
      built (Unknown n t) = refl
      built (If a b c) = λ i. on_three B.if_of (built a i) (built b i) (built c i)
      built (And a b) =
          and_built (substituted env a) (substituted env b)
          ∙ (λ i. on_two B.and_of (built a i) (built b i))
      built (Or a b) =
          or_built (substituted env a) (substituted env b)
          ∙ (λ i. on_two B.or_of (built a i) (built b i))
      built (UnaryApp o a) = λ i. on_one (B.unary_of o) (built a i)
      built (BinaryApp o a b) = λ i. on_two (B.binary_of o) (built a i) (built b i)
      built (ExtensionFunctionApp n es) = λ i. and_then (B.call_of n) (all_built es i)
      built (GetAttr a k) = λ i. on_one (λ m. B.get_of m k) (built a i)
      built (HasAttr a k ks) = λ i. on_one (λ m. B.has_of m k ks) (built a i)
      built (Like a p) = λ i. on_one (λ m. B.like_of m p) (built a i)
      built (Set es) = λ i. on_one B.set_of (all_built es i)
      built (Record fs) = λ i. on_one B.record_of (fields_built fs i)
      built (Is a n) = λ i. on_one (λ m. B.is_of m n) (built a i)

      all_built : (es : BareExprs)
          → fold_all B f (all_substituted env es) ≡ fold_all B of_unknown es
      all_built no_trees = refl
      all_built (tree e es) = λ i. on_two (λ m ms. m ∷ ms) (built e i) (all_built es i)

      fields_built : (fs : BareFields)
          → fold_fields B f (fields_substituted env fs) ≡ fold_fields B of_unknown fs
      fields_built no_fields = refl
      fields_built (field k e fs) =
          λ i. on_two (λ m ms. (k, m) ∷ ms) (built e i) (fields_built fs i)

  -- a bound unknown of its tree
  abbrev pub bound_or_unknown : Option (BareType × BareExpr) → Text → Option BareType → Result M F
  bound_or_unknown None n t = f n t
  bound_or_unknown (Some r) n t = fold_with B f r.1

  -- the fold at the builder of trees is substitution
  module _ (by_fold : SubstitutedByFold) where
    built_of : (env : Env) (e : BareExpr)
        → fold_with B f (sure (fold tree_ops env e)) ≡ fold_with B (of_unknown env) e
    built_of env e = ap (λ r. fold_with B f (sure r)) (by_fold env e) ∙ built env e

    unknown_built : (x : Option (BareType × BareExpr)) (n : Text) (t : Option BareType)
        → fold_with B f (bound_tree x (Unknown n t)) ≡ bound_or_unknown x n t
    unknown_built None n t = refl
    unknown_built (Some r) n t = built_of empty r.1

    pub built_with : (env : Env) (e : BareExpr)
        → fold_with B f (sure (fold tree_ops env e))
        ≡ fold_with B (λ n t. bound_or_unknown (env n) n t) e
    built_with env e =
        built_of env e ∙ ap (λ u. fold_with B u e) (λ i n t. unknown_built (env n) n t i)

-- where no other unknown is bound, it is to build in the environment
pub built_after : {M F : Type 0} (B : Ops M F) → Lawful B → SubstitutedByFold → BuiltAfter B
built_after B lawful by_fold env e =
    built_with B lawful (own B) by_fold env e
    ∙ ap (λ u. fold_with B u e) (λ i n t. same (env n) n t i)
  where
    same : (x : Option (BareType × BareExpr)) (n : Text) (t : Option BareType)
        → bound_or_unknown B lawful (own B) x n t ≡ bound B x n t
    same None n t = refl
    same (Some r) n t = refl
