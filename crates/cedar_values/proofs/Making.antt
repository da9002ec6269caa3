-- What sets are made of.
use Rattle.std.proofs.Common.{◌≡◌, true, false, ◌&&◌, ◌||◌, List, [], ◌∷◌, map, cond, Option, Some, refl, sym, ap, subst, ◌∙◌, IsTrue, Result, Ok, Err, IfOk}
use Rattle.std.specs.Prelude.{MatchResult}
use Rattle.std.proofs.lemmas.Result.{IfOk-weaker}
use Rattle.std.specs.List.{list_all}
use Rattle.std.specs.Ordering.{is_eq}
use Rattle.std.specs.declared.cmp.Ordering.{Ordering}
use Rattle.cedar_terms.specs.Literals.{BareLiteral}
use Rattle.cedar_sorted_slices.specs.Classes.{has_class, ascends, HaveSameClasses, IsClassesOf}
use Rattle.semantics_values.specs.ValueOrder.{value_cmp}
use Rattle.cedar_values.specs.BareValues.{bare_value}
use Rattle.cedar_values.specs.HashForms.{is_hash_form}
use Rattle.cedar_values.specs.Places.{gathered, is_lit_value, unplaced}
use Rattle.cedar_values.specs.Sets.{HaveEachOf, by_tree, has_hash_form, hashed_literals, members}
use Rattle.cedar_values.specs.WellFormed.{set_well_formed, well_formed}
use Rattle.cedar_values.specs.declared.set.Set.{Set}
use Rattle.cedar_values.specs.declared.value.Value.{Value}
use Rattle.cedar_values.proofs.Levels.{unplaced_tree, unplaced_kept}
use Rattle.cedar_values.proofs.WellFormedSets.{kept_of_classes, set_is}

-- what two facts of an answer give
pub if_both : {A E : Type 0} (P Q S : A → Type 0) (r : Result A E) → IfOk r P → IfOk r Q → ((a : A) → P a → Q a → S a) → IfOk r S
if_both P Q S (Ok a) p q f = f a p q
if_both P Q S (Err e) p q f = tt

-- what is known of a copy, which may find no memory
pub copy_of_one : {A E : Type 0} (P : A → Type 0) (r : Result A E) → IfOk r P → MatchResult r P (λ _. ⊥ → ⊥)
copy_of_one P (Ok a) p = p
copy_of_one P (Err e) p = λ never. never

pub copy_of_three : {A E : Type 0} (P Q S : A → Type 0) (r : Result A E) → IfOk r P → IfOk r Q → IfOk r S → MatchResult r (λ a. P a × Q a × S a) (λ _. ⊥ → ⊥)
copy_of_three P Q S (Ok a) p q s = (p, q, s)
copy_of_three P Q S (Err e) p q s = λ never. never

pub copy_of_four : {A E : Type 0} (P Q S T : A → Type 0) (r : Result A E) → IfOk r P → IfOk r Q → IfOk r S → IfOk r T → MatchResult r (λ a. P a × Q a × S a × T a) (λ _. ⊥ → ⊥)
copy_of_four P Q S T (Ok a) p q s t = (p, q, s, t)
copy_of_four P Q S T (Err e) p q s t = λ never. never

-- a set without members, and with no literal by hash
pub empty_form : {X : Type 0} (s : Set X) → members s ≡ [] → hashed_literals s ≡ Some [] → has_hash_form s ≡ true
empty_form s h none = λ i. is_hash_form (map bare_value (h i)) (none i)

module _ {X : Type 0} (R : X → X → Ordering) where
  same_unplaced : (vs : List (Value X)) → HaveSameClasses (by_tree R) (map unplaced vs) vs
  same_unplaced [] q = refl
  same_unplaced (v ∷ vs) q = λ i. is_eq (value_cmp R (bare_value q) (unplaced_tree v i)) || same_unplaced vs q i

  -- places make no class
  pub same_gathered : (vs : List (Value X)) → HaveSameClasses (by_tree R) (gathered vs) vs
  same_gathered vs q =
      elim (list_all (λ v. is_lit_value (bare_value v)) vs) as (λ b. has_class (by_tree R) (cond b (map unplaced vs) vs) q ≡ has_class (by_tree R) vs q) [
        | true ↦ same_unplaced vs q
        | false ↦ refl
      ]

  pub gathered_kept : (vs : List (Value X)) → list_all (well_formed R) (gathered vs) ≡ list_all (well_formed R) vs
  gathered_kept vs =
      elim (list_all (λ v. is_lit_value (bare_value v)) vs) as (λ b. list_all (well_formed R) (cond b (map unplaced vs) vs) ≡ list_all (well_formed R) vs) [
        | true ↦ unplaced_kept R vs
        | false ↦ refl
      ]

  -- a set without members, and with no literal by hash
  pub empty_kept : (s : Set X) → members s ≡ [] → hashed_literals s ≡ Some [] → set_well_formed R s ≡ true
  empty_kept s h none = set_is R s ∙ λ i. ascends (by_tree R) (h i) && (is_hash_form (map bare_value (h i)) (none i) && list_all (well_formed R) (h i))

  -- the classes of some of the values, which are one or more of each class, are those of all
  pub classes_of_each : (ms ws vs : List (Value X)) → IsClassesOf (by_tree R) ms ws → HaveEachOf R ws vs → IsClassesOf (by_tree R) ms vs
  classes_of_each ms ws vs h each = record {
    ascending = h.ascending;
    same = λ q. h.same q ∙ each.same q;
    kept = λ v there. each.kept v (h.kept v there);
  }

  -- a set of the classes of values, with its hash form
  pub made_well : (s : Set X) (ms vs : List (Value X)) (f : Option (List BareLiteral)) → members s ≡ ms → hashed_literals s ≡ f → IsClassesOf (by_tree R) ms vs
      → is_hash_form (map bare_value ms) f ≡ true → list_all (well_formed R) vs ≡ true → set_well_formed R s ≡ true
  made_well s ms vs f is hashed classes form all =
      kept_of_classes R s vs (subst (λ xs. IsClassesOf (by_tree R) xs vs) (sym is) classes)
      ((λ i. is_hash_form (map bare_value (is i)) (hashed i)) ∙ form) all

  -- a set that is made of the gathered values
  module _ {E : Type 0} (r : Result (Set X) E) (vs ws : List (Value X)) (is : gathered vs ≡ ws) where
    pub gathered_classes : IfOk r (λ s. IsClassesOf (by_tree R) (members s) ws) → IfOk r (λ s. IsClassesOf (by_tree R) (members s) (gathered vs))
    gathered_classes = subst (λ xs. IfOk r (λ s. IsClassesOf (by_tree R) (members s) xs)) (sym is)

    pub gathered_same : IfOk r (λ s. IsClassesOf (by_tree R) (members s) ws) → IfOk r (λ s. HaveSameClasses (by_tree R) (members s) vs)
    gathered_same =
        IfOk-weaker r (λ s. IsClassesOf (by_tree R) (members s) ws) (λ s. HaveSameClasses (by_tree R) (members s) vs)
        (λ s h q. h.same q ∙ ap (λ xs. has_class (by_tree R) xs q) (sym is) ∙ same_gathered vs q)

    pub gathered_well : IfOk r (λ s. IsTrue (list_all (well_formed R) ws) → IsTrue (set_well_formed R s)) → IfOk r (λ s. IsTrue (list_all (well_formed R) vs) → IsTrue (set_well_formed R s))
    gathered_well =
        IfOk-weaker r (λ s. IsTrue (list_all (well_formed R) ws) → IsTrue (set_well_formed R s)) (λ s. IsTrue (list_all (well_formed R) vs) → IsTrue (set_well_formed R s))
        (λ s h all. h (ap (list_all (well_formed R)) (sym is) ∙ gathered_kept vs ∙ all))
