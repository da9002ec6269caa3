-- Keys that are collected one after another.
use Rattle.std.proofs.Common.{◌≡◌, ℕ, ◌+◌, ◌<◌, true, false, cond, ◌||◌, List, [], ◌∷◌, length, get_or, take, IsTrue, Some, Ordering, sym, refl, ap, ◌∙◌, ⊎_elim}
use Rattle.std.specs.Cmp.{IsTotalOrder, Equal-is}
use Rattle.std.specs.Map.{lookup}
use Rattle.std.specs.Ordering.{eq_by_cmp}
use Rattle.std.proofs.lemmas.Bool.{or_cases, true≢false}
use Rattle.std.proofs.lemmas.List.Folds.{list_any_more}
use Rattle.cedar_sorted_slices.specs.Classes.{has_class, IsPartOf}
use Rattle.cedar_ancestors.specs.Keyed.{is_listed, AreKnown}
use Rattle.cedar_ancestors.proofs.Keys.{class_alike}

-- each entry's key and parents are among the keys
abbrev pub IsCovered : {K V : Type 0} → (K → K → Ordering) → (V → List K) → List K → List (K × V) → Type 0
IsCovered R P keys [] = Unit {0}
IsCovered R P keys (e ∷ es) = IsTrue (has_class R keys e.0) × IsPartOf R (P e.1) keys × IsCovered R P keys es

-- what is still to be covered is all that is missing
pub record IsCovering {K V : Type 0} (R : K → K → Ordering) (P : V → List K) (all left : List (K × V)) (keys : List K) : Type 0 where
  pub rest : (more : List K) → IsPartOf R keys more → IsCovered R P more left → IsCovered R P more all

module _ {K : Type 0} {R : K → K → Ordering} (o : IsTotalOrder R) where
  pub part_more : (xs ys : List K) (i : ℕ) (x : K) → i < length xs → x ≡ get_or xs i x → IsPartOf R (take i xs) ys → IsTrue (has_class R ys x) → IsPartOf R (take (i + 1) xs) ys
  part_more xs ys i x lt is part has q h =
      ⊎_elim
      (λ t. part q t)
      (λ t. class_alike o ys q x ((Equal-is (R q x)).0 t) ∙ has)
      (or_cases (has_class R (take i xs) q) (eq_by_cmp R q x) (sym (list_any_more (eq_by_cmp R q) xs i x lt ∙ ap (λ (y : K). has_class R (take i xs) q || eq_by_cmp R q y) (sym is)) ∙ h))

module _ {K V : Type 0} {R : K → K → Ordering} (o : IsTotalOrder R) (P : V → List K) where
  pub covering_more : (all left : List (K × V)) (key : K) (listed : V) (keys after : List K) → IsPartOf R keys after → IsTrue (has_class R after key) → IsPartOf R (P listed) after → IsCovering R P all ((key, listed) ∷ left) keys → IsCovering R P all left after
  covering_more all left key listed keys after part has items c = record {
    rest = λ more p covered. c.rest more (λ q h. p q (part q h)) (p key has, λ q h. p q (items q h), covered);
  }

  known_from : (keys : List K) (es : List (K × V)) → IsCovered R P keys es → (child parent : K) → is_listed R P (lookup (eq_by_cmp R child) es) parent ≡ true → IsTrue (has_class R keys child) × IsTrue (has_class R keys parent)
  known_from keys [] c child parent h = absurd (true≢false (sym h))
  known_from keys (e ∷ es) c child parent h =
      elim (eq_by_cmp R child e.0) as (λ b. eq_by_cmp R child e.0 ≡ b → is_listed R P (cond b (Some e.1) (lookup (eq_by_cmp R child) es)) parent ≡ true → IsTrue (has_class R keys child) × IsTrue (has_class R keys parent)) [
        | true ↦ λ t l. (class_alike o keys child e.0 ((Equal-is (R child e.0)).0 t) ∙ c.0, c.1 parent l)
        | false ↦ λ _ l. known_from keys es c.2 child parent l
      ] refl h

  pub covering_all : (keys : List K) (m : List (K × V)) → IsCovering R P m [] keys → AreKnown R P keys m
  covering_all keys m c = known_from keys m (c.rest keys (λ q h. h) tt)
