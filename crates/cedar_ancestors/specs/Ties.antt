-- Keys that compare as equal have the same entry, and are parents alike.
use Rattle.std.specs.Prelude.{◌≡◌, List, Option, Some, None}
use Rattle.std.proofs.Common.{refl, ap, ◌∙◌}
use Rattle.std.specs.Cmp.{IsTotalOrder}
use Rattle.std.specs.List.{list_any}
use Rattle.std.specs.Map.{lookup}
use Rattle.std.specs.Ordering.{is_eq}
use Rattle.std.specs.declared.cmp.Ordering.{Ordering}
use Rattle.std.specs.declared.cmp.Ordering.TheVariants.{Equal}
use Rattle.cedar_sorted_slices.specs.Classes.{has_class}
use Rattle.cedar_ancestors.specs.Keyed.{entry_at, is_listed, lists}

tied_class : {K : Type 0} {R : K → K → Ordering} (o : IsTotalOrder R) (xs : List K) (x y : K)
    → R x y ≡ Equal → has_class R xs x ≡ has_class R xs y
tied_class o xs x y e = λ i. list_any (λ k. is_eq (o.congr x y k e i)) xs

module _ {K V : Type 0} {R : K → K → Ordering} (o : IsTotalOrder R) where
  pub tied_entry : (m : List (K × V)) (x y : K) → R x y ≡ Equal
      → entry_at R m x ≡ entry_at R m y
  tied_entry m x y e = λ i. lookup (λ k. is_eq (o.congr x y k e i)) m

  tied_listed : (P : V → List K) (e : Option V) (x y : K) → R x y ≡ Equal
      → is_listed R P e x ≡ is_listed R P e y
  tied_listed P None x y h = refl
  tied_listed P (Some w) x y h = tied_class o (P w) x y h

  pub tied_lists : (P : V → List K) (m : List (K × V)) (x y a b : K)
      → R x a ≡ Equal → R y b ≡ Equal → lists R P m x y ≡ lists R P m a b
  tied_lists P m x y a b h l =
      ap (λ e. is_listed R P e y) (tied_entry m x a h) ∙ tied_listed P (entry_at R m a) y b l
