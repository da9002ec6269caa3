-- A look-up in a set of names answers as the list of its names without their places does, and the first place that passes a
-- test has the first element that does.
use Rattle.std.proofs.Common.{◌≡◌, ℕ, ◌≤◌, nat_lt, cond, List, [], ◌∷◌, length, get_or, Bool, ◌||◌, refl, sym, ◌∙◌, ap, arith, Some, None, position}
use Rattle.std.specs.Ordering.{is_eq}
use Rattle.std.specs.List.{list_any, find, position_or_len, slice_get}
use Rattle.cedar_names.specs.declared.internal_name.InternalName.{InternalName}
use Rattle.cedar_names.specs.Names.{BareName}
use Rattle.cedar_names.specs.NameOrder.{name_cmp, name_ties}
use Rattle.cedar_names.specs.InternalNames.{bare_internal_name}
use Rattle.cedar_names.specs.Resolution.{has_name}
use Rattle.std.proofs.lemmas.List.Folds.{find_at}
use Rattle.std.proofs.lemmas.List.Quantifiers.{position-Some}
use Rattle.std.proofs.lemmas.Option.{cond_some, slice_get-get_or, slice_get_past}
use Rattle.std.proofs.lemmas.Bool.Decides.{nat_tests}

pub has_name-looked_up : (ks : List InternalName) (n : BareName) → list_any (λ k. is_eq (name_cmp n (bare_internal_name k))) ks ≡ has_name ks n
has_name-looked_up [] n = refl
has_name-looked_up (k ∷ ks) n = λ i. sym (name_ties n (bare_internal_name k)) i || has_name-looked_up ks n i

past_end : (i n : ℕ) → cond (nat_lt i n) (Some i) None ≡ None → n ≤ i
past_end i n e = grind (arith, nat_tests)

module _ {X : Type 0} (p : X → Bool) where
  -- the element at the first place that passes
  pub find-position : (xs : List X) (i : ℕ) (x : X) → position p xs ≡ Some i → x ≡ get_or xs i x → find p xs ≡ Some x
  find-position xs i x e g =
      let first : position_or_len p xs ≡ i = (cond_some _ _ _ e).1 in
      let within = (position-Some p xs i x e).0 in
      find_at p xs ∙ (ap (slice_get xs) first ∙ (slice_get-get_or xs i x within ∙ ap Some (sym g)))

  -- no element passes where no place does
  pub find-no_position : (xs : List X) → position p xs ≡ None → find p xs ≡ None
  find-no_position xs e = find_at p xs ∙ slice_get_past xs (position_or_len p xs) (past_end (position_or_len p xs) (length xs) e)
