-- The hash forms of the sets inside values, level by level.
use Rattle.std.proofs.Common.{◌≡◌, Bool, true, false, ◌&&◌, List, [], ◌∷◌, map, refl, sym, ap, ◌∙◌}
use Rattle.std.specs.List.{list_all}
use Rattle.cedar_values.specs.BareValues.{bare_value, kind_of}
use Rattle.cedar_values.specs.HashForms.{is_hash_form}
use Rattle.cedar_values.specs.Sets.{has_hash_form, hashed_literals, members}
use Rattle.cedar_values.specs.WellFormed.{is_hashed, is_kind_hashed, is_set_hashed, kind_hashed, set_hashed, value_hashed}
use Rattle.cedar_values.specs.declared.set.Set.{Set, out-Set, roll-out-Set, para-roll-Set}
use Rattle.cedar_values.specs.declared.value.Value.{Value, out-Value, roll-out-Value, para-roll-Value}
use Rattle.cedar_values.specs.declared.value.ValueKind.{ValueKind, out-ValueKind, roll-out-ValueKind, para-roll-ValueKind, map-ValueKind}
use Rattle.cedar_values.specs.declared.value.ValueKind.TheOpen.{ValueKind-F}

module _ {A B : Type 0} (f : A → B) where
  firsts : (xs : List A) → map (λ (e : A × B). e.0) (map (λ x. (x, f x)) xs) ≡ xs
  firsts [] = refl
  firsts (x ∷ xs) = ap (λ ys. x ∷ ys) (firsts xs)

all_seconds : {A : Type 0} (f : A → Bool) (xs : List A) → list_all (λ (e : A × Bool). e.1) (map (λ x. (x, f x)) xs) ≡ list_all f xs
all_seconds f [] = refl
all_seconds f (x ∷ xs) = ap (λ b. f x && b) (all_seconds f xs)

all_entries : {A K : Type 0} (f : A → Bool) (xs : List (K × A)) → list_all (λ (e : K × (A × Bool)). e.1.1) (map (λ (e : K × A). (e.0, (e.1, f e.1))) xs) ≡ list_all (λ e. f e.1) xs
all_entries f [] = refl
all_entries f (x ∷ xs) = ap (λ b. f x.1 && b) (all_entries f xs)

crossed : (a b c d : Bool) → ((a && b) && (c && d)) ≡ ((a && c) && (b && d))
crossed true true c d = refl
crossed true false true d = refl
crossed true false false d = refl
crossed false b c d = refl

-- two tests of each item are one
pub all_both : {A : Type 0} (p q : A → Bool) (xs : List A) → (list_all p xs && list_all q xs) ≡ list_all (λ x. p x && q x) xs
all_both p q [] = refl
all_both p q (x ∷ xs) = crossed (p x) (list_all p xs) (q x) (list_all q xs) ∙ ap (λ b. (p x && q x) && b) (all_both p q xs)

-- one level of a kind
abbrev pub hash_level : {X : Type 0} → ValueKind-F X (ValueKind X) (Set X) (Value X) → Bool
hash_level (ValueKind-F.Lit l) = true
hash_level (ValueKind-F.Set s) = is_set_hashed s
hash_level (ValueKind-F.Record m) = list_all (λ e. is_hashed e.1) m.value.entries
hash_level (ValueKind-F.ExtensionValue e) = true

module _ {X : Type 0} where
  pub value_hash : (v : Value X) → is_hashed v ≡ is_kind_hashed (kind_of v)
  unfolding is_hashed is_kind_hashed
  value_hash v = ap is_hashed (sym (roll-out-Value X v)) ∙ para-roll-Value X Bool Bool Bool kind_hashed set_hashed value_hashed (out-Value X v)

  pub set_hash : (s : Set X) → is_set_hashed s ≡ (has_hash_form s && list_all is_hashed (members s))
  unfolding is_hashed is_set_hashed members hashed_literals
  set_hash s =
      ap is_set_hashed (sym (roll-out-Set X s)) ∙ para-roll-Set X Bool Bool Bool kind_hashed set_hashed value_hashed (out-Set X s)
      ∙ λ i. is_hash_form (map bare_value (firsts is_hashed (members s) i)) (hashed_literals s) && all_seconds is_hashed (members s) i

  pub kind_hash : (k : ValueKind X) → is_kind_hashed k ≡ hash_level (out-ValueKind X k)
  unfolding is_hashed is_set_hashed is_kind_hashed
  kind_hash k =
      ap is_kind_hashed (sym (roll-out-ValueKind X k)) ∙ para-roll-ValueKind X Bool Bool Bool kind_hashed set_hashed value_hashed (out-ValueKind X k)
      ∙ elim (out-ValueKind X k) as (λ (x : ValueKind-F X (ValueKind X) (Set X) (Value X)). kind_hashed (map-ValueKind X _ _ _ _ _ _ (λ y. (y, is_kind_hashed y)) (λ y. (y, is_set_hashed y)) (λ y. (y, is_hashed y)) x) ≡ hash_level x) [
        | ValueKind-F.Lit l ↦ refl
        | ValueKind-F.Set s ↦ refl
        | ValueKind-F.Record m ↦ all_entries is_hashed m.value.entries
        | ValueKind-F.ExtensionValue e ↦ refl
      ]
