-- Sets of values (`Set` of Cedar's `value.rs`).
use Rattle.std.specs.Prelude.{◌≡◌, Bool, List, map, Option, option_map}
use Rattle.std.specs.HashSet.{contains}
use Rattle.std.specs.List.{Contains}
use Rattle.std.specs.Ordering.{on}
use Rattle.std.specs.declared.cmp.Ordering.{Ordering}
use Rattle.cedar_terms.specs.LiteralOrder.{literal_eq}
use Rattle.cedar_terms.specs.Literals.{BareLiteral, bare_literal}
use Rattle.cedar_terms.specs.declared.literal.Literal.{Literal}
use Rattle.cedar_sorted_slices.specs.Classes.{has_class, HaveSameClasses}
use Rattle.semantics_values.specs.ValueOrder.{value_cmp}
use Rattle.cedar_values.specs.BareValues.{bare_value}
use Rattle.cedar_values.specs.HashForms.{LiteralSet, is_hash_form, literals_of}
use Rattle.cedar_values.specs.Places.{literal_value}
use Rattle.cedar_values.specs.declared.value.Value.{Value}
use Rattle.cedar_values.specs.declared.set.Set.{Set, out-Set}

-- the members, in the order in which they are kept
unfoldable pub members : {X : Type 0} → Set X → List (Value X)
members {X} s = (out-Set X s).authoritative.value.items

-- the literals that are kept by hash, if any are
unfoldable pub hashed_literals : {X : Type 0} → Set X → Option (List BareLiteral)
hashed_literals {X} s = option_map (λ h. literals_of h.value) (out-Set X s).fast

-- whether these are the set's hash form; it says nothing of the sets inside
abbrev pub has_hash_form : {X : Type 0} → Set X → Bool
has_hash_form s = is_hash_form (map bare_value (members s)) (hashed_literals s)

-- the second set is a copy of the first: the same members, with the same literals by hash
abbrev pub IsSetCopy : {X : Type 0} → Set X → Set X → Type 0
IsSetCopy s copy = (members copy ≡ members s) × (hashed_literals copy ≡ hashed_literals s)

-- the order of values: that of their trees
abbrev pub by_tree : {X : Type 0} → (X → X → Ordering) → Value X → Value X → Ordering
by_tree R = on bare_value (value_cmp R)

-- the set by hash has a literal just where its value is one of these
abbrev pub HoldsJust : {X : Type 0} → (X → X → Ordering) → List (Value X) → LiteralSet → Type 0
HoldsJust R vs h =
    (l : Literal) → contains (on bare_literal literal_eq) h l ≡ has_class (by_tree R) vs (literal_value l)

-- the first values are some of the second, one or more of each class
pub record HaveEachOf {X : Type 0} (R : X → X → Ordering) (ms vs : List (Value X)) : Type 0 where
  pub same : HaveSameClasses (by_tree R) ms vs
  pub kept : (v : Value X) → Contains ms v → Contains vs v
