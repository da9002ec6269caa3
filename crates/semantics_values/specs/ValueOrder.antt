-- Values compare by kind, in the order Lit, Set, Record, ExtensionValue, and within a kind by what they
-- hold; extension values as X says, so that no representation counts (`Ord` of Cedar's `value.rs`).
use Rattle.std.specs.Prelude.{◌≡◌, ℕ, Bool, true, false, ◌&&◌, List, [], ◌∷◌, nat_eq, refl}
use Rattle.std.specs.Cmp.{IsTotalOrder, alike_right, tied_back, nat_cmp_is, ranked}
use Rattle.std.specs.Cmp.Lexicographic.{slice_cmp, pointwise, nat_list_cmp_total, texts_ties}
use Rattle.std.specs.Ordering.{nat_cmp, ordering_then, ordering_reverse, is_eq, eq_by_cmp}
use Rattle.std.specs.declared.cmp.Ordering.{Ordering}
use Rattle.std.specs.declared.cmp.Ordering.TheVariants.{Less, Equal, Greater}
use Rattle.std.proofs.Common.{ap, sym, arith, ◌∙◌, ◌≤◌, ◌<◌}
use Rattle.cedar_terms.specs.LiteralOrder.{literal_cmp, literal_eq, literal_cmp_total, literal_ties}
use Rattle.semantics_values.specs.BareValue.{BareValue, LitValue, SetValue, RecordValue, ExtensionValue, BareValues, no_values, value, values_of, BarePairs, no_pairs, pair}

-- the kinds in their order
abbrev pub value_number : {X : Type 0} → BareValue X → ℕ
value_number (LitValue l) = 0
value_number (SetValue ts) = 1
value_number (RecordValue ps) = 2
value_number (ExtensionValue x g) = 3

abbrev mutual
  -- whether two values are the same, where E says whether two extension values are
  pub value_eq : {X : Type 0} → (X → X → Bool) → BareValue X → BareValue X → Bool
  value_eq E (LitValue a) (LitValue b) = literal_eq a b
  value_eq E (SetValue a) (SetValue b) = values_eq E a b
  value_eq E (RecordValue a) (RecordValue b) = pairs_eq E a b
  value_eq E (ExtensionValue a g) (ExtensionValue b h) = E a b
  value_eq E x y = false

  -- whether values are the same, one by one
  pub values_eq : {X : Type 0} → (X → X → Bool) → BareValues X → BareValues X → Bool
  values_eq E no_values no_values = true
  values_eq E (value a as_) (value b bs) = value_eq E a b && values_eq E as_ bs
  values_eq E x y = false

  -- whether pairs are the same, keys and values, one by one
  pub pairs_eq : {X : Type 0} → (X → X → Bool) → BarePairs X → BarePairs X → Bool
  pairs_eq E no_pairs no_pairs = true
  pairs_eq E (pair k a as_) (pair l b bs) =
      pointwise nat_eq k l && (value_eq E a b && pairs_eq E as_ bs)
  pairs_eq E x y = false

abbrev mutual
  -- which value stands before the other, where R says so of two extension values
  pub value_cmp : {X : Type 0} → (X → X → Ordering) → BareValue X → BareValue X → Ordering
  value_cmp R (LitValue a) (LitValue b) = literal_cmp a b
  value_cmp R (SetValue a) (SetValue b) = values_cmp R a b
  value_cmp R (RecordValue a) (RecordValue b) = pairs_cmp R a b
  value_cmp R (ExtensionValue a g) (ExtensionValue b h) = R a b
  value_cmp R x y = nat_cmp (value_number x) (value_number y)

  -- by the first difference, a beginning before what it begins
  pub values_cmp : {X : Type 0} → (X → X → Ordering) → BareValues X → BareValues X → Ordering
  values_cmp R no_values no_values = Equal
  values_cmp R no_values (value b bs) = Less
  values_cmp R (value a as_) no_values = Greater
  values_cmp R (value a as_) (value b bs) = ordering_then (value_cmp R a b) (values_cmp R as_ bs)

  -- likewise, a key before its value
  pub pairs_cmp : {X : Type 0} → (X → X → Ordering) → BarePairs X → BarePairs X → Ordering
  pairs_cmp R no_pairs no_pairs = Equal
  pairs_cmp R no_pairs (pair l b bs) = Less
  pairs_cmp R (pair k a as_) no_pairs = Greater
  pairs_cmp R (pair k a as_) (pair l b bs) =
      ordering_then (slice_cmp nat_cmp k l) (ordering_then (value_cmp R a b) (pairs_cmp R as_ bs))

-- the members' order is the lexicographic one of their list
pub values_cmp_is : {X : Type 0} (R : X → X → Ordering) (ts us : List (BareValue X)) → values_cmp R (values_of ts) (values_of us) ≡ slice_cmp (value_cmp R) ts us
values_cmp_is R [] [] = refl
values_cmp_is R [] (u ∷ us) = refl
values_cmp_is R (t ∷ ts) [] = refl
values_cmp_is R (t ∷ ts) (u ∷ us) = ap (ordering_then (value_cmp R t u)) (values_cmp_is R ts us)

-- ---- it is a total order, for each total order of extension values

first_equal : (a b : Ordering) → ordering_then a b ≡ Equal → a ≡ Equal
first_equal Less b h = h
first_equal Equal b h = refl
first_equal Greater b h = h

then_equal : (a b : Ordering) → ordering_then a b ≡ Equal → b ≡ Equal
then_equal Less b h = cc
then_equal Equal b h = h
then_equal Greater b h = cc

reverse_then : (a b : Ordering) → ordering_reverse (ordering_then a b) ≡ ordering_then (ordering_reverse a) (ordering_reverse b)
reverse_then Less b = refl
reverse_then Equal b = refl
reverse_then Greater b = refl

-- by the first difference: the heads ab, ac, bc and the tails of three lists a, b and c
then_congr : (ab t ac bc tac tbc : Ordering) → (ab ≡ Equal → ac ≡ bc) → (t ≡ Equal → tac ≡ tbc) → ordering_then ab t ≡ Equal → ordering_then ac tac ≡ ordering_then bc tbc
then_congr ab t ac bc tac tbc h g is = λ i. ordering_then (h (first_equal ab t is) i) (g (then_equal ab t is) i)

then_trans : (ab bc ac tab tbc tac : Ordering) → (ab ≡ Less → bc ≡ Less → ac ≡ Less) → (ab ≡ Equal → ac ≡ bc) → (bc ≡ Equal → ac ≡ ab) → (tab ≡ Less → tbc ≡ Less → tac ≡ Less) → ordering_then ab tab ≡ Less → ordering_then bc tbc ≡ Less → ordering_then ac tac ≡ Less
then_trans Less Less ac tab tbc tac h l r t p q = ap (λ o. ordering_then o tac) (h refl refl)
then_trans Less Equal ac tab tbc tac h l r t p q = ap (λ o. ordering_then o tac) (r refl)
then_trans Less Greater ac tab tbc tac h l r t p q = cc
then_trans Equal Less ac tab tbc tac h l r t p q = ap (λ o. ordering_then o tac) (l refl)
then_trans Equal Equal ac tab tbc tac h l r t p q = ap (λ o. ordering_then o tac) (l refl) ∙ t p q
then_trans Equal Greater ac tab tbc tac h l r t p q = cc
then_trans Greater bc ac tab tbc tac h l r t p q = cc

-- a value that stands before another has no later kind
module _ {X : Type 0} (R : X → X → Ordering) where
  kinds_up : (a b : BareValue X) → value_cmp R a b ≡ Less → value_number a ≤ value_number b
  kinds_up (LitValue a) (LitValue b) h = omega arith
  kinds_up (SetValue a) (SetValue b) h = omega arith
  kinds_up (RecordValue a) (RecordValue b) h = omega arith
  kinds_up (ExtensionValue a g) (ExtensionValue b g') h = omega arith
  kinds_up x y h = let l : value_number x < value_number y = ranked (value_number x) (value_number y) Less (sym h) in omega arith

  less_by_kind : (a b : BareValue X) → value_number a < value_number b → value_cmp R a b ≡ Less
  less_by_kind (LitValue a) (LitValue b) h = absurd (omega arith)
  less_by_kind (SetValue a) (SetValue b) h = absurd (omega arith)
  less_by_kind (RecordValue a) (RecordValue b) h = absurd (omega arith)
  less_by_kind (ExtensionValue a g) (ExtensionValue b g') h = absurd (omega arith)
  less_by_kind x y h = sym (nat_cmp_is (value_number x) (value_number y) Less h)

module _ {X : Type 0} {R : X → X → Ordering} (o : IsTotalOrder R) where
  mutual
    antisymm : (a b : BareValue X) → value_cmp R a b ≡ ordering_reverse (value_cmp R b a)
    antisymm (LitValue a) (LitValue b) = literal_cmp_total.antisymm a b
    antisymm (SetValue a) (SetValue b) = values_antisymm a b
    antisymm (RecordValue a) (RecordValue b) = pairs_antisymm a b
    antisymm (ExtensionValue a g) (ExtensionValue b h) = o.antisymm a b
    antisymm x y = refl

    values_antisymm : (a b : BareValues X) → values_cmp R a b ≡ ordering_reverse (values_cmp R b a)
    values_antisymm no_values no_values = refl
    values_antisymm no_values (value b bs) = refl
    values_antisymm (value a as_) no_values = refl
    values_antisymm (value a as_) (value b bs) =
        (λ i. ordering_then (antisymm a b i) (values_antisymm as_ bs i)) ∙ sym (reverse_then (value_cmp R b a) (values_cmp R bs as_))

    pairs_antisymm : (a b : BarePairs X) → pairs_cmp R a b ≡ ordering_reverse (pairs_cmp R b a)
    pairs_antisymm no_pairs no_pairs = refl
    pairs_antisymm no_pairs (pair l b bs) = refl
    pairs_antisymm (pair k a as_) no_pairs = refl
    pairs_antisymm (pair k a as_) (pair l b bs) =
        (λ i. ordering_then (nat_list_cmp_total.antisymm k l i) (ordering_then (antisymm a b i) (pairs_antisymm as_ bs i)))
        ∙ ap (ordering_then (ordering_reverse (slice_cmp nat_cmp l k))) (sym (reverse_then (value_cmp R b a) (pairs_cmp R bs as_)))
        ∙ sym (reverse_then (slice_cmp nat_cmp l k) (ordering_then (value_cmp R b a) (pairs_cmp R bs as_)))

  mutual
    congr : (a b c : BareValue X) → value_cmp R a b ≡ Equal → value_cmp R a c ≡ value_cmp R b c
    congr (LitValue a) (LitValue b) (LitValue c) h = literal_cmp_total.congr a b c h
    congr (SetValue a) (SetValue b) (SetValue c) h = values_congr a b c h
    congr (RecordValue a) (RecordValue b) (RecordValue c) h = pairs_congr a b c h
    congr (ExtensionValue a g) (ExtensionValue b g') (ExtensionValue c g'') h = o.congr a b c h
    congr x y z h = cc

    values_congr : (a b c : BareValues X) → values_cmp R a b ≡ Equal → values_cmp R a c ≡ values_cmp R b c
    values_congr no_values no_values c h = refl
    values_congr no_values (value b bs) c h = cc
    values_congr (value a as_) no_values c h = cc
    values_congr (value a as_) (value b bs) no_values h = refl
    values_congr (value a as_) (value b bs) (value c cs) h =
        then_congr (value_cmp R a b) (values_cmp R as_ bs) _ _ _ _ (congr a b c) (values_congr as_ bs cs) h

    pairs_congr : (a b c : BarePairs X) → pairs_cmp R a b ≡ Equal → pairs_cmp R a c ≡ pairs_cmp R b c
    pairs_congr no_pairs no_pairs c h = refl
    pairs_congr no_pairs (pair l b bs) c h = cc
    pairs_congr (pair k a as_) no_pairs c h = cc
    pairs_congr (pair k a as_) (pair l b bs) no_pairs h = refl
    pairs_congr (pair k a as_) (pair l b bs) (pair m c cs) h =
        then_congr (slice_cmp nat_cmp k l) (ordering_then (value_cmp R a b) (pairs_cmp R as_ bs)) _ _ _ _ (nat_list_cmp_total.congr k l m)
        (λ rest. then_congr (value_cmp R a b) (pairs_cmp R as_ bs) _ _ _ _ (congr a b c) (pairs_congr as_ bs cs) rest) h

  -- what ties with the second is after the first as the second is
  alike : (a b c : BareValue X) → value_cmp R b c ≡ Equal → value_cmp R a c ≡ value_cmp R a b
  alike a b c h = antisymm a c ∙ ap ordering_reverse (congr c b a (antisymm c b ∙ ap ordering_reverse h)) ∙ sym (antisymm a b)

  mutual
    trans : (a b c : BareValue X) → value_cmp R a b ≡ Less → value_cmp R b c ≡ Less → value_cmp R a c ≡ Less
    trans (LitValue a) (LitValue b) (LitValue c) h g = literal_cmp_total.trans a b c h g
    trans (SetValue a) (SetValue b) (SetValue c) h g = values_trans a b c h g
    trans (RecordValue a) (RecordValue b) (RecordValue c) h g = pairs_trans a b c h g
    trans (ExtensionValue a e) (ExtensionValue b e') (ExtensionValue c e'') h g = o.trans a b c h g
    trans x y z h g = less_by_kind R x z (omega (arith, kinds_up R x y h, kinds_up R y z g))

    values_trans : (a b c : BareValues X) → values_cmp R a b ≡ Less → values_cmp R b c ≡ Less → values_cmp R a c ≡ Less
    values_trans no_values no_values c h g = g
    values_trans no_values (value b bs) no_values h g = cc
    values_trans no_values (value b bs) (value c cs) h g = refl
    values_trans (value a as_) no_values c h g = cc
    values_trans (value a as_) (value b bs) no_values h g = cc
    values_trans (value a as_) (value b bs) (value c cs) h g =
        then_trans (value_cmp R a b) (value_cmp R b c) (value_cmp R a c) _ _ _ (trans a b c) (congr a b c) (alike a b c) (values_trans as_ bs cs) h g

    pairs_trans : (a b c : BarePairs X) → pairs_cmp R a b ≡ Less → pairs_cmp R b c ≡ Less → pairs_cmp R a c ≡ Less
    pairs_trans no_pairs no_pairs c h g = g
    pairs_trans no_pairs (pair l b bs) no_pairs h g = cc
    pairs_trans no_pairs (pair l b bs) (pair m c cs) h g = refl
    pairs_trans (pair k a as_) no_pairs c h g = cc
    pairs_trans (pair k a as_) (pair l b bs) no_pairs h g = cc
    pairs_trans (pair k a as_) (pair l b bs) (pair m c cs) h g =
        then_trans (slice_cmp nat_cmp k l) (slice_cmp nat_cmp l m) (slice_cmp nat_cmp k m) _ _ _
        (nat_list_cmp_total.trans k l m) (nat_list_cmp_total.congr k l m) (λ e. alike_right nat_list_cmp_total m l k (tied_back nat_list_cmp_total l m e))
        (then_trans (value_cmp R a b) (value_cmp R b c) (value_cmp R a c) _ _ _ (trans a b c) (congr a b c) (alike a b c) (pairs_trans as_ bs cs)) h g

  pub value_cmp_total : IsTotalOrder (value_cmp R)
  value_cmp_total = record { antisymm = antisymm; trans = trans; congr = congr }

is_eq-then : (a b : Ordering) → is_eq (ordering_then a b) ≡ (is_eq a && is_eq b)
is_eq-then Less b = refl
is_eq-then Equal b = refl
is_eq-then Greater b = refl

-- values are the same just where neither stands before the other
module _ {X : Type 0} (R : X → X → Ordering) (E : X → X → Bool) (ties : (x y : X) → E x y ≡ eq_by_cmp R x y) where
  mutual
    pub value_ties : (a b : BareValue X) → value_eq E a b ≡ eq_by_cmp (value_cmp R) a b
    value_ties (LitValue a) (LitValue b) = literal_ties a b
    value_ties (SetValue a) (SetValue b) = values_ties a b
    value_ties (RecordValue a) (RecordValue b) = pairs_ties a b
    value_ties (ExtensionValue a g) (ExtensionValue b h) = ties a b
    value_ties x y = refl

    values_ties : (a b : BareValues X) → values_eq E a b ≡ is_eq (values_cmp R a b)
    values_ties no_values no_values = refl
    values_ties no_values (value b bs) = refl
    values_ties (value a as_) no_values = refl
    values_ties (value a as_) (value b bs) = (λ i. value_ties a b i && values_ties as_ bs i) ∙ sym (is_eq-then (value_cmp R a b) (values_cmp R as_ bs))

    pairs_ties : (a b : BarePairs X) → pairs_eq E a b ≡ is_eq (pairs_cmp R a b)
    pairs_ties no_pairs no_pairs = refl
    pairs_ties no_pairs (pair l b bs) = refl
    pairs_ties (pair k a as_) no_pairs = refl
    pairs_ties (pair k a as_) (pair l b bs) =
        (λ i. texts_ties k l i && (value_ties a b i && pairs_ties as_ bs i))
        ∙ ap (λ c. is_eq (slice_cmp nat_cmp k l) && c) (sym (is_eq-then (value_cmp R a b) (pairs_cmp R as_ bs)))
        ∙ sym (is_eq-then (slice_cmp nat_cmp k l) (ordering_then (value_cmp R a b) (pairs_cmp R as_ bs)))
