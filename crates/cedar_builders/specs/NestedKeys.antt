-- Nested lists of parts, ordered by the first difference: a total order, where that of the parts is.
use Rattle.std.specs.Prelude.{◌≡◌}
use Rattle.std.proofs.Common.{refl, sym, ◌∙◌, ap, ◌⊎◌, inl, inr}
use Rattle.std.specs.declared.cmp.Ordering.{Ordering}
use Rattle.std.specs.declared.cmp.Ordering.TheVariants.{Less, Equal, Greater}
use Rattle.std.specs.Ordering.{ordering_reverse}
use Rattle.std.specs.Cmp.{IsTotalOrder}
use Rattle.cedar_builders.specs.Shapes.{◌or_else◌}

-- a total order that is equal on equal values alone
pub record Order (A : Type 0) : Type 0 where
  pub cmp : A → A → Ordering
  pub antisymm : (x y : A) → cmp x y ≡ ordering_reverse (cmp y x)
  pub trans : (x y z : A) → cmp x y ≡ Less → cmp y z ≡ Less → cmp x z ≡ Less
  pub exact : (x y : A) → cmp x y ≡ Equal → x ≡ y

-- ---- one order and then another

pub then_equal : (r s : Ordering) → (r or_else s) ≡ Equal → (r ≡ Equal) × (s ≡ Equal)
then_equal Less s h = cc
then_equal Equal s h = (refl, h)
then_equal Greater s h = cc

pub then_last : (r : Ordering) → (r or_else Equal) ≡ r
then_last Less = refl
then_last Equal = refl
then_last Greater = refl

turned : (r s : Ordering) → ordering_reverse (r or_else s) ≡ (ordering_reverse r or_else ordering_reverse s)
turned Less s = refl
turned Equal s = refl
turned Greater s = refl

-- what follows for a first difference, where t is what comes of r and s
chain : (r s t p q w : Ordering) → (r ≡ Less → s ≡ Less → t ≡ Less) → (r ≡ Equal → t ≡ s) → (s ≡ Equal → t ≡ r) → (p ≡ Less → q ≡ Less → w ≡ Less) → (r or_else p) ≡ Less → (s or_else q) ≡ Less → (t or_else w) ≡ Less
chain Less Less t p q w a b c d h k = ap (λ x. x or_else w) (a refl refl)
chain Less Equal t p q w a b c d h k = ap (λ x. x or_else w) (c refl)
chain Less Greater t p q w a b c d h k = cc
chain Equal Less t p q w a b c d h k = ap (λ x. x or_else w) (b refl)
chain Equal Equal t p q w a b c d h k = ap (λ x. x or_else w) (b refl) ∙ d h k
chain Equal Greater t p q w a b c d h k = cc
chain Greater s t p q w a b c d h k = cc

pub total_of : {A : Type 0} (o : Order A) → IsTotalOrder o.cmp
total_of o = record {
  antisymm = o.antisymm;
  trans = o.trans;
  congr = λ x y z e. ap (λ w. o.cmp w z) (o.exact x y e);
}

pub itself : {A : Type 0} (o : Order A) (x : A) → o.cmp x x ≡ Equal
itself o x = go (o.cmp x x) (o.antisymm x x)
  where
    go : (r : Ordering) → r ≡ ordering_reverse r → r ≡ Equal
    go Less e = cc
    go Equal e = refl
    go Greater e = cc

-- ---- a choice of two, the first before the second

module _ {A C : Type 0} (o : Order A) (p : Order C) where
  abbrev pub sum_cmp : A ⊎ C → A ⊎ C → Ordering
  sum_cmp (inl a) (inl b) = o.cmp a b
  sum_cmp (inl a) (inr b) = Less
  sum_cmp (inr a) (inl b) = Greater
  sum_cmp (inr a) (inr b) = p.cmp a b

  pub sum_antisymm : (x y : A ⊎ C) → sum_cmp x y ≡ ordering_reverse (sum_cmp y x)
  sum_antisymm (inl a) (inl b) = o.antisymm a b
  sum_antisymm (inl a) (inr b) = refl
  sum_antisymm (inr a) (inl b) = refl
  sum_antisymm (inr a) (inr b) = p.antisymm a b

  pub sum_trans : (x y z : A ⊎ C) → sum_cmp x y ≡ Less → sum_cmp y z ≡ Less → sum_cmp x z ≡ Less
  sum_trans (inl a) (inl b) (inl c) h k = o.trans a b c h k
  sum_trans (inl a) y (inr c) h k = refl
  sum_trans (inl a) (inr b) (inl c) h k = cc
  sum_trans (inr a) (inl b) z h k = cc
  sum_trans (inr a) (inr b) (inl c) h k = cc
  sum_trans (inr a) (inr b) (inr c) h k = p.trans a b c h k

  pub sum_exact : (x y : A ⊎ C) → sum_cmp x y ≡ Equal → x ≡ y
  sum_exact (inl a) (inl b) h = ap inl (o.exact a b h)
  sum_exact (inl a) (inr b) h = cc
  sum_exact (inr a) (inl b) h = cc
  sum_exact (inr a) (inr b) h = ap inr (p.exact a b h)

  abbrev pub sum_order : Order (A ⊎ C)
  sum_order = record { cmp = sum_cmp; antisymm = sum_antisymm; trans = sum_trans; exact = sum_exact }

-- ---- keys

mutual
  pub data Key (P : Type 0) : Type 0 where
    part : P → Key P
    branch : Keys P → Key P

  pub data Keys (P : Type 0) : Type 0 where
    no_keys : Keys P
    key : Key P → Keys P → Keys P

module _ {P : Type 0} (o : Order P) where
  abbrev mutual
    pub key_cmp : Key P → Key P → Ordering
    key_cmp (part a) (part b) = o.cmp a b
    key_cmp (part a) (branch ys) = Less
    key_cmp (branch xs) (part b) = Greater
    key_cmp (branch xs) (branch ys) = keys_cmp xs ys

    pub keys_cmp : Keys P → Keys P → Ordering
    keys_cmp no_keys no_keys = Equal
    keys_cmp no_keys (key y ys) = Less
    keys_cmp (key x xs) no_keys = Greater
    keys_cmp (key x xs) (key y ys) = key_cmp x y or_else keys_cmp xs ys

  mutual
    pub key_antisymm : (x y : Key P) → key_cmp x y ≡ ordering_reverse (key_cmp y x)
    key_antisymm (part a) (part b) = o.antisymm a b
    key_antisymm (part a) (branch ys) = refl
    key_antisymm (branch xs) (part b) = refl
    key_antisymm (branch xs) (branch ys) = keys_antisymm xs ys

    keys_antisymm : (x y : Keys P) → keys_cmp x y ≡ ordering_reverse (keys_cmp y x)
    keys_antisymm no_keys no_keys = refl
    keys_antisymm no_keys (key y ys) = refl
    keys_antisymm (key x xs) no_keys = refl
    keys_antisymm (key x xs) (key y ys) = simp turned (cc (key_antisymm x y, keys_antisymm xs ys))

  mutual
    pub key_exact : (x y : Key P) → key_cmp x y ≡ Equal → x ≡ y
    key_exact (part a) (part b) h = ap part (o.exact a b h)
    key_exact (part a) (branch ys) h = cc
    key_exact (branch xs) (part b) h = cc
    key_exact (branch xs) (branch ys) h = ap branch (keys_exact xs ys h)

    keys_exact : (x y : Keys P) → keys_cmp x y ≡ Equal → x ≡ y
    keys_exact no_keys no_keys h = refl
    keys_exact no_keys (key y ys) h = cc
    keys_exact (key x xs) no_keys h = cc
    keys_exact (key x xs) (key y ys) h =
        let p = then_equal (key_cmp x y) (keys_cmp xs ys) h in
        cc (key_exact x y p.0, keys_exact xs ys p.1)

  mutual
    pub key_trans : (x y z : Key P) → key_cmp x y ≡ Less → key_cmp y z ≡ Less → key_cmp x z ≡ Less
    key_trans (part a) (part b) (part c) h k = o.trans a b c h k
    key_trans (part a) y (branch c) h k = refl
    key_trans (part a) (branch b) (part c) h k = cc
    key_trans (branch a) (part b) z h k = cc
    key_trans (branch a) (branch b) (part c) h k = cc
    key_trans (branch a) (branch b) (branch c) h k = keys_trans a b c h k

    keys_trans : (x y z : Keys P) → keys_cmp x y ≡ Less → keys_cmp y z ≡ Less → keys_cmp x z ≡ Less
    keys_trans no_keys y (key z zs) h k = refl
    keys_trans no_keys no_keys no_keys h k = h
    keys_trans no_keys (key y ys) no_keys h k = cc
    keys_trans (key x xs) no_keys z h k = cc
    keys_trans (key x xs) (key y ys) no_keys h k = cc
    keys_trans (key x xs) (key y ys) (key z zs) h k =
        chain (key_cmp x y) (key_cmp y z) (key_cmp x z) (keys_cmp xs ys) (keys_cmp ys zs) (keys_cmp xs zs) (key_trans x y z) (λ e. ap (λ w. key_cmp w z) (key_exact x y e)) (λ e. ap (λ w. key_cmp x w) (sym (key_exact y z e))) (keys_trans xs ys zs) h k

  abbrev pub key_order : Order (Key P)
  key_order = record { cmp = key_cmp; antisymm = key_antisymm; trans = key_trans; exact = key_exact }
