-- The nearest of the names so far.
use Rattle.std.proofs.Common.{◌≡◌, ◌≤◌, ◌<◌, ◌+◌, ℕ, List, [], Option, None, Some, arith, get_or, length, subst, sym, take}
use Rattle.std.proofs.lemmas.List.{take_all}
use Rattle.std.proofs.lemmas.List.Elements.{All-more, All-weaker, Contains-get_or}
use Rattle.std.specs.Borrow.{Bor}
use Rattle.std.specs.List.{Contains}
use Rattle.cedar_builders.specs.BareExpr.{Text}
use Rattle.cedar_json.specs.NearNames.{AreAway, IsNearest, edits, slips}

module _ (s : Text) (ts : List (Bor Text)) where
  -- what was found, and how many edits lead to it, or would be no slip
  abbrev pub IsFound : ℕ → Option (Bor Text) → Type 0
  IsFound n None = n ≡ slips (length s)
  IsFound n (Some t) = Contains ts t × (edits s t.now ≡ n) × (n < slips (length s))

  abbrev pub IsSoFar : ℕ → ℕ → Option (Bor Text) → Type 0
  IsSoFar i n found = IsFound n found × AreAway s n (take i ts)

  -- one name more
  more : (i n : ℕ) (d : Bor Text) → i < length ts → AreAway s n (take i ts)
      → (length s ≤ 60 → length (get_or ts i d).now ≤ 60 → n ≤ edits s (get_or ts i d).now)
      → AreAway s n (take (i + 1) ts)
  more i n d lt before this = All-more (λ u. length s ≤ 60 → length u.now ≤ 60 → n ≤ edits s u.now) ts i d lt before this

  -- it isn't nearer
  pub passed_by : (i n m : ℕ) (found : Option (Bor Text)) (d : Bor Text) → i < length ts
      → m ≡ edits s (get_or ts i d).now → n ≤ m → IsSoFar i n found → IsSoFar (i + 1) n found
  passed_by i n m found d lt is far h = (h.0, more i n d lt h.1 (λ a b. omega (arith, is, far)))

  -- it doesn't count
  pub long_name : (i n : ℕ) (found : Option (Bor Text)) (d : Bor Text) → i < length ts
      → 60 < length (get_or ts i d).now → IsSoFar i n found → IsSoFar (i + 1) n found
  long_name i n found d lt long h = (h.0, more i n d lt h.1 (λ a b. omega (arith, b, long)))

  pub long_wanted : (i n : ℕ) (found : Option (Bor Text)) → i < length ts → 60 < length s → IsSoFar i n found
      → IsSoFar (i + 1) n found
  long_wanted i n found lt long h =
      (h.0, more i n (record { ref_ptr = (0, 0); now = [] }) lt h.1 (λ a b. omega (arith, a, long)))

  below : (n m : ℕ) (found : Option (Bor Text)) → IsFound n found → m < n → m < slips (length s)
  below n m None h lt = subst (λ k. m < k) h lt
  below n m (Some t) h lt = omega (arith, h.2, lt)

  -- it is nearer
  pub taken_up : (i n m : ℕ) (found : Option (Bor Text)) (d : Bor Text) → i < length ts
      → m ≡ edits s (get_or ts i d).now → m < n → IsSoFar i n found → IsSoFar (i + 1) m (Some (get_or ts i d))
  taken_up i n m found d lt same fewer h = (
    (Contains-get_or ts i d lt, sym same, below n m found h.0 fewer),
    more i m d lt
        (All-weaker (λ u. length s ≤ 60 → length u.now ≤ 60 → n ≤ edits s u.now)
        (λ u. length s ≤ 60 → length u.now ≤ 60 → m ≤ edits s u.now)
        (λ u p a b. let q = p a b in omega (arith, q, fewer)) (take i ts) h.1)
        (λ a b. omega (arith, same)),
  )

  pub both_are : (i m n : ℕ) (o p : Option (Bor Text)) → n ≡ m → p ≡ o → IsSoFar i m o → IsSoFar i n p
  both_are i m n o p same is h = subst (λ k. IsSoFar i k p) (sym same) (subst (λ q. IsSoFar i m q) (sym is) h)

  pub nearest_of : (i n : ℕ) (found : Option (Bor Text)) → length ts ≤ i → IsSoFar i n found → IsNearest s ts found
  nearest_of i n None le h =
      subst (λ us. AreAway s (slips (length s)) us) (take_all i ts le)
      (subst (λ k. AreAway s k (take i ts)) h.0 h.1)
  nearest_of i n (Some t) le h = (
    h.0.0,
    subst (λ k. k < slips (length s)) (sym h.0.1) h.0.2,
    subst (λ us. AreAway s (edits s t.now) us) (take_all i ts le)
        (subst (λ k. AreAway s k (take i ts)) (sym h.0.1) h.1),
  )
