-- A map that is made of pairs one by one, as long as their keys are distinct.
use Rattle.std.proofs.Common.{◌≡◌, List, [], ◌∷◌, ◌++◌, map, fold, Bool, true, false, not, ◌&&◌, ◌||◌, Ordering, Less, Equal, Greater, nat_cmp, nat_eq, Global, refl, ap, sym, ◌∙◌, is_some, Option, Some, cond, length, arith}
use Rattle.std.specs.Ordering.{match_ordering, is_eq}
use Rattle.std.specs.Map.{lookup}
use Rattle.std.specs.BTreeMap.{insert_entry}
use Rattle.std.specs.Cmp.Lexicographic.{slice_cmp, pointwise, nat_list_eq_equiv, texts_ties, bytes_decides}
use Rattle.std.specs.Rc.{rc_str_bytes}
use Rattle.std.specs.declared.rc.RcStr.{RcStr}
use Rattle.std.proofs.lemmas.Bool.{false≢true}
use Rattle.std.proofs.lemmas.List.{map-append}
use Rattle.std.proofs.lemmas.List.Folds.{list_any-append}
use Rattle.std.proofs.lemmas.List.Sums.{fold-append}
use Rattle.cedar_builders.specs.BareExpr.{Text}
use Rattle.cedar_builders.specs.Keys.{keys_of, is_among, are_distinct, in_key_order, keyed, IsFirstRepeat}

abbrev text_cmp : RcStr Global → RcStr Global → Ordering
text_cmp a b = slice_cmp nat_cmp (rc_str_bytes a) (rc_str_bytes b)

-- the keys of pairs whose keys are texts
abbrev pub texts : {A : Type 0} → List (Text × A) → List Text
texts = map (λ p. p.0)

pub keys-keyed : {A : Type 0} (ps : List (RcStr Global × A)) → keys_of ps ≡ texts (keyed ps)
keys-keyed [] = refl
keys-keyed (p ∷ ps) = ap (λ ks. rc_str_bytes p.0 ∷ ks) (keys-keyed ps)

-- whether two texts are equal
abbrev pub same : Text → Text → Bool
same = pointwise nat_eq

abbrev pub put : {A : Type 0} → List (Text × A) → Text × A → List (Text × A)
put es p = insert_entry (slice_cmp nat_cmp) es p.0 p.1

or_swap : (a b c : Bool) → (a || (b || c)) ≡ (b || (a || c))
or_swap true true c = refl
or_swap true false c = refl
or_swap false b c = refl

or_same : (a c : Bool) → (a || (a || c)) ≡ (a || c)
or_same true c = refl
or_same false c = refl

or_assoc : (a b c : Bool) → ((a || b) || c) ≡ (a || (b || c))
or_assoc true b c = refl
or_assoc false b c = refl

or_false : (b : Bool) → (b || false) ≡ b
or_false true = refl
or_false false = refl

module _ {A : Type 0} where
  keyed-match : (o : Ordering) (a b c : List (RcStr Global × A)) → keyed (match_ordering o a b c) ≡ match_ordering o (keyed a) (keyed b) (keyed c)
  keyed-match Less a b c = refl
  keyed-match Equal a b c = refl
  keyed-match Greater a b c = refl

  keyed-insert : (es : List (RcStr Global × A)) (k : RcStr Global) (v : A) → keyed (insert_entry text_cmp es k v) ≡ put (keyed es) (rc_str_bytes k, v)
  keyed-insert [] k v = refl
  keyed-insert (e ∷ es) k v = keyed-match (text_cmp k e.0) _ _ _ ∙ rw (keyed-insert es k v)

  some_or : (b : Bool) (v : A) (r : Option A) → is_some (cond b (Some v) r) ≡ (b || is_some r)
  some_or true v r = refl
  some_or false v r = refl

  -- a look-up finds a key exactly where it is among the keys
  looked_up : (k : Text) (es : List (RcStr Global × A)) → is_some (lookup (λ l. is_eq (slice_cmp nat_cmp k (rc_str_bytes l))) es) ≡ is_among k (texts (keyed es))
  looked_up k [] = refl
  looked_up k (e ∷ es) = some_or _ _ _ ∙ λ i. sym (texts_ties k (rc_str_bytes e.0)) i || looked_up k es i

  pub in_key_order-push : (ps : List (Text × A)) (p : Text × A) → in_key_order (ps ++ (p ∷ [])) ≡ put (in_key_order ps) p
  in_key_order-push ps p = fold-append put [] ps (p ∷ [])

  -- the keys with one more
  pub among-put : (k : Text) (es : List (Text × A)) (p : Text × A) → is_among k (texts (put es p)) ≡ (same k p.0 || is_among k (texts es))
  among-put k [] p = refl
  among-put k (e ∷ es) p =
      elim (slice_cmp nat_cmp p.0 e.0) as (λ o. slice_cmp nat_cmp p.0 e.0 ≡ o → is_among k (texts (match_ordering o (p ∷ e ∷ es) ((e.0, p.1) ∷ es) (e ∷ put es p))) ≡ (same k p.0 || is_among k (texts (e ∷ es)))) [
        | Less ↦ λ is. refl
        | Equal ↦ λ is.
            let equal : p.0 ≡ e.0 = (bytes_decides p.0 e.0).0 (texts_ties p.0 e.0 ∙ ap is_eq is) in
            sym (or_same (same k e.0) (is_among k (texts es))) ∙ ap (λ l. same k l || (same k e.0 || is_among k (texts es))) (sym equal)
        | Greater ↦ λ is. ap (λ b. same k e.0 || b) (among-put k es p) ∙ or_swap (same k e.0) (same k p.0) (is_among k (texts es))
      ] refl

  among-fold : (k : Text) (es ps : List (Text × A)) → is_among k (texts (fold put es ps)) ≡ (is_among k (texts ps) || is_among k (texts es))
  among-fold k es [] = refl
  among-fold k es (p ∷ ps) =
      among-fold k (put es p) ps
      ∙ (ap (λ b. is_among k (texts ps) || b) (among-put k es p)
      ∙ (or_swap (is_among k (texts ps)) (same k p.0) (is_among k (texts es)) ∙ sym (or_assoc (same k p.0) (is_among k (texts ps)) (is_among k (texts es)))))

  among-in_key_order : (k : Text) (ps : List (Text × A)) → is_among k (texts (in_key_order ps)) ≡ is_among k (texts ps)
  among-in_key_order k ps = among-fold k [] ps ∙ or_false _

  -- a look-up in the map of the pairs so far finds a key exactly where it is among theirs
  pub found : (k : Text) (es : List (RcStr Global × A)) (ps : List (Text × A)) → keyed es ≡ in_key_order ps → is_some (lookup (λ l. is_eq (slice_cmp nat_cmp k (rc_str_bytes l))) es) ≡ is_among k (texts ps)
  found k es ps made = looked_up k es ∙ (ap (λ qs. is_among k (texts qs)) made ∙ among-in_key_order k ps)

  -- one more pair
  pub made-push : (es : List (RcStr Global × A)) (ps : List (RcStr Global × A)) (k : RcStr Global) (v : A) → keyed es ≡ in_key_order (keyed ps) → keyed (insert_entry text_cmp es k v) ≡ in_key_order (keyed (ps ++ ((k, v) ∷ [])))
  made-push es ps k v made =
      keyed-insert es k v
      ∙ (ap (λ qs. put qs (rc_str_bytes k, v)) made
      ∙ (sym (in_key_order-push (keyed ps) (rc_str_bytes k, v)) ∙ ap in_key_order (sym (map-append (λ p. (rc_str_bytes p.0, p.1)) ps ((k, v) ∷ [])))))

  -- the keys with one more
  pub texts-push : (ps qs : List (RcStr Global × A)) (k : RcStr Global) (v : A) → texts (keyed (ps ++ ((k, v) ∷ qs))) ≡ texts (keyed ps) ++ (rc_str_bytes k ∷ texts (keyed qs))
  texts-push [] qs k v = refl
  texts-push (p ∷ ps) qs k v = ap (λ ks. rc_str_bytes p.0 ∷ ks) (texts-push ps qs k v)

and_true : (a b : Bool) → (a && b) ≡ true → (a ≡ true) × (b ≡ true)
and_true true b h = (refl, h)
and_true false b h = absurd (false≢true h)

pub or_none : (a b : Bool) → (a || b) ≡ false → (a ≡ false) × (b ≡ false)
or_none true b h = absurd (false≢true (sym h))
or_none false b h = (refl, h)

-- a key that is not among distinct ones stays distinct behind them
pub distinct-push : (ks : List Text) (k : Text) → are_distinct ks ≡ true → is_among k ks ≡ false → are_distinct (ks ++ (k ∷ [])) ≡ true
distinct-push [] k h n = refl
distinct-push (l ∷ ks) k h n =
    let d = and_true (not (is_among l ks)) (are_distinct ks) h in
    let m = or_none (same k l) (is_among k ks) n in
    let absent : same l k ≡ false = nat_list_eq_equiv.symm l k ∙ m.0 in
    let none : is_among l (ks ++ (k ∷ [])) ≡ is_among l ks = list_any-append (same l) ks (k ∷ []) ∙ rw absent (or_false (is_among l ks)) in
    rw (none, d.0, distinct-push ks k d.1 m.1)

-- the first repeat, where the keys before it are distinct
pub first_repeat : (all before : List Text) (k : Text) (after : List Text) → all ≡ before ++ (k ∷ after) → are_distinct before ≡ true → is_among k before ≡ true → IsFirstRepeat all k
first_repeat all before k after split distinct stood = record { before = before; after = after; split = split; distinct = distinct; stood = stood }

-- nothing is left of a list without length
pub none_left : {A : Type 0} (xs : List A) → length xs ≡ 0 → xs ≡ []
none_left [] h = refl
none_left (x ∷ xs) h = absurd (omega arith)
