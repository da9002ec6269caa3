-- Of well formed values without extension values, the evaluator's operations make such values.
use Rattle.std.proofs.Common.{◌≡◌, refl, ◌∙◌, ap, Bool, true, false, ◌&&◌, ◌||◌, List, [], ◌∷◌, ℤ, neg_ℤ, ◌+ℤ◌, ◌-ℤ◌, ◌*ℤ◌, int_lt, int_le, Option, Some, None, Result, Ok, Err}
use Rattle.std.proofs.lemmas.Bool.{and_parts, or_parts}
use Rattle.std.specs.Prelude.{cond, nat_eq, if◌then◌else◌}
use Rattle.std.specs.BTreeSet.{insert_key}
use Rattle.std.specs.Cmp.Lexicographic.{pointwise}
use Rattle.std.specs.List.{AllByRecursion, list_all, list_any}
use Rattle.std.specs.Option.{ok_or}
use Rattle.std.specs.Ordering.{match_ordering}
use Rattle.std.specs.declared.cmp.Ordering.{Ordering}
use Rattle.std.specs.declared.cmp.Ordering.TheVariants.{Less, Equal, Greater}
use Rattle.cedar_sorted_slices.specs.Classes.{ascends}
use Rattle.cedar_sorted_slices.specs.Ascending.{ascends_of_sorted}
use Rattle.cedar_names.specs.Names.{BareName}
use Rattle.cedar_terms.specs.Literals.{BareLiteral, BoolLit, LongLit, StringLit, EntityLit}
use Rattle.cedar_terms.specs.declared.ops.UnaryOp.{UnaryOp}
use Rattle.cedar_terms.specs.declared.ops.UnaryOp.TheVariants as Unary
use Rattle.cedar_terms.specs.declared.ops.BinaryOp.{BinaryOp}
use Rattle.cedar_terms.specs.declared.ops.BinaryOp.TheVariants as Binary
use Rattle.cedar_terms.specs.declared.pattern.PatternElem.{PatternElem}
use Rattle.cedar_builders.specs.BareExpr.{Text}
use Rattle.semantics_values.specs.BareValue.{BareValue, LitValue, SetValue, RecordValue, ExtensionValue, values_of, list_of, list_of_values, BarePairs, no_pairs, pair, pairs_of}
use Rattle.semantics_values.specs.ValueOrder.{value_cmp}
use Rattle.semantics_values.specs.WellFormed.{is_well_formed, are_well_formed, pairs_are_well_formed}
use Rattle.semantics_values.specs.ValueExpr.{has_extension, any_has_extension, any_pair_has_extension}
use Rattle.semantics_eval.specs.Outcomes.{Mistake, Overflow, Missing, Outcome, settled, truth, truth_of, strict, chosen, if_outcome}
use Rattle.semantics_eval.specs.Longs.{is_long, long, on_longs, compared}
use Rattle.semantics_eval.specs.Operators.{apply_one, on_set, on_sets, has_member, apply_two}
use Rattle.semantics_eval.specs.Attributes.{value_at, get_in, has_in, has_path, like_in, is_in}
use Rattle.semantics_eval.specs.Rows.{ascending_list, set_value}
use Rattle.semantics_eval.specs.Laws.{IsAscendingList}

-- what holds of the item and of each of the list holds of each of the list with the item
insert_all : {K : Type 0} (R : K → K → Ordering) (P : K → Type 0) (x : K) (ys : List K) → P x
    → AllByRecursion P ys → AllByRecursion P (insert_key R ys x)
insert_all R P x [] p h = (p, tt)
insert_all R P x (y ∷ ys) p h = go (R x y) (insert_all R P x ys p h.1)
  where
    go : (r : Ordering) → AllByRecursion P (insert_key R ys x)
        → AllByRecursion P (match_ordering r (x ∷ y ∷ ys) (y ∷ ys) (y ∷ insert_key R ys x))
    go Less rest = (p, h)
    go Equal rest = h
    go Greater rest = (h.0, rest)

ascending_all : {K : Type 0} (R : K → K → Ordering) (P : K → Type 0) (xs : List K)
    → AllByRecursion P xs → AllByRecursion P (ascending_list R xs)
ascending_all R P [] h = h
ascending_all R P (x ∷ xs) h = insert_all R P x (ascending_list R xs) h.0 (ascending_all R P xs h.1)

module _ {X : Type 0} (R : X → X → Ordering) where
  -- the value is well formed, and no extension value is inside
  pub record IsPlain (t : BareValue X) : Type 0 where
    pub well_formed : is_well_formed R t ≡ true
    pub plain : has_extension t ≡ false

  pub literal : (l : BareLiteral) → IsPlain (LitValue l)
  literal l = record { well_formed = refl; plain = refl }

  -- the value is so, if there is one
  abbrev pub IfPlain : {F : Type 0} → Result (BareValue X) F → Type 0
  IfPlain (Ok t) = IsPlain t
  IfPlain (Err e) = Unit {0}

  pub of_settled : (r : Result (BareValue X) Mistake) → IfPlain r → IfPlain (settled r)
  of_settled (Ok t) h = h
  of_settled (Err m) h = h

  of_long : (n : ℤ) → IfPlain (long n)
  of_long n = go (is_long n)
    where
      go : (b : Bool) → IfPlain (if b then Ok (LitValue (LongLit n)) else Err Overflow)
      go true = literal (LongLit n)
      go false = tt

  of_longs : (f : ℤ → ℤ → Result (BareValue X) Mistake) → ((m n : ℤ) → IfPlain (f m n))
      → (t u : BareValue X) → IfPlain (on_longs f t u)
  of_longs f h (LitValue (LongLit m)) (LitValue (LongLit n)) = h m n
  of_longs f h t u = tt

  of_compared : (f : ℤ → ℤ → Bool) (t u : BareValue X) → IfPlain (compared f t u)
  of_compared f (ExtensionValue x c) (ExtensionValue y d) = tt
  of_compared f t u = of_longs (λ m n. Ok (truth (f m n))) (λ m n. literal _) t u

  of_set : (f : List (BareValue X) → Bool) (t : BareValue X) → IfPlain (on_set f t)
  of_set f (SetValue ts) = literal (BoolLit (f (list_of ts)))
  of_set f t = tt

  of_sets : (f : List (BareValue X) → List (BareValue X) → Bool) (t u : BareValue X)
      → IfPlain (on_sets f t u)
  of_sets f (SetValue ts) u = of_set (f (list_of ts)) u
  of_sets f t u = tt

  pub of_one : (o : UnaryOp) (t : BareValue X) → IfPlain (apply_one o t)
  of_one Unary.Not (LitValue (BoolLit b)) = literal _
  of_one Unary.Neg (LitValue (LongLit n)) = of_long (neg_ℤ n)
  of_one Unary.IsEmpty (SetValue ts) = literal _
  of_one o t = tt

  pub of_two : (E : X → X → Bool) (o : BinaryOp) (t u : BareValue X) → IfPlain (apply_two R E o t u)
  of_two E Binary.Eq t u = literal _
  of_two E Binary.Less t u = of_compared int_lt t u
  of_two E Binary.LessEq t u = of_compared int_le t u
  of_two E Binary.Add t u = of_longs (λ m n. long (m +ℤ n)) (λ m n. of_long (m +ℤ n)) t u
  of_two E Binary.Sub t u = of_longs (λ m n. long (m -ℤ n)) (λ m n. of_long (m -ℤ n)) t u
  of_two E Binary.Mul t u = of_longs (λ m n. long (m *ℤ n)) (λ m n. of_long (m *ℤ n)) t u
  of_two E Binary.In t u = tt
  of_two E Binary.Contains t u = of_set (λ ts. has_member R E ts u) t
  of_two E Binary.ContainsAll t u = of_sets (λ ts us. list_all (has_member R E ts) us) t u
  of_two E Binary.ContainsAny t u = of_sets (λ ts us. list_any (has_member R E ts) us) t u
  of_two E Binary.GetTag t u = tt
  of_two E Binary.HasTag t u = tt

  at_key : (k : Text) (ps : BarePairs X) → pairs_are_well_formed R ps ≡ true
      → any_pair_has_extension ps ≡ false → IfPlain (ok_or (value_at k ps) Missing)
  at_key k no_pairs w h = tt
  at_key k (pair j t ps) w h =
      go (pointwise nat_eq k j)
      (at_key k ps (and_parts (is_well_formed R t) _ w).1 (or_parts (has_extension t) _ h).1)
    where
      go : (b : Bool) → IfPlain (ok_or (value_at k ps) Missing)
          → IfPlain (ok_or (cond b (Some t) (value_at k ps)) Missing)
      go true rest = record {
        well_formed = (and_parts (is_well_formed R t) _ w).0;
        plain = (or_parts (has_extension t) _ h).0;
      }
      go false rest = rest

  pub of_get : (k : Text) (t : BareValue X) → IsPlain t → IfPlain (get_in k t)
  of_get k (RecordValue ps) h = at_key k ps h.well_formed h.plain
  of_get k (LitValue (EntityLit u)) h = tt
  of_get k t h = tt

  pub of_like : (p : List PatternElem) (t : BareValue X) → IfPlain (like_in p t)
  of_like p (LitValue (StringLit s)) = literal _
  of_like p t = tt

  pub of_is : (n : BareName) (t : BareValue X) → IfPlain (is_in n t)
  of_is n (LitValue (EntityLit u)) = literal _
  of_is n t = tt

  of_has : (k : Text) (t : BareValue X) → IfPlain (has_in k t)
  of_has k (RecordValue ps) = literal _
  of_has k (LitValue (EntityLit u)) = tt
  of_has k t = tt

  of_strict : (f : BareValue X → Result (BareValue X) Mistake)
      → ((t : BareValue X) → IfPlain (f t)) → (m : Outcome X) → IfPlain (strict f m)
  of_strict f h (Ok t) = of_settled (f t) (h t)
  of_strict f h (Err e) = tt

  of_chosen : (b : Option Bool) (m n : Outcome X) → IfPlain m → IfPlain n
      → IfPlain (chosen b m n)
  of_chosen None m n h k = tt
  of_chosen (Some true) m n h k = h
  of_chosen (Some false) m n h k = k

  of_if : (s m n : Outcome X) → IfPlain m → IfPlain n → IfPlain (if_outcome s m n)
  of_if (Ok t) m n h k = of_chosen (truth_of t) m n h k
  of_if (Err e) m n h k = tt

  pub of_path : (m : Outcome X) (k : Text) (ks : List Text) → IfPlain (has_path m k ks)
  of_path m k [] = of_strict (has_in k) (of_has k) m
  of_path m k (j ∷ js) =
      of_if (strict (has_in k) m) (has_path (strict (get_in k) m) j js) (Ok (truth false))
      (of_path (strict (get_in k) m) j js) (literal (BoolLit false))

  all_well_formed : (ts : List (BareValue X)) → AllByRecursion IsPlain ts
      → are_well_formed R (values_of ts) ≡ true
  all_well_formed [] h = refl
  all_well_formed (t ∷ ts) h = λ i. h.0.well_formed i && all_well_formed ts h.1 i

  all_plain : (ts : List (BareValue X)) → AllByRecursion IsPlain ts
      → any_has_extension (values_of ts) ≡ false
  all_plain [] h = refl
  all_plain (t ∷ ts) h = λ i. h.0.plain i || all_plain ts h.1 i

  -- the set of such values
  pub plain_set : IsAscendingList R → (ts : List (BareValue X)) → AllByRecursion IsPlain ts
      → IsPlain (set_value R ts)
  plain_set lists ts h =
      let us = ascending_list (value_cmp R) ts in
      let k = ascending_all (value_cmp R) IsPlain ts h in
      let up : ascends (value_cmp R) us ≡ true =
      ascends_of_sorted (value_cmp R) us (lists ts).ascending in
      record {
        well_formed = λ i.
            (ap (ascends (value_cmp R)) (list_of_values us) ∙ up) i && all_well_formed us k i;
        plain = all_plain us k;
      }

  pairs_well_formed : (ps : List (Text × BareValue X)) → AllByRecursion (λ p. IsPlain p.1) ps
      → pairs_are_well_formed R (pairs_of ps) ≡ true
  pairs_well_formed [] h = refl
  pairs_well_formed (p ∷ ps) h = λ i. h.0.well_formed i && pairs_well_formed ps h.1 i

  pairs_plain : (ps : List (Text × BareValue X)) → AllByRecursion (λ p. IsPlain p.1) ps
      → any_pair_has_extension (pairs_of ps) ≡ false
  pairs_plain [] h = refl
  pairs_plain (p ∷ ps) h = λ i. h.0.plain i || pairs_plain ps h.1 i

  -- the record of such values
  pub plain_record : (ps : List (Text × BareValue X)) → AllByRecursion (λ p. IsPlain p.1) ps
      → IsPlain (RecordValue (pairs_of ps))
  plain_record ps h =
      record { well_formed = pairs_well_formed ps h; plain = pairs_plain ps h }
