-- Maps in which each value stands at its own name.
use Rattle.std.proofs.Common.{◌≡◌, Bool, true, false, ◌&&◌, cond, Option, Some, None, List, [], ◌∷◌, refl, sym, ap, ◌∙◌}
use Rattle.std.proofs.lemmas.Bool.{false≢true}
use Rattle.std.specs.BTreeMap.{insert_entry}
use Rattle.std.specs.Borrow.{Bor}
use Rattle.std.specs.List.{AllByRecursion}
use Rattle.std.specs.List.Sorted.{IsStrictlySortedBy}
use Rattle.std.specs.Map.{keys_of, lookup, values_of}
use Rattle.std.specs.Option.{IfSome, option_copied}
use Rattle.std.specs.Ordering.{is_eq, match_ordering, on}
use Rattle.std.specs.declared.cmp.Ordering.{Ordering}
use Rattle.std.specs.declared.cmp.Ordering.TheVariants.{Less, Equal, Greater}
use Rattle.cedar_names.specs.NameOrder.{name_cmp, name_eq, name_eq_decides, name_ties}
use Rattle.cedar_names.specs.Names.{BareName}
use Rattle.cedar_names.specs.PlainNames.{bare_name}
use Rattle.cedar_names.specs.declared.name.Name.{Name}
use Rattle.cedar_calls.specs.NameMaps.{stand_by_name}

-- both of two tests
both : (a b : Bool) → a && b ≡ true → (a ≡ true) × (b ≡ true)
both true b h = (refl, h)
both false b h = absurd (false≢true h)

and_both : (a b : Bool) → a ≡ true → b ≡ true → a && b ≡ true
and_both a b h k = λ i. h i && k i

-- of what a search gives
pub if_found : {A : Type 0} (P : A → Type 0) (r : Option (Bor A)) (o : Option A) → option_copied r ≡ o
    → ((a : A) → o ≡ Some a → P a) → IfSome r (λ x. P x.now)
if_found P None o is h = tt
if_found P (Some x) o is h = h x.now (sym is)

module _ {V : Type 0} (name_of : V → BareName) where
  -- what comes of a key that stands where another name does, by how the two compare
  placed : (key : Name) (v : V) (e : Name × V) (es more : List (Name × V)) (o : Ordering)
      → bare_name key ≡ name_of v
      → name_cmp (bare_name key) (bare_name e.0) ≡ o
      → stand_by_name name_of (e ∷ es) ≡ true
      → stand_by_name name_of more ≡ true
      → stand_by_name name_of (match_ordering o ((key, v) ∷ e ∷ es) ((e.0, v) ∷ es) (e ∷ more)) ≡ true
  placed key v e es more Less own is all grown =
      and_both _ _ ((name_eq_decides (bare_name key) (name_of v)).1 own) all
  placed key v e es more Equal own is all grown =
      let same : bare_name key ≡ bare_name e.0 = (name_eq_decides (bare_name key) (bare_name e.0)).0 (name_ties (bare_name key) (bare_name e.0) ∙ ap is_eq is) in
      and_both _ _ ((name_eq_decides (bare_name e.0) (name_of v)).1 (sym same ∙ own)) (both _ _ all).1
  placed key v e es more Greater own is all grown = and_both _ _ (both _ _ all).0 grown

  -- they still do with one more at its name
  pub one_more : (key : Name) (v : V) (es : List (Name × V)) → bare_name key ≡ name_of v
      → stand_by_name name_of es ≡ true
      → stand_by_name name_of (insert_entry (on bare_name name_cmp) es key v) ≡ true
  one_more key v [] own all = and_both _ _ ((name_eq_decides (bare_name key) (name_of v)).1 own) refl
  one_more key v (e ∷ es) own all =
      placed key v e es (insert_entry (on bare_name name_cmp) es key v) (name_cmp (bare_name key) (bare_name e.0)) own refl all
      (one_more key v es own (both _ _ all).1)

  -- so the names of the values ascend as the keys do
  above : (e : Name × V) (es : List (Name × V)) → bare_name e.0 ≡ name_of e.1
      → AllByRecursion (λ k. name_cmp (bare_name e.0) (bare_name k) ≡ Less) (keys_of es)
      → stand_by_name name_of es ≡ true
      → AllByRecursion (λ v. name_cmp (name_of e.1) (name_of v) ≡ Less) (values_of es)
  above e [] own less all = tt
  above e (f ∷ es) own less all =
      let other : bare_name f.0 ≡ name_of f.1 = (name_eq_decides (bare_name f.0) (name_of f.1)).0 (both _ _ all).0 in
      ((λ i. name_cmp (sym own i) (sym other i)) ∙ less.0, above e es own less.1 (both _ _ all).1)

  pub values_ascend : (es : List (Name × V)) → stand_by_name name_of es ≡ true
      → IsStrictlySortedBy (on bare_name name_cmp) (keys_of es)
      → IsStrictlySortedBy (on name_of name_cmp) (values_of es)
  unfolding IsStrictlySortedBy
  values_ascend [] all ascending = tt
  values_ascend (e ∷ es) all ascending =
      let own : bare_name e.0 ≡ name_of e.1 = (name_eq_decides (bare_name e.0) (name_of e.1)).0 (both _ _ all).0 in
      (above e es own ascending.0 (both _ _ all).1, values_ascend es (both _ _ all).1 ascending.1)

  -- and what stands at a name has that name
  found_by_name : (name : BareName) (e : Name × V) (more : Option V) (v : V) (b : Bool)
      → name_eq name (bare_name e.0) ≡ b → bare_name e.0 ≡ name_of e.1
      → (more ≡ Some v → name_of v ≡ name)
      → cond b (Some e.1) more ≡ Some v → name_of v ≡ name
  found_by_name name e more v true is own later found =
      let here : e.1 ≡ v = cc in
      sym (ap name_of here) ∙ (sym own ∙ sym ((name_eq_decides name (bare_name e.0)).0 is))
  found_by_name name e more v false is own later found = later found

  pub has_its_name : (name : BareName) (es : List (Name × V)) (v : V) → stand_by_name name_of es ≡ true
      → lookup (λ key. name_eq name (bare_name key)) es ≡ Some v → name_of v ≡ name
  has_its_name name [] v all found = cc
  has_its_name name (e ∷ es) v all found =
      let own : bare_name e.0 ≡ name_of e.1 = (name_eq_decides (bare_name e.0) (name_of e.1)).0 (both _ _ all).0 in
      found_by_name name e (lookup (λ key. name_eq name (bare_name key)) es) v (name_eq name (bare_name e.0)) refl own
      (has_its_name name es v (both _ _ all).1) found
