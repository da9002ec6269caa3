-- The trees of values, level by level.
use Rattle.std.proofs.Common.{◌≡◌, BTreeMap, Bool, true, ◌&&◌, List, [], ◌∷◌, map, refl, sym, ap, ◌∙◌, Option, None}
use Rattle.std.specs.Global.{Global}
use Rattle.std.specs.List.{list_all}
use Rattle.std.specs.declared.cmp.Ordering.{Ordering}
use Rattle.std.specs.declared.rc.Rc.{Rc}
use Rattle.std.specs.declared.rc.RcStr.{RcStr}
use Rattle.std.proofs.lemmas.Bool.{and_parts}
use Rattle.cedar_names.specs.Place.{Place}
use Rattle.cedar_terms.specs.Literals.{bare_literal}
use Rattle.cedar_terms.specs.declared.literal.Literal.{Literal}
use Rattle.cedar_builders.specs.Keys.{keyed}
use Rattle.semantics_values.specs.BareValue.{BareValue, BareValues, LitValue, SetValue, RecordValue, values_of, pairs_of}
use Rattle.semantics_values.specs.WellFormed.{is_well_formed, pairs_are_well_formed}
use Rattle.cedar_values.specs.BareValues.{bare_representable, bare_value, bare_value_kind, bare_set, kind_step, set_step, value_step, kind_of, value_place}
use Rattle.cedar_values.specs.Places.{value_at, literal_value, unplaced}
use Rattle.cedar_values.specs.Sets.{members}
use Rattle.cedar_values.specs.WellFormed.{is_hashed, well_formed, kind_well_formed, set_well_formed}
use Rattle.cedar_values.specs.declared.extension_value.RepresentableExtensionValue.{RepresentableExtensionValue}
use Rattle.cedar_values.specs.declared.set.Set as set
use Rattle.cedar_values.specs.declared.value.Value.{Value, fold_out-Value, out-roll-Value, roll-out-Value, roll-Value}
use Rattle.cedar_values.specs.declared.value.ValueKind.{ValueKind, fold_out-ValueKind, out-ValueKind, map-ValueKind}
use Rattle.cedar_values.specs.declared.value.ValueKind.TheOpen.{ValueKind-F}
use Rattle.cedar_values.specs.declared.value.ValueKind.TheVariants.{Lit, Set, Record, ExtensionValue, outs-Lit, outs-Set, outs-Record, outs-ExtensionValue}
use Rattle.cedar_values.proofs.Hashed.{all_both, hash_level, kind_hash, value_hash}
use Rattle.cedar_values.proofs.WellFormedSets.{set_values}

module _ {X : Type 0} where
  pub value_tree : (v : Value X) → bare_value v ≡ bare_value_kind (kind_of v)
  value_tree v = fold_out-Value X (BareValue X) (BareValues X) (BareValue X) kind_step set_step value_step v

  -- a kind's tree from its level
  abbrev pub level : ValueKind-F X (ValueKind X) (set.Set X) (Value X) → BareValue X
  level x = kind_step (map-ValueKind X _ _ _ _ _ _ bare_value_kind bare_set bare_value x)

  pub kind_tree : (k : ValueKind X) → bare_value_kind k ≡ level (out-ValueKind X k)
  kind_tree k = fold_out-ValueKind X (BareValue X) (BareValues X) (BareValue X) kind_step set_step value_step k

  -- the tree of a kind that is a literal, a set or an extension value
  pub kind_of_literal : (l : Literal) → bare_value_kind {X = X} (Lit l) ≡ LitValue (bare_literal l)
  kind_of_literal l = kind_tree (Lit l) ∙ ap level (outs-Lit l)

  pub set_row : (s : set.Set X) → bare_value_kind (Set s) ≡ SetValue (bare_set s)
  set_row s = kind_tree (Set s) ∙ ap level (outs-Set s)

  pub extension_tree : (e : Rc (RepresentableExtensionValue X) Global) → bare_value_kind (ExtensionValue e) ≡ bare_representable e.value
  extension_tree e = kind_tree (ExtensionValue e) ∙ ap level (outs-ExtensionValue e)

  -- a value is its kind at its place
  pub kind_at : (k : ValueKind X) (p : Option Place) → kind_of (value_at k p) ≡ k
  kind_at k p = ap (λ l. l.value) (out-roll-Value X (record { value = k; loc = p }))

  pub is_at : (v : Value X) (k : ValueKind X) (p : Option Place) → kind_of v ≡ k → value_place v ≡ p → v ≡ value_at k p
  is_at v k p h q = sym (roll-out-Value X v) ∙ λ i. roll-Value X (record { value = h i; loc = q i })

  pub unplaced_tree : (v : Value X) → bare_value (unplaced v) ≡ bare_value v
  unplaced_tree v = value_tree (unplaced v) ∙ ap bare_value_kind (kind_at (kind_of v) None) ∙ sym (value_tree v)

  pub literal_tree : (l : Literal) → bare_value (literal_value {X = X} l) ≡ LitValue (bare_literal l)
  literal_tree l = value_tree (literal_value l) ∙ ap bare_value_kind (kind_at (Lit l) None) ∙ kind_of_literal l

  pub set_tree : (s : set.Set X) → bare_value_kind (Set s) ≡ SetValue (values_of (map bare_value (members s)))
  set_tree s = set_row s ∙ ap SetValue (set_values s)

  pub record_tree : (m : Rc (BTreeMap (RcStr Global) (Value X)) Global) → bare_value_kind (Record m) ≡ RecordValue (pairs_of (keyed (map (λ (e : RcStr Global × Value X). (e.0, bare_value e.1)) m.value.entries)))
  record_tree m = kind_tree (Record m) ∙ ap level (outs-Record m)

-- one level of a kind
abbrev pub kind_level : {X : Type 0} → (X → X → Ordering) → ValueKind-F X (ValueKind X) (set.Set X) (Value X) → Bool
kind_level R (ValueKind-F.Lit l) = true
kind_level R (ValueKind-F.Set s) = set_well_formed R s
kind_level R (ValueKind-F.Record m) = list_all (λ e. well_formed R e.1) m.value.entries
kind_level R (ValueKind-F.ExtensionValue e) = true

module _ {X : Type 0} (R : X → X → Ordering) where
  pub value_kept : (v : Value X) → well_formed R v ≡ kind_well_formed R (kind_of v)
  unfolding well_formed kind_well_formed
  value_kept v = λ i. is_well_formed R (value_tree v i) && value_hash v i

  -- a kind at a place is as well formed as the kind
  pub placed_kept : (k : ValueKind X) (p : Option Place) → well_formed R (value_at k p) ≡ kind_well_formed R k
  placed_kept k p = value_kept (value_at k p) ∙ ap (kind_well_formed R) (kind_at k p)

  -- the tree of a well formed value is well formed
  pub tree_kept : (v : Value X) → well_formed R v ≡ true → is_well_formed R (bare_value v) ≡ true
  unfolding well_formed
  tree_kept v h = (and_parts (is_well_formed R (bare_value v)) (is_hashed v) h).0

  -- a value is well formed where its kind is
  pub kept_by_kind : (v : Value X) (k : ValueKind X) → kind_of v ≡ k → kind_well_formed R k ≡ true → well_formed R v ≡ true
  kept_by_kind v k is h = value_kept v ∙ ap (kind_well_formed R) is ∙ h

  entries_kept : (es : List (RcStr Global × Value X)) → pairs_are_well_formed R (pairs_of (keyed (map (λ (e : RcStr Global × Value X). (e.0, bare_value e.1)) es))) ≡ list_all (λ e. is_well_formed R (bare_value e.1)) es
  entries_kept [] = refl
  entries_kept (e ∷ es) = ap (λ b. is_well_formed R (bare_value e.1) && b) (entries_kept es)

  level_kept : (x : ValueKind-F X (ValueKind X) (set.Set X) (Value X)) → (is_well_formed R (level x) && hash_level x) ≡ kind_level R x
  unfolding well_formed set_well_formed
  level_kept (ValueKind-F.Lit l) = refl
  level_kept (ValueKind-F.Set s) = refl
  level_kept (ValueKind-F.Record m) =
      ap (λ b. b && list_all (λ e. is_hashed e.1) m.value.entries) (entries_kept m.value.entries)
      ∙ all_both (λ e. is_well_formed R (bare_value e.1)) (λ e. is_hashed e.1) m.value.entries
  level_kept (ValueKind-F.ExtensionValue e) = refl

  pub kind_kept : (k : ValueKind X) → kind_well_formed R k ≡ kind_level R (out-ValueKind X k)
  unfolding kind_well_formed
  kind_kept k = (λ i. is_well_formed R (kind_tree k i) && kind_hash k i) ∙ level_kept (out-ValueKind X k)

  pub set_kept : (s : set.Set X) → kind_well_formed R (Set s) ≡ set_well_formed R s
  set_kept s = kind_kept (Set s) ∙ ap (kind_level R) (outs-Set s)

  pub record_kept : (m : Rc (BTreeMap (RcStr Global) (Value X)) Global) → kind_well_formed R (Record m) ≡ list_all (λ e. well_formed R e.1) m.value.entries
  record_kept m = kind_kept (Record m) ∙ ap (kind_level R) (outs-Record m)

  pub literal_kept : (l : Literal) → kind_well_formed R (Lit l) ≡ true
  literal_kept l = kind_kept (Lit l) ∙ ap (kind_level R) (outs-Lit l)

  pub extension_kept : (e : Rc (RepresentableExtensionValue X) Global) → kind_well_formed R (ExtensionValue e) ≡ true
  extension_kept e = kind_kept (ExtensionValue e) ∙ ap (kind_level R) (outs-ExtensionValue e)

  -- literals are well formed
  pub literals_kept : (ls : List Literal) → list_all (well_formed R) (map (literal_value {X = X}) ls) ≡ true
  literals_kept [] = refl
  literals_kept (l ∷ ls) = λ i. kept_by_kind (literal_value l) (Lit l) (kind_at (Lit l) None) (literal_kept l) i && literals_kept ls i

  one_unplaced : (v : Value X) → well_formed R (unplaced v) ≡ well_formed R v
  one_unplaced v = placed_kept (kind_of v) None ∙ sym (value_kept v)

  pub unplaced_kept : (vs : List (Value X)) → list_all (well_formed R) (map unplaced vs) ≡ list_all (well_formed R) vs
  unplaced_kept [] = refl
  unplaced_kept (v ∷ vs) = λ i. one_unplaced v i && unplaced_kept vs i
