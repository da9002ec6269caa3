-- The derived order of `Value<X>` is that of the trees, for each lawful order of X.
use Rattle.std.proofs.Common.{◌≡◌, refl, ap, subst, ◌∙◌}
use denote.RattleType.{RattleType}
use mir.Syntax.{Dict}
use Rattle.std.specs.Cmp.{IsTotalOrder}
use Rattle.std.specs.declared.cmp.Ordering.{Ordering}
use Rattle.std.specs.declared.cmp.Ord as ord
use Rattle.std.specs.declared.cmp.Eq as eq
use Rattle.std.specs.declared.cmp.PartialEq as partial_eq
use Rattle.std.specs.declared.cmp.PartialOrd as partial_ord
use Rattle.std.specs.contracts.cmp.Ord.TheBound as ord_bound
use Rattle.std.specs.contracts.cmp.Eq.TheBound as eq_bound
use Rattle.std.specs.contracts.cmp.PartialEq.TheBound as partial_eq_bound
use Rattle.std.specs.contracts.cmp.PartialOrd.TheBound as partial_ord_bound
use Rattle.std.proofs.Common.{sym, None}
use Rattle.semantics_values.specs.BareValue.{SetValue}
use Rattle.semantics_values.specs.ValueOrder as trees
use Rattle.cedar_values.proofs.Levels.{kind_at, set_row, value_tree}
use Rattle.cedar_values.proofs.Order.{layer_cmp, cmp_is_by_tree}
use Rattle.cedar_values.specs.BareValues.{bare_value_kind, bare_set}
use Rattle.cedar_values.specs.Places.{value_at}
use Rattle.cedar_values.specs.Sets.{by_tree, members}
use Rattle.cedar_values.specs.declared.set.Set as set
use Rattle.cedar_values.specs.declared.value.Value.{Value}
use Rattle.cedar_values.specs.declared.value.ValueKind.{ValueKind, out-ValueKind}
use Rattle.cedar_values.specs.declared.value.ValueKind.TheVariants.{Lit, Set, Record', ExtensionValue, outs-Set}
use Rattle.std.specs.Ordering.{eq_by_cmp, is_eq}
use Rattle.std.specs.Cmp.Lexicographic.{slice_cmp}
use Rattle.cedar_values.specs.contracts.set.SetPartialEq.TheImpl as set_eq
use Rattle.cedar_values.specs.contracts.value.ValueKindPartialEq.TheImpl as kind_eq
use Rattle.cedar_values.specs.contracts.value.ValuePartialEq.TheImpl as value_eq
use Rattle.cedar_values.specs.contracts.value.ValueOrd.TheImpl as value_ord
use Rattle.cedar_values.specs.contracts.value.ValueOrd.TheImpl.Laws as value_laws
use Rattle.cedar_values.specs.contracts.value.ValueKindOrd.TheImpl as kind_ord
use Rattle.cedar_values.specs.contracts.value.ValueKindOrd.TheImpl.Laws as kind_laws
use Rattle.cedar_values.specs.contracts.set.SetOrd.TheImpl as set_ord
use Rattle.cedar_values.specs.contracts.set.SetOrd.TheImpl.Laws as set_laws

module _ (T : RattleType) (O : ord.Ghosts T.Denot) (O' : Dict) (E : eq.Ghosts T.Denot) (E' : Dict) (P : partial_eq.Ghosts T.Denot) (P' : Dict) (Q : partial_ord.Ghosts T.Denot) (Q' : Dict)
    (o : ord_bound.Lawful T O O' E E' P P' Q Q') (e : eq_bound.Lawful T E E' P P') (p : partial_eq_bound.Lawful T P P') (q : partial_ord_bound.Lawful T Q Q' P P') where
  abbrev kind_cmp : ValueKind T.Denot → ValueKind T.Denot → Ordering
  kind_cmp = (kind_ord.ghosts T O O' E E' P P' Q Q').cmp

  abbrev set_cmp : set.Set T.Denot → set.Set T.Denot → Ordering
  set_cmp = (set_ord.ghosts T O O' E E' P P' Q Q').cmp

  abbrev pub value_cmp : Value T.Denot → Value T.Denot → Ordering
  value_cmp = (value_ord.ghosts T O O' E E' P P' Q Q').cmp

  kinds : (a b : ValueKind T.Denot) → kind_laws.unfolded T O O' E E' P P' Q Q' o e p q a b ≡ layer_cmp O.cmp set_cmp value_cmp (out-ValueKind T.Denot a) (out-ValueKind T.Denot b)
  unfolding out-ValueKind denote.Hole.Carrier.out
  kinds (Lit a) (Lit b) = refl
  kinds (Lit a) (Set b) = refl
  kinds (Lit a) (Record' _ _ _) = refl
  kinds (Lit a) (ExtensionValue b) = refl
  kinds (Set a) (Lit b) = refl
  kinds (Set a) (Set b) = refl
  kinds (Set a) (Record' _ _ _) = refl
  kinds (Set a) (ExtensionValue b) = refl
  kinds (Record' _ _ _) (Lit b) = refl
  kinds (Record' _ _ _) (Set b) = refl
  kinds (Record' _ _ _) (Record' _ _ _) = refl
  kinds (Record' _ _ _) (ExtensionValue b) = refl
  kinds (ExtensionValue a) (Lit b) = refl
  kinds (ExtensionValue a) (Set b) = refl
  kinds (ExtensionValue a) (Record' _ _ _) = refl
  kinds (ExtensionValue a) (ExtensionValue b) = refl

  pub value_order : value_cmp ≡ by_tree O.cmp
  value_order = λ i a b. cmp_is_by_tree O.cmp kind_cmp set_cmp value_cmp (record {
    kinds = λ a b. kind_laws.is T O O' E E' P P' Q Q' o e p q a b ∙ kinds a b;
    sets = λ a b. set_laws.is T O O' E E' P P' Q Q' o e p q a b;
    values = λ a b. value_laws.is T O O' E E' P P' Q Q' o e p q a b;
  }) a b i

  -- the order of trees is total
  pub by_tree_total : IsTotalOrder (by_tree O.cmp)
  by_tree_total = subst IsTotalOrder value_order (value_laws.total-law T O O' E E' P P' Q Q' o e p q)

  -- `==` holds just where the order ties
  pub value_eq_by_cmp : (a b : Value T.Denot) → (value_eq.ghosts T P P').eq a b ≡ eq_by_cmp value_cmp a b
  value_eq_by_cmp = value_laws.matches_eq-law T O O' E E' P P' Q Q' o e p q

  -- sets are equal just where their members tie, one by one
  pub set_eq_is : (a b : set.Set T.Denot) → (set_eq.ghosts T P P').eq a b ≡ is_eq (slice_cmp (by_tree O.cmp) (members a) (members b))
  unfolding members
  set_eq_is a b =
      set_laws.matches_eq-law T O O' E E' P P' Q Q' o e p q a b
      ∙ ap is_eq (set_laws.is T O O' E E' P P' Q Q' o e p q a b)
      ∙ λ i. is_eq (slice_cmp (value_order i) (members a) (members b))

  -- kinds compare as their trees do
  pub kind_order : (a b : ValueKind T.Denot) → kind_cmp a b ≡ trees.value_cmp O.cmp (bare_value_kind a) (bare_value_kind b)
  kind_order a b =
      (λ i. kind_cmp (sym (kind_at a None) i) (sym (kind_at b None) i))
      ∙ sym (value_laws.is T O O' E E' P P' Q Q' o e p q (value_at a None) (value_at b None))
      ∙ (λ i. value_order i (value_at a None) (value_at b None))
      ∙ λ i. trees.value_cmp O.cmp ((value_tree (value_at a None) ∙ ap bare_value_kind (kind_at a None)) i) ((value_tree (value_at b None) ∙ ap bare_value_kind (kind_at b None)) i)

  -- and so do sets
  pub set_order : (a b : set.Set T.Denot) → set_cmp a b ≡ trees.values_cmp O.cmp (bare_set a) (bare_set b)
  set_order a b =
      sym (kind_laws.is T O O' E E' P P' Q Q' o e p q (Set a) (Set b) ∙ kinds (Set a) (Set b) ∙ λ i. layer_cmp O.cmp set_cmp value_cmp (outs-Set a i) (outs-Set b i))
      ∙ kind_order (Set a) (Set b)
      ∙ λ i. trees.value_cmp O.cmp (set_row a i) (set_row b i)

  -- kinds are equal where their trees are the same, and so are sets
  pub kind_eq_is : (a b : ValueKind T.Denot) → (kind_eq.ghosts T P P').eq a b ≡ trees.value_eq P.eq (bare_value_kind a) (bare_value_kind b)
  kind_eq_is a b =
      kind_laws.matches_eq-law T O O' E E' P P' Q Q' o e p q a b
      ∙ ap is_eq (kind_order a b)
      ∙ sym (trees.value_ties O.cmp P.eq o.matches_eq (bare_value_kind a) (bare_value_kind b))

  pub set_eq_by_tree : (a b : set.Set T.Denot) → (set_eq.ghosts T P P').eq a b ≡ trees.values_eq P.eq (bare_set a) (bare_set b)
  set_eq_by_tree a b =
      set_laws.matches_eq-law T O O' E E' P P' Q Q' o e p q a b
      ∙ ap is_eq (set_order a b)
      ∙ sym (trees.value_ties O.cmp P.eq o.matches_eq (SetValue (bare_set a)) (SetValue (bare_set b)))
