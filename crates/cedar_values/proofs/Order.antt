-- The order of values is that of their trees.
use Rattle.std.proofs.Common.{◌≡◌, List, [], ◌∷◌, map, refl, sym, ap, subst, ◌∙◌}
use Rattle.std.specs.Cmp.Lexicographic.{slice_cmp}
use Rattle.std.specs.Ordering.{nat_cmp, ordering_then}
use Rattle.std.specs.Rc.{rc_str_bytes}
use Rattle.std.specs.declared.alloc.Global.{Global}
use Rattle.std.specs.declared.cmp.Ordering.{Ordering}
use Rattle.std.specs.declared.cmp.Ordering.TheVariants.{Less, Equal, Greater}
use Rattle.std.specs.declared.rc.RcStr.{RcStr}
use Rattle.cedar_terms.specs.LiteralOrder.{literal_cmp}
use Rattle.cedar_terms.specs.Literals.{bare_literal}
use Rattle.cedar_builders.specs.Keys.{keyed}
use Rattle.semantics_values.specs.BareValue.{BareValue, BareValues, values_of, pairs_of}
use Rattle.semantics_values.specs.ValueOrder.{value_cmp, values_cmp, pairs_cmp}
use Rattle.cedar_values.specs.BareValues.{bare_value, bare_value_kind, bare_set, kind_step, set_step, value_step}
use Rattle.cedar_values.specs.declared.set.Set.{Set, fold_out-Set, fold-roll-Set, out-Set, out-roll-Set, roll-Set}
use Rattle.cedar_values.specs.declared.value.Value.{Value, fold_out-Value, fold-roll-Value, out-Value, roll-Value, ind-Value}
use Rattle.cedar_values.specs.declared.value.ValueKind.{ValueKind, fold-roll-ValueKind, fold_out-ValueKind, out-ValueKind, roll-ValueKind, out-roll-ValueKind, map-ValueKind}
use Rattle.cedar_values.specs.declared.value.ValueKind.TheOpen.{ValueKind-F, Value-F, Set-F}

-- a comparison of values, level by level
abbrev pub layer_cmp : {X K S V : Type 0} → (X → X → Ordering) → (S → S → Ordering) → (V → V → Ordering) → ValueKind-F X K S V → ValueKind-F X K S V → Ordering
layer_cmp R s v (ValueKind-F.Lit a) (ValueKind-F.Lit b) = literal_cmp (bare_literal a) (bare_literal b)
layer_cmp R s v (ValueKind-F.Lit a) (ValueKind-F.Set b) = Less
layer_cmp R s v (ValueKind-F.Lit a) (ValueKind-F.Record b) = Less
layer_cmp R s v (ValueKind-F.Lit a) (ValueKind-F.ExtensionValue b) = Less
layer_cmp R s v (ValueKind-F.Set a) (ValueKind-F.Lit b) = Greater
layer_cmp R s v (ValueKind-F.Set a) (ValueKind-F.Set b) = s a b
layer_cmp R s v (ValueKind-F.Set a) (ValueKind-F.Record b) = Less
layer_cmp R s v (ValueKind-F.Set a) (ValueKind-F.ExtensionValue b) = Less
layer_cmp R s v (ValueKind-F.Record a) (ValueKind-F.Lit b) = Greater
layer_cmp R s v (ValueKind-F.Record a) (ValueKind-F.Set b) = Greater
layer_cmp R s v (ValueKind-F.Record a) (ValueKind-F.Record b) = slice_cmp (λ x y. ordering_then (slice_cmp nat_cmp (rc_str_bytes x.0) (rc_str_bytes y.0)) (v x.1 y.1)) a.value.entries b.value.entries
layer_cmp R s v (ValueKind-F.Record a) (ValueKind-F.ExtensionValue b) = Less
layer_cmp R s v (ValueKind-F.ExtensionValue a) (ValueKind-F.Lit b) = Greater
layer_cmp R s v (ValueKind-F.ExtensionValue a) (ValueKind-F.Set b) = Greater
layer_cmp R s v (ValueKind-F.ExtensionValue a) (ValueKind-F.Record b) = Greater
layer_cmp R s v (ValueKind-F.ExtensionValue a) (ValueKind-F.ExtensionValue b) = R a.value.value b.value.value

then_assoc : (a b c : Ordering) → ordering_then (ordering_then a b) c ≡ ordering_then a (ordering_then b c)
then_assoc Less b c = refl
then_assoc Equal b c = refl
then_assoc Greater b c = refl

module _ {X : Type 0} (R : X → X → Ordering) (K : ValueKind X → ValueKind X → Ordering) (S : Set X → Set X → Ordering) (V : Value X → Value X → Ordering) where
  -- what a derived comparison answers
  pub record IsLayered : Type 0 where
    pub kinds : (a b : ValueKind X) → K a b ≡ layer_cmp R S V (out-ValueKind X a) (out-ValueKind X b)
    pub sets : (a b : Set X) → S a b ≡ slice_cmp V (out-Set X a).authoritative.value.items (out-Set X b).authoritative.value.items
    pub values : (a b : Value X) → V a b ≡ K (out-Value X a).value (out-Value X b).value

  abbrev KindClaim : ValueKind X → Type 0
  KindClaim a = (b : ValueKind X) → K a b ≡ value_cmp R (bare_value_kind a) (bare_value_kind b)

  abbrev SetClaim : Set X → Type 0
  SetClaim a = (b : Set X) → S a b ≡ values_cmp R (bare_set a) (bare_set b)

  abbrev ValueClaim : Value X → Type 0
  ValueClaim a = (b : Value X) → V a b ≡ value_cmp R (bare_value a) (bare_value b)

  members : (as_ : List ((v : Value X) × ValueClaim v)) (bs : List (Value X)) → slice_cmp V (map (λ e. e.0) as_) bs ≡ values_cmp R (values_of (map bare_value (map (λ e. e.0) as_))) (values_of (map bare_value bs))
  members [] [] = refl
  members [] (b ∷ bs) = refl
  members (a ∷ as_) [] = refl
  members (a ∷ as_) (b ∷ bs) = λ i. ordering_then (a.1 b i) (members as_ bs i)

  abbrev pair_cmp : RcStr Global × Value X → RcStr Global × Value X → Ordering
  pair_cmp a b = ordering_then (slice_cmp nat_cmp (rc_str_bytes a.0) (rc_str_bytes b.0)) (V a.1 b.1)

  pairs : (as_ : List (RcStr Global × ((v : Value X) × ValueClaim v))) (bs : List (RcStr Global × Value X)) →
      slice_cmp pair_cmp (map (λ e. (e.0, e.1.0)) as_) bs
      ≡ pairs_cmp R (pairs_of (keyed (map (λ (e : RcStr Global × Value X). (e.0, bare_value e.1)) (map (λ e. (e.0, e.1.0)) as_)))) (pairs_of (keyed (map (λ (e : RcStr Global × Value X). (e.0, bare_value e.1)) bs)))
  pairs [] [] = refl
  pairs [] (b ∷ bs) = refl
  pairs (a ∷ as_) [] = refl
  pairs (a ∷ as_) (b ∷ bs) =
      then_assoc (slice_cmp nat_cmp (rc_str_bytes a.0) (rc_str_bytes b.0)) _ _
      ∙ λ i. ordering_then (slice_cmp nat_cmp (rc_str_bytes a.0) (rc_str_bytes b.0)) (ordering_then (a.1.1 b.1 i) (pairs as_ bs i))

  -- one level, where each value inside comes with its claim
  layer : (a : ValueKind-F X ((k : ValueKind X) × KindClaim k) ((s : Set X) × SetClaim s) ((v : Value X) × ValueClaim v)) (b : ValueKind-F X (ValueKind X) (Set X) (Value X)) →
      layer_cmp R S V (map-ValueKind X _ _ _ _ _ _ (λ e. e.0) (λ e. e.0) (λ e. e.0) a) b
      ≡ value_cmp R (kind_step (map-ValueKind X _ _ _ _ _ _ bare_value_kind bare_set bare_value (map-ValueKind X _ _ _ _ _ _ (λ e. e.0) (λ e. e.0) (λ e. e.0) a))) (kind_step (map-ValueKind X _ _ _ _ _ _ bare_value_kind bare_set bare_value b))
  layer (ValueKind-F.Lit a) (ValueKind-F.Lit b) = refl
  layer (ValueKind-F.Lit a) (ValueKind-F.Set b) = refl
  layer (ValueKind-F.Lit a) (ValueKind-F.Record b) = refl
  layer (ValueKind-F.Lit a) (ValueKind-F.ExtensionValue b) = refl
  layer (ValueKind-F.Set a) (ValueKind-F.Lit b) = refl
  layer (ValueKind-F.Set a) (ValueKind-F.Set b) = a.1 b
  layer (ValueKind-F.Set a) (ValueKind-F.Record b) = refl
  layer (ValueKind-F.Set a) (ValueKind-F.ExtensionValue b) = refl
  layer (ValueKind-F.Record a) (ValueKind-F.Lit b) = refl
  layer (ValueKind-F.Record a) (ValueKind-F.Set b) = refl
  layer (ValueKind-F.Record a) (ValueKind-F.Record b) = pairs a.value.entries b.value.entries
  layer (ValueKind-F.Record a) (ValueKind-F.ExtensionValue b) = refl
  layer (ValueKind-F.ExtensionValue a) (ValueKind-F.Lit b) = refl
  layer (ValueKind-F.ExtensionValue a) (ValueKind-F.Set b) = refl
  layer (ValueKind-F.ExtensionValue a) (ValueKind-F.Record b) = refl
  layer (ValueKind-F.ExtensionValue a) (ValueKind-F.ExtensionValue b) = refl

  module _ (h : IsLayered) where
    pub cmp_is_by_tree : (a b : Value X) → V a b ≡ value_cmp R (bare_value a) (bare_value b)
    cmp_is_by_tree = ind-Value X KindClaim SetClaim ValueClaim
        (λ x y is b.
        h.kinds (roll-ValueKind X x) b
        ∙ ap (λ l. layer_cmp R S V l (out-ValueKind X b)) (out-roll-ValueKind X x)
        ∙ subst (λ l. layer_cmp R S V l (out-ValueKind X b) ≡ value_cmp R (kind_step (map-ValueKind X _ _ _ _ _ _ bare_value_kind bare_set bare_value l)) (kind_step (map-ValueKind X _ _ _ _ _ _ bare_value_kind bare_set bare_value (out-ValueKind X b)))) is (layer y (out-ValueKind X b))
        ∙ λ i. value_cmp R (sym (fold-roll-ValueKind X (BareValue X) (BareValues X) (BareValue X) kind_step set_step value_step x) i) (sym (fold_out-ValueKind X (BareValue X) (BareValues X) (BareValue X) kind_step set_step value_step b) i))
        (λ x y is b.
        h.sets (roll-Set X x) b
        ∙ ap (λ (l : Set-F X (ValueKind X) (Set X) (Value X)). slice_cmp V l.authoritative.value.items (out-Set X b).authoritative.value.items) (out-roll-Set X x)
        ∙ subst (λ (l : Set-F X (ValueKind X) (Set X) (Value X)). slice_cmp V l.authoritative.value.items (out-Set X b).authoritative.value.items ≡ values_cmp R (values_of (map bare_value l.authoritative.value.items)) (values_of (map bare_value (out-Set X b).authoritative.value.items))) is (members y.authoritative.value.items (out-Set X b).authoritative.value.items)
        ∙ λ i. values_cmp R (sym (fold-roll-Set X (BareValue X) (BareValues X) (BareValue X) kind_step set_step value_step x) i) (sym (fold_out-Set X (BareValue X) (BareValues X) (BareValue X) kind_step set_step value_step b) i))
        (λ x y is b.
        h.values (roll-Value X x) b
        ∙ ap (λ (l : Value-F X (ValueKind X) (Set X) (Value X)). K l.value b.value) (sym is)
        ∙ y.value.1 b.value
        ∙ ap (λ (l : Value-F X (ValueKind X) (Set X) (Value X)). value_cmp R (bare_value_kind l.value) (bare_value_kind b.value)) is
        ∙ λ i. value_cmp R (sym (fold-roll-Value X (BareValue X) (BareValues X) (BareValue X) kind_step set_step value_step x) i) (sym (fold_out-Value X (BareValue X) (BareValues X) (BareValue X) kind_step set_step value_step b) i))
