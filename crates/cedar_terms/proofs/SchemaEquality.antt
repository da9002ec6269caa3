-- A comparison of schema types that goes level by level decides whether their bare types are the same.
use Rattle.std.proofs.Common.{◌≡◌, Bool, true, false, ◌&&◌, nat_eq, List, [], ◌∷◌, map, refl, ap, sym, subst, ◌∙◌, true≢false}
use Rattle.std.specs.Bool.{Decides}
use Rattle.std.proofs.lemmas.Bool.Decides.{Decides-and, Decides-like}
use Rattle.std.specs.Global.{Global}
use Rattle.std.specs.Rc.{rc_str_bytes}
use Rattle.std.specs.Cmp.Lexicographic.{pointwise, bytes_decides}
use Rattle.std.specs.declared.rc.RcStr.{RcStr}
use Rattle.cedar_names.specs.NameOrder.{name_eq, name_eq_decides}
use Rattle.cedar_names.specs.PlainNames.{bare_name}
use Rattle.cedar_terms.specs.Entities.{bare_entity_type}
use Rattle.cedar_terms.specs.SchemaTypes.{BareSchemaType, SchemaSet, SchemaRecord, SchemaEntity, SchemaExtension, attributes_of, bare_schema_step, bare_schema_type}
use Rattle.cedar_terms.specs.declared.schema_type.SchemaType.{SchemaType, SchemaType-F, out-SchemaType, roll-SchemaType, out-roll-SchemaType, fold-roll-SchemaType, fold_out-SchemaType, map-SchemaType, ind-SchemaType}

never : {A : Type 0} → (A → ⊥) → Decides false A
never f = (λ e. absurd (true≢false (sym e)), λ a. absurd (f a))

always : {A : Type 0} → A → Decides true A
always a = (λ _. a, λ _. refl)

-- what the comparison answers at one level, where V compares the types inside
abbrev pub layer_eq : {X : Type 0} → (X → X → Bool) → SchemaType-F X → SchemaType-F X → Bool
layer_eq V SchemaType-F.Bool SchemaType-F.Bool = true
layer_eq V SchemaType-F.Long SchemaType-F.Long = true
layer_eq V SchemaType-F.String SchemaType-F.String = true
layer_eq V (SchemaType-F.Set s) (SchemaType-F.Set t) = V s.value t.value
layer_eq V SchemaType-F.EmptySet SchemaType-F.EmptySet = true
layer_eq V (SchemaType-F.Record m) (SchemaType-F.Record n) = pointwise (λ x y. pointwise nat_eq (rc_str_bytes x.0) (rc_str_bytes y.0) && V x.1 y.1) m.entries n.entries
layer_eq V (SchemaType-F.Entity s) (SchemaType-F.Entity t) = name_eq (bare_entity_type s) (bare_entity_type t)
layer_eq V (SchemaType-F.Extension m) (SchemaType-F.Extension n) = name_eq (bare_name m) (bare_name n)
layer_eq V s t = false

module _ (V : SchemaType → SchemaType → Bool) where
  abbrev Claim : SchemaType → Type 0
  Claim s = (t : SchemaType) → Decides (V s t) (bare_schema_type s ≡ bare_schema_type t)

  abbrev Member : Type 0
  Member = (s : SchemaType) × Claim s

  abbrev Pair : Type 0
  Pair = RcStr Global × SchemaType

  pairs : (as_ : List (RcStr Global × Member)) (bs : List Pair) →
      Decides (pointwise (λ (x y : Pair). pointwise nat_eq (rc_str_bytes x.0) (rc_str_bytes y.0) && V x.1 y.1) (map (λ e. (e.0, e.1.0)) as_) bs)
      (attributes_of (map (λ (e : Pair). (e.0, bare_schema_type e.1)) (map (λ e. (e.0, e.1.0)) as_)) ≡ attributes_of (map (λ (e : Pair). (e.0, bare_schema_type e.1)) bs))
  pairs [] [] = always refl
  pairs [] (b ∷ bs) = never (λ h. cc)
  pairs (a ∷ as_) [] = never (λ h. cc)
  pairs (a ∷ as_) (b ∷ bs) =
      Decides-like _
      (λ h. cc (h.0.0, h.0.1, h.1))
      (λ h. ((cc (h), cc (h)), cc (h)))
      (Decides-and _ _
      (Decides-and _ _ (bytes_decides (rc_str_bytes a.0) (rc_str_bytes b.0)) (a.1.1 b.1))
      (pairs as_ bs))

  abbrev Layer : SchemaType-F SchemaType → SchemaType-F SchemaType → Type 0
  Layer a b =
      Decides (layer_eq V a b)
      (bare_schema_step (map-SchemaType _ _ bare_schema_type a) ≡ bare_schema_step (map-SchemaType _ _ bare_schema_type b))

  -- one level, where each type inside comes with its claim
  layer : (a : SchemaType-F Member) (b : SchemaType-F SchemaType) → Layer (map-SchemaType _ _ (λ e. e.0) a) b
  layer SchemaType-F.Bool SchemaType-F.Bool = always refl
  layer SchemaType-F.Long SchemaType-F.Long = always refl
  layer SchemaType-F.String SchemaType-F.String = always refl
  layer (SchemaType-F.Set s) (SchemaType-F.Set t) = Decides-like _ (λ h. ap SchemaSet h) (λ h. cc (h)) (s.value.1 t.value)
  layer SchemaType-F.EmptySet SchemaType-F.EmptySet = always refl
  layer (SchemaType-F.Record m) (SchemaType-F.Record n) = Decides-like _ (λ h. ap SchemaRecord h) (λ h. cc (h)) (pairs m.entries n.entries)
  layer (SchemaType-F.Entity s) (SchemaType-F.Entity t) = Decides-like _ (λ h. ap SchemaEntity h) (λ h. cc (h)) (name_eq_decides (bare_entity_type s) (bare_entity_type t))
  layer (SchemaType-F.Extension m) (SchemaType-F.Extension n) = Decides-like _ (λ h. ap SchemaExtension h) (λ h. cc (h)) (name_eq_decides (bare_name m) (bare_name n))
  layer a b = never (λ h. cc (h))

  at_types : {x y : Bool} {a b c d : BareSchemaType} → x ≡ y → a ≡ c → b ≡ d → Decides y (c ≡ d) → Decides x (a ≡ b)
  at_types e f g l = subst (λ x. x) (λ i. Decides (sym e i) (sym f i ≡ sym g i)) l

  pub decides_same : ((s t : SchemaType) → V s t ≡ layer_eq V (out-SchemaType s) (out-SchemaType t)) → (s t : SchemaType) → Decides (V s t) (bare_schema_type s ≡ bare_schema_type t)
  decides_same layered = ind-SchemaType Claim
      (λ x y is t.
      at_types
      (layered (roll-SchemaType x) t ∙ ap (λ l. layer_eq V l (out-SchemaType t)) (out-roll-SchemaType x))
      (fold-roll-SchemaType BareSchemaType bare_schema_step x)
      (fold_out-SchemaType BareSchemaType bare_schema_step t)
      (subst (λ l. Layer l (out-SchemaType t)) is (layer y (out-SchemaType t))))
