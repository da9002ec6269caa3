-- A comparison that goes level by level decides whether bare trees and data are equal.
use Rattle.std.proofs.Common.{◌≡◌, Bool, false, ◌&&◌, List, [], ◌∷◌, map, refl, ap, sym, subst, ◌∙◌}
use Rattle.std.specs.Bool.{Decides}
use Rattle.std.specs.Cmp.Lexicographic.{pointwise}
use Rattle.std.specs.Global.{Global}
use Rattle.std.specs.declared.rc.RcStr.{RcStr}
use Rattle.cedar_names.specs.NameOrder.{name_eq, name_eq_decides}
use Rattle.cedar_names.specs.NonEmpty.{list_of}
use Rattle.cedar_names.specs.PlainNames.{bare_name}
use Rattle.cedar_terms.specs.Entities.{bare_entity_type}
use Rattle.cedar_terms.specs.LiteralOrder.{literal_eq, literal_eq_decides}
use Rattle.cedar_terms.specs.Literals.{bare_literal}
use Rattle.cedar_terms.specs.PatternOrder.{pattern_eq, pattern_eq_decides}
use Rattle.cedar_terms.specs.Unknowns.{bare_unknown, unknown_eq}
use Rattle.cedar_builders.specs.BareExpr.{BareExpr}
use Rattle.cedar_builders.specs.Shapes.{kind_index}
use Rattle.cedar_exprs.specs.ExprData.{DataTree, holds, SameData, SameDatas, data_tree_step, kind_data, data_tree, data_trees, values_data}
use Rattle.cedar_exprs.specs.BareExpr.{ExprKind, node_step, map_kind, bare_expr_kind, bare_expr, bare_exprs, bare_fields, kind_of, data_of}
use Rattle.cedar_exprs.specs.declared.expr.Expr.{Expr, Expr-F, roll-Expr, out-roll-Expr, fold-roll-Expr, fold_out-Expr, ind-Expr}
use Rattle.cedar_exprs.specs.declared.expr.KindOf.{KindOf}
use Rattle.cedar_exprs.proofs.Leaves.{both, exactly, never, differ, same_slot, same_var, same_unary, same_binary, same_text, slots_decide, vars_decide, unaries_decide, binaries_decide, unknowns_decide, texts_decide, paths_decide}

-- a key with its value
abbrev same_pair : {Y : Type 0} → (Y → Y → Bool) → RcStr Global × Y → RcStr Global × Y → Bool
same_pair V x y = same_text x.0 y.0 && V x.1 y.1

-- one level, whose children are compared by V
abbrev pub layer_eq : {Y : Type 0} → (Y → Y → Bool) → KindOf Y → KindOf Y → Bool
layer_eq V (KindOf.Lit l) (KindOf.Lit l') = literal_eq (bare_literal l) (bare_literal l')
layer_eq V (KindOf.Var v) (KindOf.Var v') = same_var v v'
layer_eq V (KindOf.Slot s) (KindOf.Slot s') = same_slot s s'
layer_eq V (KindOf.Unknown u) (KindOf.Unknown u') = unknown_eq (bare_unknown u) (bare_unknown u')
layer_eq V (KindOf.If a b c) (KindOf.If a' b' c') = V a.value a'.value && (V b.value b'.value && V c.value c'.value)
layer_eq V (KindOf.And a b) (KindOf.And a' b') = V a.value a'.value && V b.value b'.value
layer_eq V (KindOf.Or a b) (KindOf.Or a' b') = V a.value a'.value && V b.value b'.value
layer_eq V (KindOf.UnaryApp o a) (KindOf.UnaryApp o' a') = same_unary o o' && V a.value a'.value
layer_eq V (KindOf.BinaryApp o a b) (KindOf.BinaryApp o' a' b') = same_binary o o' && (V a.value a'.value && V b.value b'.value)
layer_eq V (KindOf.ExtensionFunctionApp n es) (KindOf.ExtensionFunctionApp n' es') = name_eq (bare_name n) (bare_name n') && pointwise V es.value.items es'.value.items
layer_eq V (KindOf.GetAttr a k) (KindOf.GetAttr a' k') = V a.value a'.value && same_text k k'
layer_eq V (KindOf.HasAttr a ks) (KindOf.HasAttr a' ks') = V a.value a'.value && pointwise same_text (list_of ks) (list_of ks')
layer_eq V (KindOf.Like a p) (KindOf.Like a' p') = V a.value a'.value && pattern_eq p p'
layer_eq V (KindOf.Set es) (KindOf.Set es') = pointwise V es.value.items es'.value.items
layer_eq V (KindOf.Record es) (KindOf.Record es') = pointwise (same_pair V) es.value.entries es'.value.entries
layer_eq V (KindOf.Is a n) (KindOf.Is a' n') = V a.value a'.value && name_eq (bare_entity_type n) (bare_entity_type n')
layer_eq V a b = false

module _ {T : Type 0} (E : T → T → Bool) where
  abbrev pub Same : BareExpr → BareExpr → DataTree T → DataTree T → Type 0
  Same a b d e = (a ≡ b) × SameData E d e

  module _ (V : Expr T → Expr T → Bool) where
    abbrev Claim : Expr T → Type 0
    Claim a = (b : Expr T) → Decides (V a b) (Same (bare_expr a) (bare_expr b) (data_tree a) (data_tree b))

    abbrev Member : Type 0
    Member = (e : Expr T) × Claim e

    abbrev Pair : Type 0
    Pair = RcStr Global × Expr T

    -- the expressions of a list that come with their claims
    abbrev plain : List Member → List (Expr T)
    plain ms = map (λ m. m.0) ms

    abbrev plain_pairs : List (RcStr Global × Member) → List Pair
    plain_pairs ms = map (λ m. (m.0, m.1.0)) ms

    members : (ms : List Member) (bs : List (Expr T)) → Decides (pointwise V (plain ms) bs) ((bare_exprs (plain ms) ≡ bare_exprs bs) × SameDatas E (data_trees (plain ms)) (data_trees bs))
    members [] [] = (λ h. (refl, tt), λ h. refl)
    members [] (b ∷ bs) = never (λ h. h.1)
    members (m ∷ ms) [] = never (λ h. h.1)
    members (m ∷ ms) (b ∷ bs) =
        exactly _ (both _ _ (m.1 b) (members ms bs)) (λ h. (cc (h.0.0, h.1.0), (h.0.1, h.1.1))) (λ h. ((cc (h.0), h.1.0), (cc (h.0), h.1.1)))

    pairs : (ms : List (RcStr Global × Member)) (bs : List Pair) → Decides (pointwise (same_pair V) (plain_pairs ms) bs) ((bare_fields (plain_pairs ms) ≡ bare_fields bs) × SameDatas E (values_data (plain_pairs ms)) (values_data bs))
    pairs [] [] = (λ h. (refl, tt), λ h. refl)
    pairs [] (b ∷ bs) = never (λ h. h.1)
    pairs (m ∷ ms) [] = never (λ h. h.1)
    pairs (m ∷ ms) (b ∷ bs) =
        exactly _ (both _ _ (both _ _ (texts_decide m.0 b.0) (m.1.1 b.1)) (pairs ms bs))
        (λ h. (cc (h.0.0, h.0.1.0, h.1.0), (h.0.1.1, h.1.1)))
        (λ h. ((cc (h.0), (cc (h.0), h.1.0)), (cc (h.0), h.1.1)))

    -- one level, where each expression inside comes with its claim
    layer : (a : KindOf Member) (b : ExprKind T) → let k : ExprKind T = map_kind (λ (m : Member). m.0) a in Decides (layer_eq V k b) ((bare_expr_kind k ≡ bare_expr_kind b) × SameDatas E (kind_data k) (kind_data b))
    layer (KindOf.Lit l) (KindOf.Lit l') =
        exactly _ (literal_eq_decides (bare_literal l) (bare_literal l')) (λ h. (cc (h), tt)) (λ h. cc (h.0))
    layer (KindOf.Var v) (KindOf.Var v') =
        exactly _ (vars_decide v v') (λ h. (cc (h), tt)) (λ h. cc (h.0))
    layer (KindOf.Slot s) (KindOf.Slot s') =
        exactly _ (slots_decide s s') (λ h. (cc (h), tt)) (λ h. cc (h.0))
    layer (KindOf.Unknown u) (KindOf.Unknown u') =
        exactly _ (unknowns_decide (bare_unknown u) (bare_unknown u')) (λ h. (h, tt)) (λ h. h.0)
    layer (KindOf.If a b c) (KindOf.If a' b' c') =
        exactly _ (both _ _ (a.value.1 a'.value) (both _ _ (b.value.1 b'.value) (c.value.1 c'.value))) (λ h. (cc (h.0.0, h.1.0.0, h.1.1.0), (h.0.1, (h.1.0.1, (h.1.1.1, tt))))) (λ h. ((cc (h.0), h.1.0), ((cc (h.0), h.1.1.0), (cc (h.0), h.1.1.1.0))))
    layer (KindOf.And a b) (KindOf.And a' b') =
        exactly _ (both _ _ (a.value.1 a'.value) (b.value.1 b'.value)) (λ h. (cc (h.0.0, h.1.0), (h.0.1, (h.1.1, tt)))) (λ h. ((cc (h.0), h.1.0), (cc (h.0), h.1.1.0)))
    layer (KindOf.Or a b) (KindOf.Or a' b') =
        exactly _ (both _ _ (a.value.1 a'.value) (b.value.1 b'.value)) (λ h. (cc (h.0.0, h.1.0), (h.0.1, (h.1.1, tt)))) (λ h. ((cc (h.0), h.1.0), (cc (h.0), h.1.1.0)))
    layer (KindOf.UnaryApp o a) (KindOf.UnaryApp o' a') =
        exactly _ (both _ _ (unaries_decide o o') (a.value.1 a'.value)) (λ h. (cc (h.0, h.1.0), (h.1.1, tt))) (λ h. (cc (h.0), (cc (h.0), h.1.0)))
    layer (KindOf.BinaryApp o a b) (KindOf.BinaryApp o' a' b') =
        exactly _ (both _ _ (binaries_decide o o') (both _ _ (a.value.1 a'.value) (b.value.1 b'.value))) (λ h. (cc (h.0, h.1.0.0, h.1.1.0), (h.1.0.1, (h.1.1.1, tt)))) (λ h. (cc (h.0), ((cc (h.0), h.1.0), (cc (h.0), h.1.1.0))))
    layer (KindOf.ExtensionFunctionApp n es) (KindOf.ExtensionFunctionApp n' es') =
        exactly _ (both _ _ (name_eq_decides (bare_name n) (bare_name n')) (members es.value.items es'.value.items)) (λ h. (cc (h.0, h.1.0), h.1.1)) (λ h. (cc (h.0), (cc (h.0), h.1)))
    layer (KindOf.GetAttr a k) (KindOf.GetAttr a' k') =
        exactly _ (both _ _ (a.value.1 a'.value) (texts_decide k k')) (λ h. (cc (h.0.0, h.1), (h.0.1, tt))) (λ h. ((cc (h.0), h.1.0), cc (h.0)))
    layer (KindOf.HasAttr a ks) (KindOf.HasAttr a' ks') =
        exactly _ (both _ _ (a.value.1 a'.value) (paths_decide ks ks')) (λ h. (cc (h.0.0, h.1.0, h.1.1), (h.0.1, tt))) (λ h. ((cc (h.0), h.1.0), (cc (h.0), cc (h.0))))
    layer (KindOf.Like a p) (KindOf.Like a' p') =
        exactly _ (both _ _ (a.value.1 a'.value) (pattern_eq_decides p p')) (λ h. (cc (h.0.0, h.1), (h.0.1, tt))) (λ h. ((cc (h.0), h.1.0), cc (h.0)))
    layer (KindOf.Set es) (KindOf.Set es') =
        exactly _ (members es.value.items es'.value.items) (λ h. (cc (h.0), h.1)) (λ h. (cc (h.0), h.1))
    layer (KindOf.Record es) (KindOf.Record es') =
        exactly _ (pairs es.value.entries es'.value.entries) (λ h. (cc (h.0), h.1)) (λ h. (cc (h.0), h.1))
    layer (KindOf.Is a n) (KindOf.Is a' n') =
        exactly _ (both _ _ (a.value.1 a'.value) (name_eq_decides (bare_entity_type n) (bare_entity_type n'))) (λ h. (cc (h.0.0, h.1), (h.0.1, tt))) (λ h. ((cc (h.0), h.1.0), cc (h.0)))
    layer a b = never (λ h. differ kind_index (bare_expr_kind (map_kind (λ (m : Member). m.0) a)) (bare_expr_kind b) refl h.0)

    at_exprs : {x y : Bool} {a b c d : BareExpr} {p q r s : DataTree T} → x ≡ y → a ≡ c → b ≡ d → p ≡ r → q ≡ s → Decides y (Same c d r s) → Decides x (Same a b p q)
    at_exprs e f g h k l = subst (λ x. x) (λ i. Decides (sym e i) ((sym f i ≡ sym g i) × SameData E (sym h i) (sym k i))) l

    -- if the comparison goes level by level
    module _ (h : (a b : Expr T) → V a b ≡ (layer_eq V (kind_of a) (kind_of b) && E (data_of a) (data_of b))) where
      pub decides_same : (a b : Expr T) → Decides (V a b) (Same (bare_expr a) (bare_expr b) (data_tree a) (data_tree b))
      decides_same = ind-Expr T Claim
          (λ x y is b.
          at_exprs
          (h (roll-Expr T x) b ∙ ap (λ (l : Expr-F T (Expr T)). layer_eq V l.expr_kind (kind_of b) && E l.«data» (data_of b)) (out-roll-Expr T x ∙ sym is))
          (fold-roll-Expr T BareExpr node_step x ∙ ap (λ (l : Expr-F T (Expr T)). bare_expr_kind l.expr_kind) (sym is))
          (fold_out-Expr T BareExpr node_step b)
          (fold-roll-Expr T (DataTree T) data_tree_step x ∙ ap (λ (l : Expr-F T (Expr T)). holds l.«data» (kind_data l.expr_kind)) (sym is))
          (fold_out-Expr T (DataTree T) data_tree_step b)
          (exactly _ (both _ _ (layer y.expr_kind (kind_of b)) ((λ e. e, λ e. e))) (λ g. (g.0.0, (g.1, g.0.1))) (λ g. ((g.0, g.1.1), g.1.0))))
