-- The order of trees by their shape is total, and equal just where the trees are: a tree is ordered as the nested list of what it is compared by.
use Rattle.std.specs.Prelude.{◌≡◌, ⊤, ℕ, Bool, true, false, List, [], ◌∷◌, Option, Some, None, refl, nat_eq}
use Rattle.std.proofs.Common.{sym, ◌∙◌, ap, subst, ◌⊎◌, inl, inr}
use Rattle.std.proofs.Math.Dec.{eqb}
use Rattle.std.proofs.lemmas.Bool.{eq-eqb, false≢true}
use Rattle.std.specs.Bool.{Decides}
use Rattle.std.specs.Cmp.{IsTotalOrder, IsEquivalence, IsPartialOrder, nat_cmp_total, on_total, partial_order_from_total, Equal-is, unsigned_ties, unsigned_Decides, eq_by_cmp_equiv}
use Rattle.std.specs.Cmp.Lexicographic.{slice_cmp, pointwise, lists_total, lists_ties, options_total, pointwise_decides, bytes_decides, nat_list_cmp_total, texts_ties}
use Rattle.std.specs.Option.{option_cmp, option_eq}
use Rattle.std.specs.Ordering.{nat_cmp, is_eq, eq_by_cmp, as_partial_cmp}
use Rattle.std.specs.declared.cmp.Ordering.{Ordering}
use Rattle.std.specs.declared.cmp.Ordering.TheVariants.{Less, Equal, Greater}
use Rattle.cedar_names.specs.Names.{BareName}
use Rattle.cedar_names.specs.NameOrder.{name_eq, name_cmp, name_cmp_total, name_ties, name_eq_decides}
use Rattle.cedar_names.specs.declared.slot.SlotId.{SlotId}
use Rattle.cedar_names.specs.declared.slot.SlotId.TheVariants as slot
use Rattle.cedar_terms.specs.LiteralOrder.{literal_eq, literal_cmp, literal_cmp_total, literal_ties, literal_eq_decides}
use Rattle.cedar_terms.specs.Literals.{BareLiteral}
use Rattle.cedar_terms.specs.Ops.{var_number, unary_op_number, binary_op_number}
use Rattle.cedar_terms.specs.PatternOrder.{pattern_eq, pattern_cmp, pattern_cmp_total, pattern_ties, pattern_eq_decides}
use Rattle.cedar_terms.specs.TypeOrder.{type_eq, type_cmp, type_cmp_total, type_ties, type_eq_decides, options_decide}
use Rattle.cedar_terms.specs.Types.{BareType}
use Rattle.cedar_terms.specs.declared.ops.BinaryOp.{BinaryOp}
use Rattle.cedar_terms.specs.declared.ops.BinaryOp.TheVariants as binary
use Rattle.cedar_terms.specs.declared.ops.UnaryOp.{UnaryOp}
use Rattle.cedar_terms.specs.declared.ops.UnaryOp.TheVariants as unary
use Rattle.cedar_terms.specs.declared.pattern.PatternElem.{PatternElem}
use Rattle.cedar_terms.specs.declared.var.Var.{Var as Variable}
use Rattle.cedar_terms.specs.declared.var.Var.TheVariants as var
use Rattle.cedar_builders.specs.BareExpr.{Text, BareExpr, Lit, Var, Slot, Unknown, If, And, Or, UnaryApp, BinaryApp, ExtensionFunctionApp, GetAttr, HasAttr, Like, Set, Record, Is, BareExprs, no_trees, tree, BareFields, no_fields, field}
use Rattle.cedar_builders.specs.Shapes.{has_number, slot_number, row_count, field_count, ◌or_else◌, shape_cmp, row_cmp, fields_cmp}
use Rattle.cedar_builders.specs.ShapeFeed.{shape_fed}
use Rattle.cedar_builders.specs.NestedKeys.{Order, Key, Keys, part, branch, no_keys, key, key_cmp, keys_cmp, key_order, sum_order, total_of, itself, then_equal, then_last}

-- ---- the orders of what stands in the fields

-- a total order that ties where a test holds which decides equality
abbrev order_of : {A : Type 0} (E : A → A → Bool) (R : A → A → Ordering) → IsTotalOrder R → ((x y : A) → E x y ≡ eq_by_cmp R x y) → ((x y : A) → Decides (E x y) (x ≡ y)) → Order A
order_of E R total ties decides = record {
  cmp = R;
  antisymm = total.antisymm;
  trans = total.trans;
  exact = λ x y h. (decides x y).0 (ties x y ∙ ap is_eq h);
}

abbrev naturals : Order ℕ
naturals = order_of nat_eq nat_cmp nat_cmp_total unsigned_ties unsigned_Decides

-- the order by a number that each has alone
abbrev numbered : {A : Type 0} (number : A → ℕ) → ((x y : A) → number x ≡ number y → x ≡ y) → Order A
numbered number alone = record {
  cmp = λ x y. nat_cmp (number x) (number y);
  antisymm = λ x y. nat_cmp_total.antisymm (number x) (number y);
  trans = λ x y z. nat_cmp_total.trans (number x) (number y) (number z);
  exact = λ x y h. alone x y (naturals.exact (number x) (number y) h);
}

-- numbers that are told apart are not the same
differ : {m n : ℕ} → eqb m n ≡ false → m ≡ n → ⊥
differ {m} {n} e h = false≢true (sym e ∙ eq-eqb m n h)

var_alone : (x y : Variable) → var_number x ≡ var_number y → x ≡ y
var_alone var.Principal var.Principal h = refl
var_alone var.Action var.Action h = refl
var_alone var.Resource var.Resource h = refl
var_alone var.Context var.Context h = refl
var_alone x y h = absurd (differ refl h)

slot_alone : (x y : SlotId) → slot_number x ≡ slot_number y → x ≡ y
slot_alone slot.Principal slot.Principal h = refl
slot_alone slot.Resource slot.Resource h = refl
slot_alone x y h = absurd (differ refl h)

unary_alone : (x y : UnaryOp) → unary_op_number x ≡ unary_op_number y → x ≡ y
unary_alone unary.Not unary.Not h = refl
unary_alone unary.Neg unary.Neg h = refl
unary_alone unary.IsEmpty unary.IsEmpty h = refl
unary_alone x y h = absurd (differ refl h)

binary_alone : (x y : BinaryOp) → binary_op_number x ≡ binary_op_number y → x ≡ y
binary_alone binary.Eq binary.Eq h = refl
binary_alone binary.Less binary.Less h = refl
binary_alone binary.LessEq binary.LessEq h = refl
binary_alone binary.Add binary.Add h = refl
binary_alone binary.Sub binary.Sub h = refl
binary_alone binary.Mul binary.Mul h = refl
binary_alone binary.In binary.In h = refl
binary_alone binary.Contains binary.Contains h = refl
binary_alone binary.ContainsAll binary.ContainsAll h = refl
binary_alone binary.ContainsAny binary.ContainsAny h = refl
binary_alone binary.GetTag binary.GetTag h = refl
binary_alone binary.HasTag binary.HasTag h = refl
binary_alone x y h = absurd (differ refl h)

annotations_tie : (s t : Option BareType) → option_eq type_eq s t ≡ eq_by_cmp (option_cmp type_cmp) s t
annotations_tie None None = refl
annotations_tie None (Some t) = refl
annotations_tie (Some s) None = refl
annotations_tie (Some s) (Some t) = type_ties s t

abbrev literals : Order BareLiteral
literals = order_of literal_eq literal_cmp literal_cmp_total literal_ties literal_eq_decides

abbrev variables : Order Variable
variables = numbered var_number var_alone

abbrev slots : Order SlotId
slots = numbered slot_number slot_alone

abbrev texts : Order Text
texts = order_of (pointwise nat_eq) (slice_cmp nat_cmp) nat_list_cmp_total texts_ties bytes_decides

abbrev annotations : Order (Option BareType)
annotations = order_of (option_eq type_eq) (option_cmp type_cmp) (options_total type_cmp_total) annotations_tie (options_decide type_eq_decides)

abbrev unary_ops : Order UnaryOp
unary_ops = numbered unary_op_number unary_alone

abbrev binary_ops : Order BinaryOp
binary_ops = numbered binary_op_number binary_alone

abbrev names : Order BareName
names = order_of name_eq name_cmp name_cmp_total name_ties name_eq_decides

abbrev paths : Order (List Text)
paths = order_of (pointwise (pointwise nat_eq)) (slice_cmp (slice_cmp nat_cmp)) (lists_total nat_list_cmp_total) (lists_ties (slice_cmp nat_cmp) texts_ties) (pointwise_decides bytes_decides)

abbrev patterns : Order (List PatternElem)
patterns = order_of pattern_eq pattern_cmp pattern_cmp_total pattern_ties pattern_eq_decides

-- ---- trees as nested lists

abbrev Part : Type 0
Part = ℕ ⊎ (BareLiteral ⊎ (Variable ⊎ (SlotId ⊎ (Text ⊎ (Option BareType ⊎ (UnaryOp ⊎ (BinaryOp ⊎ (BareName ⊎ (List Text ⊎ List PatternElem)))))))))

abbrev parts : Order Part
parts = sum_order naturals (sum_order literals (sum_order variables (sum_order slots (sum_order texts (sum_order annotations (sum_order unary_ops (sum_order binary_ops (sum_order names (sum_order paths patterns)))))))))

abbrev number : ℕ → Key Part
number n = part (inl n)

abbrev of_literal : BareLiteral → Key Part
of_literal x = part (inr (inl x))

abbrev of_variable : Variable → Key Part
of_variable x = part (inr (inr (inl x)))

abbrev of_slot : SlotId → Key Part
of_slot x = part (inr (inr (inr (inl x))))

abbrev of_text : Text → Key Part
of_text x = part (inr (inr (inr (inr (inl x)))))

abbrev of_annotation : Option BareType → Key Part
of_annotation x = part (inr (inr (inr (inr (inr (inl x))))))

abbrev of_unary : UnaryOp → Key Part
of_unary x = part (inr (inr (inr (inr (inr (inr (inl x)))))))

abbrev of_binary : BinaryOp → Key Part
of_binary x = part (inr (inr (inr (inr (inr (inr (inr (inl x))))))))

abbrev of_name : BareName → Key Part
of_name x = part (inr (inr (inr (inr (inr (inr (inr (inr (inl x)))))))))

abbrev of_list : List Text → Key Part
of_list x = part (inr (inr (inr (inr (inr (inr (inr (inr (inr (inl x))))))))))

abbrev of_pattern : List PatternElem → Key Part
of_pattern x = part (inr (inr (inr (inr (inr (inr (inr (inr (inr (inr x))))))))))

abbrev one : Key Part → Keys Part
one k = key k no_keys

-- a tree as the list of what it is compared by
abbrev mutual
  shape : BareExpr → Key Part
  shape (Lit l) = branch (key (number 0) (one (of_literal l)))
  shape (Var v) = branch (key (number 1) (one (of_variable v)))
  shape (Slot s) = branch (key (number 2) (one (of_slot s)))
  shape (Unknown n t) = branch (key (number 3) (key (of_text n) (one (of_annotation t))))
  shape (If a b c) = branch (key (number 4) (key (shape a) (key (shape b) (one (shape c)))))
  shape (And a b) = branch (key (number 5) (key (shape a) (one (shape b))))
  shape (Or a b) = branch (key (number 6) (key (shape a) (one (shape b))))
  shape (UnaryApp u a) = branch (key (number 7) (key (of_unary u) (one (shape a))))
  shape (BinaryApp u a b) = branch (key (number 8) (key (of_binary u) (key (shape a) (one (shape b)))))
  shape (ExtensionFunctionApp n es) = branch (key (number 9) (key (of_name n) (key (number (row_count es)) (shapes es))))
  shape (GetAttr a k) = branch (key (number 10) (key (of_text k) (one (shape a))))
  shape (HasAttr a k ks) = branch (key (number (has_number ks)) (key (of_list (k ∷ ks)) (one (shape a))))
  shape (Like a p) = branch (key (number 13) (key (of_pattern p) (one (shape a))))
  shape (Set es) = branch (key (number 14) (key (number (row_count es)) (shapes es)))
  shape (Record fs) = branch (key (number 15) (key (number (field_count fs)) (field_shapes fs)))
  shape (Is a n) = branch (key (number 16) (key (of_name n) (one (shape a))))

  shapes : BareExprs → Keys Part
  shapes no_trees = no_keys
  shapes (tree e es) = key (shape e) (shapes es)

  field_shapes : BareFields → Keys Part
  field_shapes no_fields = no_keys
  field_shapes (field k e fs) = key (of_text k) (key (shape e) (field_shapes fs))

alike_two : {A C D : Type 0} (f : A → C → D) {a a' : A} {c c' : C} {r s : Ordering} → (r ≡ Equal → a ≡ a') → (s ≡ Equal → c ≡ c') → (r or_else s) ≡ Equal → f a c ≡ f a' c'
alike_two f {r = r} {s = s} p q h = let e = then_equal r s h in cc (p e.0, q e.1)

alike_three : {A C D G : Type 0} (f : A → C → D → G) {a a' : A} {c c' : C} {d d' : D} {r s t : Ordering} → (r ≡ Equal → a ≡ a') → (s ≡ Equal → c ≡ c') → (t ≡ Equal → d ≡ d') → (r or_else s or_else t) ≡ Equal → f a c d ≡ f a' c' d'
alike_three f {r = r} {s = s} {t = t} p q w h =
    let e = then_equal r (s or_else t) h in
    let g = then_equal s t e.1 in
    cc (p e.0, q g.0, w g.1)

has_exact : {a a' : BareExpr} {k k' : Text} {ks ks' : List Text} {r s : Ordering} → (r ≡ Equal → k ∷ ks ≡ k' ∷ ks') → (s ≡ Equal → a ≡ a') → (r or_else s) ≡ Equal → HasAttr a k ks ≡ HasAttr a' k' ks'
has_exact {r = r} {s = s} p q h = let e = then_equal r s h in cc (p e.0, q e.1)

-- `Less` and `Greater` are not `Equal`
abbrev IsEqual : Ordering → Type 0
IsEqual Less = ⊥
IsEqual Equal = ⊤
IsEqual Greater = ⊥

unequal : {r : Ordering} → r ≡ Equal → IsEqual r
unequal h = subst IsEqual (sym h) tt

-- past a count
behind : {G : Type 0} {s : Ordering} (r : Ordering) → (s ≡ Equal → G) → (r or_else s) ≡ Equal → G
behind {s = s} r f h = f ((then_equal r s h).1)

mutual
  by_key : (a b : BareExpr) → shape_cmp a b ≡ key_cmp parts (shape a) (shape b)
  by_key (Lit l) (Lit l') = simp then_last
  by_key (Var v) (Var v') = simp then_last
  by_key (Slot s) (Slot s') = simp then_last
  by_key (Unknown n t) (Unknown n' t') = simp then_last
  by_key (If a b c) (If a' b' c') = simp (then_last, by_key a a', by_key b b', by_key c c')
  by_key (And a b) (And a' b') = simp (then_last, by_key a a', by_key b b')
  by_key (Or a b) (Or a' b') = simp (then_last, by_key a a', by_key b b')
  by_key (UnaryApp u a) (UnaryApp u' a') = simp (then_last, by_key a a')
  by_key (BinaryApp u a b) (BinaryApp u' a' b') = simp (then_last, by_key a a', by_key b b')
  by_key (ExtensionFunctionApp n es) (ExtensionFunctionApp n' es') = simp (by_keys es es')
  by_key (GetAttr a k) (GetAttr a' k') = simp (then_last, by_key a a')
  by_key (HasAttr a k ks) (HasAttr a' k' ks') = simp (then_last, by_key a a')
  by_key (Like a p) (Like a' p') = simp (then_last, by_key a a')
  by_key (Set es) (Set es') = simp (by_keys es es')
  by_key (Record fs) (Record fs') = simp (by_field_keys fs fs')
  by_key (Is a n) (Is a' n') = simp (then_last, by_key a a')
  by_key (HasAttr a k []) b = refl
  by_key (HasAttr a k (l ∷ ls)) b = refl
  by_key a (HasAttr a' k' []) = refl
  by_key a (HasAttr a' k' (l' ∷ ls')) = refl
  by_key a b = refl

  by_keys : (es es' : BareExprs) → row_cmp es es' ≡ keys_cmp parts (shapes es) (shapes es')
  by_keys no_trees no_trees = refl
  by_keys no_trees (tree e' es') = refl
  by_keys (tree e es) no_trees = refl
  by_keys (tree e es) (tree e' es') = simp (by_key e e', by_keys es es')

  by_field_keys : (fs fs' : BareFields) → fields_cmp fs fs' ≡ keys_cmp parts (field_shapes fs) (field_shapes fs')
  by_field_keys no_fields no_fields = refl
  by_field_keys no_fields (field k' e' fs') = refl
  by_field_keys (field k e fs) no_fields = refl
  by_field_keys (field k e fs) (field k' e' fs') = simp (by_key e e', by_field_keys fs fs')

mutual
  exact : (a b : BareExpr) → shape_cmp a b ≡ Equal → a ≡ b
  exact (Lit l) (Lit l') h = ap Lit (literals.exact l l' h)
  exact (Var v) (Var v') h = ap Var (variables.exact v v' h)
  exact (Slot s) (Slot s') h = ap Slot (slots.exact s s' h)
  exact (Unknown n t) (Unknown n' t') h = alike_two Unknown (texts.exact n n') (annotations.exact t t') h
  exact (If a b c) (If a' b' c') h = alike_three If (exact a a') (exact b b') (exact c c') h
  exact (And a b) (And a' b') h = alike_two And (exact a a') (exact b b') h
  exact (Or a b) (Or a' b') h = alike_two Or (exact a a') (exact b b') h
  exact (UnaryApp u a) (UnaryApp u' a') h = alike_two UnaryApp (unary_ops.exact u u') (exact a a') h
  exact (BinaryApp u a b) (BinaryApp u' a' b') h = alike_three BinaryApp (binary_ops.exact u u') (exact a a') (exact b b') h
  exact (ExtensionFunctionApp n es) (ExtensionFunctionApp n' es') h = alike_two ExtensionFunctionApp (names.exact n n') (behind _ (all_exact es es')) h
  exact (GetAttr a k) (GetAttr a' k') h = alike_two (λ x y. GetAttr y x) (texts.exact k k') (exact a a') h
  exact (HasAttr a k ks) (HasAttr a' k' ks') h = behind _ (has_exact (paths.exact (k ∷ ks) (k' ∷ ks')) (exact a a')) h
  exact (Like a p) (Like a' p') h = alike_two (λ x y. Like y x) (patterns.exact p p') (exact a a') h
  exact (Set es) (Set es') h = behind _ (λ k. ap Set (all_exact es es' k)) h
  exact (Record fs) (Record fs') h = behind _ (λ k. ap Record (fields_exact fs fs' k)) h
  exact (Is a n) (Is a' n') h = alike_two (λ x y. Is y x) (names.exact n n') (exact a a') h
  exact (HasAttr a k []) b h = absurd (unequal h)
  exact (HasAttr a k (l ∷ ls)) b h = absurd (unequal h)
  exact a (HasAttr a' k' []) h = absurd (unequal h)
  exact a (HasAttr a' k' (l' ∷ ls')) h = absurd (unequal h)
  exact a b h = absurd (unequal h)

  all_exact : (es es' : BareExprs) → row_cmp es es' ≡ Equal → es ≡ es'
  all_exact no_trees no_trees h = refl
  all_exact no_trees (tree e' es') h = cc
  all_exact (tree e es) no_trees h = cc
  all_exact (tree e es) (tree e' es') h = alike_two tree (exact e e') (all_exact es es') h

  fields_exact : (fs fs' : BareFields) → fields_cmp fs fs' ≡ Equal → fs ≡ fs'
  fields_exact no_fields no_fields h = refl
  fields_exact no_fields (field k' e' fs') h = cc
  fields_exact (field k e fs) no_fields h = cc
  fields_exact (field k e fs) (field k' e' fs') h =
      alike_three field (texts.exact k k') (exact e e') (fields_exact fs fs') h

pub shape_cmp_total : IsTotalOrder shape_cmp
shape_cmp_total = subst IsTotalOrder (λ i a b. sym (by_key a b) i) (on_total shape (total_of (key_order parts)))

equal_itself : (a : BareExpr) → shape_cmp a a ≡ Equal
equal_itself a = by_key a a ∙ itself (key_order parts) (shape a)

-- what is equal in the order is the same
pub shapes_decide : (a b : BareExpr) → Decides (eq_by_cmp shape_cmp a b) (a ≡ b)
shapes_decide a b =
    (λ h. exact a b ((Equal-is (shape_cmp a b)).0 h), λ e. (Equal-is (shape_cmp a b)).1 (ap (λ w. shape_cmp a w) (sym e) ∙ equal_itself a))

pub shape_eq_equiv : IsEquivalence (eq_by_cmp shape_cmp)
shape_eq_equiv = eq_by_cmp_equiv shape_cmp_total

pub shape_po : IsPartialOrder (eq_by_cmp shape_cmp) (as_partial_cmp shape_cmp)
shape_po = partial_order_from_total shape_cmp_total

pub shape_fed-alike : (a b : BareExpr) → eq_by_cmp shape_cmp a b ≡ true → shape_fed a ≡ shape_fed b
shape_fed-alike a b h = ap shape_fed ((shapes_decide a b).0 h)
