-- Tests that decide: of what stands at the leaves of an expression.
use Rattle.std.proofs.Common.{◌≡◌, ℕ, Bool, true, false, ◌&&◌, nat_eq, List, [], ◌∷◌, map, refl, sym, ap, ◌∙◌}
use Rattle.std.proofs.Math.Dec.{eqb}
use Rattle.std.proofs.lemmas.Bool.{eq-eqb, false≢true}
use Rattle.std.proofs.lemmas.Bool.Decides.{Decides-and, Decides-like}
use Rattle.std.specs.Bool.{Decides}
use Rattle.std.specs.Cmp.Lexicographic.{pointwise, bytes_decides}
use Rattle.std.specs.Global.{Global}
use Rattle.std.specs.Rc.{rc_str_bytes}
use Rattle.std.specs.declared.rc.RcStr.{RcStr}
use Rattle.cedar_names.specs.NonEmpty.{list_of}
use Rattle.cedar_names.specs.declared.non_empty.NonEmpty.{NonEmpty}
use Rattle.cedar_names.specs.declared.slot.SlotId.{SlotId}
use Rattle.cedar_names.specs.declared.slot.SlotId.TheVariants as slot
use Rattle.cedar_names.specs.contracts.slot.SlotIdPartialEq.TheImpl as slot_eq
use Rattle.cedar_terms.specs.declared.ops.UnaryOp.{UnaryOp}
use Rattle.cedar_terms.specs.declared.ops.UnaryOp.TheVariants as unary
use Rattle.cedar_terms.specs.contracts.ops.UnaryOpPartialEq.TheImpl as unary_eq
use Rattle.cedar_terms.specs.declared.ops.BinaryOp.{BinaryOp}
use Rattle.cedar_terms.specs.declared.ops.BinaryOp.TheVariants as binary
use Rattle.cedar_terms.specs.contracts.ops.BinaryOpPartialEq.TheImpl as binary_eq
use Rattle.cedar_terms.specs.declared.var.Var.{Var}
use Rattle.cedar_terms.specs.declared.var.Var.TheVariants as variable
use Rattle.cedar_terms.specs.contracts.var.VarPartialEq.TheImpl as var_eq
use Rattle.cedar_terms.specs.Ops.{var_number, unary_op_number, binary_op_number}
use Rattle.cedar_terms.specs.Unknowns.{BareUnknown, unknown_eq, unknown_eq_decides}
use Rattle.cedar_builders.specs.Shapes.{slot_number}
use Rattle.cedar_exprs.specs.BareExpr.{further, unknown_tree}

pub both : {A B : Type 0} (x y : Bool) → Decides x A → Decides y B → Decides (x && y) (A × B)
both x y p q = Decides-and x y p q

pub exactly : {A B : Type 0} (x : Bool) → Decides x A → (A → B) → (B → A) → Decides x B
exactly x p f g = Decides-like x f g p

pub never : {A : Type 0} → (A → ⊥) → Decides false A
never f = (λ e. absurd (false≢true e), λ a. absurd (f a))

-- what has different numbers is not the same
pub differ : {A : Type 0} (number : A → ℕ) (a b : A) → eqb (number a) (number b) ≡ false → a ≡ b → ⊥
differ number a b e is = false≢true (sym e ∙ eq-eqb (number a) (number b) (ap number is))

here : {A : Type 0} {a : A} → Decides true (a ≡ a)
here = (λ e. refl, λ e. refl)

-- ---- operators, variables and slots, whose comparison is derived

abbrev pub same_slot : SlotId → SlotId → Bool
same_slot = (slot_eq.ghosts).eq

abbrev pub same_var : Var → Var → Bool
same_var = (var_eq.ghosts).eq

abbrev pub same_unary : UnaryOp → UnaryOp → Bool
same_unary = (unary_eq.ghosts).eq

abbrev pub same_binary : BinaryOp → BinaryOp → Bool
same_binary = (binary_eq.ghosts).eq

pub slots_decide : (a b : SlotId) → Decides (same_slot a b) (a ≡ b)
slots_decide slot.Principal slot.Principal = here
slots_decide slot.Resource slot.Resource = here
slots_decide a b = never (differ slot_number a b refl)

pub vars_decide : (a b : Var) → Decides (same_var a b) (a ≡ b)
vars_decide variable.Principal variable.Principal = here
vars_decide variable.Action variable.Action = here
vars_decide variable.Resource variable.Resource = here
vars_decide variable.Context variable.Context = here
vars_decide a b = never (differ var_number a b refl)

pub unaries_decide : (a b : UnaryOp) → Decides (same_unary a b) (a ≡ b)
unaries_decide unary.Not unary.Not = here
unaries_decide unary.Neg unary.Neg = here
unaries_decide unary.IsEmpty unary.IsEmpty = here
unaries_decide a b = never (differ unary_op_number a b refl)

pub binaries_decide : (a b : BinaryOp) → Decides (same_binary a b) (a ≡ b)
binaries_decide binary.Eq binary.Eq = here
binaries_decide binary.Less binary.Less = here
binaries_decide binary.LessEq binary.LessEq = here
binaries_decide binary.Add binary.Add = here
binaries_decide binary.Sub binary.Sub = here
binaries_decide binary.Mul binary.Mul = here
binaries_decide binary.In binary.In = here
binaries_decide binary.Contains binary.Contains = here
binaries_decide binary.ContainsAll binary.ContainsAll = here
binaries_decide binary.ContainsAny binary.ContainsAny = here
binaries_decide binary.GetTag binary.GetTag = here
binaries_decide binary.HasTag binary.HasTag = here
binaries_decide a b = never (differ binary_op_number a b refl)

-- ---- unknowns and paths of attributes

same_parts : (u v : BareUnknown) → u.name ≡ v.name → u.annotation ≡ v.annotation → u ≡ v
same_parts u v h k = λ i. record { name = h i; annotation = k i }

pub unknowns_decide : (u v : BareUnknown) → Decides (unknown_eq u v) (unknown_tree u ≡ unknown_tree v)
unknowns_decide u v = exactly _ (unknown_eq_decides u v) (λ e. ap unknown_tree e) (λ e. let h : u.name ≡ v.name = cc e in let k : u.annotation ≡ v.annotation = cc e in same_parts u v h k)

abbrev pub same_text : RcStr Global → RcStr Global → Bool
same_text s t = pointwise nat_eq (rc_str_bytes s) (rc_str_bytes t)

pub texts_decide : (s t : RcStr Global) → Decides (same_text s t) (rc_str_bytes s ≡ rc_str_bytes t)
texts_decide s t = bytes_decides (rc_str_bytes s) (rc_str_bytes t)

lists_decide : (ss ts : List (RcStr Global)) → Decides (pointwise same_text ss ts) (map rc_str_bytes ss ≡ map rc_str_bytes ts)
lists_decide [] [] = here
lists_decide [] (t ∷ ts) = never (λ e. cc)
lists_decide (s ∷ ss) [] = never (λ e. cc)
lists_decide (s ∷ ss) (t ∷ ts) = exactly _ (both _ _ (texts_decide s t) (lists_decide ss ts)) (λ h. cc (h.0, h.1)) (λ e. (cc, cc))

pub paths_decide : (ks ls : NonEmpty (RcStr Global)) → Decides (pointwise same_text (list_of ks) (list_of ls)) ((rc_str_bytes ks.head ≡ rc_str_bytes ls.head) × (further ks ≡ further ls))
paths_decide ks ls = both _ _ (texts_decide ks.head ls.head) (lists_decide ks.tail.items ls.tail.items)
