-- The trees of calls of functions and methods.
use Rattle.std.proofs.Common.{◌≡◌, ◌≢◌, ℕ, true, false, List, [], ◌∷◌, length, IfOk, Option, Some, None, Result, Ok, Err, refl, sym, ◌∙◌, ap, subst}
use Rattle.std.specs.Prelude.{IsTrue, codes, if◌then◌else◌}
use Rattle.std.specs.Str.{bytes_eq}
use Rattle.std.proofs.lemmas.Slice.Eq.{bytes_eq-Decides}
use Rattle.cedar_names.specs.Grammar.{is_id}
use Rattle.cedar_names.specs.Names.{BareName, IsNameOf, unqualified}
use Rattle.cedar_terms.specs.declared.ops.BinaryOp.{BinaryOp}
use Rattle.cedar_terms.specs.declared.ops.BinaryOp.TheVariants as Binary
use Rattle.cedar_terms.specs.declared.ops.UnaryOp.TheVariants as Unary
use Rattle.cedar_builders.specs.BareExpr.{BareExpr, BareExprs, ExtensionFunctionApp, trees_of}
use Rattle.cedar_exprs.specs.BareExpr.{bare_exprs}
use Rattle.cedar_exprs.specs.declared.expr.Expr.{Expr}
use Rattle.semantics_grammar.specs.Written.{binary_or_call, is_empty_tree, method_op, method_tree, only_string}
use Rattle.cedar_parser.specs.Waiting.{IsBinaryOf, IsRowTree, IsUnaryOf, method_arguments}
use Rattle.cedar_parser.proofs.Operators.{none_some}

-- a text in a table of words is an identifier, if they are
found : (m s : List ℕ) (op o : BinaryOp) (rest : Option BinaryOp) → IsTrue (is_id s) → (rest ≡ Some op → IsTrue (is_id m))
    → (if bytes_eq m s then Some o else rest) ≡ Some op → IsTrue (is_id m)
found m s op o rest k f e =
    elim (bytes_eq m s) as (λ v. bytes_eq m s ≡ v → (if v then Some o else rest) ≡ Some op → IsTrue (is_id m)) [
      | true ↦ λ q g. subst (λ x. IsTrue (is_id x)) (sym ((bytes_eq-Decides m s).0 q)) k
      | false ↦ λ q g. f g
    ] refl e

method_id : (m : List ℕ) (op : BinaryOp) → method_op m ≡ Some op → IsTrue (is_id m)
method_id m op e =
    found m (codes "contains") op Binary.Contains _ refl
    (found m (codes "containsAll") op Binary.ContainsAll _ refl
    (found m (codes "containsAny") op Binary.ContainsAny _ refl
    (found m (codes "getTag") op Binary.GetTag _ refl
    (found m (codes "hasTag") op Binary.HasTag None refl (λ e. absurd (none_some e)))))) e

one_id : (m : List ℕ) → IsTrue (is_id m) → IsNameOf m (unqualified m)
one_id m h = ((refl, h), refl)

-- the tree of a method that is not `isEmpty`
other_method : (m : List ℕ) (n : BareName) (a : BareExpr) (bs : BareExprs) → bytes_eq m (codes "isEmpty") ≡ false
    → method_tree m n a bs ≡ binary_or_call (method_op m) n a bs
other_method m n a bs e = ap (λ b. if b then is_empty_tree a bs else binary_or_call (method_op m) n a bs) e

pub empty_row : (m : List ℕ) (es : List BareExpr) (t : BareExpr) → bytes_eq m (codes "isEmpty") ≡ true → IsUnaryOf Unary.IsEmpty es t
    → IsRowTree (method_arguments m) es t
empty_row m es t e h =
    let id : IsTrue (is_id m) = subst (λ x. IsTrue (is_id x)) (sym ((bytes_eq-Decides m (codes "isEmpty")).0 e)) refl in
    let n = unqualified m in
    let made : method_tree m n h.0 (trees_of []) ≡ Some t =
    ap (λ b. if b then is_empty_tree h.0 (trees_of []) else binary_or_call (method_op m) n h.0 (trees_of [])) e ∙ ap Some (sym h.2) in
    subst (λ xs. IsRowTree (method_arguments m) xs t) (sym h.1) (n, one_id m id, made)

pub binary_row : (m : List ℕ) (op : BinaryOp) (es : List BareExpr) (t : BareExpr) → bytes_eq m (codes "isEmpty") ≡ false → method_op m ≡ Some op
    → IsBinaryOf op es t → IsRowTree (method_arguments m) es t
binary_row m op es t e o h =
    let n = unqualified m in
    let bs = trees_of (h.1 ∷ []) in
    let made : method_tree m n h.0 bs ≡ Some t =
    other_method m n h.0 bs e ∙ (ap (λ p. binary_or_call p n h.0 bs) o ∙ ap Some (sym h.3)) in
    subst (λ xs. IsRowTree (method_arguments m) xs t) (sym h.2) (n, one_id m (method_id m op o), made)

pub call_row : (m : List ℕ) (n : BareName) (es : List BareExpr) (t : BareExpr) → bytes_eq m (codes "isEmpty") ≡ false → method_op m ≡ None
    → IsNameOf m n → t ≡ ExtensionFunctionApp n (trees_of es) → IsRowTree (method_arguments m) es t
call_row m n [] t e o name is = tt
call_row m n (a ∷ bs) t e o name is =
    (n, name, other_method m n a (trees_of bs) e ∙ (ap (λ p. binary_or_call p n a (trees_of bs)) o ∙ ap Some (sym is)))

-- no text is the only one of several arguments, or of none
pub no_string : (xs : List (Expr Unit)) → length xs ≢ 1 → only_string (bare_exprs xs) ≡ None
no_string [] h = refl
no_string (a ∷ []) h = absurd (h refl)
no_string (a ∷ b ∷ xs) h = refl

-- what holds of an answer holds in other words too
pub if_tree : {A E : Type 0} (res : Result A E) (P Q : A → Type 0) → IfOk res P → ((a : A) → P a → Q a) → IfOk res Q
if_tree (Ok a) P Q h f = f a h
if_tree (Err e) P Q h f = tt
