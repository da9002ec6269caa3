-- Whether the values of a record call nothing, whatever the order in which they were handed in.
use Rattle.std.proofs.Common.{◌≡◌, refl, sym, ◌∙◌, ap, subst, Bool, true, false, ◌&&◌, IsTrue, List, [], ◌∷◌, map}
use Rattle.std.proofs.lemmas.List.Folds.{list_all-map}
use Rattle.std.proofs.lemmas.List.Sorted.{All-permutation, IsPermutation-sym}
use Rattle.std.proofs.lemmas.List.Sums.{AllPass-from_list_all, list_all-from_AllPass}
use Rattle.std.specs.Global.{Global}
use Rattle.std.specs.List.{list_all}
use Rattle.std.specs.List.Sorted.{IsPermutation}
use Rattle.std.specs.Rc.{rc_str_bytes}
use Rattle.std.specs.declared.rc.RcStr.{RcStr}
use Rattle.cedar_builders.specs.BareExpr.{Text, fields_of}
use Rattle.cedar_builders.specs.Keys.{are_distinct, in_key_order, IsInKeyOrder, keyed, keys_of}
use Rattle.cedar_builders.specs.Walks.{values_of}
use Rattle.cedar_exprs.specs.BareExpr.{bare_expr}
use Rattle.cedar_exprs.specs.RecordPairs.{record_fields}
use Rattle.cedar_exprs.specs.declared.expr.Expr.{Expr}
use Rattle.semantics_simplify.specs.Asks.{holds_no_call}

same_truth : (a b : Bool) → (a ≡ true → b ≡ true) → (b ≡ true → a ≡ true) → a ≡ b
same_truth true b f g = sym (f refl)
same_truth false true f g = g refl
same_truth false false f g = refl

permuted : {A : Type 0} (p : A → Bool) (xs ys : List A) → IsPermutation xs ys
    → list_all p xs ≡ true → list_all p ys ≡ true
permuted p xs ys same h =
    list_all-from_AllPass p ys
    (All-permutation (λ x. p x ≡ true) xs ys same (AllPass-from_list_all p xs h))

same_all : {A : Type 0} (p : A → Bool) (xs ys : List A) → IsPermutation xs ys
    → list_all p xs ≡ list_all p ys
same_all p xs ys same =
    same_truth (list_all p xs) (list_all p ys) (permuted p xs ys same)
    (permuted p ys xs (IsPermutation-sym xs ys same))

fields_all : (es : List (Text × Expr Unit))
    → list_all holds_no_call (values_of (fields_of (map (λ p. (p.0, bare_expr p.1)) es)))
    ≡ list_all (λ p. holds_no_call (bare_expr p.1)) es
fields_all [] = refl
fields_all (e ∷ es) = ap (λ b. holds_no_call (bare_expr e.1) && b) (fields_all es)

same_record : (ps : List (RcStr Global × Expr Unit))
    → IsPermutation (keyed ps) (in_key_order (keyed ps))
    → list_all (λ p. holds_no_call (bare_expr p.1)) ps
    ≡ list_all holds_no_call (values_of (record_fields ps))
same_record ps same =
    sym (list_all-map (λ (p : Text × Expr Unit). holds_no_call (bare_expr p.1))
    (λ p. (rc_str_bytes p.0, p.1)) ps)
    ∙ same_all (λ (p : Text × Expr Unit). holds_no_call (bare_expr p.1)) (keyed ps)
    (in_key_order (keyed ps)) same
    ∙ sym (fields_all (in_key_order (keyed ps)))

-- pairs with distinct keys are put in the order of their keys
abbrev IsPutInOrder : List (RcStr Global × Expr Unit) → Type 0
IsPutInOrder ps =
    IsTrue (are_distinct (keys_of ps)) → IsInKeyOrder (keyed ps) (in_key_order (keyed ps))

pub record_all : (lent ps : List (RcStr Global × Expr Unit)) → lent ≡ ps → IsPutInOrder lent
    → IsTrue (are_distinct (keys_of ps))
    → list_all (λ p. holds_no_call (bare_expr p.1)) ps
    ≡ list_all holds_no_call (values_of (record_fields ps))
record_all lent ps is law distinct = same_record ps (subst IsPutInOrder is law distinct).same
