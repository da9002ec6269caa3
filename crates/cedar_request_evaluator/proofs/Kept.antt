-- Values that are kept by name.
use Rattle.std.proofs.Common.{◌≡◌, ◌≢◌, Bool, true, false, List, [], Option, Some, None, option_map, Result, Ok, IfOk, ap, sym, ◌∙◌, subst, ⊎_elim}
use Rattle.std.proofs.lemmas.Bool.{cases_Bool, true≢false}
use Rattle.std.proofs.lemmas.Result.{IfOk-weaker}
use Rattle.std.specs.Cmp.Lexicographic.{bytes_decides, nat_list_eq_equiv}
use Rattle.std.specs.Global.{Global}
use Rattle.std.specs.HashMap.{HashMap, UpdatesBy}
use Rattle.std.specs.Map.{lookup, KeepsOthers}
use Rattle.std.specs.Rc.{rc_str_bytes}
use Rattle.std.specs.Str.{bytes_eq}
use Rattle.std.specs.declared.cmp.Ord as Ord
use Rattle.std.specs.declared.cmp.PartialEq as PartialEq
use Rattle.std.specs.declared.cmp.PartialOrd as PartialOrd
use Rattle.std.specs.declared.rc.RcStr.{RcStr}
use Rattle.cedar_terms.specs.Types.{BareType}
use Rattle.cedar_builders.specs.BareExpr.{Text, BareExpr}
use Rattle.cedar_builders.specs.Environment.{Env, bound, empty, fold}
use Rattle.cedar_builders.specs.Fold.{fold_with}
use Rattle.cedar_builders.specs.Ops.{Ops}
use Rattle.semantics_values.specs.BareValue.{BareValue}
use Rattle.cedar_values.specs.BareValues.{bare_value}
use Rattle.cedar_values.specs.WellFormedValues.{value_of}
use Rattle.cedar_values.specs.declared.well_formed.WellFormedValue.{WellFormedValue}
use Rattle.cedar_request_evaluator.specs.Bound.{AreKept, IsPutAt, given, given_by, kept_in}

differ : (a b : Text) → b ≢ a → bytes_eq a b ≡ false
differ a b apart =
    ⊎_elim (λ same. absurd (apart (sym ((bytes_decides a b).0 same)))) (λ n. n)
    (cases_Bool (bytes_eq a b))

differs : (a b : Text) → bytes_eq a b ≡ false → b ≢ a
differs a b apart eq =
    true≢false (sym (subst (λ c. bytes_eq a c ≡ true) (sym eq) (nat_list_eq_equiv.refl a)) ∙ apart)

-- whether a key is this text
by : Text → RcStr Global → Bool
by text key = bytes_eq text (rc_str_bytes key)

module _ {V : Type 0} (n : Text) (old new : List (RcStr Global × V)) where
  others : KeepsOthers (λ k. by (rc_str_bytes k)) (by n) old new
      → (other : Text) → other ≢ n → lookup (by other) new ≡ lookup (by other) old
  unfolding KeepsOthers by
  others h other apart = h
      (by other)
      (λ x y. nat_list_eq_equiv.congr other (rc_str_bytes x) (rc_str_bytes y))
      (λ k is. nat_list_eq_equiv.symm other (rc_str_bytes k)
      ∙ (sym (nat_list_eq_equiv.congr n (rc_str_bytes k) other is) ∙ differ n other apart))

-- a map in which something was put at a name
pub is_put : {V S : Type 0} (n : Text) (v : V) (old new : HashMap (RcStr Global) V S)
    → UpdatesBy (λ k l. bytes_eq (rc_str_bytes k) (rc_str_bytes l))
    (λ k. bytes_eq n (rc_str_bytes k)) old new (Some v) → IsPutAt old n v new
unfolding by
is_put n v old new puts =
    record { here = puts.1; others = others n old.entries new.entries puts.3 }

module _ {X M F : Type 0} (B : Ops M F) (V : BareValue X → M) (env : Env) where
  -- where nothing is kept
  pub none_kept : (kept : Text → Option (BareValue X)) → ((n : Text) → kept n ≡ None)
      → AreKept B V env kept
  none_kept kept none = record { at = λ n t. ap (λ o. given B V o (env n) n t) (none n) }

  here : (b : BareType × BareExpr) (v : BareValue X) → fold B empty b.1 ≡ Ok (V v)
      → (o : Option (BareValue X)) (p : Option (BareType × BareExpr)) → o ≡ Some v → p ≡ Some b
      → (n : Text) (t : Option BareType) → given B V o p n t ≡ bound B p n t
  here b v is o p kept bound_to n t =
      ap (λ x. given B V x p n t) kept ∙ (sym is ∙ sym (ap (λ x. bound B x n t) bound_to))

  -- what a name is bound to is kept
  pub more_kept : (name : Text) (b : BareType × BareExpr) (v : BareValue X)
      → env name ≡ Some b → fold B empty b.1 ≡ Ok (V v)
      → (old new : Text → Option (BareValue X)) → new name ≡ Some v
      → ((m : Text) → m ≢ name → new m ≡ old m)
      → AreKept B V env old → AreKept B V env new
  more_kept name b v bound_to is old new at_it others kept = record {
    at = λ n t.
        ⊎_elim
        (λ same.
        subst (λ m. given B V (new m) (env m) n t ≡ bound B (env m) n t)
        ((bytes_decides name n).0 same)
        (here b v is (new name) (env name) at_it bound_to n t))
        (λ apart.
        ap (λ o. given B V o (env n) n t) (others n (differs name n apart))
        ∙ kept.at n t)
        (cases_Bool (bytes_eq name n));
  }

  -- a tree means the same where values are kept
  pub same_tree : (kept : Text → Option (BareValue X)) → AreKept B V env kept
      → (e : BareExpr) → fold_with B (given_by B V env kept) e ≡ fold B env e
  same_tree kept are e =
      λ i. fold_with B (λ n t. are.at n t i) e

-- a value that was put into a map where there is one for its name
pub put_kept : {X M F P Z : Type 0} {o : Ord.Ghosts X} {e : PartialEq.Ghosts X}
    {p : PartialOrd.Ghosts X} (B : Ops M F) (V : BareValue X → M) (env : Env) (name : Text)
    (b : BareType × BareExpr) (w : WellFormedValue X o e p) → env name ≡ Some b
    → fold B empty b.1 ≡ Ok (V (bare_value (value_of w))) → {S : Type 0}
    (old new : HashMap (RcStr Global) (WellFormedValue X o e p) S) (r : Result P Z)
    → AreKept B V env (kept_in old) → IfOk r (λ _. IsPutAt old name w new)
    → IfOk r (λ _. AreKept B V env (kept_in new))
put_kept B V env name b w bound_to is old new r kept put =
    IfOk-weaker r (λ _. IsPutAt old name w new) (λ _. AreKept B V env (kept_in new))
    (λ _ at.
    more_kept B V env name b (bare_value (value_of w)) bound_to is (kept_in old) (kept_in new)
    (ap (option_map (λ x. bare_value (value_of x))) at.here)
    (λ m apart. ap (option_map (λ x. bare_value (value_of x))) (at.others m apart)) kept)
    put

-- nothing is kept in a map without entries
pub new_kept : {X M F S : Type 0} {o : Ord.Ghosts X} {e : PartialEq.Ghosts X}
    {p : PartialOrd.Ghosts X} (B : Ops M F) (V : BareValue X → M) (env : Env)
    (m : HashMap (RcStr Global) (WellFormedValue X o e p) S) → m.entries ≡ []
    → AreKept B V env (kept_in m)
new_kept B V env m is =
    none_kept B V env (kept_in m)
    (λ n. ap (λ es. option_map (λ w. bare_value (value_of w))
    (lookup (λ k. bytes_eq n (rc_str_bytes k)) es)) is)
