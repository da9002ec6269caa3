-- What a name is bound to.
use Rattle.std.proofs.Common.{◌≡◌, ◌≢◌, Bool, List, [], ◌∷◌, length, arith, false, Option, option_map, Some, None, Result, Ok, Err, IfSome, OnOk, ap, inl, inr, refl, subst, sym, ◌∙◌, ⊎_elim}
use Rattle.std.proofs.lemmas.Bool.{cases_Bool}
use Rattle.std.specs.Cmp.Lexicographic.{bytes_decides, nat_list_eq_equiv}
use Rattle.std.specs.Global.{Global}
use Rattle.std.specs.HashMap.{HashMap, UpdatesBy}
use Rattle.std.specs.Map.{lookup, KeepsOthers}
use Rattle.std.specs.Rc.{rc_str_bytes}
use Rattle.std.specs.Str.{bytes_eq}
use Rattle.std.specs.declared.cmp.Ordering.{Ordering}
use Rattle.std.specs.declared.hash.BuildHasherDefault.{BuildHasherDefault}
use Rattle.std.specs.declared.hash.FoldHasher.{FoldHasher}
use Rattle.std.specs.declared.rc.RcStr.{RcStr}
use Rattle.cedar_builders.specs.BareExpr.{Text, BareExpr, Unknown}
use Rattle.cedar_exprs.specs.BareExpr.{bare_expr}
use Rattle.cedar_exprs.specs.declared.expr.Expr.{Expr}
use Rattle.semantics_values.specs.Reading.{IsValueOf}
use Rattle.cedar_values.specs.BareValues.{bare_value}
use Rattle.cedar_values.specs.Holders.{NoExtension, held_call, held_name}
use Rattle.cedar_values.specs.WellFormedValues.{tree_of, type_of, value_of}
use Rattle.cedar_bindings.specs.Bindings.{IsBound, IsPutAt}
use Rattle.cedar_bindings.specs.declared.bindings.Bindings.{Bindings}

-- what holds of a value, if there is one
pub if_some : {A : Type 0} (P : A → Type 0) (o : Option A) (v : A) → o ≡ Some v → IfSome o P → P v
if_some P o v is h = subst (λ x. IfSome x P) is h

-- what follows from two facts of an answer
pub on_ok : {A E P Q S : Type 0} (r : Result A E) → (P → Q → S) → OnOk r P → OnOk r Q → OnOk r S
on_ok (Ok a) f h i = f h i
on_ok (Err e) f h i = tt

-- a list without items
pub empty : {A : Type 0} (xs : List A) → length xs ≡ 0 → xs ≡ []
empty [] h = refl
empty (x ∷ xs) h = absurd (omega (arith, h))

differ : (a b : Text) → b ≢ a → bytes_eq a b ≡ false
differ a b apart = ⊎_elim (λ same. absurd (apart (sym ((bytes_decides a b).0 same)))) (λ n. n) (cases_Bool (bytes_eq a b))

-- whether a key is this text
by : Text → RcStr Global → Bool
by text key = bytes_eq text (rc_str_bytes key)

module _ {X : Type 0} (n : Text) (old new : List (RcStr Global × X)) where
  kept : KeepsOthers (λ k. by (rc_str_bytes k)) (by n) old new → (other : Text) → other ≢ n → lookup (by other) new ≡ lookup (by other) old
  unfolding KeepsOthers by
  kept h other apart = h
      (by other)
      (λ x y. nat_list_eq_equiv.congr other (rc_str_bytes x) (rc_str_bytes y))
      (λ k is. nat_list_eq_equiv.symm other (rc_str_bytes k) ∙ (sym (nat_list_eq_equiv.congr n (rc_str_bytes k) other is) ∙ differ n other apart))

-- a map in which something was put at a name, or taken away
pub is_put : {V : Type 0} (n : Text) (v : Option V) (old new : HashMap (RcStr Global) V (BuildHasherDefault FoldHasher))
    → UpdatesBy (λ k l. bytes_eq (rc_str_bytes k) (rc_str_bytes l)) (λ k. bytes_eq n (rc_str_bytes k)) old new v
    → IsPutAt old n v new
unfolding by
is_put n v old new puts = record { here = puts.1; others = kept n old.entries new.entries puts.3 }

module _ (R : NoExtension → NoExtension → Ordering) (old new : Bindings) (n : Text) (e : BareExpr) where
  -- a name that has the value of an expression
  pub bound_to_value : (w : _) → IsValueOf R e (bare_value (value_of w))
      → (u : Expr Unit) × (bare_expr u ≡ Unknown n None) × IsPutAt old.named n (Some u) new.named
      → IsPutAt old.values n (Some w) new.values → IsBound R old n e new
  bound_to_value w is named bound =
      let entry = option_map (λ v. (type_of held_name v, tree_of held_call v)) in
      record {
        bound = inl (record {
          value = bare_value (value_of w);
          of_expr = is;
          named = ap (option_map bare_expr) named.2.here ∙ ap Some named.1;
          bound = ap entry bound.here;
        });
        others = λ k apart. record {
          name = ap (option_map bare_expr) (named.2.others k apart);
          value = ap entry (bound.others k apart);
        };
      }

  -- a name that stands for an expression
  pub bound_to_expr : (u : Expr Unit) → bare_expr u ≡ e
      → IsPutAt old.values n None new.values → IsPutAt old.named n (Some u) new.named → IsBound R old n e new
  bound_to_expr u is values named =
      record {
        bound = inr (ap (option_map bare_expr) named.here ∙ ap Some is);
        others = λ k apart. record {
          name = ap (option_map bare_expr) (named.others k apart);
          value = ap (option_map (λ v. (type_of held_name v, tree_of held_call v))) (values.others k apart);
        };
      }
