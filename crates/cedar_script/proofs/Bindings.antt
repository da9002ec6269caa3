-- What a state binds after a name is bound.
use Rattle.std.proofs.Common.{◌≡◌, ◌≢◌, ℕ, Bool, List, true, false, Some, sym, ap, ◌∙◌, ⊎_elim}
use Rattle.std.proofs.lemmas.Bool.{cases_Bool}
use Rattle.std.specs.Prelude.{Option, option_map}
use Rattle.std.specs.Global.{Global}
use Rattle.std.specs.Cmp.Lexicographic.{bytes_decides, nat_list_eq_equiv}
use Rattle.std.specs.HashMap.{UpdatesBy, get_by}
use Rattle.std.specs.Map.{lookup, KeepsOthers}
use Rattle.std.specs.Rc.{rc_str_bytes}
use Rattle.std.specs.Str.{bytes_eq}
use Rattle.std.specs.declared.rc.RcStr.{RcStr}
use Rattle.cedar_terms.specs.Types.{BareType}
use Rattle.cedar_builders.specs.BareExpr.{Text, BareExpr}
use Rattle.semantics_values.specs.ValueExpr.{value_expr}
use Rattle.semantics_values.specs.ValueTypes.{value_type}
use Rattle.cedar_values.specs.BareValues.{bare_value}
use Rattle.cedar_values.specs.Holders.{NoExtension, held_name, held_call}
use Rattle.cedar_values.specs.declared.value.Value.{Value}
use Rattle.cedar_script.specs.Stack.{Bindings, environment, binding_of, IsBoundTo}

differ : (a b : Text) → b ≢ a → bytes_eq a b ≡ false
differ a b apart = ⊎_elim (λ same. absurd (apart (sym ((bytes_decides a b).0 same)))) (λ n. n) (cases_Bool (bytes_eq a b))

-- whether a key is this text
by : Text → RcStr Global → Bool
by text key = bytes_eq text (rc_str_bytes key)

module _ {X : Type 0} (key : RcStr Global) (old new : List (RcStr Global × X)) where
  kept : KeepsOthers (λ k. by (rc_str_bytes k)) (by (rc_str_bytes key)) old new → (other : Text) → other ≢ rc_str_bytes key → lookup (by other) new ≡ lookup (by other) old
  unfolding KeepsOthers by
  kept h other apart = h
      (by other)
      (λ x y. nat_list_eq_equiv.congr other (rc_str_bytes x) (rc_str_bytes y))
      (λ k is. nat_list_eq_equiv.symm other (rc_str_bytes k) ∙ (sym (nat_list_eq_equiv.congr (rc_str_bytes key) (rc_str_bytes k) other is) ∙ differ (rc_str_bytes key) other apart))

entry : Value NoExtension → BareType × BareExpr
entry v = (value_type held_name (bare_value v), value_expr held_call (bare_value v))

-- a map in which a value was put at a key
pub is_bound : (key : RcStr Global) (value : Value NoExtension) (old new : Bindings) (name : Text) → rc_str_bytes key ≡ name
    → UpdatesBy (λ k l. bytes_eq (rc_str_bytes k) (rc_str_bytes l)) (λ k. bytes_eq (rc_str_bytes key) (rc_str_bytes k)) old new (Some value)
    → IsBoundTo name (binding_of (bare_value value)) (environment old) (environment new)
unfolding by entry
is_bound key value old new name is puts = record {
  bound = ap (λ text. environment new text) (sym is) ∙ ap (option_map entry) puts.1;
  kept = λ other apart. ap (option_map entry) (kept key old.entries new.entries puts.3 other (λ e. apart (e ∙ is)));
}
