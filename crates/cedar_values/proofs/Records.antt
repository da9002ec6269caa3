-- Maps that are made of pairs have at each key the last value that the pairs give to it.
use Rattle.std.proofs.Common.{◌≡◌, Bool, true, false, List, [], ◌∷◌, cond, refl, sym, ap, subst, ◌∙◌, Option, Some, None, IfSome, get_or}
use Rattle.std.proofs.lemmas.List.Elements.{Contains-get_or}
use Rattle.std.proofs.lemmas.List.Sums.{list_all-from_AllPass}
use Rattle.std.proofs.lemmas.Map.Keys.{IsDistinct-from_sorted}
use Rattle.std.proofs.lemmas.Map.Views.{lookup-from_Contains}
use Rattle.std.specs.Cmp.{on_equiv}
use Rattle.std.specs.Cmp.Lexicographic.{texts_ties, nat_list_eq_equiv}
use Rattle.std.specs.Global.{Global}
use Rattle.std.specs.List.{list_all, IsDistinct}
use Rattle.std.specs.List.Sorted.{IsStrictlySortedBy}
use Rattle.std.specs.Map.{lookup, keys_of, update, update_all}
use Rattle.std.specs.Option.{option_or}
use Rattle.std.specs.Ordering.{eq_by_cmp, is_eq}
use Rattle.std.specs.Rc.{rc_str_bytes}
use Rattle.std.specs.declared.rc.RcStr.{RcStr}
use Rattle.std.proofs.lemmas.Bool.{and_parts}
use Rattle.cedar_values.specs.Records.{is_key, key_cmp, last_value, IsLastOfEach}

pub tied_keys : (k l : RcStr Global) → is_key k l ≡ eq_by_cmp key_cmp k l
tied_keys k l = texts_ties (rc_str_bytes k) (rc_str_bytes l)

module _ {V : Type 0} where
  after_some : (o : Option V) (b : Bool) (v : V) (p : Option V) → option_or o (cond b (Some v) p) ≡ option_or (option_or o (cond b (Some v) None)) p
  after_some (Some x) b v p = refl
  after_some None true v p = refl
  after_some None false v p = refl

  last_after : (f : RcStr Global → Option V) (ps : List (RcStr Global × V)) (k : RcStr Global) → update_all (eq_by_cmp key_cmp) f ps k ≡ option_or (last_value ps k) (f k)
  last_after f [] k = refl
  last_after f (p ∷ ps) k =
      last_after (update (eq_by_cmp key_cmp) f p.0 (Some p.1)) ps k
      ∙ ap (λ b. option_or (last_value ps k) (cond b (Some p.1) (f k))) (sym (tied_keys p.0 k))
      ∙ after_some (last_value ps k) (is_key p.0 k) p.1 (f k)

  or_none : (o : Option V) → option_or o None ≡ o
  or_none (Some x) = refl
  or_none None = refl

  -- the entries of a map that has what the pairs give in turn
  pub last_of_updates : (ps es : List (RcStr Global × V)) → IsStrictlySortedBy key_cmp (keys_of es)
      → ((k : RcStr Global) → lookup (λ l. is_eq (key_cmp k l)) es ≡ update_all (eq_by_cmp key_cmp) (λ _. None) ps k) → IsLastOfEach ps es
  last_of_updates ps es s h = record {
    ascending = s;
    last = λ k. (λ i. lookup (λ l. tied_keys k l i) es) ∙ h k ∙ last_after (λ _. None) ps k ∙ or_none (last_value ps k);
  }

  module _ (P : V → Bool) where
    abbrev Passes : Option V → Type 0
    Passes o = IfSome o (λ v. P v ≡ true)

    either : (o p : Option V) → Passes o → Passes p → Passes (option_or o p)
    either (Some x) p h k = h
    either None p h k = k

    at_key : (b : Bool) (v : V) → P v ≡ true → Passes (cond b (Some v) None)
    at_key true v h = h
    at_key false v h = tt

    last_passes : (ps : List (RcStr Global × V)) (k : RcStr Global) → list_all (λ p. P p.1) ps ≡ true → Passes (last_value ps k)
    last_passes [] k h = tt
    last_passes (p ∷ ps) k h =
        either (last_value ps k) (cond (is_key p.0 k) (Some p.1) None) (last_passes ps k (and_parts (P p.1) _ h).1) (at_key (is_key p.0 k) p.1 (and_parts (P p.1) _ h).0)

    distinct : (ks : List (RcStr Global)) → IsStrictlySortedBy key_cmp ks → IsDistinct is_key ks
    distinct ks s = subst (λ (e : RcStr Global → RcStr Global → Bool). IsDistinct e ks) (λ i k l. sym (tied_keys k l) i) (IsDistinct-from_sorted key_cmp ks s)

    -- what holds of each value handed in holds of each that is kept
    pub all_last : (ps es : List (RcStr Global × V)) → IsLastOfEach ps es → list_all (λ p. P p.1) ps ≡ true → list_all (λ e. P e.1) es ≡ true
    all_last ps es h all =
        list_all-from_AllPass (λ e. P e.1) es
        (λ i d l.
        subst Passes
        (sym (h.last (get_or es i d).0) ∙ lookup-from_Contains (on_equiv rc_str_bytes nat_list_eq_equiv) (get_or es i d).0 (get_or es i d).1 es (distinct (keys_of es) h.ascending) (Contains-get_or es i d l))
        (last_passes ps (get_or es i d).0 all))
