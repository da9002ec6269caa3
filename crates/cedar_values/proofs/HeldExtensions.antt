-- Whether an extension value is inside of what waits.
use Rattle.std.proofs.Common.{◌≡◌, suc, ◌+◌, ◌<◌, Bool, ◌||◌, List, [], ◌∷◌, ◌++◌, map, refl, sym, ap, ◌∙◌, arith, Global, BTreeMap}
use Rattle.std.proofs.Math.Bool.{or-false}
use Rattle.std.proofs.lemmas.List.Folds.{list_any-append}
use Rattle.std.specs.List.{list_any}
use Rattle.std.specs.declared.rc.Rc.{Rc}
use Rattle.std.specs.declared.rc.RcStr.{RcStr}
use Rattle.cedar_terms.specs.declared.literal.Literal.{Literal}
use Rattle.cedar_exprs.specs.Walks.{referents}
use Rattle.semantics_values.specs.BareValue.{RecordValue, values_of}
use Rattle.semantics_values.specs.ValueExpr.{has_extension, any_has_extension, any_pair_has_extension}
use Rattle.cedar_values.specs.BareValues.{bare_value, bare_value_kind, kind_of}
use Rattle.cedar_values.specs.Conversions.{bare_pairs}
use Rattle.cedar_values.specs.Counts.{kind_has_nodes, kind_nodes}
use Rattle.cedar_values.specs.Sets.{members}
use Rattle.cedar_values.specs.declared.set.Set as set_of
use Rattle.cedar_values.specs.declared.value.Value.{Value}
use Rattle.cedar_values.specs.declared.value.ValueKind.{ValueKind}
use Rattle.cedar_values.specs.declared.value.ValueKind.TheVariants as ValueOf
use Rattle.cedar_values.proofs.Levels.{kind_of_literal, record_tree, set_tree, value_tree}
use Rattle.cedar_values.proofs.WaitingValues.{all_nodes, nodes_in, nodes_put, record_count, referents_are, set_count}
use denote.Ref.{Bor}

module _ {X : Type 0} where
  abbrev pub kind_holds : ValueKind X → Bool
  kind_holds k = has_extension (bare_value_kind k)

  abbrev pub any_holds : List (Bor (ValueKind X)) → Bool
  any_holds ks = list_any kind_holds (referents ks)

  -- the last is taken off
  pub any_taken : (all ks : List (Bor (ValueKind X))) (k : Bor (ValueKind X)) → all ≡ ks ++ k ∷ [] → any_holds all ≡ (any_holds ks || kind_holds k.now)
  any_taken all ks k is =
      ap (list_any kind_holds) (referents_are all ks k is) ∙ list_any-append kind_holds (referents ks) (k.now ∷ [])
      ∙ ap (λ b. any_holds ks || b) (or-false (kind_holds k.now))

  -- these are put behind the others
  pub any_put : (ks new : List (Bor (ValueKind X))) (more : List (ValueKind X)) → referents new ≡ referents ks ++ more → any_holds new ≡ (any_holds ks || list_any kind_holds more)
  any_put ks new more put = ap (list_any kind_holds) put ∙ list_any-append kind_holds (referents ks) more

  members_hold : (vs : List (Value X)) → any_has_extension (values_of (map bare_value vs)) ≡ list_any kind_holds (map kind_of vs)
  members_hold [] = refl
  members_hold (v ∷ vs) = λ i. has_extension (value_tree v i) || members_hold vs i

  pairs_hold : (es : List (RcStr Global × Value X)) → any_pair_has_extension (bare_pairs es) ≡ list_any kind_holds (map (λ e. kind_of e.1) es)
  pairs_hold [] = refl
  pairs_hold (e ∷ es) = λ i. has_extension (value_tree e.1 i) || pairs_hold es i

  -- a value is looked at: what is inside of it waits behind the others
  abbrev pub IsLookedAt : ValueKind X → List (Bor (ValueKind X)) → List (Bor (ValueKind X)) → Type 0
  IsLookedAt k ks new = (any_holds new ≡ (any_holds ks || kind_holds k)) × (nodes_in new < nodes_in ks + kind_nodes k)

  module _ (k : ValueKind X) (ks new : List (Bor (ValueKind X))) where
    put : (more : List (ValueKind X)) → referents new ≡ referents ks ++ more → kind_holds k ≡ list_any kind_holds more → kind_nodes k ≡ suc (all_nodes more) → IsLookedAt k ks new
    put more are holds count = (any_put ks new more are ∙ ap (λ b. any_holds ks || b) (sym holds), omega (arith, nodes_put ks new more are, count))

    pub literal_looked_at : (l : Literal) → k ≡ ValueOf.Lit l → new ≡ ks → IsLookedAt k ks new
    literal_looked_at l is same = (
      ap any_holds same ∙ sym (or-false (any_holds ks)) ∙ ap (λ b. any_holds ks || b) (sym (ap kind_holds is ∙ ap has_extension (kind_of_literal l))),
      omega (arith, ap nodes_in same, kind_has_nodes k),
    )

    pub set_looked_at : (s : set_of.Set X) → k ≡ ValueOf.Set s → referents new ≡ referents ks ++ map kind_of (members s) → IsLookedAt k ks new
    set_looked_at s is are = put (map kind_of (members s)) are (ap kind_holds is ∙ ap has_extension (set_tree s) ∙ members_hold (members s)) (set_count k s is)

    pub record_looked_at : (m : Rc (BTreeMap (RcStr Global) (Value X)) Global) → k ≡ ValueOf.Record m → (es : List (RcStr Global × Value X)) → es ≡ m.value.entries
        → referents new ≡ referents ks ++ map (λ e. kind_of e.1) es → IsLookedAt k ks new
    record_looked_at m is es all are =
        put (map (λ e. kind_of e.1) es) are
        (ap kind_holds is ∙ ap has_extension (record_tree m) ∙ ap (λ es. has_extension (RecordValue (bare_pairs es))) (sym all) ∙ pairs_hold es)
        (record_count k m is es all)
