-- Sets and records, by whether each of their children is known.
use Rattle.std.proofs.Common.{◌≡◌, refl, sym, ◌∙◌, ap, subst, Bool, true, false, ◌&&◌, IsTrue, List, [], ◌∷◌, map, option_map, Ok, Err}
use Rattle.std.specs.Global.{Global}
use Rattle.std.specs.List.{cons_option, filter_map, list_all}
use Rattle.std.specs.Rc.{rc_str_bytes}
use Rattle.std.specs.declared.cmp.Ord as Ord
use Rattle.std.specs.declared.cmp.Ordering.{Ordering}
use Rattle.std.specs.declared.cmp.PartialEq as PartialEq
use Rattle.std.specs.declared.cmp.PartialOrd as PartialOrd
use Rattle.std.specs.declared.rc.RcStr.{RcStr}
use Rattle.std.proofs.lemmas.Bool.{and_parts}
use Rattle.cedar_builders.specs.BareExpr.{Text, BareExpr}
use Rattle.cedar_builders.specs.Fold.{on_one}
use Rattle.cedar_builders.specs.Keys.{IsAscending, keys_of, meant_pairs}
use Rattle.semantics_values.specs.BareValue.{BareValue, RecordValue, pairs_of}
use Rattle.cedar_values.specs.BareValues.{bare_value}
use Rattle.cedar_values.specs.WellFormed.{well_formed}
use Rattle.cedar_values.specs.declared.value.Value.{Value}
use Rattle.semantics_eval.specs.Outcomes.{Outcome, Open}
use Rattle.semantics_eval.specs.Rows.{all_values, all_pairs, set_value, set_outcome, record_outcome}
use Rattle.semantics_simplify.specs.Simplified as meant
use Rattle.cedar_simplifier.specs.Kept.{is_kept}
use Rattle.cedar_simplifier.specs.Simplified.{bare_kind, held_pair, held_value, is_known, meaning_of, value_in_kind}
use Rattle.cedar_simplifier.specs.declared.kind.Kind.{Kind}
use Rattle.cedar_simplifier.specs.declared.kind.Kind.TheVariants.{Known, Residual}
use Rattle.cedar_simplifier.specs.declared.simplified.Simplified.{Simplified}

behind : (a b : Bool) → (a && b) ≡ false → a ≡ true → b ≡ false
behind true b h is = h
behind false b h is = cc

-- one child

module _ {X : Type 0} where
  one_known : (k : Kind X) (vs : List (Value X)) (ms : List (Outcome X))
      → is_known (bare_kind k) ≡ true → all_values ms ≡ Ok (map bare_value vs)
      → all_values (meant.outcome_of (bare_kind k) ∷ ms)
      ≡ Ok (map bare_value (cons_option (value_in_kind k) vs))
  one_known (Known v) vs ms h g = ap (on_one (λ ts. bare_value v ∷ ts)) g
  one_known (Residual t) vs ms h g = cc

  one_residual : (k : Kind X) (ms : List (Outcome X))
      → (is_known (bare_kind k) ≡ true → all_values ms ≡ Err Open)
      → all_values (meant.outcome_of (bare_kind k) ∷ ms) ≡ Err Open
  one_residual (Known v) ms h = ap (on_one (λ ts. bare_value v ∷ ts)) (h refl)
  one_residual (Residual t) ms h = refl

  pair_known : (key : RcStr Global) (k : Kind X) (vs : List (RcStr Global × Value X))
      (ms : List (Text × Outcome X)) → is_known (bare_kind k) ≡ true
      → all_pairs ms ≡ Ok (meant_pairs bare_value vs)
      → all_pairs ((rc_str_bytes key, meant.outcome_of (bare_kind k)) ∷ ms)
      ≡ Ok (meant_pairs bare_value
      (cons_option (option_map (λ v. (key, v)) (value_in_kind k)) vs))
  pair_known key (Known v) vs ms h g =
      ap (on_one (λ ts. (rc_str_bytes key, bare_value v) ∷ ts)) g
  pair_known key (Residual t) vs ms h g = cc

  pair_residual : (key : Text) (k : Kind X) (ms : List (Text × Outcome X))
      → (is_known (bare_kind k) ≡ true → all_pairs ms ≡ Err Open)
      → all_pairs ((key, meant.outcome_of (bare_kind k)) ∷ ms) ≡ Err Open
  pair_residual key (Known v) ms h = ap (on_one (λ ts. (key, bare_value v) ∷ ts)) (h refl)
  pair_residual key (Residual t) ms h = refl

  key_known : (key : RcStr Global) (k : Kind X) (vs : List (RcStr Global × Value X))
      → is_known (bare_kind k) ≡ true
      → keys_of (cons_option (option_map (λ v. (key, v)) (value_in_kind k)) vs)
      ≡ rc_str_bytes key ∷ keys_of vs
  key_known key (Known v) vs h = refl
  key_known key (Residual t) vs h = cc

  module _ (R : X → X → Ordering) where
    value_kept : (k : Kind X) (vs : List (Value X)) → IsTrue (is_kept R k)
        → list_all (well_formed R) vs ≡ true
        → list_all (well_formed R) (cons_option (value_in_kind k) vs) ≡ true
    value_kept (Known v) vs h g = λ i. h i && g i
    value_kept (Residual t) vs h g = g

    pair_kept : (key : RcStr Global) (k : Kind X) (vs : List (RcStr Global × Value X))
        → IsTrue (is_kept R k) → list_all (λ e. well_formed R e.1) vs ≡ true
        → list_all (λ e. well_formed R e.1)
        (cons_option (option_map (λ v. (key, v)) (value_in_kind k)) vs) ≡ true
    pair_kept key (Known v) vs h g = λ i. h i && g i
    pair_kept key (Residual t) vs h g = g

-- o, e and p are the comparisons of extension values
module _ {X : Type 0} {o : Ord.Ghosts X} {e : PartialEq.Ghosts X} {p : PartialOrd.Ghosts X} where
  -- whether each child of a set and of a record is known
  abbrev pub are_known : List (Simplified X o e p) → Bool
  are_known ps = list_all (λ c. is_known (meaning_of c)) ps

  abbrev pub have_known : List (RcStr Global × Simplified X o e p) → Bool
  have_known ps = list_all (λ c. is_known (meaning_of c.1)) ps

  -- sets

  abbrev outcomes_of : List (Simplified X o e p) → List (Outcome X)
  outcomes_of ps = map meant.outcome_of (map meaning_of ps)

  all_known : (ps : List (Simplified X o e p)) → are_known ps ≡ true
      → all_values (outcomes_of ps) ≡ Ok (map bare_value (filter_map held_value ps))
  all_known [] h = refl
  all_known (c ∷ ps) h =
      one_known c.kind (filter_map held_value ps) (outcomes_of ps)
      (and_parts (is_known (meaning_of c)) (are_known ps) h).0
      (all_known ps (and_parts (is_known (meaning_of c)) (are_known ps) h).1)

  not_known : (ps : List (Simplified X o e p)) → are_known ps ≡ false
      → all_values (outcomes_of ps) ≡ Err Open
  not_known [] h = cc
  not_known (c ∷ ps) h =
      one_residual c.kind (outcomes_of ps)
      (λ is. not_known ps (behind (is_known (meaning_of c)) (are_known ps) h is))

  module _ (R : X → X → Ordering) (node : BareExpr) (ps : List (Simplified X o e p)) where
    set_known : are_known ps ≡ true
        → meant.Known (set_value R (map bare_value (filter_map held_value ps)))
        ≡ meant.known_or node (set_outcome R (outcomes_of ps))
    set_known h = sym (ap (λ r. meant.known_or node (on_one (set_value R) r)) (all_known ps h))

    pub set_residual : are_known ps ≡ false
        → meant.Residual node ≡ meant.known_or node (set_outcome R (outcomes_of ps))
    set_residual h = sym (ap (λ r. meant.known_or node (on_one (set_value R) r)) (not_known ps h))

  -- the set that is made of members, each of which is known
  pub known_set : (R : X → X → Ordering) (node : BareExpr) (ps : List (Simplified X o e p))
      (t : BareValue X) (vs : List (Value X)) → are_known ps ≡ true
      → t ≡ set_value R (map bare_value vs) → vs ≡ filter_map held_value ps
      → meant.Known t ≡ meant.known_or node (set_outcome R (outcomes_of ps))
  known_set R node ps t vs h is all =
      ap meant.Known is ∙ ap (λ us. meant.Known (set_value R (map bare_value us))) all
      ∙ set_known R node ps h

  -- records

  abbrev outcomes_by_key : List (RcStr Global × Simplified X o e p) → List (Text × Outcome X)
  outcomes_by_key ps = meant.pair_outcomes (meant_pairs meaning_of ps)

  pairs_known : (ps : List (RcStr Global × Simplified X o e p)) → have_known ps ≡ true
      → all_pairs (outcomes_by_key ps) ≡ Ok (meant_pairs bare_value (filter_map held_pair ps))
  pairs_known [] h = refl
  pairs_known (c ∷ ps) h =
      pair_known c.0 c.1.kind (filter_map held_pair ps) (outcomes_by_key ps)
      (and_parts (is_known (meaning_of c.1)) (have_known ps) h).0
      (pairs_known ps (and_parts (is_known (meaning_of c.1)) (have_known ps) h).1)

  pairs_residual : (ps : List (RcStr Global × Simplified X o e p)) → have_known ps ≡ false
      → all_pairs (outcomes_by_key ps) ≡ Err Open
  pairs_residual [] h = cc
  pairs_residual (c ∷ ps) h =
      pair_residual (rc_str_bytes c.0) c.1.kind (outcomes_by_key ps)
      (λ is. pairs_residual ps (behind (is_known (meaning_of c.1)) (have_known ps) h is))

  module _ (node : BareExpr) (ps : List (RcStr Global × Simplified X o e p)) where
    record_known : have_known ps ≡ true
        → meant.Known (RecordValue (pairs_of (meant_pairs bare_value (filter_map held_pair ps))))
        ≡ meant.known_or node (record_outcome (outcomes_by_key ps))
    record_known h =
        sym (ap (λ r. meant.known_or node (on_one (λ qs. RecordValue (pairs_of qs)) r))
        (pairs_known ps h))

    pub record_residual : have_known ps ≡ false
        → meant.Residual node ≡ meant.known_or node (record_outcome (outcomes_by_key ps))
    record_residual h =
        sym (ap (λ r. meant.known_or node (on_one (λ qs. RecordValue (pairs_of qs)) r))
        (pairs_residual ps h))

  -- no key is left out
  known_keys : (ps : List (RcStr Global × Simplified X o e p)) → have_known ps ≡ true
      → keys_of (filter_map held_pair ps) ≡ keys_of ps
  known_keys [] h = refl
  known_keys (c ∷ ps) h =
      key_known c.0 c.1.kind (filter_map held_pair ps)
      (and_parts (is_known (meaning_of c.1)) (have_known ps) h).0
      ∙ ap (λ ks. rc_str_bytes c.0 ∷ ks)
      (known_keys ps (and_parts (is_known (meaning_of c.1)) (have_known ps) h).1)

  -- the record that is made of values, each of which is known
  pub known_record : (node : BareExpr) (ps : List (RcStr Global × Simplified X o e p))
      (t : BareValue X) (vs : List (RcStr Global × Value X)) → have_known ps ≡ true
      → (IsAscending (keys_of vs) → t ≡ RecordValue (pairs_of (meant_pairs bare_value vs)))
      → vs ≡ filter_map held_pair ps → IsAscending (keys_of ps)
      → meant.Known t ≡ meant.known_or node (record_outcome (outcomes_by_key ps))
  known_record node ps t vs h is all ascends =
      ap meant.Known (is (subst IsAscending (sym (ap keys_of all ∙ known_keys ps h)) ascends))
      ∙ ap (λ us. meant.Known (RecordValue (pairs_of (meant_pairs bare_value us)))) all
      ∙ record_known node ps h

  -- the values are well formed, since each child keeps its own so
  module _ (R : X → X → Ordering)
      (kept : (c : Simplified X o e p) → IsTrue (is_kept R c.kind)) where
    pub values_kept : (ps : List (Simplified X o e p))
        → list_all (well_formed R) (filter_map held_value ps) ≡ true
    values_kept [] = refl
    values_kept (c ∷ ps) =
        value_kept R c.kind (filter_map held_value ps) (kept c) (values_kept ps)

    pub pairs_kept : (ps : List (RcStr Global × Simplified X o e p))
        → list_all (λ v. well_formed R v.1) (filter_map held_pair ps) ≡ true
    pairs_kept [] = refl
    pairs_kept (c ∷ ps) =
        pair_kept R c.0 c.1.kind (filter_map held_pair ps) (kept c.1) (pairs_kept ps)
