-- Entities that are put into a set, one by one.
use Rattle.std.proofs.Common.{◌≡◌, Bool, true, false, ◌||◌, cond, List, [], ◌∷◌, ◌++◌, map, refl, sym, ap, ◌∙◌, append-nil, Global, BTreeMap}
use Rattle.std.proofs.Math.Bool.{or-false, or_assoc, or_comm}
use Rattle.std.proofs.lemmas.Grind.{flat_map-append}
use Rattle.std.specs.List.{flat_map}
use Rattle.std.specs.declared.rc.Rc.{Rc}
use Rattle.std.specs.declared.rc.RcStr.{RcStr}
use Rattle.cedar_terms.specs.Entities.{BareEntityUID, bare_entity_uid}
use Rattle.cedar_terms.specs.EntityOrder.{entity_uid_eq, entity_uid_eq_equiv}
use Rattle.cedar_terms.specs.declared.entity.EntityUID.{EntityUID}
use Rattle.cedar_exprs.specs.Walks.{referents}
use Rattle.semantics_values.specs.BareValue.{RecordValue, values_of}
use Rattle.cedar_values.specs.BareValues.{bare_value, bare_value_kind, kind_of}
use Rattle.cedar_values.specs.Conversions.{bare_pairs}
use Rattle.cedar_values.specs.LiteralUids.{Gains, HasJust, UidSet, has_uid, is_uid_of, literal_uids, members_uids, pairs_uids}
use Rattle.cedar_values.specs.Sets.{members}
use Rattle.cedar_values.specs.declared.set.Set as set_of
use Rattle.cedar_values.specs.declared.value.Value.{Value}
use Rattle.cedar_values.specs.declared.value.ValueKind.{ValueKind}
use Rattle.cedar_values.specs.declared.value.ValueKind.TheVariants as ValueOf
use Rattle.cedar_values.proofs.Levels.{record_tree, set_tree, value_tree}
use Rattle.cedar_values.proofs.WaitingValues.{referents_are}
use denote.Ref.{Bor}

any_append : (us vs : List BareEntityUID) (u : EntityUID) → is_uid_of (us ++ vs) u ≡ (is_uid_of us u || is_uid_of vs u)
any_append [] vs u = refl
any_append (x ∷ us) vs u = ap (λ b. entity_uid_eq (bare_entity_uid u) x || b) (any_append us vs u) ∙ sym (or_assoc (entity_uid_eq (bare_entity_uid u) x) (is_uid_of us u) (is_uid_of vs u))

swapped : (a b had : Bool) → a ≡ b → cond a true had ≡ (had || (b || false))
swapped true b true h = refl
swapped true b false h = h ∙ sym (or-false b)
swapped false b true h = refl
swapped false b false h = h ∙ sym (or-false b)

-- one entity more
pub one_more : (s n : UidSet) (x : EntityUID) → ((u : EntityUID) → has_uid n u ≡ cond (entity_uid_eq (bare_entity_uid x) (bare_entity_uid u)) true (has_uid s u)) → Gains (bare_entity_uid x ∷ []) s n
one_more s n x h u = h u ∙ swapped (entity_uid_eq (bare_entity_uid x) (bare_entity_uid u)) _ (has_uid s u) (entity_uid_eq_equiv.symm (bare_entity_uid x) (bare_entity_uid u))

-- what is still to be put in
abbrev pub Owes : List BareEntityUID → List BareEntityUID → UidSet → Type 0
Owes whole left now = (u : EntityUID) → (has_uid now u || is_uid_of left u) ≡ is_uid_of whole u

pub put_in : (whole left us : List BareEntityUID) (now new : UidSet) → Owes whole (left ++ us) now → Gains us now new → Owes whole left new
put_in whole left us now new h g u =
    ap (λ b. b || is_uid_of left u) (g u) ∙ or_assoc (has_uid now u) (is_uid_of us u) (is_uid_of left u)
    ∙ ap (λ b. has_uid now u || b) (or_comm (is_uid_of us u) (is_uid_of left u) ∙ sym (any_append left us u)) ∙ h u

pub nothing_owed : (whole : List BareEntityUID) (now : UidSet) → Owes whole [] now → HasJust whole now
nothing_owed whole now h u = sym (or-false (has_uid now u)) ∙ h u

module _ {X : Type 0} where
  abbrev pub kind_uids : ValueKind X → List BareEntityUID
  kind_uids k = literal_uids (bare_value_kind k)

  abbrev pub uids_in : List (Bor (ValueKind X)) → List BareEntityUID
  uids_in ks = flat_map kind_uids (referents ks)

  -- the last is taken off
  module _ (all ks : List (Bor (ValueKind X))) (k : Bor (ValueKind X)) (is : all ≡ ks ++ k ∷ []) where
    pub uids_taken : uids_in all ≡ uids_in ks ++ kind_uids k.now
    uids_taken = ap (flat_map kind_uids) (referents_are all ks k is) ∙ flat_map-append kind_uids (referents ks) (k.now ∷ []) ∙ ap (λ us. uids_in ks ++ us) (append-nil (kind_uids k.now))

    -- and these are put behind the others
    module _ (new : List (Bor (ValueKind X))) (more : List (ValueKind X)) (put : referents new ≡ referents ks ++ more) where
      pub uids_put : kind_uids k.now ≡ flat_map kind_uids more → uids_in all ≡ uids_in new
      uids_put h = uids_taken ∙ ap (λ us. uids_in ks ++ us) h ∙ sym (ap (flat_map kind_uids) put ∙ flat_map-append kind_uids (referents ks) more)

  members_are : (vs : List (Value X)) → members_uids (values_of (map bare_value vs)) ≡ flat_map kind_uids (map kind_of vs)
  members_are [] = refl
  members_are (v ∷ vs) = λ i. literal_uids (value_tree v i) ++ members_are vs i

  pairs_are : (es : List (RcStr Global × Value X)) → pairs_uids (bare_pairs es) ≡ flat_map kind_uids (map (λ e. kind_of e.1) es)
  pairs_are [] = refl
  pairs_are (e ∷ es) = λ i. literal_uids (value_tree e.1 i) ++ pairs_are es i

  module _ (k : ValueKind X) (s : set_of.Set X) (is : k ≡ ValueOf.Set s) where
    pub set_uids : kind_uids k ≡ flat_map kind_uids (map kind_of (members s))
    set_uids = ap kind_uids is ∙ ap literal_uids (set_tree s) ∙ members_are (members s)

  module _ (k : ValueKind X) (m : Rc (BTreeMap (RcStr Global) (Value X)) Global) (is : k ≡ ValueOf.Record m) (es : List (RcStr Global × Value X)) (all : es ≡ m.value.entries) where
    pub record_uids : kind_uids k ≡ flat_map kind_uids (map (λ e. kind_of e.1) es)
    record_uids = ap kind_uids is ∙ ap literal_uids (record_tree m) ∙ ap (λ es. literal_uids (RecordValue (bare_pairs es))) (sym all) ∙ pairs_are es
