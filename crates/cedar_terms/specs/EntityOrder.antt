-- Entities compare by type, then by the bytes of their identifiers.
use Rattle.std.specs.Prelude.{◌≡◌, Bool, true, ◌++◌, nat_eq}
use Rattle.std.specs.Bool.{Decides}
use Rattle.std.specs.Cmp.{IsEquivalence, IsTotalOrder, IsPartialOrder, decided, then_total, on_total, po, both_tied}
use Rattle.std.specs.Cmp.Lexicographic.{pointwise, slice_cmp, nat_list_cmp_total, texts_ties, bytes_decides}
use Rattle.std.specs.Hash as fed
use Rattle.std.specs.Hash.{HashWrites}
use Rattle.std.specs.declared.cmp.Ordering.{Ordering}
use Rattle.std.specs.Ordering.{nat_cmp, on, then_cmp, eq_of_both, as_partial_cmp, eq_by_cmp}
use Rattle.std.proofs.Common.{ap}
use Rattle.std.proofs.lemmas.Bool.Decides.{Decides-and, Decides-like}
use Rattle.cedar_names.specs.NameOrder.{name_eq, name_cmp, name_fed, name_cmp_total, name_ties, name_eq_decides}
use Rattle.cedar_terms.specs.Entities.{BareEntityUID}

-- whether entities are equal
abbrev pub entity_uid_eq : BareEntityUID → BareEntityUID → Bool
entity_uid_eq = eq_of_both (on (λ u. u.entity_type) name_eq) (on (λ u. u.eid) (pointwise nat_eq))

-- the order of entities
abbrev pub entity_uid_cmp : BareEntityUID → BareEntityUID → Ordering
entity_uid_cmp = then_cmp (on (λ u. u.entity_type) name_cmp) (on (λ u. u.eid) (slice_cmp nat_cmp))

-- what an entity feeds a hasher
abbrev pub entity_uid_fed : BareEntityUID → HashWrites
entity_uid_fed u = name_fed u.entity_type ++ fed.str u.eid

-- ---- it is a total order, and what is equal is the same

same_parts : (u v : BareEntityUID) → u.entity_type ≡ v.entity_type → u.eid ≡ v.eid → u ≡ v
same_parts u v h k = λ i. record { entity_type = h i; eid = k i }

pub entity_uid_eq_decides : (u v : BareEntityUID) → Decides (entity_uid_eq u v) (u ≡ v)
entity_uid_eq_decides u v = Decides-like (entity_uid_eq u v)
    (λ h. same_parts u v h.0 h.1)
    (λ e. (ap (λ x. x.entity_type) e, ap (λ x. x.eid) e))
    (Decides-and (name_eq u.entity_type v.entity_type) (pointwise nat_eq u.eid v.eid) (name_eq_decides u.entity_type v.entity_type) (bytes_decides u.eid v.eid))

pub entity_uid_eq_equiv : IsEquivalence entity_uid_eq
entity_uid_eq_equiv = decided entity_uid_eq entity_uid_eq_decides

pub entity_uid_cmp_total : IsTotalOrder entity_uid_cmp
entity_uid_cmp_total = then_total (on_total (λ u. u.entity_type) name_cmp_total) (on_total (λ u. u.eid) nat_list_cmp_total)

pub entity_uid_ties : (u v : BareEntityUID) → entity_uid_eq u v ≡ eq_by_cmp entity_uid_cmp u v
entity_uid_ties u v = both_tied _ _ (name_cmp u.entity_type v.entity_type) (slice_cmp nat_cmp u.eid v.eid) (name_ties u.entity_type v.entity_type) (texts_ties u.eid v.eid)

pub entity_uid_po : IsPartialOrder entity_uid_eq (as_partial_cmp entity_uid_cmp)
entity_uid_po = po entity_uid_cmp_total entity_uid_ties

pub entity_uid_fed-alike : (u v : BareEntityUID) → entity_uid_eq u v ≡ true → entity_uid_fed u ≡ entity_uid_fed v
entity_uid_fed-alike u v h = ap entity_uid_fed ((entity_uid_eq_decides u v).0 h)
