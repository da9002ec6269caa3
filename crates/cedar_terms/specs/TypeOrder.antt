-- Types compare by kind, in the order Bool, Long, String, Set, Record, Entity, Extension, then by
-- the name within.
use Rattle.std.specs.Prelude.{◌≡◌, ℕ, Bool, true, [], ◌++◌, nat_eq, Option, Some, None, refl}
use Rattle.std.specs.Bool.{Decides}
use Rattle.std.specs.Cmp.{IsEquivalence, IsTotalOrder, IsPartialOrder, decided, then_total, on_total, po, both_tied, nat_cmp_total, unsigned_ties, unsigned_Decides}
use Rattle.std.specs.Cmp.Lexicographic.{options_total}
use Rattle.std.specs.Hash as fed
use Rattle.std.specs.Hash.{HashWrites}
use Rattle.std.specs.Option.{option_eq, option_cmp, option_map_or}
use Rattle.std.specs.declared.cmp.Ordering.{Ordering}
use Rattle.std.specs.Ordering.{nat_cmp, on, then_cmp, eq_of_both, as_partial_cmp, eq_by_cmp}
use Rattle.std.proofs.Common.{ap, arith}
use Rattle.std.proofs.lemmas.Bool.{false≢true}
use Rattle.std.proofs.lemmas.Bool.Decides.{Decides-and, Decides-like}
use Rattle.cedar_names.specs.Names.{BareName}
use Rattle.cedar_names.specs.NameOrder.{name_eq, name_cmp, name_fed, name_cmp_total, name_ties, name_eq_decides}
use Rattle.cedar_terms.specs.Types.{BareType, BoolType, LongType, StringType, SetType, RecordType, EntityOfType, ExtensionType}

-- the kinds in their order
abbrev pub type_number : BareType → ℕ
type_number BoolType = 0
type_number LongType = 1
type_number StringType = 2
type_number SetType = 3
type_number RecordType = 4
type_number (EntityOfType n) = 5
type_number (ExtensionType n) = 6

-- the name within
abbrev pub type_name : BareType → Option BareName
type_name (EntityOfType n) = Some n
type_name (ExtensionType n) = Some n
type_name other = None

abbrev pub type_eq : BareType → BareType → Bool
type_eq = eq_of_both (on type_number nat_eq) (on type_name (option_eq name_eq))

abbrev pub type_cmp : BareType → BareType → Ordering
type_cmp = then_cmp (on type_number nat_cmp) (on type_name (option_cmp name_cmp))

abbrev pub type_fed : BareType → HashWrites
type_fed t = fed.u8 (type_number t) ++ option_map_or name_fed (type_name t) []

-- ---- it is a total order, and what is equal is the same

same_type : (s t : BareType) → type_number s ≡ type_number t → type_name s ≡ type_name t → s ≡ t
same_type BoolType BoolType e f = refl
same_type LongType LongType e f = refl
same_type StringType StringType e f = refl
same_type SetType SetType e f = refl
same_type RecordType RecordType e f = refl
same_type (EntityOfType m) (EntityOfType n) e f = cc
same_type (ExtensionType m) (ExtensionType n) e f = cc
same_type s t e f = absurd (omega arith)

pub options_decide : {A : Type 0} {f : A → A → Bool} → ((a b : A) → Decides (f a b) (a ≡ b))
    → (m n : Option A) → Decides (option_eq f m n) (m ≡ n)
options_decide each None None = (λ _. refl, λ _. refl)
options_decide each None (Some b) = (λ h. absurd (false≢true h), λ e. cc)
options_decide each (Some a) None = (λ h. absurd (false≢true h), λ e. cc)
options_decide {f = f} each (Some a) (Some b) =
    Decides-like (f a b) (λ e. ap Some e) (λ e. cc) (each a b)

names_tie : (m n : Option BareName) → option_eq name_eq m n ≡ eq_by_cmp (option_cmp name_cmp) m n
names_tie None None = refl
names_tie None (Some n) = refl
names_tie (Some m) None = refl
names_tie (Some m) (Some n) = name_ties m n

pub type_eq_decides : (s t : BareType) → Decides (type_eq s t) (s ≡ t)
type_eq_decides s t = Decides-like (type_eq s t)
    (λ h. same_type s t h.0 h.1)
    (λ e. (ap type_number e, ap type_name e))
    (Decides-and (nat_eq (type_number s) (type_number t)) (option_eq name_eq (type_name s) (type_name t)) (unsigned_Decides (type_number s) (type_number t)) (options_decide name_eq_decides (type_name s) (type_name t)))

pub type_eq_equiv : IsEquivalence type_eq
type_eq_equiv = decided type_eq type_eq_decides

pub type_cmp_total : IsTotalOrder type_cmp
type_cmp_total = then_total (on_total type_number nat_cmp_total) (on_total type_name (options_total name_cmp_total))

pub type_ties : (s t : BareType) → type_eq s t ≡ eq_by_cmp type_cmp s t
type_ties s t = both_tied _ _ (nat_cmp (type_number s) (type_number t)) (option_cmp name_cmp (type_name s) (type_name t)) (unsigned_ties (type_number s) (type_number t)) (names_tie (type_name s) (type_name t))

pub type_po : IsPartialOrder type_eq (as_partial_cmp type_cmp)
type_po = po type_cmp_total type_ties

pub type_fed-alike : (s t : BareType) → type_eq s t ≡ true → type_fed s ≡ type_fed t
type_fed-alike s t h = ap type_fed ((type_eq_decides s t).0 h)
