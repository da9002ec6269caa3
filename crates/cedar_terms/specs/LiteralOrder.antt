-- Literals compare by kind, in the order Bool, Long, String, EntityUID, and within a kind by what
-- they hold.
use Rattle.std.specs.Prelude.{◌≡◌, ℕ, Bool, true, false, ◌++◌, nat_eq, refl}
use Rattle.std.specs.Bool.{Decides}
use Rattle.std.specs.Cmp.{IsEquivalence, IsTotalOrder, IsPartialOrder, decided, po, bool_cmp_total, int_cmp_total, booleans_Decides, signed_Decides, nat_cmp_is, ranked}
use Rattle.std.specs.Cmp.Lexicographic.{pointwise, slice_cmp, nat_list_cmp_total, texts_ties, bytes_decides}
use Rattle.std.specs.Hash as fed
use Rattle.std.specs.Hash.{HashWrites}
use Rattle.std.specs.declared.cmp.Ordering.{Ordering}
use Rattle.std.specs.declared.cmp.Ordering.TheVariants.{Less, Equal}
use Rattle.std.specs.Ordering.{nat_cmp, int_cmp, int_eq, bool_cmp, as_partial_cmp, eq_by_cmp, ordering_reverse}
use Rattle.std.proofs.Common.{ap, sym, arith, ◌≤◌, ◌<◌}
use Rattle.std.proofs.lemmas.Bool.{false≢true}
use Rattle.std.proofs.lemmas.Bool.Decides.{Decides-like}
use mathlib.Core.Bool.{beq}
use Rattle.cedar_terms.specs.Literals.{BareLiteral, BoolLit, LongLit, StringLit, EntityLit}
use Rattle.cedar_terms.specs.EntityOrder.{entity_uid_eq, entity_uid_cmp, entity_uid_fed, entity_uid_eq_decides, entity_uid_cmp_total, entity_uid_ties}

-- the kinds in their order
abbrev pub literal_number : BareLiteral → ℕ
literal_number (BoolLit b) = 0
literal_number (LongLit n) = 1
literal_number (StringLit s) = 2
literal_number (EntityLit u) = 3

abbrev pub literal_eq : BareLiteral → BareLiteral → Bool
literal_eq (BoolLit b) (BoolLit c) = beq b c
literal_eq (LongLit m) (LongLit n) = int_eq m n
literal_eq (StringLit s) (StringLit t) = pointwise nat_eq s t
literal_eq (EntityLit u) (EntityLit v) = entity_uid_eq u v
literal_eq x y = false

abbrev pub literal_cmp : BareLiteral → BareLiteral → Ordering
literal_cmp (BoolLit b) (BoolLit c) = bool_cmp b c
literal_cmp (LongLit m) (LongLit n) = int_cmp m n
literal_cmp (StringLit s) (StringLit t) = slice_cmp nat_cmp s t
literal_cmp (EntityLit u) (EntityLit v) = entity_uid_cmp u v
literal_cmp x y = nat_cmp (literal_number x) (literal_number y)

-- what a literal feeds a hasher
abbrev pub literal_fed : BareLiteral → HashWrites
literal_fed (BoolLit b) = fed.u8 0 ++ fed.bool b
literal_fed (LongLit n) = fed.u8 1 ++ fed.i64 n
literal_fed (StringLit s) = fed.u8 2 ++ fed.str s
literal_fed (EntityLit u) = fed.u8 3 ++ entity_uid_fed u

-- ---- it is a total order, and what is equal is the same

pub literal_eq_decides : (x y : BareLiteral) → Decides (literal_eq x y) (x ≡ y)
literal_eq_decides (BoolLit b) (BoolLit c) = Decides-like (beq b c) (λ e. ap BoolLit e) (λ e. cc) (booleans_Decides b c)
literal_eq_decides (LongLit m) (LongLit n) = Decides-like (int_eq m n) (λ e. ap LongLit e) (λ e. cc) (signed_Decides m n)
literal_eq_decides (StringLit s) (StringLit t) = Decides-like (pointwise nat_eq s t) (λ e. ap StringLit e) (λ e. cc) (bytes_decides s t)
literal_eq_decides (EntityLit u) (EntityLit v) = Decides-like (entity_uid_eq u v) (λ e. ap EntityLit e) (λ e. cc) (entity_uid_eq_decides u v)
literal_eq_decides x y = (λ h. absurd (false≢true h), λ e. cc)

pub literal_eq_equiv : IsEquivalence literal_eq
literal_eq_equiv = decided literal_eq literal_eq_decides

antisymm : (x y : BareLiteral) → literal_cmp x y ≡ ordering_reverse (literal_cmp y x)
antisymm (BoolLit b) (BoolLit c) = bool_cmp_total.antisymm b c
antisymm (LongLit m) (LongLit n) = int_cmp_total.antisymm m n
antisymm (StringLit s) (StringLit t) = nat_list_cmp_total.antisymm s t
antisymm (EntityLit u) (EntityLit v) = entity_uid_cmp_total.antisymm u v
antisymm x y = refl

-- a literal that stands before another has no later kind
kinds_up : (x y : BareLiteral) → literal_cmp x y ≡ Less → literal_number x ≤ literal_number y
kinds_up (BoolLit b) (BoolLit c) h = omega arith
kinds_up (LongLit m) (LongLit n) h = omega arith
kinds_up (StringLit s) (StringLit t) h = omega arith
kinds_up (EntityLit u) (EntityLit v) h = omega arith
kinds_up x y h = let l : literal_number x < literal_number y = (let r = ranked (literal_number x) (literal_number y) Less (sym h) in r) in omega arith

less_by_kind : (x y : BareLiteral) → literal_number x < literal_number y → literal_cmp x y ≡ Less
less_by_kind (BoolLit b) (BoolLit c) h = absurd (omega arith)
less_by_kind (LongLit m) (LongLit n) h = absurd (omega arith)
less_by_kind (StringLit s) (StringLit t) h = absurd (omega arith)
less_by_kind (EntityLit u) (EntityLit v) h = absurd (omega arith)
less_by_kind x y h = sym (nat_cmp_is (literal_number x) (literal_number y) Less h)

trans : (x y z : BareLiteral) → literal_cmp x y ≡ Less → literal_cmp y z ≡ Less → literal_cmp x z ≡ Less
trans (BoolLit b) (BoolLit c) (BoolLit d) h k = bool_cmp_total.trans b c d h k
trans (LongLit m) (LongLit n) (LongLit o) h k = int_cmp_total.trans m n o h k
trans (StringLit s) (StringLit t) (StringLit u) h k = nat_list_cmp_total.trans s t u h k
trans (EntityLit u) (EntityLit v) (EntityLit w) h k = entity_uid_cmp_total.trans u v w h k
trans x y z h k = less_by_kind x z (omega (arith, kinds_up x y h, kinds_up y z k))

congr : (x y z : BareLiteral) → literal_cmp x y ≡ Equal → literal_cmp x z ≡ literal_cmp y z
congr (BoolLit b) (BoolLit c) (BoolLit d) h = bool_cmp_total.congr b c d h
congr (LongLit m) (LongLit n) (LongLit o) h = int_cmp_total.congr m n o h
congr (StringLit s) (StringLit t) (StringLit u) h = nat_list_cmp_total.congr s t u h
congr (EntityLit u) (EntityLit v) (EntityLit w) h = entity_uid_cmp_total.congr u v w h
congr x y z h = cc

pub literal_cmp_total : IsTotalOrder literal_cmp
literal_cmp_total = record { antisymm = antisymm; trans = trans; congr = congr }

bool_ties : (b c : Bool) → beq b c ≡ eq_by_cmp bool_cmp b c
bool_ties true true = refl
bool_ties true false = refl
bool_ties false true = refl
bool_ties false false = refl

pub literal_ties : (x y : BareLiteral) → literal_eq x y ≡ eq_by_cmp literal_cmp x y
literal_ties (BoolLit b) (BoolLit c) = bool_ties b c
literal_ties (LongLit m) (LongLit n) = refl
literal_ties (StringLit s) (StringLit t) = texts_ties s t
literal_ties (EntityLit u) (EntityLit v) = entity_uid_ties u v
literal_ties x y = refl

pub literal_po : IsPartialOrder literal_eq (as_partial_cmp literal_cmp)
literal_po = po literal_cmp_total literal_ties

pub literal_fed-alike : (x y : BareLiteral) → literal_eq x y ≡ true → literal_fed x ≡ literal_fed y
literal_fed-alike x y h = ap literal_fed ((literal_eq_decides x y).0 h)
