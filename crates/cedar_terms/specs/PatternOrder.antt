-- How patterns compare: element by element, where characters order by code and a wildcard stands
-- behind each of them.
use Rattle.std.specs.Prelude.{◌≡◌, Bool, true, false, List, ◌++◌, pos, nat_eq, refl}
use Rattle.std.specs.Bool.{Decides}
use Rattle.std.specs.declared.cmp.Ordering.{Ordering}
use Rattle.std.specs.declared.cmp.Ordering.TheVariants.{Less, Equal, Greater}
use Rattle.std.specs.Ordering.{nat_cmp, as_partial_cmp, eq_by_cmp, ordering_reverse}
use Rattle.std.specs.Cmp.{IsEquivalence, IsTotalOrder, IsPartialOrder, decided, po, nat_cmp_total, unsigned_ties, unsigned_Decides}
use Rattle.std.specs.Cmp.Lexicographic.{pointwise, slice_cmp, lists_total, lists_ties, pointwise_decides}
use Rattle.std.specs.Hash as fed
use Rattle.std.specs.Hash.{HashWrites}
use Rattle.std.proofs.Common.{ap}
use Rattle.std.proofs.lemmas.Bool.{false≢true}
use Rattle.std.proofs.lemmas.Bool.Decides.{Decides-like}
use Rattle.cedar_terms.specs.declared.pattern.PatternElem.{PatternElem}
use Rattle.cedar_terms.specs.declared.pattern.PatternElem.TheVariants.{Char, Wildcard}

abbrev pub elem_eq : PatternElem → PatternElem → Bool
elem_eq (Char c) (Char d) = nat_eq c d
elem_eq (Char c) Wildcard = false
elem_eq Wildcard (Char d) = false
elem_eq Wildcard Wildcard = true

-- the order of elements: characters by code, and then the wildcard
abbrev pub elem_cmp : PatternElem → PatternElem → Ordering
elem_cmp (Char c) (Char d) = nat_cmp c d
elem_cmp (Char c) Wildcard = Less
elem_cmp Wildcard (Char d) = Greater
elem_cmp Wildcard Wildcard = Equal

abbrev pub elem_fed : PatternElem → HashWrites
elem_fed (Char c) = fed.isize (pos 0) ++ fed.char c
elem_fed Wildcard = fed.isize (pos 1)

-- patterns compare as lists: a beginning stands before what it begins
abbrev pub pattern_eq : List PatternElem → List PatternElem → Bool
pattern_eq = pointwise elem_eq

abbrev pub pattern_cmp : List PatternElem → List PatternElem → Ordering
pattern_cmp = slice_cmp elem_cmp

abbrev pub pattern_fed : List PatternElem → HashWrites
pattern_fed p = fed.slice elem_fed p

pub elem_eq_decides : (a b : PatternElem) → Decides (elem_eq a b) (a ≡ b)
elem_eq_decides (Char c) (Char d) = Decides-like (nat_eq c d) (λ e. ap Char e) (λ e. cc) (unsigned_Decides c d)
elem_eq_decides (Char c) Wildcard = (λ h. absurd (false≢true h), λ e. cc)
elem_eq_decides Wildcard (Char d) = (λ h. absurd (false≢true h), λ e. cc)
elem_eq_decides Wildcard Wildcard = (λ _. refl, λ _. refl)

elem_cmp-antisymm : (a b : PatternElem) → elem_cmp a b ≡ ordering_reverse (elem_cmp b a)
elem_cmp-antisymm (Char c) (Char d) = nat_cmp_total.antisymm c d
elem_cmp-antisymm (Char c) Wildcard = refl
elem_cmp-antisymm Wildcard (Char d) = refl
elem_cmp-antisymm Wildcard Wildcard = refl

elem_cmp-trans : (a b c : PatternElem) → elem_cmp a b ≡ Less → elem_cmp b c ≡ Less → elem_cmp a c ≡ Less
elem_cmp-trans (Char a) (Char b) (Char c) h k = nat_cmp_total.trans a b c h k
elem_cmp-trans (Char a) (Char b) Wildcard h k = refl
elem_cmp-trans (Char a) Wildcard (Char c) h k = cc
elem_cmp-trans (Char a) Wildcard Wildcard h k = cc
elem_cmp-trans Wildcard (Char b) c h k = cc
elem_cmp-trans Wildcard Wildcard c h k = cc

elem_cmp-congr : (a b c : PatternElem) → elem_cmp a b ≡ Equal → elem_cmp a c ≡ elem_cmp b c
elem_cmp-congr (Char a) (Char b) (Char c) h = nat_cmp_total.congr a b c h
elem_cmp-congr (Char a) (Char b) Wildcard h = refl
elem_cmp-congr (Char a) Wildcard c h = cc
elem_cmp-congr Wildcard (Char b) c h = cc
elem_cmp-congr Wildcard Wildcard c h = refl

pub elem_cmp_total : IsTotalOrder elem_cmp
elem_cmp_total = record { antisymm = elem_cmp-antisymm; trans = elem_cmp-trans; congr = elem_cmp-congr }

elem_ties : (a b : PatternElem) → elem_eq a b ≡ eq_by_cmp elem_cmp a b
elem_ties (Char c) (Char d) = unsigned_ties c d
elem_ties (Char c) Wildcard = refl
elem_ties Wildcard (Char d) = refl
elem_ties Wildcard Wildcard = refl

pub pattern_eq_decides : (p q : List PatternElem) → Decides (pattern_eq p q) (p ≡ q)
pattern_eq_decides = pointwise_decides elem_eq_decides

pub pattern_eq_equiv : IsEquivalence pattern_eq
pattern_eq_equiv = decided pattern_eq pattern_eq_decides

pub pattern_cmp_total : IsTotalOrder pattern_cmp
pattern_cmp_total = lists_total elem_cmp_total

pub pattern_ties : (p q : List PatternElem) → pattern_eq p q ≡ eq_by_cmp pattern_cmp p q
pattern_ties p q = lists_ties elem_cmp elem_ties p q

pub pattern_po : IsPartialOrder pattern_eq (as_partial_cmp pattern_cmp)
pattern_po = po pattern_cmp_total pattern_ties

pub pattern_fed-alike : (p q : List PatternElem) → pattern_eq p q ≡ true → pattern_fed p ≡ pattern_fed q
pattern_fed-alike p q h = ap pattern_fed ((pattern_eq_decides p q).0 h)
