-- Names compare by basename first, then by the path as a list, each by the bytes of its text (the
-- derives in Cedar's file `name.rs`).
use Rattle.std.specs.Prelude.{◌≡◌, Bool, true, nat_eq}
use Rattle.std.specs.Ordering.{nat_cmp, on, then_cmp, eq_of_both, as_partial_cmp, eq_by_cmp}
use Rattle.std.specs.Cmp.{IsEquivalence, IsTotalOrder, IsPartialOrder, and_equiv, on_equiv, then_total, on_total, po, both_tied}
use Rattle.std.specs.Cmp.Lexicographic.{pointwise, slice_cmp, nat_list_eq_equiv, nat_list_cmp_total, lists_equiv, lists_total, lists_ties, texts_ties, pointwise_decides, bytes_decides}
use Rattle.std.specs.declared.cmp.Ordering.{Ordering}
use Rattle.std.specs.Bool.{Decides}
use Rattle.std.specs.Hash as fed
use Rattle.std.specs.Hash.{HashWrites}
use Rattle.std.proofs.Common.{ap, ◌++◌}
use Rattle.std.proofs.lemmas.Bool.Decides.{Decides-and, Decides-like}
use Rattle.cedar_names.specs.Names.{BareName}

-- the basenames are equal, and the paths item by item
abbrev pub name_eq : BareName → BareName → Bool
name_eq = eq_of_both
    (on (λ n. n.basename) (pointwise nat_eq))
    (on (λ n. n.path) (pointwise (pointwise nat_eq)))

-- by basename, then by the path as a list
abbrev pub name_cmp : BareName → BareName → Ordering
name_cmp = then_cmp
    (on (λ n. n.basename) (slice_cmp nat_cmp))
    (on (λ n. n.path) (slice_cmp (slice_cmp nat_cmp)))

-- what a name's hash feeds: its basename, then its path as a slice
abbrev pub name_fed : BareName → HashWrites
name_fed n = fed.str n.basename ++ fed.slice fed.str n.path

-- equality is an equivalence
pub name_eq_equiv : IsEquivalence name_eq
name_eq_equiv = and_equiv
    (on_equiv (λ n. n.basename) nat_list_eq_equiv)
    (on_equiv (λ n. n.path) (lists_equiv nat_list_eq_equiv))

-- the order is total
pub name_cmp_total : IsTotalOrder name_cmp
name_cmp_total = then_total
    (on_total (λ n. n.basename) nat_list_cmp_total)
    (on_total (λ n. n.path) (lists_total nat_list_cmp_total))

-- equality holds exactly where the order ties
pub name_ties : (m n : BareName) → name_eq m n ≡ eq_by_cmp name_cmp m n
name_ties m n =
    both_tied _ _ (slice_cmp nat_cmp m.basename n.basename)
    (slice_cmp (slice_cmp nat_cmp) m.path n.path)
    (texts_ties m.basename n.basename)
    (lists_ties (slice_cmp nat_cmp) texts_ties m.path n.path)

-- the order, as a partial order of that equality
pub name_po : IsPartialOrder name_eq (as_partial_cmp name_cmp)
name_po = po name_cmp_total name_ties

same_parts : (m n : BareName) → m.basename ≡ n.basename → m.path ≡ n.path → m ≡ n
same_parts m n h k = λ i. record { path = k i; basename = h i }

-- names are equal exactly where they are the same
pub name_eq_decides : (m n : BareName) → Decides (name_eq m n) (m ≡ n)
name_eq_decides m n = Decides-like (name_eq m n)
    (λ h. same_parts m n h.0 h.1)
    (λ e. (ap (λ x. x.basename) e, ap (λ x. x.path) e))
    (Decides-and _ _
    (bytes_decides m.basename n.basename)
    (pointwise_decides bytes_decides m.path n.path))

-- equal names feed the same
pub name_fed-alike : (m n : BareName) → name_eq m n ≡ true → name_fed m ≡ name_fed n
name_fed-alike m n h = ap name_fed ((name_eq_decides m n).0 h)
