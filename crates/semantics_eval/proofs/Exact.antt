-- Values without extension values are one where they tie, so the strictly ascending list of their
-- classes is one.
use Rattle.std.proofs.Common.{◌≡◌, refl, ◌∙◌, ap, false}
use Rattle.std.proofs.lemmas.Bool.{true≢false}
use Rattle.std.specs.Cmp.Lexicographic.{slice_cmp, texts_ties, bytes_decides}
use Rattle.std.specs.Ordering.{nat_cmp, is_eq, ordering_then}
use Rattle.std.specs.declared.cmp.Ordering.{Ordering}
use Rattle.std.specs.declared.cmp.Ordering.TheVariants.{Less, Equal, Greater}
use Rattle.cedar_terms.specs.Literals.{BareLiteral}
use Rattle.cedar_terms.specs.LiteralOrder.{literal_cmp, literal_ties, literal_eq_decides}
use Rattle.cedar_builders.specs.BareExpr.{Text}
use Rattle.semantics_values.specs.BareValue.{BareValue, LitValue, SetValue, RecordValue, ExtensionValue, BareValues, no_values, value, BarePairs, no_pairs, pair}
use Rattle.semantics_values.specs.ValueOrder.{value_cmp, values_cmp, pairs_cmp}
use Rattle.semantics_values.specs.ValueExpr.{has_extension, any_has_extension, any_pair_has_extension}
use Rattle.semantics_eval.proofs.Kept.{or_left, or_right}

first_tie : (a b : Ordering) → ordering_then a b ≡ Equal → a ≡ Equal
first_tie Less b h = h
first_tie Equal b h = refl
first_tie Greater b h = h

then_tie : (a b : Ordering) → ordering_then a b ≡ Equal → b ≡ Equal
then_tie Less b h = cc
then_tie Equal b h = h
then_tie Greater b h = cc

literals_exact : (a b : BareLiteral) → literal_cmp a b ≡ Equal → a ≡ b
literals_exact a b h = (literal_eq_decides a b).0 (literal_ties a b ∙ ap is_eq h)

texts_exact : (k l : Text) → slice_cmp nat_cmp k l ≡ Equal → k ≡ l
texts_exact k l h = (bytes_decides k l).0 (texts_ties k l ∙ ap is_eq h)

module _ {X : Type 0} (R : X → X → Ordering) where
  mutual
    pub exact : (t u : BareValue X) → has_extension t ≡ false → has_extension u ≡ false
        → value_cmp R t u ≡ Equal → t ≡ u
    exact (LitValue a) (LitValue b) p q h = ap LitValue (literals_exact a b h)
    exact (SetValue ts) (SetValue us) p q h = ap SetValue (all_exact ts us p q h)
    exact (RecordValue ps) (RecordValue qs) p q h = ap RecordValue (pairs_exact ps qs p q h)
    exact (ExtensionValue x c) u p q h = absurd (true≢false p)
    exact t u p q h = cc

    pub all_exact : (ts us : BareValues X) → any_has_extension ts ≡ false
        → any_has_extension us ≡ false → values_cmp R ts us ≡ Equal → ts ≡ us
    all_exact no_values no_values p q h = refl
    all_exact no_values (value u us) p q h = cc
    all_exact (value t ts) no_values p q h = cc
    all_exact (value t ts) (value u us) p q h =
        let here = exact t u (or_left (has_extension t) _ p) (or_left (has_extension u) _ q)
        (first_tie (value_cmp R t u) _ h) in
        let rest = all_exact ts us (or_right (has_extension t) _ p)
        (or_right (has_extension u) _ q) (then_tie (value_cmp R t u) _ h) in
        λ i. value (here i) (rest i)

    pairs_exact : (ps qs : BarePairs X) → any_pair_has_extension ps ≡ false
        → any_pair_has_extension qs ≡ false → pairs_cmp R ps qs ≡ Equal → ps ≡ qs
    pairs_exact no_pairs no_pairs p q h = refl
    pairs_exact no_pairs (pair l u qs) p q h = cc
    pairs_exact (pair k t ps) no_pairs p q h = cc
    pairs_exact (pair k t ps) (pair l u qs) p q h =
        let key = texts_exact k l (first_tie (slice_cmp nat_cmp k l) _ h) in
        let behind : ordering_then (value_cmp R t u) (pairs_cmp R ps qs) ≡ Equal =
        then_tie (slice_cmp nat_cmp k l) _ h in
        let here = exact t u (or_left (has_extension t) _ p) (or_left (has_extension u) _ q)
        (first_tie (value_cmp R t u) _ behind) in
        let rest = pairs_exact ps qs (or_right (has_extension t) _ p)
        (or_right (has_extension u) _ q) (then_tie (value_cmp R t u) _ behind) in
        λ i. pair (key i) (here i) (rest i)
