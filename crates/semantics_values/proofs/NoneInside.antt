-- Where there are no extension values, none is inside of a value.
use Rattle.std.proofs.Common.{◌≡◌, false, ◌||◌, refl}
use Rattle.semantics_values.specs.BareValue.{BareValue, LitValue, SetValue, RecordValue, ExtensionValue, BareValues, no_values, value, BarePairs, no_pairs, pair}
use Rattle.semantics_values.specs.ValueExpr.{has_extension, any_has_extension, any_pair_has_extension}

module _ {X : Type 0} (none : X → ⊥) where
  mutual
    pub plain : (t : BareValue X) → has_extension t ≡ false
    plain (LitValue l) = refl
    plain (SetValue ts) = all_plain ts
    plain (RecordValue ps) = pairs_plain ps
    plain (ExtensionValue x c) = absurd (none x)

    all_plain : (ts : BareValues X) → any_has_extension ts ≡ false
    all_plain no_values = refl
    all_plain (value t ts) = λ i. plain t i || all_plain ts i

    pairs_plain : (ps : BarePairs X) → any_pair_has_extension ps ≡ false
    pairs_plain no_pairs = refl
    pairs_plain (pair k t ps) = λ i. plain t i || pairs_plain ps i
