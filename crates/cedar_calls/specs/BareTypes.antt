-- Types without places as a set, which what a function of an extension keeps rests on.
use Rattle.std.specs.Prelude.{◌≡◌, ℕ, zero, suc, List, [], refl}
use Rattle.std.specs.Coded.{Coded-set, code_by, coded×, coded_ℕ, coded_list}
use Rattle.cedar_terms.specs.Types.{BareType, BoolType, LongType, StringType, SetType, RecordType, EntityOfType, ExtensionType}

-- a type as a number, the path and the basename of its name, and back
abbrev Coordinates : Type 0
Coordinates = ℕ × (List (List ℕ) × List ℕ)

abbrev coordinates : BareType → Coordinates
coordinates BoolType = (0, ([], []))
coordinates LongType = (1, ([], []))
coordinates StringType = (2, ([], []))
coordinates SetType = (3, ([], []))
coordinates RecordType = (4, ([], []))
coordinates (EntityOfType n) = (5, (n.path, n.basename))
coordinates (ExtensionType n) = (6, (n.path, n.basename))

abbrev type_at : ℕ → List (List ℕ) → List ℕ → BareType
type_at zero p b = BoolType
type_at (suc zero) p b = LongType
type_at (suc (suc zero)) p b = StringType
type_at (suc (suc (suc zero))) p b = SetType
type_at (suc (suc (suc (suc zero)))) p b = RecordType
type_at (suc (suc (suc (suc (suc zero))))) p b = EntityOfType (record { path = p; basename = b })
type_at (suc (suc (suc (suc (suc (suc k)))))) p b = ExtensionType (record { path = p; basename = b })

type_at-coordinates : (t : BareType) →
    type_at (coordinates t).0 (coordinates t).1.0 (coordinates t).1.1 ≡ t
type_at-coordinates BoolType = refl
type_at-coordinates LongType = refl
type_at-coordinates StringType = refl
type_at-coordinates SetType = refl
type_at-coordinates RecordType = refl
type_at-coordinates (EntityOfType n) = refl
type_at-coordinates (ExtensionType n) = refl

-- that two types are equal has one proof at most
pub BareType-set : IsSet BareType
BareType-set = Coded-set (code_by Coordinates
    (coded× coded_ℕ (coded× (coded_list (coded_list coded_ℕ)) (coded_list coded_ℕ)))
    coordinates (λ c. type_at c.0 c.1.0 c.1.1) type_at-coordinates)
